use Rattle.name_tree.proofs.Growing.{no_tree}
use Rattle.name_tree.proofs.tree.NameTree.new.Goals as goal

pub invariant_of-result : goal.invariant_of-result
invariant_of-result c = no_tree c.new.result c.new-2.result.items c.new.ensures c.new-2.ensures.items
