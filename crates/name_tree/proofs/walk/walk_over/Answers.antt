use Rattle.name_tree.proofs.Growing.{none_left}
use Rattle.name_tree.proofs.Walked.{walk_empty, walk_starts, some_from}
use Rattle.name_tree.proofs.walk.walk_over.Goals as goal

pub returns-then-is_empty : goal.returns-then-is_empty
returns-then-is_empty c = walk_empty c.args.names.now c.args.nodes.now c.requires (none_left _ c.is_empty.result c.is_empty.ensures c.if-is_empty.true)

pub returns : goal.returns
returns c = walk_starts c.args.names.now c.args.nodes.now c.requires c.first_file-at.result (some_from _ c.is_empty.result c.is_empty.ensures c.if-is_empty.false) (c.first_file-at.ensures.first c.args.names.now c.requires) c.first_file-at.ensures.end
