use Rattle.std.proofs.Common.{◌≡◌, ◌∙◌, ap, List, ◌++◌, ◌∷◌, [], length, arith}
use Rattle.name_tree.specs.declared.node.Node.{Node}
use Rattle.name_tree.specs.Nodes.{root_node}
use Rattle.name_tree.proofs.Growing.{rooted_are, none_left}
use Rattle.name_tree.proofs.insertion.rooted.Goals as goal

pub returns-clause-nodes : goal.returns-clause-nodes
returns-clause-nodes c = λ names are.
    let empty = none_left _ c.is_empty.result c.is_empty.ensures c.if-not-is_empty.false in
    let none : length c.args.nodes.now.items ≡ 0 = omega arith in
    rooted_are names c.args.nodes.now.items c.push.new.self.items none (c.in-Ok.ensures.items ∙ ap (λ (l : List Node). l ++ root_node ∷ []) c.in_ok-reserve.ensures.items) are
