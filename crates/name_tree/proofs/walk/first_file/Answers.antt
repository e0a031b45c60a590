use Rattle.std.proofs.Common.{◌≡◌, ◌<◌, ap, sym, subst, ℕ, length, arith}
use Rattle.name_tree.specs.declared.node.Node.{Node}
use Rattle.name_tree.specs.Nodes.{node_at}
use Rattle.name_tree.proofs.Walked.{first_deeper}
use Rattle.name_tree.proofs.walk.first_file.Goals as goal

pub down-preserved : goal.down-preserved
down-preserved c =
    let nodes = c.args.nodes.now in
    let first = c.node_at-first.result.first_child in
    let e : first ≡ (node_at nodes c.down.place).first_child = ap (λ (n : Node). n.first_child) c.node_at-first.ensures in
    let some : 0 < first = omega arith in
    let down = c.requires.linked.down c.down.place c.down.invariant.within (subst (λ (x : ℕ). 0 < x) e some) in
    record {
      within = subst (λ (x : ℕ). x < length nodes) (sym e) down.1;
      first = λ names are. first_deeper names nodes are c.args.at c.down.place first (c.down.invariant.first names are) e some;
    }
