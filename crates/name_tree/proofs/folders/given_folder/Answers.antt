use Rattle.std.proofs.Common.{◌≡◌, ◌<◌, ap, sym, subst, ℕ, arith}
use Rattle.name_tree.specs.declared.node.Node.{Node}
use Rattle.name_tree.specs.Nodes.{node_at}
use Rattle.name_tree.proofs.Given.{way_up}
use Rattle.name_tree.proofs.folders.given_folder.Goals as goal

pub up-preserved : goal.up-preserved
up-preserved c =
    let nodes = c.args.nodes.now in
    let p = c.up.spot.parent in
    let some : 0 < p = omega arith in
    let e : (node_at nodes p).parent ≡ c.node_at-node.result.parent = ap (λ (n : Node). n.parent) (sym c.node_at-node.ensures) in
    record {
      way = way_up c.args.names.now nodes c.args.name.now p c.node_at-node.result.parent c.requires.nodes some c.up.invariant.way e;
      near = λ h. (c.up.invariant.way.within, e);
    }

pub up-smaller : goal.up-smaller
up-smaller c =
    let nodes = c.args.nodes.now in
    let p = c.up.spot.parent in
    let some : 0 < p = omega arith in
    let e : (node_at nodes p).parent ≡ c.node_at-node.result.parent = ap (λ (n : Node). n.parent) (sym c.node_at-node.ensures) in
    subst (λ (x : ℕ). x < p) e (c.requires.nodes.tree.up p some c.up.invariant.way.within)
