use Rattle.std.proofs.Common.{◌<◌, ◌∙◌, ap, sym, arith}
use Rattle.name_tree.specs.declared.node.Node.{Node}
use Rattle.name_tree.specs.Nodes.{node_at}
use Rattle.name_tree.proofs.Searches.{stands, way_len, way_on}
use Rattle.name_tree.proofs.Given.{not_true, not_false, held_found, is_left, none_left}
use Rattle.name_tree.proofs.folders.find_ahead.Goals as goal

pub end_of_piece-requires : goal.end_of_piece-requires
end_of_piece-requires c = way_len c.args.names.now c.args.nodes.now (stands c.requires.nodes) c.args.name.now c.down.spot.parent c.node_at.result c.down.invariant.way c.node_at.ensures

pub returns-then-not-node-clause-ahead : goal.returns-then-not-node-clause-ahead
returns-then-not-node-clause-ahead c =
    let inv = c.down.invariant in
    let found = c.child_named-found.result in
    let some : 0 < found = held_found c.args.names.now c.args.nodes.now c.requires.nodes c.args.name.now c.down.spot.parent c.node_at.result inv.way c.node_at.ensures inv.given c.in-Some.end found c.in-Some.ensures c.requires.held c.child_named-found.ensures.absent in
    is_left c.args.names.now c.args.nodes.now c.requires.nodes c.args.name.now c.down.spot.parent c.node_at.result inv.way c.node_at.ensures inv.given c.in-Some.end found c.in-Some.ensures some (c.child_named-found.ensures.found some)
    (ap (λ (n : Node). n.given) (sym c.node_at-node.ensures) ∙ not_true c.node_at-node.result.given c.if-not-node.true)

pub down-preserved : goal.down-preserved
down-preserved c =
    let inv = c.down.invariant in
    let found = c.child_named-found.result in
    let some : 0 < found = held_found c.args.names.now c.args.nodes.now c.requires.nodes c.args.name.now c.down.spot.parent c.node_at.result inv.way c.node_at.ensures inv.given c.in-Some.end found c.in-Some.ensures c.requires.held c.child_named-found.ensures.absent in
    record {
      way = way_on c.args.names.now c.args.nodes.now (stands c.requires.nodes) c.args.name.now c.down.spot.parent c.node_at.result c.in-Some.end found inv.way c.node_at.ensures c.in-Some.ensures (c.child_named-found.ensures.found some);
      near = λ h. absurd (omega arith);
      given = λ h. ap (λ (n : Node). n.given) (sym c.node_at-node.ensures) ∙ not_false c.node_at-node.result.given c.if-not-node.false;
    }

pub down-smaller : goal.down-smaller
down-smaller c =
    let inv = c.down.invariant in
    let found = c.child_named-found.result in
    let some : 0 < found = held_found c.args.names.now c.args.nodes.now c.requires.nodes c.args.name.now c.down.spot.parent c.node_at.result inv.way c.node_at.ensures inv.given c.in-Some.end found c.in-Some.ensures c.requires.held c.child_named-found.ensures.absent in
    let at = c.child_named-found.ensures.found some in
    let up : (node_at c.args.nodes.now found).parent < found = c.requires.nodes.tree.up found some at.within in
    let under = at.under in
    let within = at.within in
    omega arith

pub returns-clause-ahead : goal.returns-clause-ahead
returns-clause-ahead c =
    let inv = c.down.invariant in
    none_left c.args.names.now c.args.nodes.now c.requires.nodes c.args.name.now c.down.spot.parent c.node_at.result inv.way c.node_at.ensures inv.given c.in_default.ensures
