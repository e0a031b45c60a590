use Rattle.std.proofs.Common.{arith}
use Rattle.name_tree.proofs.Searches.{stands, way_len, deepest_here, deepest_end, way_on}
use Rattle.name_tree.proofs.search.deepest.Goals as goal

pub end_of_piece-requires : goal.end_of_piece-requires
end_of_piece-requires c = way_len c.args.names.now c.args.nodes.now (stands c.requires.nodes) c.args.name.now c.loop-end.spot.parent c.node_at.result c.loop-end.invariant.way c.node_at.ensures

pub returns-then-position-eq0-clause-deepest : goal.returns-then-position-eq0-clause-deepest
returns-then-position-eq0-clause-deepest c = deepest_here c.args.names.now c.args.nodes.now (stands c.requires.nodes) c.args.name.now c.loop-end.spot.parent c.node_at.result c.in-Some.end c.loop-end.invariant.way c.node_at.ensures c.in-Some.ensures (c.child-position.ensures.absent c.if-position-eq0.true)

pub loop-end-preserved : goal.loop-end-preserved
loop-end-preserved c = record {
  way = way_on c.args.names.now c.args.nodes.now (stands c.requires.nodes) c.args.name.now c.loop-end.spot.parent c.node_at.result c.in-Some.end c.child-position.result.found c.loop-end.invariant.way c.node_at.ensures c.in-Some.ensures (c.child-position.ensures.found (omega arith));
  near = λ h. absurd (omega arith);
}

pub returns-clause-deepest : goal.returns-clause-deepest
returns-clause-deepest c = deepest_end c.args.names.now c.args.nodes.now (stands c.requires.nodes) c.args.name.now c.loop-end.spot.parent c.node_at.result c.loop-end.invariant.way c.node_at.ensures c.in_default.ensures
