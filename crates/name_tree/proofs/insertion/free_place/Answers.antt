use Rattle.name_tree.proofs.Searches.{stands, way_len}
use Rattle.name_tree.proofs.insertion.free_place.Goals as goal

pub end_of_piece-requires : goal.end_of_piece-requires
end_of_piece-requires c = way_len c.args.names.now c.args.nodes.now (stands c.requires.nodes) c.args.name.now c.args.spot.parent c.node_at.result c.requires.way c.node_at.ensures
