use Rattle.dpx_packing.proofs.TileSums.{sizes-sum}
use Rattle.dpx_packing.proofs.tile_laws.tiles_fill.Goals as goal

pub returns : goal.returns
returns c across down tiles cover = sizes-sum across down tiles cover
