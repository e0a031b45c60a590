use Rattle.dpx_packing.proofs.TilePlaces.{counts-by-line}
use Rattle.dpx_packing.proofs.tile_laws.pixels_count_by_line.Goals as goal

pub returns : goal.returns
returns c across down = counts-by-line across down
