use Rattle.dpx_packing.proofs.TileWhole.{holds-its-pixels}
use Rattle.dpx_packing.proofs.tile_laws.tiles_hold_their_pixels.Goals as goal

pub returns : goal.returns
returns c across down samples tile inside long = holds-its-pixels across down samples tile inside long
