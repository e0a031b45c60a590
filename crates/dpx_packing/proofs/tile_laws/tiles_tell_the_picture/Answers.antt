use Rattle.dpx_packing.proofs.TileWhole.{one-stands}
use Rattle.dpx_packing.proofs.tile_laws.tiles_tell_the_picture.Goals as goal

pub returns : goal.returns
returns c across down tiles samples others cover long_samples long_others same =
    one-stands across down tiles samples others cover long_samples long_others same
