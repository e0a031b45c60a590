use Rattle.dpx_packing.proofs.TileWhole.{lines-stand}
use Rattle.dpx_packing.proofs.tile_laws.whole_lines_stand.Goals as goal

pub returns : goal.returns
returns c across down tiles samples lines long = lines-stand across down tiles samples lines long
