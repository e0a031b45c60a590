use Rattle.ffv1_frame.proofs.CellCover.{cells-cover}
use Rattle.ffv1_frame.proofs.laws.cells_cover_pixels.Goals as goal

pub returns : goal.returns
returns c grid cells is cover = cells-cover grid cells is cover
