use Rattle.ffv1_frame.proofs.FitLaws.{picture-fits}
use Rattle.ffv1_frame.proofs.laws.pictures_fit.Goals as goal

pub returns : goal.returns
returns c params grid bytes picture of is = picture-fits c.tiles_tell_the_picture.ensures params grid bytes picture of is
