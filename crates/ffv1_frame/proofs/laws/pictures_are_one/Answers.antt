use Rattle.ffv1_frame.proofs.OneLaws.{pictures-one}
use Rattle.ffv1_frame.proofs.laws.pictures_are_one.Goals as goal

pub returns : goal.returns
returns c params grid bytes picture other =
    pictures-one (record { head = c.heads_are_one.ensures; codes = c.n5.ensures.one; tell = c.tiles_tell_the_picture.ensures }) params grid bytes picture other
