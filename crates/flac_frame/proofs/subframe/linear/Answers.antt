use Rattle.flac_frame.proofs.InsideLaws.{restored_inside}
use Rattle.flac_frame.proofs.subframe.linear.Goals as goal

pub returns-clause-inside : goal.returns-clause-inside
returns-clause-inside c =
    restored_inside c.restore_linear.result c.args.depth _ c.restore_linear.new.samples c.restore_linear.ensures.inside c.restore_linear.ensures.restored c.if-not-restore_linear.false
