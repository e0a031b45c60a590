use Rattle.flac_frame.proofs.InsideLaws.{restored_inside}
use Rattle.flac_frame.proofs.subframe.fixed.Goals as goal

pub returns-clause-inside : goal.returns-clause-inside
returns-clause-inside c =
    restored_inside c.restore_fixed.result c.args.depth _ c.restore_fixed.new.samples c.restore_fixed.ensures.inside c.restore_fixed.ensures.restored c.if-not-restore_fixed.false
