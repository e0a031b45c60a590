use Rattle.flac_frame.proofs.InsideLaws.{scaled_fits, scaled_is}
use Rattle.flac_frame.proofs.subframe.scaled.Goals as goal

pub overflow_mul-result : goal.overflow_mul-result
overflow_mul-result c = scaled_fits c.args.sample c.args.wasted c.args.depth c.requires.some c.requires.few c.requires.inside c.ranges.sample

pub returns : goal.returns
returns c = scaled_is c.args.sample c.args.wasted c.args.depth c.requires.some c.requires.few c.requires.inside c.ranges.sample
