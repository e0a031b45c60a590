use Rattle.flac_frame.proofs.EachLaws.{parameter_small}
use Rattle.flac_frame.proofs.residual.partition.Goals as goal

pub values-requires : goal.values-requires
values-requires c = parameter_small c.args.width c.in_ok-parameter.parameter c.requires.low c.requires.high c.in_ok-parameter.ensures.fits c.if-parameter-width.false
