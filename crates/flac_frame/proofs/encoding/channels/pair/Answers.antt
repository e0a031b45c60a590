use Rattle.flac_frame.proofs.PairLaws.{all_wider}
use Rattle.flac_frame.proofs.encoding.channels.pair.Goals as goal

pub fill_sides-requires-clause-left : goal.fill_sides-requires-clause-left
fill_sides-requires-clause-left c = all_wider c.args.bits 24 c.args.left.now c.requires.high c.requires.left

pub fill_sides-requires-clause-right : goal.fill_sides-requires-clause-right
fill_sides-requires-clause-right c = all_wider c.args.bits 24 c.args.right.now c.requires.high c.requires.right

pub fill_mids-requires-clause-left : goal.fill_mids-requires-clause-left
fill_mids-requires-clause-left c = all_wider c.args.bits 24 c.args.left.now c.requires.high c.requires.left

pub fill_mids-requires-clause-right : goal.fill_mids-requires-clause-right
fill_mids-requires-clause-right c = all_wider c.args.bits 24 c.args.right.now c.requires.high c.requires.right
