use Rattle.flac_frame.proofs.SubframeBack.{front_inside}
use Rattle.flac_frame.proofs.encoding.subframe.put_content.Goals as goal

pub put_signed-requires-clause-inside : goal.put_signed-requires-clause-inside
put_signed-requires-clause-inside c = front_inside c.args.depth 1 c.args.samples.now c.requires.samples
