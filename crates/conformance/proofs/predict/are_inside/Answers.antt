use Rattle.std.proofs.Common.{arith}
use Rattle.conformance.proofs.SampleLaws.{all_are_inside}
use Rattle.conformance.proofs.predict.are_inside.Goals as goal

pub returns : goal.returns
returns c = λ _. all_are_inside c.args.bits c.loop-place.place c.args.numbers.now (omega arith) c.loop-place.invariant
