use Rattle.ffv1_params.proofs.ValueLaws.{within_gives}
use Rattle.ffv1_params.proofs.walk.FieldReader.within.Goals as goal

pub returns-clause-answers : goal.returns-clause-answers
returns-clause-answers c = within_gives c.args.self.now c.symbol.new.self c.in_ok-number.number c.args.least c.args.most c.args.why c.in_ok-number.ensures.answers c.if-number-least.false c.if-number-most.false
