use Rattle.flac_frame.proofs.ValueLaws.{inside_above, inside_below}
use Rattle.flac_frame.proofs.reading.signed_number.Goals as goal

pub returns-then-number-all-clause-inside : goal.returns-then-number-all-clause-inside
returns-then-number-all-clause-inside c = inside_above c.args.count c.args.number c.requires.few c.if-number-all.true

pub returns-else-number-all-clause-inside : goal.returns-else-number-all-clause-inside
returns-else-number-all-clause-inside c = inside_below c.args.count c.args.number c.requires.few c.requires.fits c.if-number-all.false
