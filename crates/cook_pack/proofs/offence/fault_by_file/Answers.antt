use Rattle.std.proofs.Common.{sym, ◌∙◌, true, false}
use Rattle.cook_pack.proofs.OffenceLaws.{by_file-large, by_file-small}
use Rattle.cook_pack.proofs.offence.fault_by_file.Goals as goal

pub returns-then-len-total : goal.returns-then-len-total
returns-then-len-total c = sym (by_file-large c.args.total c.args.name.now c.args.len c.requires c.if-len-total.true)

pub returns-then-is_film_or_sound : goal.returns-then-is_film_or_sound
returns-then-is_film_or_sound c = sym (by_file-small c.args.total c.args.name.now c.args.len true c.requires c.if-len-total.false (sym c.is_film_or_sound.ensures ∙ c.if-is_film_or_sound.true))

pub returns-else-is_film_or_sound : goal.returns-else-is_film_or_sound
returns-else-is_film_or_sound c = sym (by_file-small c.args.total c.args.name.now c.args.len false c.requires c.if-len-total.false (sym c.is_film_or_sound.ensures ∙ c.if-is_film_or_sound.false))
