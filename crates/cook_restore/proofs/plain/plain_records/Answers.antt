use Rattle.std.proofs.Common.{◌∙◌, sym, ap, Some}
use Rattle.cook_restore.specs.Plain.{film_place}
use Rattle.cook_restore.proofs.PlainLaws.{given, not-given, not-read-so}
use Rattle.cook_restore.proofs.plain.plain_records.Goals as goal

pub returns-in-None-clause-exact : goal.returns-in-None-clause-exact
returns-in-None-clause-exact c =
    given c.args.bytes.now c.in-Ok.records.items c.in-Ok.ensures.exact (ap (film_place 12) (sym c.deref.ensures.value) ∙ sym c.film_place.ensures ∙ c.in-None.is)

pub returns-in-Some-clause-exact : goal.returns-in-Some-clause-exact
returns-in-Some-clause-exact c =
    not-given c.args.bytes.now c.in-Ok.records.items (Some c.in-Some.place) c.in-Ok.ensures.exact (sym c.in-Some.is ∙ c.film_place.ensures ∙ ap (film_place 12) c.deref.ensures.value)

pub returns-in-Err-clause-exact : goal.returns-in-Err-clause-exact
returns-in-Err-clause-exact c = not-read-so c.args.bytes.now c.in-Err.error c.in-Err.ensures.exact
