use Rattle.std.specs.Bool.{one_answer}
use Rattle.std.proofs.lemmas.Slice.Eq.{bytes_eq-Decides}
use Rattle.cook_pack.proofs.offence.is_same_ignoring_case.Goals as goal

pub returns : goal.returns
returns c = one_answer _ _ (c.eq_ignore_ascii_case.ensures.test.0, c.eq_ignore_ascii_case.ensures.test.1) (bytes_eq-Decides _ _)
