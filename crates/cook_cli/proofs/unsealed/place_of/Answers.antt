-- The file at the place that is answered.
use Rattle.std.proofs.Common.{rules}
use Rattle.cook_cli.proofs.unsealed.place_of.Goals as goal

pub returns-then-is_named-clause-named : goal.returns-then-is_named-clause-named
returns-then-is_named-clause-named c = (c.loop-place.place, c.index-files-place.result, c.loop-place-test.true, search rules, search rules)
