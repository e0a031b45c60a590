use Rattle.std.proofs.Common.{◌∙◌}
use Rattle.cook_pack.proofs.OffenceLaws.{twice-is}
use Rattle.cook_pack.proofs.offence.is_twice.Goals as goal

pub returns-then-index-gt0 : goal.returns-then-index-gt0
returns-then-index-gt0 c = c.eq.ensures ∙ twice-is c.args.entries.now c.args.index c.index-entries-index.result c.index-entries-index-then-index-gt0.result c.if-index-gt0.true c.requires
