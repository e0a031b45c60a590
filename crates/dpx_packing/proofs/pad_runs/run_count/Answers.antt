use Rattle.std.proofs.Common.{sym, ap, ◌∙◌, length, eqb-true}
use Rattle.dpx_packing.proofs.PadRuns.{none_of_none}
use Rattle.dpx_packing.proofs.pad_runs.run_count.Goals as goal

pub returns-then-is_empty-clause-exact : goal.returns-then-is_empty-clause-exact
returns-then-is_empty-clause-exact c = sym (ap length (none_of_none c.args.pads.now (eqb-true _ 0 (sym c.is_empty.ensures ∙ c.if-is_empty.true))))
