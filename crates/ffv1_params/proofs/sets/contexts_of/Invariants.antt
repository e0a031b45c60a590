use Rattle.std.proofs.Common.{◌≡◌, take}
use Rattle.ffv1_params.specs.QuantTables.{scale_after}
use Rattle.ffv1_params.proofs.sets.contexts_of.Given as goal

abbrev pub invariant-loop-runs : goal.invariant-loop-runs
invariant-loop-runs l = l.scale ≡ scale_after 1 (take l.runs-index l.tables)
