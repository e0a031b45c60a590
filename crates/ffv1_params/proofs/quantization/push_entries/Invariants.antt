use Rattle.std.proofs.Common.{◌≡◌, ◌++◌, map}
use Rattle.std.specs.List.{range_with_len}
use Rattle.ffv1_params.specs.QuantTables.{entry}
use Rattle.ffv1_params.proofs.quantization.push_entries.Given as goal

abbrev pub invariant-loop-place : goal.invariant-loop-place
invariant-loop-place l = l.values.items ≡ l.fn.values.items ++ map (entry l.scale l.steps) (range_with_len 0 l.place)
