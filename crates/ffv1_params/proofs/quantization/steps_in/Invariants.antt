use Rattle.std.proofs.Common.{◌≡◌, take}
use Rattle.ffv1_params.specs.QuantTables.{steps_of}
use Rattle.ffv1_params.proofs.quantization.steps_in.Given as goal

abbrev pub invariant-loop-run : goal.invariant-loop-run
invariant-loop-run l = (l.step ≡ l.run-index) × (l.steps.items ≡ steps_of (take l.run-index l.runs))
