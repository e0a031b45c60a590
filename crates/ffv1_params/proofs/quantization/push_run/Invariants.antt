use Rattle.std.proofs.Common.{◌≡◌, ◌++◌, replicate}
use Rattle.ffv1_params.proofs.quantization.push_run.Given as goal

abbrev pub invariant-loop : goal.invariant-loop
invariant-loop l = l.steps.items ≡ l.fn.steps.items ++ replicate l.counter l.step
