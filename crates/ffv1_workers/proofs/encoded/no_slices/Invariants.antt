use Rattle.std.proofs.Common.{◌≡◌, length}
use Rattle.ffv1_workers.proofs.encoded.no_slices.Given as goal

abbrev pub invariant-loop : goal.invariant-loop
invariant-loop l = length l.answers.items ≡ l.counter
