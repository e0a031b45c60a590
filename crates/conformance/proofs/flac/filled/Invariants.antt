use Rattle.std.proofs.Common.{◌≡◌, ◌≤◌}
use Rattle.conformance.proofs.flac.filled.Given as goal

abbrev pub invariant-loop-k : goal.invariant-loop-k
invariant-loop-k l = (l.block.channels ≡ l.count) × (l.block.len ≤ 4096)
