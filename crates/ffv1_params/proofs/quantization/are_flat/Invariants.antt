use Rattle.std.proofs.Common.{◌≡◌, ℕ, ◌<◌, ◌≤◌, slice_index_or, pos}
use Rattle.ffv1_params.proofs.quantization.are_flat.Given as goal

abbrev pub invariant-loop-place : goal.invariant-loop-place
invariant-loop-place l = (k : ℕ) → 768 ≤ k → k < l.place → slice_index_or l.values k (pos 0) ≡ pos 0
