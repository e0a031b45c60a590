use Rattle.std.proofs.Common.{◌≡◌, ℕ, ◌<◌, ◌≤◌, List, length, get_or}
use Rattle.std.specs.List.{AllAdjacentBelow}
use Rattle.std.specs.Ordering.{nat_cmp}
use Rattle.std.specs.Cmp.Lexicographic.{slice_cmp}
use Rattle.std.specs.declared.cmp.Ordering.TheVariants.{Less}
use Rattle.conformance.proofs.runs.are_frames.Given as goal

abbrev pub invariant-loop-place : goal.invariant-loop-place
invariant-loop-place l = record {
  ended : (k : ℕ) (d : List ℕ) → k < l.place → 4 ≤ length (get_or l.names k d);
  ascending : AllAdjacentBelow (λ name next. slice_cmp nat_cmp name next ≡ Less) l.names l.place;
}
