-- What stands after the writing of a new file was stopped.
use Rattle.std.proofs.Common.{◌≡◌, ℕ, List, [], length, take, sym, ap, ◌∙◌, arith}
use Rattle.std.proofs.Math.Seq.{take-length}
use Rattle.shelf_core.specs.Leaves.{LeavesPart}
use Rattle.shelf_core.specs.Told.{Told, IsFree, GrewPartly, Unsealed, grown, with_file, with_unsealed}
use Rattle.shelf_core.specs.FileLaws.{grown-with_file}

-- the file stands in part
pub left_part : (told created after : Told) (unsealed_before unsealed_after : Unsealed) (name whole : List ℕ) → created ≡ with_file told name [] → GrewPartly created name whole after → IsFree told name → unsealed_after ≡ with_unsealed unsealed_before name
    → LeavesPart told after unsealed_before unsealed_after name whole
left_part told created after unsealed_before unsealed_after name whole is part free unsealed = record {
  free = free;
  count = part.count;
  within = part.within;
  files = part.is ∙ ap (λ t. grown t name (take part.count whole)) is ∙ grown-with_file told name [] (take part.count whole);
  unsealed = unsealed;
}

-- or whole
pub left_whole : (told after : Told) (unsealed_before unsealed_after : Unsealed) (name whole : List ℕ) → after ≡ with_file told name whole → IsFree told name → unsealed_after ≡ with_unsealed unsealed_before name → LeavesPart told after unsealed_before unsealed_after name whole
left_whole told after unsealed_before unsealed_after name whole is free unsealed = record {
  free = free;
  count = length whole;
  within = omega arith;
  files = is ∙ ap (with_file told name) (sym (take-length whole));
  unsealed = unsealed;
}
