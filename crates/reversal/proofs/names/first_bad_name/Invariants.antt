use Rattle.std.proofs.Common.{◌≡◌, take}
use Rattle.std.specs.List.Sorted.{IsSortedByKey}
use Rattle.std.specs.Ordering.{nat_cmp}
use Rattle.std.specs.Cmp.Lexicographic.{slice_cmp}
use Rattle.reversal.specs.SideData.{names_of}
use Rattle.reversal.specs.SideReading.{first_bad_name}
use Rattle.reversal.proofs.NameFaults.{bad_from}
use Rattle.reversal.proofs.names.first_bad_name.Given as goal

abbrev pub invariant-loop-at : goal.invariant-loop-at
invariant-loop-at l = record {
  held : l.tree.names ≡ names_of (take l.at l.records);
  sorted : IsSortedByKey (λ r. r.name) (slice_cmp nat_cmp) (take l.at l.records);
  later : bad_from l.records l.at ≡ first_bad_name (names_of l.records);
}
