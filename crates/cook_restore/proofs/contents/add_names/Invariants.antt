use Rattle.std.proofs.Common.{◌≡◌, ◌≤◌, List, ℕ, drop, length}
use Rattle.std.specs.BTreeMap as tree
use Rattle.std.specs.Cmp.Lexicographic.{slice_cmp}
use Rattle.std.specs.Ordering.{nat_cmp}
use Rattle.cook_restore.specs.Contents.{attached_as, place_or}
use Rattle.cook_restore.proofs.contents.add_names.Given as goal

abbrev pub invariant-loop-left : goal.invariant-loop-left
invariant-loop-left l = record {
  within : l.left ≤ length l.files;
  names : (name : List ℕ) → tree.get_by (λ k. slice_cmp nat_cmp name k.now) l.by_name ≡ place_or (tree.get_by (λ k. slice_cmp nat_cmp name k.now) l.fn.by_name) (attached_as name (drop l.left l.files));
}

abbrev pub decreases-loop-left : goal.decreases-loop-left
decreases-loop-left l = l.left
