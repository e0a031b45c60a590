use Rattle.std.proofs.Common.{◌≡◌, ◌+◌, ◌*◌, ◌≤◌, length, take}
use Rattle.std.specs.List.{sum_by}
use Rattle.cook_pack.specs.Planned.{names_planned}
use Rattle.cook_pack.proofs.lengths.side_len.Given as goal

abbrev pub invariant-loop-file : goal.invariant-loop-file
invariant-loop-file l = record {
  total : l.total ≡ 12 + sum_by (λ name. 27 + length name) (take l.file-index (names_planned l.plan.files));
  high : l.total ≤ 12 + 1051 * l.file-index;
}
