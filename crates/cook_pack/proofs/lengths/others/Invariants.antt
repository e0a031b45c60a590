use Rattle.std.proofs.Common.{◌≡◌, ◌+◌, ◌*◌, ◌≤◌, take, sum}
use Rattle.cook_pack.specs.Lengths.{others_len}
use Rattle.cook_pack.specs.Planned.{lengths_planned}
use Rattle.cook_pack.proofs.lengths.others.Given as goal

abbrev pub invariant-loop-file : goal.invariant-loop-file
invariant-loop-file l = record {
  count : l.others.count ≡ l.file-index;
  total : l.others.len ≡ others_len 1 (take l.file-index l.plan.files);
  high : l.others.len ≤ 1224 * l.file-index + sum (take l.file-index (lengths_planned l.plan.files));
}
