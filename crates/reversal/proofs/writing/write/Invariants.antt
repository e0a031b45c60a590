use Rattle.std.proofs.Common.{◌≡◌, ◌++◌, All, length, take}
use Rattle.std.specs.Int.{bytes_high_first}
use Rattle.std.specs.List.{flat_map}
use Rattle.reversal.specs.SideData.{HasSum, mark, record_bytes}
use Rattle.reversal.proofs.writing.write.Given as goal

abbrev pub invariant-loop-entry : goal.invariant-loop-entry
invariant-loop-entry l = record {
  spelled : l.out ≡ mark ++ bytes_high_first 4 (length l.records) ++ flat_map record_bytes (take l.entry-index l.records);
  summed : All HasSum (take l.entry-index l.records);
}
