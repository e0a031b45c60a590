use Rattle.std.proofs.Common.{◌≡◌, map}
use Rattle.std.specs.List.{list_any}
use Rattle.cook_bits.specs.Names.{is_same_name, holds_folder_of}
use Rattle.cook_bits.proofs.Folders.{held_from}
use Rattle.cook_bits.proofs.names.holds_folder_of.Given as goal

abbrev pub invariant-loop-i : goal.invariant-loop-i
invariant-loop-i g l = held_from (λ folder. list_any (is_same_name folder) (map g.N.Named.name_of l.sorted)) l.i l.bytes ≡ holds_folder_of (map g.N.Named.name_of l.sorted) l.name
