use Rattle.std.proofs.Common.{◌≡◌, true}
use Rattle.name_tree.specs.Held.{is_among}
use Rattle.conformance.proofs.names.folders_of.Given as goal

-- the name stays held
abbrev pub invariant-loop : goal.invariant-loop
invariant-loop l = is_among l.tree.names l.name ≡ true
