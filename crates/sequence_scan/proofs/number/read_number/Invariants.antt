use Rattle.std.proofs.Common.{◌≡◌, take}
use Rattle.sequence_scan.specs.Numbers.{number_from}
use Rattle.sequence_scan.proofs.number.read_number.Given as goal

abbrev pub invariant-loop-digit : goal.invariant-loop-digit
invariant-loop-digit l = l.number ≡ number_from (take l.digit-index l.digits)
