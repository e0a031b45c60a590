use Rattle.std.proofs.Common.{◌-◌}
use Rattle.ffv1_params.specs.Reading.{no_states}
use Rattle.ffv1_params.specs.Walk.{Leads}
use Rattle.ffv1_params.proofs.walk.FieldReader.no_states.Given as goal

abbrev pub invariant-loop : goal.invariant-loop
invariant-loop l = Leads l.fn.self l.self (no_states l.count) (no_states (l.count - l.counter))
