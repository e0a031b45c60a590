-- An interval and a set of states, as they go along with the values of a record.
use Rattle.std.specs.Prelude.{◌≡◌, ℕ, List, [], ◌∷◌}
use Rattle.range_coder.specs.Interval.{Interval, narrowed}
use Rattle.range_coder.specs.Table.{IsLive, AreLive}
use Rattle.range_coder.specs.DefaultTable.{default_one_states}
use Rattle.ffv1_params.specs.Record.{Field, field_decisions, states_after_field}

pub record WriterAt : Type 0 where
  pub interval : Interval
  pub states : List ℕ

-- after a value
unfoldable pub after_field : WriterAt → Field → WriterAt
after_field track field =
    record { interval = narrowed track.interval (field_decisions track.states field); states = states_after_field track.states field }

-- after more values
abbrev pub after_fields : WriterAt → List Field → WriterAt
after_fields track [] = track
after_fields track (field ∷ more) = after_fields (after_field track field) more

-- what the states are used with
pub record AreUsable (table states : List ℕ) : Type 0 where
  pub default : table ≡ default_one_states
  pub live : AreLive table states
  pub fresh : IsLive table 128
