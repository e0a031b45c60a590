-- What the fields of a set keep.
use Rattle.std.specs.Prelude.{ℕ, ℤ, List, Bool, IsTrue, ◌↔◌}
use Rattle.ffv1_params.specs.QuantTables.{TellsContexts, AreFlat}

-- whether the last two tables are flat is worked out once
pub record IsSet (values : List ℤ) (contexts : ℕ) (flat : Bool) : Type 0 where
  pub tells : TellsContexts (record { values = values; contexts = contexts })
  pub shown : IsTrue flat ↔ AreFlat values
