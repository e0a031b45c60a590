-- The sets of linear predictors that the writer tries, numbered from 1 on.
use Rattle.std.specs.Prelude.{◌≡◌, ℕ, ◌-◌, ◌≤◌, ℤ, pos, negsuc, List, [], ◌∷◌, ◌++◌, length, replicate, slice_index_or}
use Rattle.flac_predict.specs.declared.sets.LinearSet.{LinearSet}

-- the coefficients of a set, and its shift
pub record Row : Type 0 where
  pub shift : ℕ
  pub coefficients : List ℤ

abbrev minus : ℕ → ℤ
minus n = negsuc (n - 1)

unfoldable pub bank_rows : List Row
bank_rows =
    record { shift = 4; coefficients = pos 15 ∷ [] } ∷
    record { shift = 4; coefficients = pos 30 ∷ minus 14 ∷ [] } ∷
    record { shift = 4; coefficients = pos 28 ∷ minus 13 ∷ [] } ∷
    record { shift = 4; coefficients = pos 42 ∷ minus 38 ∷ pos 12 ∷ [] } ∷
    record { shift = 5; coefficients = pos 104 ∷ minus 127 ∷ pos 72 ∷ minus 17 ∷ [] } ∷
    record { shift = 4; coefficients = pos 24 ∷ minus 6 ∷ minus 4 ∷ pos 1 ∷ [] } ∷
    record { shift = 5; coefficients = pos 70 ∷ minus 48 ∷ pos 6 ∷ pos 8 ∷ minus 6 ∷ pos 1 ∷ [] } ∷
    record { shift = 5; coefficients = pos 80 ∷ minus 70 ∷ pos 30 ∷ minus 10 ∷ pos 4 ∷ minus 4 ∷ pos 3 ∷ minus 1 ∷ [] } ∷ []

-- a set of coefficients of 8 bits, behind which zeros stand up to 32
unfoldable pub set_of : Row → LinearSet
set_of row = record {
  order = length row.coefficients;
  precision = 8;
  shift = row.shift;
  coefficients = row.coefficients ++ replicate (32 - length row.coefficients) (pos 0);
}

-- the set of a number from 1 to 8
unfoldable pub bank_set : ℕ → LinearSet
bank_set number = set_of (slice_index_or bank_rows (number - 1) (record { shift = 0; coefficients = [] }))

-- one of the bank's sets
pub record IsOfBank (set : LinearSet) : Type 0 where
  pub number : ℕ
  pub low : 1 ≤ number
  pub high : number ≤ 8
  pub is : set ≡ bank_set number
