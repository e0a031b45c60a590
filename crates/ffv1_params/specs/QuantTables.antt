-- Quantization tables (RFC 9043, section 4.1, "Quantization Table Set"): a set has five, and each is given by the
-- lengths of runs of equal values in its first half.
use Rattle.std.specs.Prelude.{◌≡◌, ℕ, suc, ◌+◌, ◌-◌, ◌*◌, ◌/◌, ◌≤◌, ◌<◌, ◌==◌, nat_lt, if◌then◌else◌, List, [], ◌∷◌, ◌++◌, length, map, sum, replicate, slice_index, slice_index_or, ℤ, pos, ◌+ℤ◌, neg_ℤ, unsigned_abs, max}
use Rattle.std.specs.List.{range_with_len}

-- the numbers of the runs in which the places of the first half stand, where the first run has the number `first`
unfoldable pub steps_from : ℕ → List ℕ → List ℕ
steps_from first [] = []
steps_from first (run ∷ runs) = replicate run first ++ steps_from (suc first) runs

abbrev pub steps_of : List ℕ → List ℕ
steps_of runs = steps_from 0 runs

-- the value at a place of the first half: the scale, as often as the number of the place's run
abbrev pub height : ℕ → List ℕ → ℕ → ℕ
height scale steps place = slice_index steps place * scale

-- the value at each of the 256 places: from 129 on the negative of the place as far from the end, and
-- at 128 that of place 127
abbrev pub entry : ℕ → List ℕ → ℕ → ℤ
entry scale steps place =
    if nat_lt place 128 then pos (height scale steps place)
    else if place == 128 then neg_ℤ (pos (height scale steps 127))
    else neg_ℤ (pos (height scale steps (256 - place)))

unfoldable pub table_of : ℕ → List ℕ → List ℤ
table_of scale runs = map (entry scale (steps_of runs)) (range_with_len 0 256)

-- how many values a table has, with both signs
abbrev pub spread : List ℕ → ℕ
spread runs = 2 * length runs - 1

-- the tables, one behind another: the scale of each is that of the one before times how many values that has
unfoldable pub tables_from : ℕ → List (List ℕ) → List ℤ
tables_from scale [] = []
tables_from scale (runs ∷ more) = table_of scale runs ++ tables_from (scale * spread runs) more

-- the scale behind the last table
unfoldable pub scale_after : ℕ → List (List ℕ) → ℕ
scale_after scale [] = scale
scale_after scale (runs ∷ more) = scale_after (scale * spread runs) more

-- the contexts that the tables of a set tell apart, with no sign: half of their values, rounded up
abbrev pub context_count : List (List ℕ) → ℕ
context_count tables = (scale_after 1 tables + 1) / 2

-- a set as readers see it: the values of its tables, one table behind another, and how many contexts it has
pub record QuantSet : Type 0 where
  pub values : List ℤ
  pub contexts : ℕ

unfoldable pub set_of : List (List ℕ) → QuantSet
set_of tables = record { values = tables_from 1 tables; contexts = context_count tables }

-- the value of a difference, taken modulo 256
abbrev pub quant_at : QuantSet → ℕ → ℕ → ℤ
quant_at set table difference = slice_index_or set.values (256 * table + difference) (pos 0)

-- the runs fill the first half of a table
pub record IsTable (runs : List ℕ) : Type 0 where
  pub some : 1 ≤ length runs
  pub most : length runs ≤ 128
  pub whole : sum runs ≡ 128

-- the sum of one value of each table is the number of a context, but for its sign
pub record TellsContexts (set : QuantSet) : Type 0 where
  pub long : length set.values ≡ 1280
  pub some : 1 ≤ set.contexts
  pub most : set.contexts ≤ 32768
  pub within : (a b c d e : ℕ) → a < 256 → b < 256 → c < 256 → d < 256 → e < 256 → unsigned_abs (quant_at set 0 a +ℤ quant_at set 1 b +ℤ quant_at set 2 c +ℤ quant_at set 3 d +ℤ quant_at set 4 e) < set.contexts

-- the last two tables of a set have no value but 0
pub record AreFlat (values : List ℤ) : Type 0 where
  pub zeros : (place : ℕ) → 768 ≤ place → place < 1280 → slice_index_or values place (pos 0) ≡ pos 0

-- the most contexts that one of the sets has
unfoldable pub most_contexts : List QuantSet → ℕ
most_contexts [] = 0
most_contexts (set ∷ more) = max set.contexts (most_contexts more)
