-- A reader of bytes within a range: how far the number that they name stands above the low end of the
-- interval, and the bytes that are left.
use Rattle.std.specs.Prelude.{◌≡◌, ℕ, ◌+◌, ◌<◌, List, slice_index}
use Rattle.cook_bits.specs.Bits.{AreBytes}
use Rattle.range_coder.specs.Interval.{Decision, Interval, whole, first_bytes, renewed, narrowed}

pub record Reader : Type 0 where
  pub offset : ℕ
  pub range : ℕ
  pub rest : List ℕ

-- the reader has read these bytes as far as the interval, in which the number stands
pub record HasRead (reader : Reader) (bytes : List ℕ) (i : Interval) : Type 0 where
  pub range : reader.range ≡ i.range
  pub number : i.low + reader.offset ≡ first_bytes (i.shifts + 2) bytes
  pub inside : reader.offset < reader.range
  pub rest : (k : ℕ) → slice_index reader.rest k ≡ slice_index bytes (i.shifts + 2 + k)

-- with the part of the range that was decided, one reader goes on to another, which has read a byte more where that
-- range is to be renewed
pub record GoesOn (offset range : ℕ) (before after : Reader) : Type 0 where
  pub goes : (bytes : List ℕ) (i : Interval) → HasRead (record { offset = offset; range = range; rest = before.rest }) bytes i → HasRead after bytes (renewed i)

-- between two states of a reader these decisions were read, whatever the bytes were and whatever had
-- been read of them before
pub record ReadsOn (before after : Reader) (decisions : List Decision) : Type 0 where
  pub reads : (bytes : List ℕ) (i : Interval) → HasRead before bytes i → HasRead after bytes (narrowed i decisions)

-- a reader of these bytes at their start
pub record Begins (reader : Reader) (bytes : List ℕ) : Type 0 where
  pub are_bytes : AreBytes bytes
  pub has_read : HasRead reader bytes whole
