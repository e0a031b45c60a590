-- What an encoder has: the interval of the decisions so far, and how many more it has room for.
use Rattle.std.specs.Prelude.{ℕ, ◌+◌, ◌-◌, ◌*◌, ◌^◌, ◌≤◌, List, Vec, length}
use Rattle.std.specs.Vec.{vec_len, vec_capacity}
use Rattle.range_coder.specs.Interval.{Interval, first_bytes}

pub record Encoding : Type 0 where
  pub interval : Interval
  pub spare : ℕ

-- the number that bytes spell
abbrev pub number_in : List ℕ → ℕ
number_in bytes = first_bytes (length bytes) bytes

-- how many more bytes a list has room for
abbrev pub spare_in : {Z : Type 0} → Vec ℕ Z → ℕ
spare_in bytes = vec_capacity bytes - vec_len bytes

-- the interval of the bytes written, to which a carry may still come, and of the two bytes' window below them
abbrev pub interval_of : List ℕ → ℕ → ℕ → Interval
interval_of bytes low range =
    record { low = number_in bytes * 65536 + low; range = range; shifts = length bytes }

-- both, of an encoder with these bytes and this window
abbrev pub encoding_of : {Z : Type 0} → Vec ℕ Z → ℕ → ℕ → Encoding
encoding_of bytes low range = record { interval = interval_of bytes.items low range; spare = spare_in bytes }

-- a window after any decisions, by the upper end of its interval
pub record IsWindow (bytes : List ℕ) (top range : ℕ) : Type 0 where
  pub least : 256 ≤ range
  pub most : range ≤ 65280
  pub inside : range ≤ top
  pub window : top ≤ 131072
  pub within : number_in bytes * 65536 + top ≤ 65280 * 256 ^ length bytes
