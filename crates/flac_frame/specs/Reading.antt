-- Fields of bits, one after another: each reading gives a value and the bits behind it, or the first fault.
use Rattle.std.specs.Prelude.{◌≡◌, ℕ, zero, suc, ◌-◌, ◌*◌, ◌^◌, ◌==◌, min, Bool, nat_lt, if◌then◌else◌, ℤ, pos, negsuc, List, [], ◌∷◌, Option, Some, None, Result, Ok, Err}
use Rattle.cook_bits.specs.Bits.{number_taken, bits_left}
use Rattle.cook_bits.specs.Unary.{unary_taken, unary_left}
use Rattle.flac_frame.specs.declared.error.FlacWhy.{FlacWhy}
use Rattle.flac_frame.specs.declared.error.FlacWhy.TheVariants.{Short}

infixl 10 ◌>>=◌
abbrev pub ◌>>=◌ : {A B : Type 0} → Result A FlacWhy → (A → Result B FlacWhy) → Result B FlacWhy
(Ok x) >>= f = f x
(Err why) >>= f = Err why

-- What a function returned, seen by view, and the bits that it left are what reading gives, or it is the fault.
abbrev pub Reads : {X Y : Type 0} → (X → Y) → Result X FlacWhy → List Bool → Result (Y × List Bool) FlacWhy → Type 0
Reads view (Ok x) left read = read ≡ Ok (view x, left)
Reads view (Err why) left read = read ≡ Err why

-- The same of a reading that gives no value.
abbrev pub Passes : {X : Type 0} → Result X FlacWhy → List Bool → Result (List Bool) FlacWhy → Type 0
Passes (Ok x) left read = read ≡ Ok left
Passes (Err why) left read = read ≡ Err why

-- What a function returned is what reading gives, where the bits behind it count no more.
abbrev pub Gives : {X Y : Type 0} → (X → Y) → Result X FlacWhy → Result Y FlacWhy → Type 0
Gives view (Ok x) read = read ≡ Ok (view x)
Gives view (Err why) read = read ≡ Err why

-- a value that was taken, with the bits behind it
abbrev pub taken_or_short : Option ℕ → List Bool → Result (ℕ × List Bool) FlacWhy
taken_or_short None left = Err Short
taken_or_short (Some value) left = Ok (value, left)

-- a field of so many bits
unfoldable pub field_at : ℕ → List Bool → Result (ℕ × List Bool) FlacWhy
field_at count bits = taken_or_short (number_taken count bits) (bits_left count bits)

-- a field that is refused unless it is accepted
unfoldable pub accepted_at : ℕ → (ℕ → Bool) → FlacWhy → List Bool → Result (ℕ × List Bool) FlacWhy
accepted_at count accepts why bits = do
  field ← field_at count bits
  if accepts field.0 then Ok field else Err why

-- a field that has one value
unfoldable pub expected_at : ℕ → ℕ → FlacWhy → List Bool → Result (List Bool) FlacWhy
expected_at count value why bits = do
  field ← field_at count bits
  if field.0 == value then Ok field.1 else Err why

-- so many bits in two's complement
abbrev pub signed_number : ℕ → ℕ → ℤ
signed_number count number = if nat_lt (2 * number) (2 ^ count) then pos number else negsuc (2 ^ count - 1 - number)

unfoldable pub signed_at : ℕ → List Bool → Result (ℤ × List Bool) FlacWhy
signed_at count bits = do
  field ← field_at count bits
  Ok (signed_number count field.0, field.1)

-- a number in unary
unfoldable pub unary_at : List Bool → Result (ℕ × List Bool) FlacWhy
unary_at bits = taken_or_short (unary_taken bits) (unary_left bits)

-- the same number, counted in 32 bits
abbrev pub counted : Result (ℕ × List Bool) FlacWhy → Result (ℕ × List Bool) FlacWhy
counted (Ok read) = Ok (min read.0 (2 ^ 32 - 1), read.1)
counted (Err why) = Err why

-- so many values
unfoldable pub each_at : (List Bool → Result (ℤ × List Bool) FlacWhy) → ℕ → List Bool → Result (List ℤ × List Bool) FlacWhy
each_at read zero bits = Ok ([], bits)
each_at read (suc count) bits = do
  first ← read bits
  others ← each_at read count first.1
  Ok (first.0 ∷ others.0, others.1)
