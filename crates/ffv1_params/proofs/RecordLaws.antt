-- The record as it is put value by value, and how long it is.
use Rattle.std.proofs.Common.{◌≡◌, ℕ, zero, suc, ◌+◌, ◌*◌, ◌/◌, ◌^◌, ◌≤◌, Bool, true, false, cond, nat_lt, nat_le, nat_eq, List, [], ◌∷◌, ◌++◌, length, refl, sym, ap, ◌∙◌, length-append, arith}
use Rattle.std.specs.Int.{bytes_high_first}
use Rattle.range_coder.specs.Interval.{Decision, Interval, whole, part, renewed, narrow, narrowed, bytes_in, ending, coded}
use Rattle.range_coder.specs.Choices.{Choice, adapted, decided}
use Rattle.range_coder.specs.Symbol.{choice, exponent_up_to, exponent_of, ones, exponent_choices, low_bits, symbol_choices, fresh_states}
use Rattle.cook_bits.specs.Crc.{crc32_high_of}
use Rattle.range_coder.specs.DefaultTable.{default_one_states}
use Rattle.range_coder.specs.Laws.{NarrowedIsJoined}
use Rattle.ffv1_params.specs.Parameters.{stepped, flat}
use Rattle.ffv1_params.specs.Record.{Field, number, single, table, unsigned_choices, run_choices, field_decisions, states_after_field, fields_decisions, record_decisions, bit_choices, with_parity, record_of, film_fields}
use Rattle.ffv1_params.specs.Track.{WriterAt, after_field, after_fields}

-- the bytes of a number are as many as are asked for
pub length-bytes_high_first : (count n : ℕ) → length (bytes_high_first count n) ≡ count
length-bytes_high_first zero n = refl
length-bytes_high_first (suc count) n = ap suc (length-bytes_high_first count n)

-- ---- value by value

abbrev pub start : WriterAt
start = record { interval = whole; states = fresh_states }

tracked : NarrowedIsJoined → (track : WriterAt) (fields : List Field) → (after_fields track fields).interval ≡ narrowed track.interval (fields_decisions track.states fields)
unfolding after_field fields_decisions narrowed
tracked joined track [] = refl
tracked joined track (field ∷ more) = tracked joined (after_field track field) more ∙ sym (joined track.interval (field_decisions track.states field) (fields_decisions (states_after_field track.states field) more))

pub put_is_coded : NarrowedIsJoined → (fields : List Field) → ending (after_fields start fields).interval ≡ coded (record_decisions fields)
unfolding coded
put_is_coded joined fields = ap ending (tracked joined start fields)

-- ---- how long it is

shifts-part : (i : Interval) (state : ℕ) (bit : Bool) → (part i state bit).shifts ≡ i.shifts
unfolding part
shifts-part i state true = refl
shifts-part i state false = refl

shifts-renewed : (i : Interval) → (renewed i).shifts ≤ i.shifts + 1
unfolding renewed
shifts-renewed i = by (nat_lt i.range 256)
  where
    by : (b : Bool) → (cond b (record { low = i.low * 256; range = i.range * 256; shifts = i.shifts + 1 }) i).shifts ≤ i.shifts + 1
    by true = omega arith
    by false = omega arith

shifts-narrow : (i : Interval) (state : ℕ) (bit : Bool) → (narrow i state bit).shifts ≤ i.shifts + 1
unfolding narrow
shifts-narrow i state bit = omega (arith, shifts-renewed (part i state bit), shifts-part i state bit)

shifts-narrowed : (i : Interval) (decisions : List Decision) → (narrowed i decisions).shifts ≤ i.shifts + length decisions
unfolding narrowed
shifts-narrowed i [] = omega arith
shifts-narrowed i (d ∷ more) = omega (arith, shifts-narrow i d.state d.bit, shifts-narrowed (narrow i d.state d.bit) more)

-- coded bytes are at most two more than the decisions
length-coded : (decisions : List Decision) → length (coded decisions) ≤ length decisions + 2
unfolding coded ending bytes_in whole
length-coded decisions =
    let i = narrowed whole decisions in
    let last = narrow i 129 false in
    omega (arith, length-bytes_high_first (last.shifts + 1) ((last.low + 255) / 256), shifts-narrow i 129 false, shifts-narrowed whole decisions)

length-decided : (next states : List ℕ) (choices : List Choice) → length (decided next states choices) ≡ length choices
unfolding decided
length-decided next states [] = refl
length-decided next states (c ∷ more) = ap suc (length-decided next (adapted next states c) more)

exponent-le : (most magnitude : ℕ) → exponent_up_to most magnitude ≤ most
unfolding exponent_up_to
exponent-le zero magnitude = omega arith
exponent-le (suc most) magnitude = by (nat_le (2 ^ suc most) magnitude) (exponent-le most magnitude)
  where
    by : (b : Bool) → exponent_up_to most magnitude ≤ most → cond b (suc most) (exponent_up_to most magnitude) ≤ suc most
    by true le = omega arith
    by false le = omega arith

length-ones : (count : ℕ) → length (ones count) ≡ count
unfolding ones
length-ones zero = refl
length-ones (suc count) = omega (arith, length-append {A = Choice}, length-ones count)

length-low_bits : (count magnitude : ℕ) → length (low_bits count magnitude) ≡ count
unfolding low_bits
length-low_bits zero magnitude = refl
length-low_bits (suc count) magnitude = ap suc (length-low_bits count magnitude)

-- a number takes at most 64 decisions
length-number : (value : ℕ) → length (unsigned_choices value) ≤ 64
unfolding symbol_choices
length-number value = by (nat_eq value 0)
  where
    long : length (exponent_choices (exponent_of value) ++ low_bits (exponent_of value) value ++ []) ≤ 63
    long = omega (arith, exponent-le 31 value, length-ones (exponent_of value), length-low_bits (exponent_of value) value, length-append {A = Choice})

    by : (b : Bool) → length (cond b (choice 0 true ∷ []) (choice 0 false ∷ [] ++ exponent_choices (exponent_of value) ++ low_bits (exponent_of value) value ++ [])) ≤ 64
    by true = omega arith
    by false = omega (arith, long)

length-stepped : length (run_choices stepped) ≡ 31
unfolding run_choices symbol_choices exponent_up_to ones low_bits
length-stepped = refl

length-flat : length (run_choices flat) ≡ 14
unfolding run_choices symbol_choices exponent_up_to ones low_bits
length-flat = refl

-- how many decisions a value takes at most
most : Field → ℕ
most (number value) = 64
most (single bit) = 1
most (table runs) = length (run_choices runs)

most_of : List Field → ℕ
most_of [] = 0
most_of (field ∷ more) = most field + most_of more

length-field : (states : List ℕ) (field : Field) → length (field_decisions states field) ≤ most field
unfolding field_decisions most
length-field states (number value) = omega (arith, length-decided default_one_states states (unsigned_choices value), length-number value)
length-field states (single bit) = omega (arith, length-decided default_one_states states (bit_choices bit))
length-field states (table runs) = omega (arith, length-decided default_one_states fresh_states (run_choices runs))

length-fields : (states : List ℕ) (fields : List Field) → length (fields_decisions states fields) ≤ most_of fields
unfolding fields_decisions most_of
length-fields states [] = omega arith
length-fields states (field ∷ more) = omega (arith, length-append (field_decisions states field) (fields_decisions (states_after_field states field) more), length-field states field, length-fields (states_after_field states field) more)

film_short : (bits rows : ℕ) → most_of (film_fields bits rows) ≤ 892
unfolding most_of most
film_short bits rows = omega (arith, length-stepped, length-flat)

-- the writer's record has at most 1,000 bytes
pub length-film : (bits rows : ℕ) → length (record_of (film_fields bits rows)) ≤ 1000
unfolding record_of with_parity
length-film bits rows =
    let front = coded (record_decisions (film_fields bits rows)) in
    omega (arith, length-append front (bytes_high_first 4 (crc32_high_of front)), length-bytes_high_first 4 (crc32_high_of front), length-coded (record_decisions (film_fields bits rows)), length-fields fresh_states (film_fields bits rows), film_short bits rows)
