-- A reader keeps its place in the interval.
use Rattle.std.proofs.Common.{◌≡◌, ◌≢◌, ℕ, ◌+◌, ◌-◌, ◌*◌, ◌/◌, ◌<◌, ◌≤◌, List, [], ◌∷◌, Bool, true, false, cond, leb, slice_index, refl, sym, ap, ◌∙◌, subst, arith}
use Rattle.std.proofs.lemmas.Bool.{leb-true, leb-false, le-leb, lt-leb}
use Rattle.range_coder.specs.Interval.{Interval, whole, part_of_one, part, narrow, first_bytes}
use Rattle.range_coder.specs.Table.{IsState}
use Rattle.range_coder.specs.Reading.{Reader, HasRead, GoesOn, ReadsOn, Begins}
use Rattle.range_coder.proofs.Intervals.{two_parts, with_byte, renewed_small, renewed_wide, first_more}
use Rattle.range_coder.proofs.CodedLaws.{narrowed_one}

abbrev reader : ℕ → ℕ → List ℕ → Reader
reader offset range rest = record { offset = offset; range = range; rest = rest }

number_moved : (low part' part old offset number : ℕ) → part ≡ part' → part ≤ old → offset ≡ old - part → low + old ≡ number → low + part' + offset ≡ number
number_moved low part' part old offset number same above is h = omega arith

-- the part of the range in which the offset stands
pub has_part : (r : Reader) (bytes : List ℕ) (i : Interval) (state : ℕ) (bit : Bool) (offset range : ℕ) → HasRead r bytes i → IsState state → 256 ≤ r.range → bit ≡ leb (r.range - part_of_one r.range state) r.offset → offset ≡ cond bit (r.offset - (r.range - part_of_one r.range state)) r.offset → range ≡ cond bit (part_of_one r.range state) (r.range - part_of_one r.range state) → HasRead (reader offset range r.rest) bytes (part i state bit)
unfolding part
has_part r bytes i state true offset range h s wide is is_offset is_range =
    let same : r.range ≡ i.range = h.range in
    let ones_same : part_of_one r.range state ≡ part_of_one i.range state = ap (λ (n : ℕ). part_of_one n state) same in
    let two = two_parts r.range state wide s in
    let less : part_of_one r.range state < r.range = two.less in
    let number : i.low + r.offset ≡ first_bytes (i.shifts + 2) bytes = h.number in
    let inside : r.offset < r.range = h.inside in
    let above : r.range - part_of_one r.range state ≤ r.offset = leb-true (r.range - part_of_one r.range state) r.offset (sym is) in
    let o : offset ≡ r.offset - (r.range - part_of_one r.range state) = is_offset in
    let w : range ≡ part_of_one r.range state = is_range in
    let zeros_same : r.range - part_of_one r.range state ≡ i.range - part_of_one i.range state = ap (λ (n : ℕ). n - part_of_one n state) same in
    record { range = w ∙ ones_same; number = number_moved i.low (i.range - part_of_one i.range state) (r.range - part_of_one r.range state) r.offset offset (first_bytes (i.shifts + 2) bytes) zeros_same above o number; inside = omega arith; rest = h.rest }
has_part r bytes i state false offset range h s wide is is_offset is_range =
    let same : r.range ≡ i.range = h.range in
    let number : i.low + r.offset ≡ first_bytes (i.shifts + 2) bytes = h.number in
    let below : r.offset < r.range - part_of_one r.range state = leb-false (r.range - part_of_one r.range state) r.offset (sym is) in
    let o : offset ≡ r.offset = is_offset in
    let w : range ≡ r.range - part_of_one r.range state = is_range in
    let zeros_same : r.range - part_of_one r.range state ≡ i.range - part_of_one i.range state = ap (λ (n : ℕ). n - part_of_one n state) same in
    record { range = w ∙ zeros_same; number = omega arith; inside = omega arith; rest = h.rest }

-- a byte more
has_byte : (offset range byte : ℕ) (rest rest' : List ℕ) (bytes : List ℕ) (i : Interval) → HasRead (reader offset range rest) bytes i → byte < 256 → byte ≡ slice_index rest 0 → ((k : ℕ) → slice_index rest' k ≡ slice_index rest (k + 1)) → HasRead (reader (offset * 256 + byte) (range * 256) rest') bytes (with_byte i)
has_byte offset range byte rest rest' bytes i h small is follows =
    let same : range ≡ i.range = h.range in
    let number : i.low + offset ≡ first_bytes (i.shifts + 2) bytes = h.number in
    let inside : offset < range = h.inside in
    let more = first_more i.shifts bytes in
    let at : i.shifts + 2 + 0 ≡ i.shifts + 2 = omega arith in
    let here : byte ≡ slice_index bytes (i.shifts + 2) = is ∙ h.rest 0 ∙ ap (slice_index bytes) at in
    record {
      range = ap (λ (n : ℕ). n * 256) same;
      number = rw more (omega arith);
      inside = omega arith;
      rest = λ k. follows k ∙ h.rest (k + 1) ∙ (let e : i.shifts + 2 + (k + 1) ≡ i.shifts + 1 + 2 + k = omega arith in ap (slice_index bytes) e);
    }

-- a range that is renewed by a byte, and one that isn't
pub goes_by_byte : (before r : Reader) (offset range byte : ℕ) (rest' : List ℕ) → r ≡ before → range < 256 → byte < 256 → byte ≡ slice_index r.rest 0 → ((k : ℕ) → slice_index rest' k ≡ slice_index r.rest (k + 1)) → GoesOn offset range before (reader (offset * 256 + byte) (range * 256) rest')
goes_by_byte before r offset range byte rest' same small fits first follows = record {
  goes = λ bytes i h.
      let h' : HasRead (reader offset range r.rest) bytes i = subst (λ (x : Reader). HasRead (reader offset range x.rest) bytes i) (sym same) h in
      let narrow_range : i.range < 256 = subst (λ (n : ℕ). n < 256) h'.range small in
      let e = renewed_small i narrow_range in
      rw e (has_byte offset range byte r.rest rest' bytes i h' fits first follows);
}

pub goes_within : (before r : Reader) (offset range : ℕ) → r ≡ before → 256 ≤ range → GoesOn offset range before (reader offset range r.rest)
goes_within before r offset range same large = record {
  goes = λ bytes i h.
      let h' : HasRead (reader offset range r.rest) bytes i = subst (λ (x : Reader). HasRead (reader offset range x.rest) bytes i) (sym same) h in
      let wide_range : 256 ≤ i.range = subst (λ (n : ℕ). 256 ≤ n) h'.range large in
      let e = renewed_wide i wide_range in
      rw e h';
}

-- a decision read
pub reads_part : (before r after : Reader) (state : ℕ) (bit : Bool) (offset range : ℕ) → r ≡ before → IsState state → 256 ≤ r.range → bit ≡ leb (r.range - part_of_one r.range state) r.offset → offset ≡ cond bit (r.offset - (r.range - part_of_one r.range state)) r.offset → range ≡ cond bit (part_of_one r.range state) (r.range - part_of_one r.range state) → GoesOn offset range before after → ReadsOn before after (record { state = state; bit = bit } ∷ [])
unfolding narrow
reads_part before r after state bit offset range same s wide is is_offset is_range goes = record {
  reads = λ bytes i h.
      let h' : HasRead r bytes i = subst (λ (x : Reader). HasRead x bytes i) (sym same) h in
      let p : HasRead (reader offset range r.rest) bytes (part i state bit) = has_part r bytes i state bit offset range h' s wide is is_offset is_range in
      let p' : HasRead (reader offset range before.rest) bytes (part i state bit) = subst (λ (x : Reader). HasRead (reader offset range x.rest) bytes (part i state bit)) same p in
      rw (narrowed_one i state bit) (goes.goes bytes (part i state bit) p');
}

-- the same, by a comparison
pub one_read : (before r after : Reader) (state value : ℕ) → r ≡ before → IsState state → 256 ≤ r.range → value ≡ state → r.range - r.range * value / 256 ≤ r.offset → GoesOn (r.offset - (r.range - r.range * value / 256)) (r.range * value / 256) before after → ReadsOn before after (record { state = state; bit = true } ∷ [])
one_read before r after state value same s wide is above goes =
    let above' : r.range - part_of_one r.range state ≤ r.offset = subst (λ (n : ℕ). r.range - r.range * n / 256 ≤ r.offset) is above in
    let goes' : GoesOn (r.offset - (r.range - part_of_one r.range state)) (part_of_one r.range state) before after = subst (λ (n : ℕ). GoesOn (r.offset - (r.range - r.range * n / 256)) (r.range * n / 256) before after) is goes in
    reads_part before r after state true _ _ same s wide (sym (le-leb (r.range - part_of_one r.range state) r.offset above')) refl refl goes'

pub zero_read : (before r after : Reader) (state value : ℕ) → r ≡ before → IsState state → 256 ≤ r.range → value ≡ state → r.offset < r.range - r.range * value / 256 → GoesOn r.offset (r.range - r.range * value / 256) before after → ReadsOn before after (record { state = state; bit = false } ∷ [])
zero_read before r after state value same s wide is below goes =
    let below' : r.offset < r.range - part_of_one r.range state = subst (λ (n : ℕ). r.offset < r.range - r.range * n / 256) is below in
    let goes' : GoesOn r.offset (r.range - part_of_one r.range state) before after = subst (λ (n : ℕ). GoesOn r.offset (r.range - r.range * n / 256) before after) is goes in
    reads_part before r after state false _ _ same s wide (sym (lt-leb (r.range - part_of_one r.range state) r.offset below')) refl refl goes'

-- the same of a reader that keeps the distance to the end of its range, which the number has below it
above_from : (below part range : ℕ) → below ≤ part → part ≤ range → range - part ≤ range - below
above_from below part range is within = omega arith

one_apart : (below part range : ℕ) → below ≤ part → part ≤ range → range - below - (range - part) ≡ part - below
one_apart below part range is within = omega arith

zero_apart : (below part range : ℕ) → part < below → below ≤ range → range - below ≡ range - part - (below - part)
zero_apart below part range is within = omega arith

below_to : (below part range : ℕ) → part < below → below ≤ range → range - below < range - part
below_to below part range is within = omega arith

pub one_below : (before after : Reader) (below range : ℕ) (rest : List ℕ) (state value : ℕ) → reader (range - below) range rest ≡ before → IsState state → 256 ≤ range → value ≡ state → below ≤ range * value / 256 → GoesOn (range * value / 256 - below) (range * value / 256) before after → ReadsOn before after (record { state = state; bit = true } ∷ [])
one_below before after below range rest state value same s wide is within goes =
    let two = two_parts range value wide (subst IsState (sym is) s) in
    let less : range * value / 256 < range = two.less in
    let inside : range * value / 256 ≤ range = omega arith in
    one_read before (reader (range - below) range rest) after state value same s wide is (above_from below (range * value / 256) range within inside) (subst (λ (n : ℕ). GoesOn n (range * value / 256) before after) (sym (one_apart below (range * value / 256) range within inside)) goes)

pub zero_below : (before after : Reader) (below range : ℕ) (rest : List ℕ) (state value : ℕ) → reader (range - below) range rest ≡ before → IsState state → 256 ≤ range → below ≤ range → value ≡ state → range * value / 256 < below → GoesOn (range - range * value / 256 - (below - range * value / 256)) (range - range * value / 256) before after → ReadsOn before after (record { state = state; bit = false } ∷ [])
zero_below before after below range rest state value same s wide inside is within goes =
    zero_read before (reader (range - below) range rest) after state value same s wide is (below_to below (range * value / 256) range within inside) (subst (λ (n : ℕ). GoesOn n (range - range * value / 256) before after) (sym (zero_apart below (range * value / 256) range within inside)) goes)

pub bit_below : (before after : Reader) (below range : ℕ) (rest : List ℕ) (state : ℕ) (bit : Bool) (below' range' : ℕ) → reader (range - below) range rest ≡ before → IsState state → 256 ≤ range → below ≤ range → bit ≡ leb below (part_of_one range state) → below' ≡ cond bit below (below - part_of_one range state) → range' ≡ cond bit (part_of_one range state) (range - part_of_one range state) → GoesOn (range' - below') range' before after → ReadsOn before after (record { state = state; bit = bit } ∷ [])
bit_below before after below range rest state true below' range' same s wide inside is is_below is_range goes =
    let within : below ≤ part_of_one range state = leb-true below (part_of_one range state) (sym is) in
    let goes' : GoesOn (part_of_one range state - below) (part_of_one range state) before after = rw (is_below, is_range) at goes in
    one_below before after below range rest state state same s wide refl within goes'
bit_below before after below range rest state false below' range' same s wide inside is is_below is_range goes =
    let within : part_of_one range state < below = leb-false below (part_of_one range state) (sym is) in
    let goes' : GoesOn (range - part_of_one range state - (below - part_of_one range state)) (range - part_of_one range state) before after = rw (is_below, is_range) at goes in
    zero_below before after below range rest state state same s wide inside refl within goes'

-- a range that is renewed, with the distance
byte_apart : (below range byte : ℕ) → 1 ≤ below → below ≤ range → byte < 256 → (range - below) * 256 + byte ≡ range * 256 - (below * 256 - byte)
byte_apart below range byte some inside fits = omega arith

pub below_by_byte : (before : Reader) (offset' old : ℕ) (rest : List ℕ) (below range byte : ℕ) (rest' : List ℕ) → reader offset' old rest ≡ before → 1 ≤ below → below ≤ range → range < 256 → byte < 256 → byte ≡ slice_index rest 0 → ((k : ℕ) → slice_index rest' k ≡ slice_index rest (k + 1)) → GoesOn (range - below) range before (reader (range * 256 - (below * 256 - byte)) (range * 256) rest')
below_by_byte before offset' old rest below range byte rest' same some inside small fits first follows =
    subst (λ (n : ℕ). GoesOn (range - below) range before (reader n (range * 256) rest')) (byte_apart below range byte some inside fits) (goes_by_byte before (reader offset' old rest) (range - below) range byte rest' same small fits first follows)

-- the first two bytes
pub begins_with : (bytes rest rest' : List ℕ) (high low : ℕ) → ((k : ℕ) → slice_index bytes k < 256) → high ≡ slice_index bytes 0 → ((k : ℕ) → slice_index rest k ≡ slice_index bytes (k + 1)) → low ≡ slice_index rest 0 → ((k : ℕ) → slice_index rest' k ≡ slice_index rest (k + 1)) → high ≢ 255 → Begins (reader (high * 256 + low) 65280 rest') bytes
unfolding whole first_bytes
begins_with bytes rest rest' high low are is_high is_rest is_low is_rest' not_last =
    let h : high < 256 = subst (λ (n : ℕ). n < 256) (sym is_high) (are 0) in
    let second : slice_index rest 0 ≡ slice_index bytes 1 = is_rest 0 in
    let l : low < 256 = subst (λ (n : ℕ). n < 256) (sym (is_low ∙ second)) (are 1) in
    record {
      are_bytes = are;
      has_read = record {
        range = refl;
        number = rw (is_high, is_low, second) (omega arith);
        inside = omega arith;
        rest = λ k. is_rest' k ∙ is_rest (k + 1) ∙ (let e : k + 1 + 1 ≡ 0 + 2 + k = omega arith in ap (slice_index bytes) e);
      };
    }

from_end : (n range : ℕ) → n ≤ range → n ≡ range - (range - n)
from_end n range within = omega arith

pub begins_below : (bytes rest rest' : List ℕ) (high low whole : ℕ) → whole ≡ 65280 → ((k : ℕ) → slice_index bytes k < 256) → high ≡ slice_index bytes 0 → ((k : ℕ) → slice_index rest k ≡ slice_index bytes (k + 1)) → low ≡ slice_index rest 0 → ((k : ℕ) → slice_index rest' k ≡ slice_index rest (k + 1)) → high ≢ 255 → high * 256 + low ≤ whole → Begins (reader (whole - (whole - (high * 256 + low))) whole rest') bytes
begins_below bytes rest rest' high low whole is are is_high is_rest is_low is_rest' not_last within =
    rw (← from_end (high * 256 + low) whole within, is) (begins_with bytes rest rest' high low are is_high is_rest is_low is_rest' not_last)

pub first_fits : (high byte : ℕ) → high ≡ byte → byte < 256 → byte ≢ 255 → high < 255
first_fits high byte is fits not_last = omega arith

pub second_fits : (low byte : ℕ) → low ≡ byte → byte < 256 → low < 256
second_fits low byte is fits = omega arith

pub starts_within : (high low : ℕ) → high < 255 → low < 256 → high * 256 + low ≤ 65280
starts_within high low first second = omega arith
