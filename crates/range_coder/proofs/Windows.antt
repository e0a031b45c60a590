-- The window of an encoder is the lower end of its interval, kept by its upper end.
use Rattle.std.proofs.Common.{◌≡◌, ℕ, ◌+◌, ◌-◌, ◌*◌, ◌/◌, ◌%◌, ◌<◌, ◌≤◌, List, [], length, slice_index, Bool, true, false, cond, refl, sym, ap, ◌∙◌, arith}
use Rattle.std.specs.Int.{bytes_high_first}
use Rattle.range_coder.specs.Interval.{Interval, whole, part_of_one, part, renewed, narrow, first_bytes, bytes_in}
use Rattle.range_coder.specs.Encoding.{number_in, interval_of, IsWindow}
use Rattle.range_coder.specs.Table.{IsState}
use Rattle.range_coder.proofs.Intervals.{two_parts, renewed_small, renewed_wide}
use Rattle.range_coder.proofs.Numbers.{bytes-first_bytes}

abbrev interval : ℕ → ℕ → ℕ → Interval
interval low range shifts = record { low = low; range = range; shifts = shifts }

same_interval : (low low' range range' shifts shifts' : ℕ) → low ≡ low' → range ≡ range' → shifts ≡ shifts' → interval low range shifts ≡ interval low' range' shifts'
same_interval low low' range range' shifts shifts' a b c = rw (a, b, c) refl

pub part_of_window : (bytes : List ℕ) (low range state : ℕ) (bit : Bool) (low' range' : ℕ) → low' ≡ cond bit (low + (range - part_of_one range state)) low → range' ≡ cond bit (part_of_one range state) (range - part_of_one range state) → interval_of bytes low' range' ≡ part (interval_of bytes low range) state bit
unfolding part
part_of_window bytes low range state true low' range' is_low is_range =
    same_interval _ _ _ _ _ _ (let e : low' ≡ low + (range - part_of_one range state) = is_low in omega arith) is_range refl
part_of_window bytes low range state false low' range' is_low is_range =
    same_interval _ _ _ _ _ _ (let e : low' ≡ low = is_low in omega arith) is_range refl

renewed_window : (bytes bytes' : List ℕ) (low range : ℕ) → range < 256 → length bytes' ≡ length bytes + 1 → number_in bytes' ≡ number_in bytes * 256 + low / 256 → interval_of bytes' (low % 256 * 256) (range * 256) ≡ renewed (interval_of bytes low range)
renewed_window bytes bytes' low range small len number =
    same_interval _ _ _ _ _ _ (omega arith) refl len ∙ sym (renewed_small (interval_of bytes low range) small)

-- a decision with a byte, and one without
pub narrow_by_byte : (bytes bytes' : List ℕ) (low range low' range' state : ℕ) (bit : Bool) (before : Interval) → interval_of bytes low range ≡ before → low' ≡ cond bit (low + (range - part_of_one range state)) low → range' ≡ cond bit (part_of_one range state) (range - part_of_one range state) → range' < 256 → length bytes' ≡ length bytes + 1 → number_in bytes' ≡ number_in bytes * 256 + low' / 256 → interval_of bytes' (low' % 256 * 256) (range' * 256) ≡ narrow before state bit
unfolding narrow
narrow_by_byte bytes bytes' low range low' range' state bit before is is_low is_range small len number =
    renewed_window bytes bytes' low' range' small len number ∙ ap renewed (part_of_window bytes low range state bit low' range' is_low is_range ∙ ap (λ (i : Interval). part i state bit) is)

pub narrow_within : (bytes : List ℕ) (low range low' range' state : ℕ) (bit : Bool) (before : Interval) → interval_of bytes low range ≡ before → low' ≡ cond bit (low + (range - part_of_one range state)) low → range' ≡ cond bit (part_of_one range state) (range - part_of_one range state) → 256 ≤ range' → interval_of bytes low' range' ≡ narrow before state bit
unfolding narrow
narrow_within bytes low range low' range' state bit before is is_low is_range wide =
    sym (renewed_wide (interval_of bytes low' range') wide) ∙ ap renewed (part_of_window bytes low range state bit low' range' is_low is_range ∙ ap (λ (i : Interval). part i state bit) is)

-- the same by the upper end
low_of_top : (top range ones top' range' : ℕ) (bit : Bool) → ones ≤ range → range ≤ top → top' ≡ cond bit top (top - ones) → range' ≡ cond bit ones (range - ones) → top' - range' ≡ cond bit (top - range + (range - ones)) (top - range)
low_of_top top range ones top' range' true within inside is_top is_range = let a : top' ≡ top = is_top in let b : range' ≡ ones = is_range in omega arith
low_of_top top range ones top' range' false within inside is_top is_range = let a : top' ≡ top - ones = is_top in let b : range' ≡ range - ones = is_range in omega arith

pub low_part : (top range state top' range' : ℕ) (bit : Bool) → IsState state → 256 ≤ range → range ≤ top → top' ≡ cond bit top (top - part_of_one range state) → range' ≡ cond bit (part_of_one range state) (range - part_of_one range state) → top' - range' ≡ cond bit (top - range + (range - part_of_one range state)) (top - range)
low_part top range state top' range' bit s wide inside is_top is_range =
    let two = two_parts range state wide s in
    let less : part_of_one range state < range = two.less in
    let within : part_of_one range state ≤ range = omega arith in
    low_of_top top range (part_of_one range state) top' range' bit within inside is_top is_range

from_top : (low range : ℕ) → low + range - range ≡ low
from_top low range = omega arith

pub top_by_byte : (bytes bytes' : List ℕ) (top range top' range' state : ℕ) (bit : Bool) → IsState state → 256 ≤ range → range ≤ top → top' ≡ cond bit top (top - part_of_one range state) → range' ≡ cond bit (part_of_one range state) (range - part_of_one range state) → range' < 256 → length bytes' ≡ length bytes + 1 → number_in bytes' ≡ number_in bytes * 256 + (top' - range') / 256 → interval_of bytes' ((top' - range') % 256 * 256 + range' * 256 - range' * 256) (range' * 256) ≡ narrow (interval_of bytes (top - range) range) state bit
top_by_byte bytes bytes' top range top' range' state bit s wide inside is_top is_range small len number =
    rw (from_top ((top' - range') % 256 * 256) (range' * 256)) (narrow_by_byte bytes bytes' (top - range) range (top' - range') range' state bit (interval_of bytes (top - range) range) refl (low_part top range state top' range' bit s wide inside is_top is_range) is_range small len number)

pub top_within : (bytes : List ℕ) (top range top' range' state : ℕ) (bit : Bool) → IsState state → 256 ≤ range → range ≤ top → top' ≡ cond bit top (top - part_of_one range state) → range' ≡ cond bit (part_of_one range state) (range - part_of_one range state) → 256 ≤ range' → interval_of bytes (top' - range') range' ≡ narrow (interval_of bytes (top - range) range) state bit
top_within bytes top range top' range' state bit s wide inside is_top is_range large =
    narrow_within bytes (top - range) range (top' - range') range' state bit (interval_of bytes (top - range) range) refl (low_part top range state top' range' bit s wide inside is_top is_range) is_range large

pub is_sentinel : IsState 129
is_sentinel = record { low = omega arith; high = omega arith }

-- the bytes after the last digit are those that end the decisions
pub ends_in : (bytes new : List ℕ) (low range : ℕ) (e : Interval) → interval_of bytes low range ≡ e → length new ≡ length bytes + 1 → number_in new ≡ number_in bytes * 256 + (low + 255) / 256 → ((k : ℕ) → slice_index new k < 256) → new ≡ bytes_in e
unfolding bytes_in
ends_in bytes new low range e is len number are =
    let spelled : bytes_high_first (length new) (number_in new) ≡ new = bytes-first_bytes (length new) new refl are in
    let value : (number_in bytes * 65536 + low + 255) / 256 ≡ number_in new = omega arith in
    rw (← is, value, ← len) (sym spelled)

-- the same, where the window before the last digit is known by its fields
pub ends_with : (bytes before new answer : List ℕ) (low low' range : ℕ) (e : Interval) → answer ≡ new → before ≡ bytes → low ≡ low' → interval_of bytes low' range ≡ e → length new ≡ length before + 1 → number_in new ≡ number_in before * 256 + (low + 255) / 256 → ((k : ℕ) → slice_index new k < 256) → answer ≡ bytes_in e
ends_with bytes before new answer low low' range e is same at there len number are =
    is ∙ ends_in bytes new low' range e there (rw same at len) (rw (same, at) at number) are

-- nothing is written yet
pub new_window : (bytes : List ℕ) → bytes ≡ [] → IsWindow bytes 65280 65280
unfolding first_bytes
new_window bytes none = rw none (record { least = omega arith; most = omega arith; inside = omega arith; window = omega arith; within = omega arith })

pub new_interval : (bytes : List ℕ) → bytes ≡ [] → interval_of bytes (65280 - 65280) 65280 ≡ whole
unfolding whole first_bytes
new_interval bytes none = rw none refl
