-- The number in a frame's name, and what stands before and after it.
use Rattle.std.specs.Prelude.{ℕ, ◌+◌, ◌-◌, Bool, ◌&&◌, not, List, ◌++◌, length, take, drop, map, nat_eq, nat_le}
use Rattle.std.specs.List.{suffix_len}
use Rattle.std.specs.Int.Digits.{number_from_digits}
use Rattle.cook_bits.specs.Names.{is_same_name}

-- an ASCII digit
abbrev pub is_digit : ℕ → Bool
is_digit byte = nat_le 48 byte && nat_le byte 57

abbrev pub is_no_digit : ℕ → Bool
is_no_digit byte = not (is_digit byte)

-- what stands within a segment: no slash (byte 47)
abbrev pub is_no_slash : ℕ → Bool
is_no_slash byte = not (nat_eq byte 47)

-- the longest end of a list whose bytes all pass a test, and what stands before that end
abbrev pub end_where : (ℕ → Bool) → List ℕ → List ℕ
end_where test bytes = drop (length bytes - suffix_len test bytes) bytes

abbrev pub front_where : (ℕ → Bool) → List ℕ → List ℕ
front_where test bytes = take (length bytes - suffix_len test bytes) bytes

-- a name without its last four bytes, and these
abbrev pub stem_of : List ℕ → List ℕ
stem_of name = take (length name - 4) name

abbrev pub ending_of : List ℕ → List ℕ
ending_of name = drop (length name - 4) name

-- the base of a name: what stands behind the last slash once the last four bytes are cut; and what stands before the
-- base. Where the last segment has at least four bytes, as one that ends in `.dpx` has, the base is that segment
-- without its last four. A shorter one is cut off whole, with its slash, and the base then lies in a folder's name:
-- that of `r1/abc` is `r1`.
unfoldable pub base_of : List ℕ → List ℕ
base_of name = end_where is_no_slash (stem_of name)

unfoldable pub folder_of : List ℕ → List ℕ
folder_of name = front_where is_no_slash (stem_of name)

-- the base up to the end of its last digit: nothing where it has no digit
abbrev pub to_last_digit : List ℕ → List ℕ
to_last_digit name = front_where is_no_digit (base_of name)

-- the number of a name is the last run of digits in its base; these are its digits, and all bytes before and after it
unfoldable pub digits_of : List ℕ → List ℕ
digits_of name = end_where is_digit (to_last_digit name)

unfoldable pub before_of : List ℕ → List ℕ
before_of name = folder_of name ++ front_where is_digit (to_last_digit name)

unfoldable pub after_of : List ℕ → List ℕ
after_of name = end_where is_no_digit (base_of name) ++ ending_of name

-- digits read in base ten
unfoldable pub number_from : List ℕ → ℕ
number_from digits = number_from_digits 10 (map (λ digit. digit - 48) digits)

unfoldable pub number_of : List ℕ → ℕ
number_of name = number_from (digits_of name)

-- a name has a number, of at most 18 digits
unfoldable pub is_numbered : List ℕ → Bool
is_numbered name = nat_le 1 (length (digits_of name)) && nat_le (length (digits_of name)) 18

-- two names are the same but for the digits of their numbers, of which there are as many
unfoldable pub is_one_sequence : List ℕ → List ℕ → Bool
is_one_sequence earlier later = is_same_name (before_of earlier) (before_of later) && (nat_eq (length (digits_of earlier)) (length (digits_of later)) && is_same_name (after_of earlier) (after_of later))

-- the first name is the predecessor of the second: its number is less by one, and all else is the same
unfoldable pub is_predecessor : List ℕ → List ℕ → Bool
is_predecessor earlier later = is_numbered later && (is_one_sequence earlier later && nat_eq (number_of earlier + 1) (number_of later))
