-- Laws of words: three of them are read as an order by their command, and no others are.
use Rattle.std.proofs.Common.{◌≡◌, List, [], ◌∷◌, length, None, slice_index_or, map, refl, arith, String, Global, string_bytes}
use Rattle.cook_top.specs.Orders.{order_of, command_order_of}

-- other than three words are no order
pub order_of-count : (words : List (String Global)) → (length words ≡ 3 → ⊥) → order_of (map string_bytes words) ≡ None
unfolding order_of
order_of-count [] other = refl
order_of-count (a ∷ []) other = refl
order_of-count (a ∷ b ∷ []) other = refl
order_of-count (a ∷ b ∷ c ∷ []) other = absurd (other refl)
order_of-count (a ∷ b ∷ c ∷ d ∷ words) other = refl

-- three words are the order of their command
pub order_of-three : (words : List (String Global)) (command first second : String Global) → length words ≡ 3
    → command ≡ slice_index_or words 0 command → first ≡ slice_index_or words 1 first → second ≡ slice_index_or words 2 second
    → order_of (map string_bytes words) ≡ command_order_of (string_bytes command) (string_bytes first) (string_bytes second)
unfolding order_of
order_of-three [] command first second three is_command is_first is_second = absurd (omega arith)
order_of-three (a ∷ []) command first second three is_command is_first is_second = absurd (omega arith)
order_of-three (a ∷ b ∷ []) command first second three is_command is_first is_second = absurd (omega arith)
order_of-three (a ∷ b ∷ c ∷ []) command first second three is_command is_first is_second = rw (is_command, is_first, is_second) refl
order_of-three (a ∷ b ∷ c ∷ d ∷ words) command first second three is_command is_first is_second = absurd (omega arith)
