-- The two orders of bits, and the register of a CRC in either of them: its first byte and what is left of it.
use Rattle.std.proofs.Common.{◌≡◌, ℕ, zero, suc, ◌+◌, ◌*◌, ◌/◌, ◌%◌, ◌^◌, ◌<◌, Bool, false, List, [], ◌∷◌, ◌++◌, length, reverse, refl, sym, ap, ◌∙◌, arith}
use Rattle.std.proofs.lemmas.List.{reverse-append, reverse-reverse, length-reverse, replicate-append-replicate}
use Rattle.std.proofs.lemmas.Nat.{shr_below}
use Rattle.cook_bits.specs.Bits.{low_bits}
use Rattle.cook_bits.specs.Crc.{added, highest_first, lowest_first}
use Rattle.cook_bits.proofs.Division.{zeros, added-append}
use Rattle.cook_bits.proofs.Numbers.{low_bits_of_zero, low_bits-cat, low_bits-mod, low_bits-split}

-- an order in which bits are read: it is undone by itself, and keeps sums
pub record IsOrder (order : List Bool → List Bool) : Type 0 where
  pub len : (row : List Bool) → length (order row) ≡ length row
  pub back : (row : List Bool) → order (order row) ≡ row
  pub none : (count : ℕ) → order (zeros count) ≡ zeros count
  pub sum : (xs ys : List Bool) → length xs ≡ length ys → order (added xs ys) ≡ added (order xs) (order ys)

pub IsOrder-highest_first : IsOrder highest_first
IsOrder-highest_first = record { len = λ row. refl; back = λ row. refl; none = λ count. refl; sum = λ xs ys e. refl }

reverse-cons : (x : Bool) (xs : List Bool) → reverse (x ∷ xs) ≡ reverse xs ++ x ∷ []
reverse-cons x xs = reverse-append (x ∷ []) xs

reverse-zeros : (count : ℕ) → reverse (zeros count) ≡ zeros count
reverse-zeros zero = refl
reverse-zeros (suc count) =
    let one : zeros count ++ zeros 1 ≡ zeros (1 + count) = replicate-append-replicate count 1 false ∙ ap zeros (omega arith) in
    let same : 1 + count ≡ suc count = omega arith in
    reverse-cons false (zeros count) ∙ ap (λ row. row ++ false ∷ []) (reverse-zeros count) ∙ one ∙ ap zeros same

reverse-added : (xs ys : List Bool) → length xs ≡ length ys → reverse (added xs ys) ≡ added (reverse xs) (reverse ys)
unfolding added
reverse-added [] [] e = refl
reverse-added [] (y ∷ ys) e = absurd (omega arith)
reverse-added (x ∷ xs) [] e = absurd (omega arith)
reverse-added (x ∷ xs) (y ∷ ys) e =
    let same : length xs ≡ length ys = omega arith in
    let lens : length (reverse xs) ≡ length (reverse ys) = length-reverse xs ∙ same ∙ sym (length-reverse ys) in
    reverse-cons _ (added xs ys)
    ∙ ap (λ row. row ++ added (x ∷ []) (y ∷ [])) (reverse-added xs ys same)
    ∙ sym (added-append (reverse xs) (x ∷ []) (reverse ys) (y ∷ []) lens)
    ∙ ap (λ row. added row (reverse ys ++ y ∷ [])) (sym (reverse-cons x xs))
    ∙ ap (added (reverse (x ∷ xs))) (sym (reverse-cons y ys))

pub IsOrder-lowest_first : IsOrder lowest_first
IsOrder-lowest_first = record { len = length-reverse; back = reverse-reverse; none = reverse-zeros; sum = reverse-added }

-- the register's bits are those of its first byte and the rest, and the rest and eight zeros are those of the register that is left
pub record IsCut (order : List Bool → List Bool) (width register first left : ℕ) : Type 0 where
  pub rest : List Bool
  pub whole : order (low_bits width register) ≡ order (low_bits 8 first) ++ rest
  pub shifted : order (low_bits width left) ≡ rest ++ zeros 8

pub IsCut-highest_first : (more register : ℕ) → IsCut highest_first (8 + more) register (register / 2 ^ more) (register * 2 ^ 8 % 2 ^ (8 + more))
IsCut-highest_first more register =
    let swap : 8 + more ≡ more + 8 = omega arith in
    record {
      rest = low_bits more register;
      whole = low_bits-split 8 more register;
      shifted =
          low_bits-mod (8 + more) (8 + more) (register * 2 ^ 8) (omega arith)
          ∙ ap (λ n. low_bits n (register * 2 ^ 8)) swap
          ∙ ap (low_bits (more + 8)) (omega arith)
          ∙ low_bits-cat more 8 register 0 (omega arith)
          ∙ ap (λ row. low_bits more register ++ row) (low_bits_of_zero 8);
    }

pub IsCut-lowest_first : (more register : ℕ) → register < 2 ^ (more + 8) → IsCut lowest_first (more + 8) register (register % 2 ^ 8) (register / 2 ^ 8)
IsCut-lowest_first more register lt =
    let high = register / 2 ^ 8 in
    let small : high < 2 ^ more = shr_below register more 8 lt in
    let swap : more + 8 ≡ 8 + more = omega arith in
    let same : 0 * 2 ^ more + high ≡ high = omega arith in
    record {
      rest = reverse (low_bits more high);
      whole =
          ap reverse (low_bits-split more 8 register)
          ∙ reverse-append (low_bits more high) (low_bits 8 register)
          ∙ ap (λ row. reverse row ++ reverse (low_bits more high)) (sym (low_bits-mod 8 8 register (omega arith)));
      shifted =
          ap (λ n. reverse (low_bits n high)) swap
          ∙ ap (λ n. reverse (low_bits (8 + more) n)) (sym same)
          ∙ ap reverse (low_bits-cat 8 more 0 high small)
          ∙ reverse-append (low_bits 8 0) (low_bits more high)
          ∙ ap (λ row. reverse (low_bits more high) ++ reverse row) (low_bits_of_zero 8)
          ∙ ap (λ row. reverse (low_bits more high) ++ row) (reverse-zeros 8);
    }
