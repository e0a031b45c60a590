-- The CRC of bytes as a number, in any order of bits: a byte at a time, in parts, and from the remainders of single bytes.
use Rattle.std.proofs.Common.{◌≡◌, ℕ, ◌+◌, ◌^◌, ◌<◌, ◌≤◌, Bool, false, List, [], ◌∷◌, ◌++◌, length, get_or, drop, replicate, refl, sym, ap, ◌∙◌, length-append, bit_xor}
use Rattle.std.proofs.Math.Nat.{mod-eq_of_lt}
use Rattle.std.specs.List.{flat_map}
use Rattle.std.proofs.lemmas.List.{drop_more, drop_all, replicate-append-replicate}
use Rattle.std.proofs.lemmas.List.Concat.{flat_map-append}
use Rattle.cook_bits.specs.Bits.{low_bits, number_of}
use Rattle.cook_bits.specs.Crc.{added, remainder_of, crc_of}
use Rattle.cook_bits.proofs.Division.{zeros, length-remainder_of, remainder_of_nothing, remainder_of-append, remainder_of_first}
use Rattle.cook_bits.proofs.Numbers.{length-low_bits, low_bits-xor, low_bits_of_zero, number_of-low_bits, number_of-lt, low_bits_back, number_of-added}
use Rattle.cook_bits.proofs.Orders.{IsOrder, IsCut}

-- the register, with what is left of the bytes, still makes the whole CRC
pub record IsSoFar (order : List Bool → List Bool) (width divisor register : ℕ) (rest : List ℕ) (total : ℕ) : Type 0 where
  pub small : register < 2 ^ width
  pub same : crc_of order width divisor register rest ≡ total

module _ (order : List Bool → List Bool) (is_order : IsOrder order) (width divisor : ℕ) where
  coefficients : ℕ → List Bool
  coefficients n = order (low_bits width n)

  message_of : List ℕ → List Bool
  message_of bytes = flat_map (λ byte. order (low_bits 8 byte)) bytes

  left : ℕ → List ℕ → List Bool
  left register bytes = remainder_of (low_bits width divisor) (coefficients register) (message_of bytes)

  length-coefficients : (n : ℕ) → length (coefficients n) ≡ width
  unfolding coefficients
  length-coefficients n = is_order.len (low_bits width n) ∙ length-low_bits width n

  start_len : (n : ℕ) → length (coefficients n) ≡ length (low_bits width divisor)
  start_len n = length-coefficients n ∙ sym (length-low_bits width divisor)

  length-left : (register : ℕ) (bytes : List ℕ) → length (left register bytes) ≡ width
  unfolding left
  length-left register bytes = length-remainder_of (low_bits width divisor) (coefficients register) (message_of bytes) ∙ length-low_bits width divisor

  crc_is : (register : ℕ) (bytes : List ℕ) → crc_of order width divisor register bytes ≡ number_of (order (left register bytes))
  unfolding crc_of left coefficients message_of
  crc_is register bytes = refl

  -- a remainder, as the register's bits
  coefficients_back : (register : ℕ) (bytes : List ℕ) → coefficients (crc_of order width divisor register bytes) ≡ left register bytes
  unfolding coefficients
  coefficients_back register bytes =
      ap (λ n. order (low_bits width n)) (crc_is register bytes)
      ∙ ap order (low_bits_back width (order (left register bytes)) (is_order.len (left register bytes) ∙ length-left register bytes))
      ∙ is_order.back (left register bytes)

  pub crc_of-lt : (register : ℕ) (bytes : List ℕ) → crc_of order width divisor register bytes < 2 ^ width
  crc_of-lt register bytes =
      let len : length (order (left register bytes)) ≡ width = is_order.len (left register bytes) ∙ length-left register bytes in
      let small : number_of (order (left register bytes)) < 2 ^ width = rw len at (number_of-lt (order (left register bytes))) in
      rw (crc_is register bytes) small

  pub crc_of_nothing : (register : ℕ) → register < 2 ^ width → crc_of order width divisor register [] ≡ register
  unfolding message_of coefficients left
  crc_of_nothing register lt =
      crc_is register []
      ∙ ap (λ bits. number_of (order bits)) (remainder_of_nothing (low_bits width divisor) (coefficients register) (start_len register))
      ∙ ap number_of (is_order.back (low_bits width register))
      ∙ number_of-low_bits width register
      ∙ mod-eq_of_lt lt

  -- bytes in two parts: the first CRC is the start value of the second part
  pub crc_of-append : (register : ℕ) (xs ys : List ℕ) → crc_of order width divisor register (xs ++ ys) ≡ crc_of order width divisor (crc_of order width divisor register xs) ys
  unfolding message_of left
  crc_of-append register xs ys =
      let d = low_bits width divisor in
      crc_is register (xs ++ ys)
      ∙ ap (λ bits. number_of (order (remainder_of d (coefficients register) bits))) (flat_map-append (λ byte. order (low_bits 8 byte)) xs ys)
      ∙ ap (λ bits. number_of (order bits)) (remainder_of-append d (coefficients register) (message_of xs) (message_of ys) (start_len register))
      ∙ ap (λ bits. number_of (order (remainder_of d bits (message_of ys)))) (sym (coefficients_back register xs))
      ∙ sym (crc_is (crc_of order width divisor register xs) ys)

  -- a loop over parts: the register after one more
  pub after_part : (register next : ℕ) (part rest bytes : List ℕ) → bytes ≡ part ++ rest → next ≡ crc_of order width divisor register part → crc_of order width divisor next rest ≡ crc_of order width divisor register bytes
  after_part register next part rest bytes whole step =
      ap (λ n. crc_of order width divisor n rest) step ∙ sym (crc_of-append register part rest) ∙ ap (crc_of order width divisor register) (sym whole)

  -- a loop over bytes: one more, and all of them
  pub so_far_more : (register next i : ℕ) (bytes : List ℕ) (total : ℕ) → i < length bytes → next ≡ crc_of order width divisor register (get_or bytes i 0 ∷ [])
      → IsSoFar order width divisor register (drop i bytes) total → IsSoFar order width divisor next (drop (i + 1) bytes) total
  so_far_more register next i bytes total lt step so_far =
      let byte = get_or bytes i 0 in
      let rest = drop (i + 1) bytes in
      record {
        small = rw step (crc_of-lt register (byte ∷ []));
        same =
            ap (λ n. crc_of order width divisor n rest) step
            ∙ sym (crc_of-append register (byte ∷ []) rest)
            ∙ ap (crc_of order width divisor register) (sym (drop_more bytes i 0 lt))
            ∙ so_far.same;
      }

  pub so_far_all : (register i : ℕ) (bytes : List ℕ) (total : ℕ) → length bytes ≤ i → IsSoFar order width divisor register (drop i bytes) total → register ≡ total
  so_far_all register i bytes total le so_far =
      sym (crc_of_nothing register so_far.small) ∙ ap (crc_of order width divisor register) (sym (drop_all i bytes le)) ∙ so_far.same

  message_of_zeros : (bytes : List ℕ) → message_of (replicate (length bytes) 0) ≡ zeros (length (message_of bytes))
  unfolding message_of
  message_of_zeros [] = refl
  message_of_zeros (byte ∷ bytes) =
      let one : order (low_bits 8 0) ≡ zeros 8 = ap order (low_bits_of_zero 8) ∙ is_order.none 8 in
      let len : length (order (low_bits 8 byte)) ≡ 8 = is_order.len (low_bits 8 byte) ∙ length-low_bits 8 byte in
      let total : 8 + length (message_of bytes) ≡ length (order (low_bits 8 byte) ++ message_of bytes) = ap (λ n. n + length (message_of bytes)) (sym len) ∙ sym (length-append (order (low_bits 8 byte)) (message_of bytes)) in
      ap (λ bits. bits ++ message_of (replicate (length bytes) 0)) one
      ∙ ap (λ bits. zeros 8 ++ bits) (message_of_zeros bytes)
      ∙ replicate-append-replicate 8 (length (message_of bytes)) false
      ∙ ap zeros total

  -- the first byte counts as itself with the register's first, before zeros; the register that is left takes the others
  pub crc_of_first : (register first next byte : ℕ) (bytes : List ℕ) → IsCut order width register first next
      → crc_of order width divisor register (byte ∷ bytes)
      ≡ bit_xor (crc_of order width divisor 0 (bit_xor first byte ∷ replicate (length bytes) 0)) (crc_of order width divisor next bytes)
  unfolding message_of coefficients left
  crc_of_first register first next byte bytes cut =
      let d = low_bits width divisor in
      let x = order (low_bits 8 byte) in
      let s = order (low_bits 8 first) in
      let y = message_of bytes in
      let len_x : length x ≡ 8 = is_order.len (low_bits 8 byte) ∙ length-low_bits 8 byte in
      let len_s : length s ≡ 8 = is_order.len (low_bits 8 first) ∙ length-low_bits 8 first in
      let whole : length (s ++ cut.rest) ≡ length d = ap length (sym cut.whole) ∙ start_len register in
      let nothing : zeros (length d) ≡ coefficients 0 = ap zeros (length-low_bits width divisor) ∙ sym (is_order.none width) ∙ ap order (sym (low_bits_of_zero width)) in
      let xored : added s x ≡ order (low_bits 8 (bit_xor first byte)) =
      sym (is_order.sum (low_bits 8 first) (low_bits 8 byte) (length-low_bits 8 first ∙ sym (length-low_bits 8 byte))) ∙ ap order (sym (low_bits-xor 8 first byte)) in
      let message : added s x ++ zeros (length y) ≡ message_of (bit_xor first byte ∷ replicate (length bytes) 0) =
      ap (λ bits. bits ++ zeros (length y)) xored ∙ ap (λ bits. order (low_bits 8 (bit_xor first byte)) ++ bits) (sym (message_of_zeros bytes)) in
      let later : cut.rest ++ zeros (length s) ≡ coefficients next = ap (λ n. cut.rest ++ zeros n) len_s ∙ sym cut.shifted in
      let single = left 0 (bit_xor first byte ∷ replicate (length bytes) 0) in
      let same : left register (byte ∷ bytes) ≡ added single (left next bytes) =
      ap (λ bits. remainder_of d bits (x ++ y)) cut.whole
      ∙ remainder_of_first d s cut.rest x y (len_s ∙ sym len_x) whole
      ∙ ap (λ bits. added (remainder_of d bits (added s x ++ zeros (length y))) (remainder_of d (cut.rest ++ zeros (length s)) y)) nothing
      ∙ ap (λ bits. added (remainder_of d (coefficients 0) bits) (remainder_of d (cut.rest ++ zeros (length s)) y)) message
      ∙ ap (λ bits. added single (remainder_of d bits y)) later in
      let lens : length single ≡ length (left next bytes) = length-left 0 (bit_xor first byte ∷ replicate (length bytes) 0) ∙ sym (length-left next bytes) in
      let lens' : length (order single) ≡ length (order (left next bytes)) = is_order.len single ∙ lens ∙ sym (is_order.len (left next bytes)) in
      crc_is register (byte ∷ bytes)
      ∙ ap (λ bits. number_of (order bits)) same
      ∙ ap number_of (is_order.sum single (left next bytes) lens)
      ∙ number_of-added (order single) (order (left next bytes)) lens'
      ∙ ap (λ n. bit_xor n (number_of (order (left next bytes)))) (sym (crc_is 0 (bit_xor first byte ∷ replicate (length bytes) 0)))
      ∙ ap (bit_xor (crc_of order width divisor 0 (bit_xor first byte ∷ replicate (length bytes) 0))) (sym (crc_is next bytes))
