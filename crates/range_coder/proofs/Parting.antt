-- Two numbers of a symbol part: they are the same as far as some place, and differ in the bit there.
use Rattle.std.proofs.Common.{◌≡◌, ◌≢◌, ℕ, zero, suc, ◌+◌, ◌-◌, ◌*◌, ◌/◌, ◌%◌, ◌^◌, ◌<◌, ◌≤◌, List, [], ◌∷◌, ◌++◌, Bool, true, false, eqb, refl, sym, ap, ◌∙◌, subst, arith, append_assoc, inl, inr}
use Rattle.std.proofs.lemmas.List.{append-nil, map-append}
use Rattle.std.proofs.lemmas.Bool.{cases_eq, cases_order, eq-eqb, ne_eqb}
use Rattle.range_coder.specs.Choices.{Choice, moved, Part}
use Rattle.range_coder.specs.Symbol.{choice, exponent_of, exponent_slot, bit_slot, sign_slot, ones, low_bits, exponent_choices, sign_choices, number_choices, symbol_choices, overlong_choices, IsCodable}
use Rattle.range_coder.proofs.Exponents.{symbol_of_number, symbol_of_zero, exponent_bounds, exponent_within, pos_sign, neg_sign}
use Rattle.std.specs.Prelude.{ℤ, pos, negsuc, unsigned_abs}
use Rattle.std.specs.Int.{is_negative, bit_at}
use Rattle.std.proofs.lemmas.Int.{ints}
use Rattle.std.proofs.Math.Nat.{pow-suc, div-div-eq-div-mul, div-one, div-eq_of_lt-le, mod-lt}

-- what parts goes on to part, whatever follows
pub part_before : (left right left_more right_more : List Choice) → Part left right → Part (left ++ left_more) (right ++ right_more)
part_before left right left_more right_more p =
    let l : Choice = record { slot = p.slot; bit = p.left_bit } in
    let r : Choice = record { slot = p.slot; bit = p.right_bit } in
    record {
      common = p.common;
      slot = p.slot;
      left_bit = p.left_bit;
      right_bit = p.right_bit;
      left_rest = p.left_rest ++ left_more;
      right_rest = p.right_rest ++ right_more;
      left_is = ap (λ (cs : List Choice). cs ++ left_more) p.left_is ∙ append_assoc p.common (l ∷ p.left_rest) left_more;
      right_is = ap (λ (cs : List Choice). cs ++ right_more) p.right_is ∙ append_assoc p.common (r ∷ p.right_rest) right_more;
      differ = p.differ;
    }

-- and whatever came before
pub part_behind : (front left right : List Choice) → Part left right → Part (front ++ left) (front ++ right)
part_behind front left right p =
    let l : Choice = record { slot = p.slot; bit = p.left_bit } in
    let r : Choice = record { slot = p.slot; bit = p.right_bit } in
    record {
      common = front ++ p.common;
      slot = p.slot;
      left_bit = p.left_bit;
      right_bit = p.right_bit;
      left_rest = p.left_rest;
      right_rest = p.right_rest;
      left_is = ap (λ (cs : List Choice). front ++ cs) p.left_is ∙ sym (append_assoc front p.common (l ∷ p.left_rest));
      right_is = ap (λ (cs : List Choice). front ++ cs) p.right_is ∙ sym (append_assoc front p.common (r ∷ p.right_rest));
      differ = p.differ;
    }

-- and the other way round
pub part_turned : (left right : List Choice) → Part left right → Part right left
part_turned left right p = record {
  common = p.common;
  slot = p.slot;
  left_bit = p.right_bit;
  right_bit = p.left_bit;
  left_rest = p.right_rest;
  right_rest = p.left_rest;
  left_is = p.right_is;
  right_is = p.left_is;
  differ = λ e. p.differ (sym e);
}

-- in a set whose slots are numbered from `first` on too
pub part_moved : (first : ℕ) (left right : List Choice) → Part left right → Part (moved first left) (moved first right)
part_moved first left right p =
    let place : Choice → Choice = λ c. record { slot = first + c.slot; bit = c.bit } in
    let l : Choice = record { slot = p.slot; bit = p.left_bit } in
    let r : Choice = record { slot = p.slot; bit = p.right_bit } in
    record {
      common = moved first p.common;
      slot = first + p.slot;
      left_bit = p.left_bit;
      right_bit = p.right_bit;
      left_rest = moved first p.left_rest;
      right_rest = moved first p.right_rest;
      left_is = ap (moved first) p.left_is ∙ map-append place p.common (l ∷ p.left_rest);
      right_is = ap (moved first) p.right_is ∙ map-append place p.common (r ∷ p.right_rest);
      differ = p.differ;
    }

pub part_now : (slot : ℕ) (left_bit right_bit : Bool) (left_rest right_rest : List Choice) → left_bit ≢ right_bit → Part (choice slot left_bit ∷ left_rest) (choice slot right_bit ∷ right_rest)
part_now slot left_bit right_bit left_rest right_rest differ = record {
  common = [];
  slot = slot;
  left_bit = left_bit;
  right_bit = right_bit;
  left_rest = left_rest;
  right_rest = right_rest;
  left_is = refl;
  right_is = refl;
  differ = differ;
}

-- ones are the ones before, and one
ones_split : (k more : ℕ) → (rest : List Choice) × (ones (k + 1 + more) ≡ ones k ++ choice (exponent_slot k) true ∷ rest)
unfolding ones
ones_split k zero =
    let e : k + 1 + 0 ≡ suc k = omega arith in
    ([], rw e refl)
ones_split k (suc more) =
    let before = ones_split k more in
    let c : Choice = choice (exponent_slot (k + 1 + more)) true in
    let e : k + 1 + suc more ≡ suc (k + 1 + more) = omega arith in
    (before.0 ++ c ∷ [], rw e (ap (λ (cs : List Choice). cs ++ c ∷ []) before.1 ∙ append_assoc (ones k) (choice (exponent_slot k) true ∷ before.0) (c ∷ [])))

-- a smaller exponent parts from more ones
pub exponent_from_ones : (k n : ℕ) (left_more right_more : List Choice) → k < n → Part (exponent_choices k ++ left_more) (ones n ++ right_more)
exponent_from_ones k n left_more right_more below =
    let e : k + 1 + (n - (k + 1)) ≡ n = omega arith in
    let split = ones_split k (n - (k + 1)) in
    let is : ones n ≡ ones k ++ choice (exponent_slot k) true ∷ split.0 = ap ones (sym e) ∙ split.1 in
    let differ : false ≢ true = λ same. cc in
    let apart : Part (exponent_choices k) (ones k ++ choice (exponent_slot k) true ∷ split.0) = part_behind (ones k) (choice (exponent_slot k) false ∷ []) (choice (exponent_slot k) true ∷ split.0) (part_now (exponent_slot k) false true [] split.0 differ) in
    let apart' : Part (exponent_choices k) (ones n) = subst (λ (cs : List Choice). Part (exponent_choices k) cs) (sym is) apart in
    part_before (exponent_choices k) (ones n) left_more right_more apart'

pub exponents_part : (k n : ℕ) (left_more right_more : List Choice) → k < n → Part (exponent_choices k ++ left_more) (exponent_choices n ++ right_more)
exponents_part k n left_more right_more below =
    let last : List Choice = choice (exponent_slot n) false ∷ [] in
    subst (λ (cs : List Choice). Part (exponent_choices k ++ left_more) cs) (sym (append_assoc (ones n) (choice (exponent_slot n) false ∷ []) right_more))
    (exponent_from_ones k n left_more ((choice (exponent_slot n) false ∷ []) ++ right_more) below)

-- two magnitudes that are the same above some bits part in these
bits_differ : (a b : ℕ) → a < 2 → b < 2 → a ≢ b → eqb a 1 ≢ eqb b 1
bits_differ a b small small' ne same = elim (cases_eq a 1) [
  | inl is ↦
      let yes : eqb a 1 ≡ true = eq-eqb a 1 is in
      let no : eqb b 1 ≡ false = ne_eqb b 1 (λ (e : b ≡ 1). ne (is ∙ sym e)) in
      let bad : true ≡ false = sym yes ∙ same ∙ no in
      cc
  | inr isnt ↦
      let no : eqb a 1 ≡ false = ne_eqb a 1 isnt in
      let one : b ≡ 1 = omega arith in
      let yes : eqb b 1 ≡ true = eq-eqb b 1 one in
      let bad : false ≡ true = sym no ∙ same ∙ yes in
      cc
]

halved : (m k : ℕ) → m / 2 ^ suc k ≡ m / 2 ^ k / 2
halved m k = ap (λ (d : ℕ). m / d) (pow-suc 2 k) ∙ sym (div-div-eq-div-mul m (2 ^ k) 2)

pub low_bits_part : (e m n : ℕ) → m / 2 ^ e ≡ n / 2 ^ e → m ≢ n → Part (low_bits e m) (low_bits e n)
unfolding low_bits
low_bits_part zero m n same ne =
    let l : m / 2 ^ 0 ≡ m = div-one m in
    let r : n / 2 ^ 0 ≡ n = div-one n in
    absurd (ne (sym l ∙ same ∙ r))
low_bits_part (suc k) m n same ne =
    let l : m / 2 ^ suc k ≡ m / 2 ^ k / 2 = halved m k in
    let r : n / 2 ^ suc k ≡ n / 2 ^ k / 2 = halved n k in
    let halves : m / 2 ^ k / 2 ≡ n / 2 ^ k / 2 = sym l ∙ same ∙ r in
    elim (cases_eq (bit_at m k) (bit_at n k)) [
      | inl bit ↦
          let b : m / 2 ^ k % 2 ≡ n / 2 ^ k % 2 = bit in
          let more : m / 2 ^ k ≡ n / 2 ^ k = omega arith in
          let rest = low_bits_part k m n more ne in
          let c : Choice = choice (bit_slot k) (eqb (bit_at m k) 1) in
          let head : choice (bit_slot k) (eqb (bit_at m k) 1) ∷ low_bits k n ≡ choice (bit_slot k) (eqb (bit_at n k) 1) ∷ low_bits k n = ap (λ (x : ℕ). choice (bit_slot k) (eqb x 1) ∷ low_bits k n) bit in
          subst (λ (cs : List Choice). Part (choice (bit_slot k) (eqb (bit_at m k) 1) ∷ low_bits k m) cs) head (part_behind (c ∷ []) (low_bits k m) (low_bits k n) rest)
      | inr differ ↦
          part_now (bit_slot k) (eqb (bit_at m k) 1) (eqb (bit_at n k) 1) (low_bits k m) (low_bits k n)
          (bits_differ (bit_at m k) (bit_at n k) (mod-lt (m / 2 ^ k) {m = 2} (omega arith)) (mod-lt (n / 2 ^ k) {m = 2} (omega arith)) differ)
    ]

-- numbers of two exponents, of one exponent and two magnitudes, of one magnitude and two signs
numbers_part_early : (k n m m' : ℕ) (neg neg' signed : Bool) → k < n → Part (number_choices k m neg signed) (number_choices n m' neg' signed)
numbers_part_early k n m m' neg neg' signed below =
    let some : List Choice = choice 0 false ∷ [] in
    let apart : Part (exponent_choices k ++ []) (exponent_choices n ++ []) = exponents_part k n [] [] below in
    let apart' : Part (exponent_choices k) (exponent_choices n) = rw (append-nil (exponent_choices k), append-nil (exponent_choices n)) at apart in
    part_before (some ++ exponent_choices k ++ low_bits k m) (some ++ exponent_choices n ++ low_bits n m') (sign_choices signed k neg) (sign_choices signed n neg')
    (part_before (some ++ exponent_choices k) (some ++ exponent_choices n) (low_bits k m) (low_bits n m')
    (part_behind some (exponent_choices k) (exponent_choices n) apart'))

numbers_part_within : (e m m' : ℕ) (neg neg' signed : Bool) → m / 2 ^ e ≡ m' / 2 ^ e → m ≢ m' → Part (number_choices e m neg signed) (number_choices e m' neg' signed)
numbers_part_within e m m' neg neg' signed same ne =
    let some : List Choice = choice 0 false ∷ [] in
    part_before (some ++ exponent_choices e ++ low_bits e m) (some ++ exponent_choices e ++ low_bits e m') (sign_choices signed e neg) (sign_choices signed e neg')
    (part_behind (some ++ exponent_choices e) (low_bits e m) (low_bits e m') (low_bits_part e m m' same ne))

numbers_part_late : (e m : ℕ) (neg neg' : Bool) → neg ≢ neg' → Part (number_choices e m neg true) (number_choices e m neg' true)
numbers_part_late e m neg neg' ne =
    let some : List Choice = choice 0 false ∷ [] in
    part_behind (some ++ exponent_choices e ++ low_bits e m) (sign_choices true e neg) (sign_choices true e neg') (part_now (sign_slot e) neg neg' [] [] ne)

-- a number that isn't 0, by its exponent's bounds
one_above : (m e : ℕ) → 2 ^ e ≤ m → m < 2 * 2 ^ e → m / 2 ^ e ≡ 1
one_above m e low high = div-eq_of_lt-le {k = 1} (2 ^ e) {m = m} (omega arith) (omega arith)

pub record IsNumber (value : ℤ) (signed negative : Bool) (magnitude e : ℕ) : Type 0 where
  pub choices : symbol_choices value signed ≡ number_choices e magnitude negative signed
  pub low : 2 ^ e ≤ magnitude
  pub high : magnitude < 2 * 2 ^ e
  pub magnitude_is : unsigned_abs value ≡ magnitude
  pub sign_is : is_negative value ≡ negative

pub is_number : (value : ℤ) (signed : Bool) → unsigned_abs value ≢ 0 → unsigned_abs value < 2 ^ 31 → IsNumber value signed (is_negative value) (unsigned_abs value) (exponent_of (unsigned_abs value))
is_number value signed ne high =
    let some : 0 < unsigned_abs value = omega arith in
    let bounds = exponent_bounds 31 (unsigned_abs value) some (omega arith) in
    record {
      choices = symbol_of_number value signed (is_negative value) (unsigned_abs value) refl refl some;
      low = bounds.0;
      high = bounds.1;
      magnitude_is = refl;
      sign_is = refl;
    }

-- a value by its magnitude and sign
same_value : (left right : ℤ) → unsigned_abs left ≡ unsigned_abs right → is_negative left ≡ is_negative right → left ≡ right
same_value (pos m) (pos n) is sign = ap pos is
same_value (negsuc m) (negsuc n) is sign = let e : m ≡ n = omega arith in ap negsuc e
same_value (pos m) (negsuc n) is sign =
    let no : is_negative (pos m) ≡ false = pos_sign m in
    let yes : is_negative (negsuc n) ≡ true = neg_sign n in
    let bad : false ≡ true = sym no ∙ sign ∙ yes in
    cc
same_value (negsuc m) (pos n) is sign =
    let no : is_negative (pos n) ≡ false = pos_sign n in
    let yes : is_negative (negsuc m) ≡ true = neg_sign m in
    let bad : true ≡ false = sym yes ∙ sign ∙ no in
    cc

same_zero : (left right : ℤ) → unsigned_abs left ≡ 0 → unsigned_abs right ≡ 0 → left ≡ right
same_zero (pos m) (pos n) is is' = let e : m ≡ n = omega arith in ap pos e
same_zero (negsuc m) right is is' = absurd (omega arith)
same_zero (pos m) (negsuc n) is is' = absurd (omega arith)

codable_high : (value : ℤ) (signed : Bool) → IsCodable value signed → unsigned_abs value < 2 ^ 31
codable_high value true c = c
codable_high value false c = c.1

unsigned_sign : (value : ℤ) → IsCodable value false → is_negative value ≡ false
unsigned_sign (pos n) c = pos_sign n
unsigned_sign (negsuc n) c = let h = c.0 in absurd (omega (arith, ints, h))

codable_signs : (left right : ℤ) (signed : Bool) → IsCodable left signed → IsCodable right signed → signed ≡ false → is_negative left ≡ is_negative right
codable_signs left right true l r h = let bad : true ≡ false = h in cc
codable_signs left right false l r h = unsigned_sign left l ∙ sym (unsigned_sign right r)

grouped : (a b c d : List Choice) → a ++ b ++ c ++ d ≡ a ++ (b ++ (c ++ d))
grouped a b c d = append_assoc (a ++ b) c d ∙ append_assoc a b (c ++ d)

number_from_overlong : (value : ℤ) (signed : Bool) → IsNumber value signed (is_negative value) (unsigned_abs value) (exponent_of (unsigned_abs value)) → unsigned_abs value < 2 ^ 31 → Part (symbol_choices value signed) ((choice 0 false ∷ []) ++ ones 31)
number_from_overlong value signed n high =
    let e : ℕ = exponent_of (unsigned_abs value) in
    let m : ℕ = unsigned_abs value in
    let some : List Choice = choice 0 false ∷ [] in
    let low : 2 ^ exponent_of (unsigned_abs value) ≤ unsigned_abs value = n.low in
    let within : exponent_of (unsigned_abs value) < 31 = exponent_within (exponent_of (unsigned_abs value)) (unsigned_abs value) low high in
    let apart : Part (exponent_choices e ++ (low_bits e m ++ sign_choices signed e (is_negative value))) (ones 31 ++ []) = exponent_from_ones e 31 (low_bits e m ++ sign_choices signed e (is_negative value)) [] within in
    let behind = part_behind some (exponent_choices e ++ (low_bits e m ++ sign_choices signed e (is_negative value))) (ones 31 ++ []) apart in
    let whole : symbol_choices value signed ≡ some ++ (exponent_choices e ++ (low_bits e m ++ sign_choices signed e (is_negative value))) = n.choices ∙ grouped some (exponent_choices e) (low_bits e m) (sign_choices signed e (is_negative value)) in
    let right : some ++ (ones 31 ++ []) ≡ some ++ ones 31 = ap (λ (cs : List Choice). some ++ cs) (append-nil (ones 31)) in
    subst (λ (cs : List Choice). Part cs ((choice 0 false ∷ []) ++ ones 31)) (sym whole) (subst (λ (cs : List Choice). Part (some ++ (exponent_choices e ++ (low_bits e m ++ sign_choices signed e (is_negative value)))) cs) right behind)

numbers_part_sign : (left right : ℤ) (signed neg neg' : Bool) (m m' e : ℕ) → (signed ≡ false → neg ≡ neg') → left ≢ right → unsigned_abs left ≡ m → unsigned_abs right ≡ m' → is_negative left ≡ neg → is_negative right ≡ neg' → m ≡ m' → Part (number_choices e m neg signed) (number_choices e m' neg' signed)
numbers_part_sign left right true neg neg' m m' e unsigned ne is is' sign sign' one =
    let differ : neg ≢ neg' = λ same. ne (same_value left right (is ∙ one ∙ sym is') (sign ∙ same ∙ sym sign')) in
    subst (λ (n : ℕ). Part (number_choices e m neg true) (number_choices e n neg' true)) one (numbers_part_late e m neg neg' differ)
numbers_part_sign left right false neg neg' m m' e unsigned ne is is' sign sign' one =
    absurd (ne (same_value left right (is ∙ one ∙ sym is') (sign ∙ unsigned refl ∙ sym sign')))

numbers_part_at : (left right : ℤ) (signed neg neg' : Bool) (m m' e e' : ℕ) → IsNumber left signed neg m e → IsNumber right signed neg' m' e' → (signed ≡ false → neg ≡ neg') → left ≢ right → e ≡ e' → Part (number_choices e m neg signed) (number_choices e' m' neg' signed)
numbers_part_at left right signed neg neg' m m' e e' l r unsigned ne same =
    let above : m / 2 ^ e ≡ 1 = one_above m e l.low l.high in
    let above' : m' / 2 ^ e' ≡ 1 = one_above m' e' r.low r.high in
    let above'' : m' / 2 ^ e ≡ 1 = ap (λ (n : ℕ). m' / 2 ^ n) same ∙ above' in
    let at : Part (number_choices e m neg signed) (number_choices e m' neg' signed) =
    elim (cases_eq m m') [
      | inl one ↦ numbers_part_sign left right signed neg neg' m m' e unsigned ne (l.magnitude_is) (r.magnitude_is) l.sign_is r.sign_is one
      | inr two ↦ numbers_part_within e m m' neg neg' signed (above ∙ sym above'') two
    ] in
    subst (λ (n : ℕ). Part (number_choices e m neg signed) (number_choices n m' neg' signed)) same at

numbers_part : (left right : ℤ) (signed neg neg' : Bool) (m m' e e' : ℕ) → IsNumber left signed neg m e → IsNumber right signed neg' m' e' → (signed ≡ false → neg ≡ neg') → left ≢ right → Part (symbol_choices left signed) (symbol_choices right signed)
numbers_part left right signed neg neg' m m' e e' l r unsigned ne =
    let P : List Choice → List Choice → Type 0 = λ a b. Part a b in
    let goal : Part (number_choices e m neg signed) (number_choices e' m' neg' signed) =
    elim (cases_order e e') [
      | inl same ↦ numbers_part_at left right signed neg neg' m m' e e' l r unsigned ne same
      | inr apart ↦ elim apart [
        | inl below ↦ numbers_part_early e e' m m' neg neg' signed below
        | inr above ↦ part_turned (number_choices e' m' neg' signed) (number_choices e m neg signed) (numbers_part_early e' e m' m neg' neg signed above)
      ]
    ] in
    rw (l.choices, r.choices) goal

zeros_part : (value : ℤ) (signed : Bool) (zero' : ℤ) → unsigned_abs zero' ≡ 0 → unsigned_abs value ≢ 0 → Part (symbol_choices value signed) (symbol_choices zero' signed)
zeros_part value signed zero' none ne =
    let some : 0 < unsigned_abs value = omega arith in
    let differ : false ≢ true = λ same. cc in
    rw (symbol_of_zero zero' signed none, symbol_of_number value signed (is_negative value) (unsigned_abs value) refl refl some)
    (part_now 0 false true (exponent_choices (exponent_of (unsigned_abs value)) ++ low_bits (exponent_of (unsigned_abs value)) (unsigned_abs value) ++ sign_choices signed (exponent_of (unsigned_abs value)) (is_negative value)) [] differ)

-- the values of a symbol part
pub values_part : (signed : Bool) (left right : ℤ) → IsCodable left signed → IsCodable right signed → left ≢ right → Part (symbol_choices left signed) (symbol_choices right signed)
values_part signed left right l r ne = elim (cases_eq (unsigned_abs left) 0) [
  | inl none ↦ elim (cases_eq (unsigned_abs right) 0) [
    | inl none' ↦ absurd (ne (same_zero left right none none'))
    | inr some' ↦ part_turned (symbol_choices right signed) (symbol_choices left signed) (zeros_part right signed left none some')
  ]
  | inr some ↦ elim (cases_eq (unsigned_abs right) 0) [
    | inl none' ↦ zeros_part left signed right none' some
    | inr some' ↦
        numbers_part left right signed (is_negative left) (is_negative right) (unsigned_abs left) (unsigned_abs right) (exponent_of (unsigned_abs left)) (exponent_of (unsigned_abs right))
        (is_number left signed some (codable_high left signed l)) (is_number right signed some' (codable_high right signed r)) (codable_signs left right signed l r) ne
  ]
]

-- the laws
pub symbols_part : (first : ℕ) (signed : Bool) (left right : ℤ) (common left_rest right_rest : List Choice) → IsCodable left signed → IsCodable right signed → left ≢ right → Part (common ++ (moved first (symbol_choices left signed) ++ left_rest)) (common ++ (moved first (symbol_choices right signed) ++ right_rest))
symbols_part first signed left right common left_rest right_rest l r ne =
    part_behind common (moved first (symbol_choices left signed) ++ left_rest) (moved first (symbol_choices right signed) ++ right_rest)
    (part_before (moved first (symbol_choices left signed)) (moved first (symbol_choices right signed)) left_rest right_rest
    (part_moved first (symbol_choices left signed) (symbol_choices right signed) (values_part signed left right l r ne)))

overlong_from : (value : ℤ) (signed : Bool) → IsCodable value signed → Part (symbol_choices value signed) overlong_choices
unfolding overlong_choices
overlong_from value signed c = elim (cases_eq (unsigned_abs value) 0) [
  | inl none ↦ (let differ : true ≢ false = λ same. cc in rw (symbol_of_zero value signed none) (part_now 0 true false [] (ones 31) differ))
  | inr some ↦ number_from_overlong value signed (is_number value signed some (codable_high value signed c)) (codable_high value signed c)
]

pub overlong_parts : (first : ℕ) (signed : Bool) (value : ℤ) (common left_rest right_rest : List Choice) → IsCodable value signed → Part (common ++ (moved first (symbol_choices value signed) ++ left_rest)) (common ++ (moved first overlong_choices ++ right_rest))
overlong_parts first signed value common left_rest right_rest c =
    part_behind common (moved first (symbol_choices value signed) ++ left_rest) (moved first overlong_choices ++ right_rest)
    (part_before (moved first (symbol_choices value signed)) (moved first overlong_choices) left_rest right_rest
    (part_moved first (symbol_choices value signed) overlong_choices (overlong_from value signed c)))
