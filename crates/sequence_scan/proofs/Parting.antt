-- Where the number of a name stands, by places.
use Rattle.std.proofs.Common.{◌≡◌, ℕ, ◌+◌, ◌-◌, ◌<◌, ◌≤◌, Bool, true, false, ◌&&◌, nat_le, List, ◌++◌, length, get_or, take, drop, refl, sym, ap, ◌∙◌, subst, inl, inr, arith}
use Rattle.std.specs.List.{suffix_len, AllPass}
use Rattle.std.proofs.Math.Seq.{take-add}
use Rattle.std.proofs.lemmas.Bool.{and_parts, cases_lt}
use Rattle.std.proofs.lemmas.Bool.Decides.{nat_tests}
use Rattle.std.proofs.lemmas.List.{get_or-take, get_or-drop, get_or_default, length-take-le, length-drop, drop-drop, drop-take, take-take, take-append-drop, drop-append-le}
use Rattle.std.proofs.lemmas.List.Sums.{suffix_len_is, suffix_len-le-length}
use Rattle.sequence_scan.specs.Numbers.{is_digit, is_no_digit, is_no_slash, end_where, front_where, stem_of, ending_of, base_of, folder_of, to_last_digit, digits_of, before_of, after_of, is_numbered}
use Rattle.sequence_scan.specs.Scanning.{is_tail}
use Rattle.sequence_scan.proofs.Ends.{end_passes, end_stops}

-- the number stands between two places
pub record StandsBetween (name : List ℕ) (start end : ℕ) : Type 0 where
  pub rising : start ≤ end
  pub within : end ≤ length name
  pub digits : digits_of name ≡ take (end - start) (drop start name)
  pub before : before_of name ≡ take start name
  pub after : after_of name ≡ drop end name
  pub count : length (digits_of name) ≡ end - start
  pub all : AllPass is_digit (digits_of name)

-- a byte that ends what follows a number is a slash or a digit
digit_or_slash : (byte : ℕ) → is_tail byte ≡ false → is_no_slash byte ≡ true → is_no_digit byte ≡ false
digit_or_slash byte neither here = by (is_no_slash byte) (is_no_digit byte) neither here
  where
    by : (a b : Bool) → (a && b) ≡ false → a ≡ true → b ≡ false
    by true b e f = e
    by false b e f = absurd (cc)

-- a digit is no slash
digit_within : (byte : ℕ) → is_digit byte ≡ true → is_no_slash byte ≡ true
digit_within byte h = grind (arith, nat_tests)

module _ (s : List ℕ) (c a e : ℕ)
    (to_number : length s - suffix_len is_tail s ≡ e)
    (to_base : length s - suffix_len is_no_slash s ≡ a)
    (as_many : suffix_len is_digit (take e s) ≡ c) where
  t_le : suffix_len is_tail s ≤ length s
  t_le = suffix_len-le-length is_tail s

  k_le : suffix_len is_no_slash s ≤ length s
  k_le = suffix_len-le-length is_no_slash s

  e_long : length (take e s) ≡ e
  e_long = length-take-le e s (omega (arith, t_le))

  c_le : c ≤ e
  c_le = omega (arith, suffix_len-le-length is_digit (take e s), e_long)

  tail_at : (k : ℕ) → k < length s → e ≤ k → (is_no_slash (get_or s k 0) ≡ true) × (is_no_digit (get_or s k 0) ≡ true)
  tail_at k lt within = and_parts _ _ (end_passes is_tail s k 0 lt (omega (arith, t_le)))

  digit_at : (k : ℕ) → k < e → e ≤ k + c → is_digit (get_or s k 0) ≡ true
  digit_at k lt within = subst (λ x. is_digit x ≡ true) (get_or-take e s k 0 lt) (end_passes is_digit (take e s) k 0 (omega (arith, e_long)) (omega (arith, e_long)))

  -- the base begins with a slash before it, or with the name
  slash_before : 0 < a → is_no_slash (get_or s (a - 1) 0) ≡ false
  slash_before some =
      let here : length s - suffix_len is_no_slash s - 1 ≡ a - 1 = omega arith in
      subst (λ k. is_no_slash (get_or s k 0) ≡ false) here (end_stops is_no_slash s 0 (omega arith))

  in_base : (k : ℕ) → k < length s → a ≤ k → is_no_slash (get_or s k 0) ≡ true
  in_base k lt within = end_passes is_no_slash s k 0 lt (omega (arith, k_le))

  never : (byte : ℕ) → is_no_slash byte ≡ true → is_no_slash byte ≡ false → ⊥
  never byte p q = absurd (let e : true ≡ false = sym p ∙ q in cc)

  -- so neither what follows the number nor the number reaches past the base
  a_le_e : a ≤ e
  a_le_e = elim (cases_lt e a) [
    | inl lt ↦ absurd (never _ (tail_at (a - 1) (omega (arith, k_le)) (omega arith)).0 (slash_before (omega arith)))
    | inr le ↦ le
  ]

  number_in_base : a + c ≤ e
  number_in_base = elim (cases_lt e (a + c)) [
    | inl lt ↦ elim (cases_lt 0 a) [
      | inl some ↦ absurd (never _ (digit_within _ (digit_at (a - 1) (omega (arith, a_le_e)) (omega arith))) (slash_before some))
      | inr none ↦ omega (arith, c_le)
    ]
    | inr le ↦ le
  ]

  -- so what is read from the end of the base is what is read from the end of the stem
  base_at : (k : ℕ) → get_or (drop a s) k 0 ≡ get_or s (a + k) 0
  base_at k = get_or-drop a s k 0

  base_long : length (drop a s) ≡ length s - a
  base_long = length-drop a s

  tail_in_base : suffix_len is_no_digit (drop a s) ≡ length s - e
  tail_in_base =
      suffix_len_is is_no_digit (drop a s) (e - a) 0 (omega (arith, base_long, a_le_e))
      (λ k from below. rw (base_at k) (tail_at (a + k) (omega (arith, base_long)) (omega (arith, a_le_e))).1)
      (λ some.
      let here : a + (e - a - 1) ≡ e - 1 = omega arith in
      let there : get_or (drop a s) (e - a - 1) 0 ≡ get_or s (e - 1) 0 = base_at (e - a - 1) ∙ ap (λ n. get_or s n 0) here in
      rw there (by_end (omega arith)))
      ∙ omega (arith, base_long, a_le_e)
    where
      by_end : a < e → is_no_digit (get_or s (e - 1) 0) ≡ false
      by_end some =
          let here : length s - suffix_len is_tail s - 1 ≡ e - 1 = omega arith in
          let neither : is_tail (get_or s (e - 1) 0) ≡ false = subst (λ k. is_tail (get_or s k 0) ≡ false) here (end_stops is_tail s 0 (omega (arith, t_le))) in
          digit_or_slash _ neither (in_base (e - 1) (omega (arith, t_le)) (omega arith))

  -- the base up to its last digit
  part_long : length (take (e - a) (drop a s)) ≡ e - a
  part_long = length-take-le (e - a) (drop a s) (omega (arith, base_long, a_le_e, t_le))

  part_at : (k : ℕ) → k < e - a → get_or (take (e - a) (drop a s)) k 0 ≡ get_or s (a + k) 0
  part_at k lt = get_or-take (e - a) (drop a s) k 0 lt ∙ base_at k

  digits_in_part : suffix_len is_digit (take (e - a) (drop a s)) ≡ c
  digits_in_part =
      suffix_len_is is_digit (take (e - a) (drop a s)) (e - a - c) 0 (omega (arith, part_long))
      (λ k from below. rw (part_at k (omega (arith, part_long))) (digit_at (a + k) (omega (arith, part_long, a_le_e)) (omega (arith, number_in_base))))
      (λ some.
      let here : a + (e - a - c - 1) ≡ e - c - 1 = omega (arith, number_in_base) in
      let there : get_or (take (e - a) (drop a s)) (e - a - c - 1) 0 ≡ get_or s (e - c - 1) 0 = part_at (e - a - c - 1) (omega arith) ∙ ap (λ n. get_or s n 0) here in
      rw there (no_more (omega arith)))
      ∙ omega (arith, part_long, number_in_base)
    where
      no_more : 0 < e - c → is_digit (get_or s (e - c - 1) 0) ≡ false
      no_more some =
          let here : length (take e s) - suffix_len is_digit (take e s) - 1 ≡ e - c - 1 = omega (arith, e_long) in
          let fails : is_digit (get_or (take e s) (e - c - 1) 0) ≡ false = subst (λ k. is_digit (get_or (take e s) k 0) ≡ false) here (end_stops is_digit (take e s) 0 (omega (arith, e_long))) in
          subst (λ x. is_digit x ≡ false) (get_or-take e s (e - c - 1) 0 (omega (arith, c_le))) fails

  -- the parts, cut at places
  cut_base : end_where is_no_slash s ≡ drop a s
  cut_base = ap (λ n. drop n s) to_base

  cut_folder : front_where is_no_slash s ≡ take a s
  cut_folder = ap (λ n. take n s) to_base

  cut_part : front_where is_no_digit (drop a s) ≡ take (e - a) (drop a s)
  cut_part = let n : length (drop a s) - suffix_len is_no_digit (drop a s) ≡ e - a = omega (arith, tail_in_base, base_long, a_le_e) in ap (λ n. take n (drop a s)) n

  cut_tail : end_where is_no_digit (drop a s) ≡ drop e s
  cut_tail =
      let n : length (drop a s) - suffix_len is_no_digit (drop a s) ≡ e - a = omega (arith, tail_in_base, base_long, a_le_e) in
      let there : a + (e - a) ≡ e = omega (arith, a_le_e) in
      ap (λ n. drop n (drop a s)) n ∙ drop-drop (e - a) a s ∙ ap (λ n. drop n s) there

  digits_from : length (take (e - a) (drop a s)) - suffix_len is_digit (take (e - a) (drop a s)) ≡ e - a - c
  digits_from = omega (arith, digits_in_part, part_long)

  cut_digits : end_where is_digit (take (e - a) (drop a s)) ≡ take c (drop (e - c) s)
  cut_digits =
      let parts : e - a ≡ e - a - c + c = omega (arith, number_in_base) in
      let there : a + (e - a - c) ≡ e - c = omega (arith, number_in_base) in
      ap (λ n. drop n (take (e - a) (drop a s))) digits_from
      ∙ ap (λ n. drop (e - a - c) (take n (drop a s))) parts
      ∙ drop-take (e - a - c) c (drop a s)
      ∙ ap (take c) (drop-drop (e - a - c) a s ∙ ap (λ n. drop n s) there)

  cut_before : take a s ++ front_where is_digit (take (e - a) (drop a s)) ≡ take (e - c) s
  cut_before =
      let there : a + (e - a - c) ≡ e - c = omega (arith, number_in_base) in
      ap (λ n. take a s ++ take n (take (e - a) (drop a s))) digits_from
      ∙ ap (λ (xs : List ℕ). take a s ++ xs) (take-take (e - a - c) (e - a) (drop a s) (omega arith))
      ∙ sym (take-add a (e - a - c) s)
      ∙ ap (λ n. take n s) there

  cut_all : AllPass is_digit (take c (drop (e - c) s))
  cut_all k d below =
      let long : length (take c (drop (e - c) s)) ≡ c = length-take-le c (drop (e - c) s) (omega (arith, length-drop (e - c) s, c_le, t_le)) in
      let there : get_or (take c (drop (e - c) s)) k d ≡ get_or s (e - c + k) d = get_or-take c (drop (e - c) s) k d (omega arith) ∙ get_or-drop (e - c) s k d in
      let same : get_or s (e - c + k) d ≡ get_or s (e - c + k) 0 = get_or_default s (e - c + k) d 0 (omega (arith, c_le, t_le)) in
      subst (λ x. is_digit x ≡ true) (sym (there ∙ same)) (digit_at (e - c + k) (omega (arith, c_le)) (omega (arith, c_le)))

  cut_long : length (take c (drop (e - c) s)) ≡ c
  cut_long = length-take-le c (drop (e - c) s) (omega (arith, length-drop (e - c) s, c_le, t_le))

-- what is cut from the stem is cut from the name
cut_of_name : (name : List ℕ) (n at : ℕ) → at ≤ n → n ≤ length name → drop at (take n name) ++ drop n name ≡ drop at name
cut_of_name name n at le within =
    let long : length (take n name) ≡ n = length-take-le n name within in
    sym (drop-append-le at (take n name) (drop n name) (omega arith)) ∙ ap (drop at) (take-append-drop n name)

part_of_name : (name : List ℕ) (n at m : ℕ) → at + m ≤ n → take m (drop at (take n name)) ≡ take m (drop at name)
part_of_name name n at m le =
    let parts : n ≡ at + (n - at) = omega arith in
    ap (λ k. take m (drop at (take k name))) parts ∙ ap (take m) (drop-take at (n - at) name) ∙ take-take m (n - at) (drop at name) (omega arith)

module _ (name : List ℕ) (c a e : ℕ) (long : 4 ≤ length name)
    (to_number : length (stem_of name) - suffix_len is_tail (stem_of name) ≡ e)
    (to_base : length (stem_of name) - suffix_len is_no_slash (stem_of name) ≡ a)
    (as_many : suffix_len is_digit (take e (stem_of name)) ≡ c) where
  stem_long : length (stem_of name) ≡ length name - 4
  stem_long = length-take-le (length name - 4) name (omega arith)

  e_within : e ≤ length name - 4
  e_within = omega (arith, stem_long)

  c_within : c ≤ e
  c_within = c_le (stem_of name) c a e to_number to_base as_many

  part_is : to_last_digit name ≡ take (e - a) (drop a (stem_of name))
  unfolding base_of
  part_is = ap (front_where is_no_digit) (cut_base (stem_of name) c a e to_number to_base as_many) ∙ cut_part (stem_of name) c a e to_number to_base as_many

  digits_are : digits_of name ≡ take c (drop (e - c) (stem_of name))
  unfolding digits_of
  digits_are = ap (end_where is_digit) part_is ∙ cut_digits (stem_of name) c a e to_number to_base as_many

  before_is : before_of name ≡ take (e - c) (stem_of name)
  unfolding before_of folder_of
  before_is =
      ap (λ (xs : List ℕ). front_where is_no_slash (stem_of name) ++ front_where is_digit xs) part_is
      ∙ ap (λ (xs : List ℕ). xs ++ front_where is_digit (take (e - a) (drop a (stem_of name)))) (cut_folder (stem_of name) c a e to_number to_base as_many)
      ∙ cut_before (stem_of name) c a e to_number to_base as_many

  after_is : after_of name ≡ drop e (stem_of name) ++ ending_of name
  unfolding after_of base_of
  after_is =
      ap (λ (xs : List ℕ). end_where is_no_digit xs ++ ending_of name) (cut_base (stem_of name) c a e to_number to_base as_many)
      ∙ ap (λ (xs : List ℕ). xs ++ ending_of name) (cut_tail (stem_of name) c a e to_number to_base as_many)

  stands_there : StandsBetween name (e - c) e
  stands_there = record {
    rising = omega arith;
    within = omega (arith, e_within);
    digits = let m : e - (e - c) ≡ c = omega (arith, c_within) in
        digits_are ∙ part_of_name name (length name - 4) (e - c) c (omega (arith, e_within, c_within)) ∙ ap (λ m. take m (drop (e - c) name)) (sym m);
    before = before_is ∙ take-take (e - c) (length name - 4) name (omega (arith, e_within));
    after = after_is ∙ cut_of_name name (length name - 4) e e_within (omega arith);
    count = ap length digits_are ∙ cut_long (stem_of name) c a e to_number to_base as_many ∙ omega (arith, c_within);
    all = subst (AllPass is_digit) (sym digits_are) (cut_all (stem_of name) c a e to_number to_base as_many);
  }

-- the number of a name stands where the code looks for it
pub stands : (name : List ℕ) (t c : ℕ) → 4 ≤ length name → t ≡ suffix_len is_tail (take (length name - 4) name) → c ≡ suffix_len is_digit (take (length name - 4 - t) name)
    → StandsBetween name (length name - 4 - t - c) (length name - 4 - t)
stands name t c long tail as_many =
    let stem : length (stem_of name) ≡ length name - 4 = length-take-le (length name - 4) name (omega arith) in
    let to_number : length (stem_of name) - suffix_len is_tail (stem_of name) ≡ length name - 4 - t = omega arith in
    let front : take (length name - 4 - t) (stem_of name) ≡ take (length name - 4 - t) name = take-take (length name - 4 - t) (length name - 4) name (omega arith) in
    stands_there name c (length (stem_of name) - suffix_len is_no_slash (stem_of name)) (length name - 4 - t) long to_number refl (ap (suffix_len is_digit) front ∙ sym as_many)

-- and the counts fit
pub tail_fits : (name : List ℕ) (t : ℕ) → t ≡ suffix_len is_tail (take (length name - 4) name) → 4 ≤ length name → t ≤ length name - 4
tail_fits name t tail long = omega (arith, suffix_len-le-length is_tail (take (length name - 4) name), length-take-le (length name - 4) name (omega arith))

pub digits_fit : (name : List ℕ) (e c : ℕ) → c ≡ suffix_len is_digit (take e name) → e ≤ length name → c ≤ e
digits_fit name e c as_many le = omega (arith, suffix_len-le-length is_digit (take e name), length-take-le e name le)

is_false : (a b : Bool) → (a ≡ true → b ≡ true → ⊥) → (a && b) ≡ false
is_false true true n = absurd (n refl refl)
is_false true false n = refl
is_false false b n = refl

counts : (n : ℕ) → nat_le 1 n ≡ true → nat_le n 18 ≡ true → (1 ≤ n) × (n ≤ 18)
counts n low high = (grind (arith, nat_tests), grind (arith, nat_tests))

counted : (n : ℕ) → 1 ≤ n → n ≤ 18 → (nat_le 1 n && nat_le n 18) ≡ true
counted n low high = grind (arith, nat_tests)

-- a name has no number that counts, or has one
pub not_numbered : (name : List ℕ) (start end : ℕ) → StandsBetween name start end → (1 ≤ end - start → end - start ≤ 18 → ⊥) → is_numbered name ≡ false
unfolding is_numbered
not_numbered name start end there n = is_false _ _ (λ one few.
    let both = counts (length (digits_of name)) one few in
    n (omega (arith, there.count)) (omega (arith, there.count)))

pub is_numbered_there : (name : List ℕ) (start end : ℕ) → StandsBetween name start end → 1 ≤ end - start → end - start ≤ 18 → is_numbered name ≡ true
unfolding is_numbered
is_numbered_there name start end there one few = counted (length (digits_of name)) (omega (arith, there.count)) (omega (arith, there.count))
