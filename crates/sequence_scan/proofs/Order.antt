-- The names of one sequence are in the order of their numbers.
use Rattle.std.proofs.Common.{◌≡◌, ℕ, suc, ◌+◌, ◌-◌, ◌*◌, ◌^◌, ◌<◌, ◌≤◌, List, [], ◌∷◌, ◌++◌, length, take, drop, map, refl, sym, ap, ◌∙◌, subst, inl, inr, arith, pow-suc}
use Rattle.std.specs.List.{AllPass, suffix_len}
use Rattle.std.specs.Int.Digits.{number_from_digits, number_from_digits_after}
use Rattle.std.specs.Ordering.{nat_cmp, ordering_then, is_eq}
use Rattle.std.specs.declared.cmp.Ordering.{Ordering}
use Rattle.std.specs.declared.cmp.Ordering.TheVariants.{Less, Equal, Greater}
use Rattle.std.specs.Cmp.Lexicographic.{slice_cmp, bytes_decides}
use Rattle.std.proofs.Math.Nat.{mul-le-mul_left}
use Rattle.std.proofs.lemmas.Map.Text.{is_eq-slice_cmp}
use Rattle.std.proofs.lemmas.Bool.{cases_lt}
use Rattle.std.proofs.lemmas.Bool.Decides.{nat_tests}
use Rattle.std.proofs.lemmas.List.{take-append-drop, drop-drop, length-map}
use Rattle.sequence_scan.specs.Numbers.{is_digit, number_from, number_of, digits_of, before_of, after_of}
use Rattle.sequence_scan.specs.Scanning.{is_tail}
use Rattle.sequence_scan.proofs.Values.{digit_high, number_below}
use Rattle.sequence_scan.proofs.Parting.{StandsBetween, stands}

-- ---- the comparison of two numbers

less : (a b : ℕ) → a < b → nat_cmp a b ≡ Less
less a b lt = grind (arith, nat_tests)

equal : (a : ℕ) → nat_cmp a a ≡ Equal
equal a = grind (arith, nat_tests)

greater : (a b : ℕ) → b < a → nat_cmp a b ≡ Greater
greater a b lt = grind (arith, nat_tests)

by_order : (a b : ℕ) (o : Ordering) → (a < b → o ≡ Less) → (a ≡ b → o ≡ Equal) → (b < a → o ≡ Greater) → o ≡ nat_cmp a b
by_order a b o lt eq gt =
    elim (cases_lt a b) [
      | inl l ↦ lt l ∙ sym (less a b l)
      | inr le ↦ elim (cases_lt b a) [
        | inl g ↦ gt g ∙ sym (greater a b g)
        | inr also ↦ let same : a ≡ b = omega arith in eq same ∙ sym (equal a) ∙ ap (nat_cmp a) same
      ]
    ]

pub cmp_less : (a b : ℕ) → nat_cmp a b ≡ Less → a < b
cmp_less a b e =
    elim (cases_lt a b) [
      | inl l ↦ l
      | inr le ↦ elim (cases_lt b a) [
        | inl g ↦ let never : Less ≡ Greater = sym e ∙ greater a b g in absurd (cc)
        | inr also ↦ let same : b ≡ a = omega arith in let never : Less ≡ Equal = sym e ∙ ap (nat_cmp a) same ∙ equal a in absurd (cc)
      ]
    ]

shifted : (x y : ℕ) → 48 ≤ x → 48 ≤ y → nat_cmp x y ≡ nat_cmp (x - 48) (y - 48)
shifted x y low high = by_order (x - 48) (y - 48) (nat_cmp x y) (λ l. less x y (omega arith)) (λ e. let same : y ≡ x = omega arith in ap (nat_cmp x) same ∙ equal x) (λ g. greater x y (omega arith))

-- a first digit decides before the others
leading : (p x y u v : ℕ) → u < p → v < p → ordering_then (nat_cmp x y) (nat_cmp u v) ≡ nat_cmp (x * p + u) (y * p + v)
leading p x y u v inside also =
    elim (cases_lt x y) [
      | inl l ↦ ap (λ o. ordering_then o (nat_cmp u v)) (less x y l) ∙ sym (less (x * p + u) (y * p + v) (above x y u v l inside))
      | inr le ↦ elim (cases_lt y x) [
        | inl g ↦ ap (λ o. ordering_then o (nat_cmp u v)) (greater x y g) ∙ sym (greater (x * p + u) (y * p + v) (above y x v u g also))
        | inr both ↦
            let same : x ≡ y = omega arith in
            let here : nat_cmp x y ≡ Equal = ap (nat_cmp x) (sym same) ∙ equal x in
            ap (λ o. ordering_then o (nat_cmp u v)) here
            ∙ sym (by_order u v (nat_cmp (x * p + u) (y * p + v))
            (λ l. less (x * p + u) (y * p + v) (omega (arith, ap (λ n. n * p) same)))
            (λ e. let whole : y * p + v ≡ x * p + u = omega (arith, ap (λ n. n * p) same) in ap (nat_cmp (x * p + u)) whole ∙ equal (x * p + u))
            (λ g. greater (x * p + u) (y * p + v) (omega (arith, ap (λ n. n * p) same))))
      ]
    ]
  where
    above : (a b s t : ℕ) → a < b → s < p → a * p + s < b * p + t
    above a b s t l small = let whole : p * (a + 1) ≤ p * b = mul-le-mul_left p (omega arith) in omega arith

-- ---- so of two lists of as many digits

number_after : (n : ℕ) (ds : List ℕ) → number_from_digits_after 10 n ds ≡ n * 10 ^ length ds + number_from_digits 10 ds
number_after n [] = omega arith
number_after n (d ∷ ds) = rw (number_after (n * 10 + d) ds, number_after (0 * 10 + d) ds, pow-suc) (omega arith)

pub number_first : (d : ℕ) (ds : List ℕ) → number_from (d ∷ ds) ≡ (d - 48) * 10 ^ length ds + number_from ds
unfolding number_from
number_first d ds = let n : 0 * 10 + (d - 48) ≡ d - 48 = omega arith in
    number_after (0 * 10 + (d - 48)) (map (λ digit. digit - 48) ds)
    ∙ ap (λ m. m * 10 ^ length (map (λ digit. digit - 48) ds) + number_from_digits 10 (map (λ digit. digit - 48) ds)) n
    ∙ ap (λ k. (d - 48) * 10 ^ k + number_from_digits 10 (map (λ digit. digit - 48) ds)) (length-map ds (λ digit. digit - 48))

compare_digits : (ls rs : List ℕ) → length ls ≡ length rs → AllPass is_digit ls → AllPass is_digit rs → slice_cmp nat_cmp ls rs ≡ nat_cmp (number_from ls) (number_from rs)
compare_digits [] [] e p q = sym (equal (number_from []))
compare_digits [] (b ∷ rs) e p q = absurd (omega arith)
compare_digits (a ∷ ls) [] e p q = absurd (omega arith)
compare_digits (a ∷ ls) (b ∷ rs) e p q =
    let same : length ls ≡ length rs = omega arith in
    let ps : AllPass is_digit ls = λ k d lt. p (suc k) d (omega arith) in
    let qs : AllPass is_digit rs = λ k d lt. q (suc k) d (omega arith) in
    let rest = compare_digits ls rs same ps qs in
    let first = shifted a b (digit_high a (p 0 0 (omega arith))) (digit_high b (q 0 0 (omega arith))) in
    let small : number_from rs < 10 ^ length ls = subst (λ n. number_from rs < 10 ^ n) (sym same) (number_below rs qs) in
    ap (λ o. ordering_then o (slice_cmp nat_cmp ls rs)) first
    ∙ ap (ordering_then (nat_cmp (a - 48) (b - 48))) rest
    ∙ leading (10 ^ length ls) (a - 48) (b - 48) (number_from ls) (number_from rs) (number_below ls ps) small
    ∙ ap (λ n. nat_cmp ((a - 48) * 10 ^ length ls + number_from ls) ((b - 48) * 10 ^ n + number_from rs)) same
    ∙ ap (λ n. nat_cmp n ((b - 48) * 10 ^ length rs + number_from rs)) (sym (number_first a ls))
    ∙ ap (nat_cmp (number_from (a ∷ ls))) (sym (number_first b rs))

compare_same : (xs : List ℕ) → slice_cmp nat_cmp xs xs ≡ Equal
compare_same [] = refl
compare_same (x ∷ xs) = ap (λ o. ordering_then o (slice_cmp nat_cmp xs xs)) (equal x) ∙ compare_same xs

compare_front : (xs ls rs : List ℕ) → slice_cmp nat_cmp (xs ++ ls) (xs ++ rs) ≡ slice_cmp nat_cmp ls rs
compare_front [] ls rs = refl
compare_front (x ∷ xs) ls rs = ap (λ o. ordering_then o (slice_cmp nat_cmp (xs ++ ls) (xs ++ rs))) (equal x) ∙ compare_front xs ls rs

compare_end : (zs ls rs : List ℕ) → length ls ≡ length rs → slice_cmp nat_cmp (ls ++ zs) (rs ++ zs) ≡ slice_cmp nat_cmp ls rs
compare_end zs [] [] e = compare_same zs
compare_end zs [] (b ∷ rs) e = absurd (omega arith)
compare_end zs (a ∷ ls) [] e = absurd (omega arith)
compare_end zs (a ∷ ls) (b ∷ rs) e = let same : length ls ≡ length rs = omega arith in ap (ordering_then (nat_cmp a b)) (compare_end zs ls rs same)

-- ---- and of two names of one sequence

pub record AreOneSequence (earlier later : List ℕ) : Type 0 where
  pub before : before_of earlier ≡ before_of later
  pub digits : length (digits_of earlier) ≡ length (digits_of later)
  pub after : after_of earlier ≡ after_of later

-- a name is what stands before its number, the number, and what stands after it; the number is made of digits
stands_somewhere : (name : List ℕ) → 4 ≤ length name → (start : ℕ) × (end : ℕ) × StandsBetween name start end
stands_somewhere name long =
    let t : ℕ = suffix_len is_tail (take (length name - 4) name) in
    let c : ℕ = suffix_len is_digit (take (length name - 4 - t) name) in
    (length name - 4 - t - c, length name - 4 - t, stands name t c long refl refl)

parts_join : (name : List ℕ) → 4 ≤ length name → name ≡ before_of name ++ (digits_of name ++ after_of name)
parts_join name long =
    let found = stands_somewhere name long in
    let start : ℕ = found.0 in
    let end : ℕ = found.1 in
    let there : StandsBetween name start end = found.2 in
    let on : start + (end - start) ≡ end = omega (arith, there.rising) in
    let rest : take (end - start) (drop start name) ++ drop end name ≡ drop start name =
    ap (λ (xs : List ℕ). take (end - start) (drop start name) ++ xs) (ap (λ n. drop n name) (sym on) ∙ sym (drop-drop (end - start) start name))
    ∙ take-append-drop (end - start) (drop start name) in
    sym (rw (there.before, there.digits, there.after) (ap (λ (xs : List ℕ). take start name ++ xs) rest ∙ take-append-drop start name))

are_digits : (name : List ℕ) → 4 ≤ length name → AllPass is_digit (digits_of name)
are_digits name long = (stands_somewhere name long).2.all

pub compare_names : (a b : List ℕ) → 4 ≤ length a → 4 ≤ length b → AreOneSequence a b → slice_cmp nat_cmp a b ≡ nat_cmp (number_of a) (number_of b)
unfolding number_of
compare_names a b long also one =
    let rs : b ≡ before_of a ++ (digits_of b ++ after_of a) = parts_join b also ∙ ap (λ (xs : List ℕ). xs ++ (digits_of b ++ after_of b)) (sym one.before) ∙ ap (λ (xs : List ℕ). before_of a ++ (digits_of b ++ xs)) (sym one.after) in
    ap (λ (xs : List ℕ). slice_cmp nat_cmp xs b) (parts_join a long)
    ∙ ap (slice_cmp nat_cmp (before_of a ++ (digits_of a ++ after_of a))) rs
    ∙ compare_front (before_of a) (digits_of a ++ after_of a) (digits_of b ++ after_of a)
    ∙ compare_end (after_of a) (digits_of a) (digits_of b) one.digits
    ∙ compare_digits (digits_of a) (digits_of b) one.digits (are_digits a long) (are_digits b also)

-- so one number is one name
pub one_name : (a b : List ℕ) → 4 ≤ length a → 4 ≤ length b → AreOneSequence a b → number_of a ≡ number_of b → a ≡ b
one_name a b long also one same =
    let level : slice_cmp nat_cmp a b ≡ Equal = compare_names a b long also one ∙ ap (nat_cmp (number_of a)) (sym same) ∙ equal (number_of a) in
    (bytes_decides a b).0 (sym (is_eq-slice_cmp a b) ∙ ap is_eq level)
