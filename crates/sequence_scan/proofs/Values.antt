-- What digits are worth.
use Rattle.std.proofs.Common.{◌≡◌, ℕ, suc, ◌+◌, ◌-◌, ◌*◌, ◌^◌, ◌<◌, ◌≤◌, true, List, [], ◌∷◌, length, get_or, take, map, refl, sym, ap, ◌∙◌, subst, arith}
use Rattle.std.specs.List.{AllPass}
use Rattle.std.specs.Int.Digits.{number_from_digits, AllBelowBase}
use Rattle.std.proofs.lemmas.Bool.Decides.{nat_tests}
use Rattle.std.proofs.Math.Nat.{pow-le-pow_right}
use Rattle.std.proofs.lemmas.List.{take-map, get_or-map, length-map, length-take-le}
use Rattle.std.proofs.lemmas.List.Elements.{All-take}
use Rattle.std.proofs.lemmas.Int.Digits.{number_lt, number_more}
use Rattle.sequence_scan.specs.Numbers.{is_digit, number_from}

digit_low : (byte : ℕ) → is_digit byte ≡ true → byte - 48 < 10
digit_low byte h = grind (arith, nat_tests)

pub digit_high : (byte : ℕ) → is_digit byte ≡ true → 48 ≤ byte
digit_high byte h = grind (arith, nat_tests)

below_ten : (digits : List ℕ) → AllPass is_digit digits → AllBelowBase 10 (map (λ digit. digit - 48) digits)
below_ten [] all = tt
below_ten (d ∷ ds) all = (digit_low d (all 0 0 (omega arith)), below_ten ds (λ k e lt. all (suc k) e (omega arith)))

-- so many digits are below that power of ten
pub number_below : (digits : List ℕ) → AllPass is_digit digits → number_from digits < 10 ^ length digits
unfolding number_from
number_below digits all = subst (λ n. number_from_digits 10 (map (λ digit. digit - 48) digits) < 10 ^ n) (length-map digits (λ digit. digit - 48)) (number_lt 10 (map (λ digit. digit - 48) digits) (below_ten digits all))

pub number_none : 0 ≡ number_from []
unfolding number_from
number_none = refl

-- one digit more
pub number_step : (digits : List ℕ) (i : ℕ) → i < length digits → number_from (take (i + 1) digits) ≡ number_from (take i digits) * 10 + (get_or digits i 0 - 48)
unfolding number_from
number_step digits i lt =
    let worth : ℕ → ℕ = λ digit. digit - 48 in
    let here : get_or (map worth digits) i 0 ≡ get_or digits i 0 - 48 = get_or-map worth digits i 0 0 lt in
    ap (number_from_digits 10) (sym (take-map worth (i + 1) digits))
    ∙ number_more 10 (map worth digits) i (omega (arith, length-map digits worth))
    ∙ ap (λ (xs : List ℕ). number_from_digits 10 xs * 10 + get_or (map worth digits) i 0) (take-map worth i digits)
    ∙ ap (λ n. number_from_digits 10 (map worth (take i digits)) * 10 + n) here

-- at most 18 digits are below 2 ^ 64
pub step_fits : (digits : List ℕ) (i n : ℕ) → n ≡ number_from (take i digits) → i < length digits → length digits ≤ 18 → AllPass is_digit digits → n * 10 + (get_or digits i 0 - 48) < 10 ^ 18
step_fits digits i n is lt few all =
    let long : length (take (i + 1) digits) ≡ i + 1 = length-take-le (i + 1) digits (omega arith) in
    let below : number_from (take (i + 1) digits) < 10 ^ length (take (i + 1) digits) = number_below (take (i + 1) digits) (All-take (λ x. is_digit x ≡ true) (i + 1) digits all) in
    let rises : 10 ^ length (take (i + 1) digits) ≤ 10 ^ 18 = pow-le-pow_right {n = 10} (omega arith) {j = 18} (omega arith) in
    let step : number_from (take (i + 1) digits) ≡ n * 10 + (get_or digits i 0 - 48) = number_step digits i lt ∙ ap (λ m. m * 10 + (get_or digits i 0 - 48)) (sym is) in
    omega arith
