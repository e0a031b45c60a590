-- How long codes are.
use Rattle.std.proofs.Common.{◌≡◌, ℕ, zero, suc, ◌+◌, ◌*◌, ◌^◌, ◌<◌, ◌≤◌, Bool, true, false, List, [], ◌∷◌, ◌++◌, length, length-append, refl, ap, arith, inl, inr}
use Rattle.std.specs.Prelude.{ℤ, unsigned_abs}
use Rattle.std.specs.Int.{is_negative}
use Rattle.std.proofs.Math.Pow.{pow_mono}
use Rattle.std.proofs.lemmas.Bool.{cases_eq, cases_lt, le-leb, lt-leb}
use Rattle.std.proofs.lemmas.List.{length-map}
use Rattle.std.proofs.lemmas.List.Elements.{All-head, All-tail}
use Rattle.range_coder.specs.declared.symbol.Placed.{Placed}
use Rattle.range_coder.specs.Interval.{Decision, Interval, whole, part, renewed, narrow, narrowed, ending, coded}
use Rattle.range_coder.specs.Choices.{Choice, adapted, decided, moved}
use Rattle.range_coder.specs.Symbol.{choice, exponent_slot, exponent_up_to, exponent_of, ones, low_bits, exponent_choices, sign_choices, number_choices, symbol_choices, overlong_choices}
use Rattle.range_coder.specs.Placing.{placed_symbol, placed_symbols}
use Rattle.range_coder.specs.Facts.{AreDifferences}
use Rattle.range_coder.proofs.Intervals.{renewed_by}
use Rattle.range_coder.proofs.CodedLaws.{length_of_bytes}
use Rattle.range_coder.proofs.Exponents.{symbol_of_number, symbol_of_zero}

-- a decision renews the range at most once
renewed_once : (i : Interval) → (renewed i).shifts ≤ i.shifts + 1
renewed_once i = renewed_by (λ j. j.shifts ≤ i.shifts + 1) i (λ h. omega arith) (λ h. omega arith)

part_shifts : (i : Interval) (state : ℕ) (bit : Bool) → (part i state bit).shifts ≡ i.shifts
unfolding part
part_shifts i state true = refl
part_shifts i state false = refl

narrow_once : (i : Interval) (state : ℕ) (bit : Bool) → (narrow i state bit).shifts ≤ i.shifts + 1
unfolding narrow
narrow_once i state bit =
    let once : (renewed (part i state bit)).shifts ≤ (part i state bit).shifts + 1 = renewed_once (part i state bit) in
    let same : (part i state bit).shifts ≡ i.shifts = part_shifts i state bit in
    omega arith

narrowed_shifts : (i : Interval) (decisions : List Decision) → (narrowed i decisions).shifts ≤ i.shifts + length decisions
unfolding narrowed
narrowed_shifts i [] = omega arith
narrowed_shifts i (d ∷ more) =
    let once : (narrow i d.state d.bit).shifts ≤ i.shifts + 1 = narrow_once i d.state d.bit in
    let rest : (narrowed (narrow i d.state d.bit) more).shifts ≤ (narrow i d.state d.bit).shifts + length more = narrowed_shifts (narrow i d.state d.bit) more in
    omega arith

whole_shifts : whole.shifts ≡ 0
unfolding whole
whole_shifts = refl

pub length-coded : (decisions : List Decision) → length (coded decisions) ≤ length decisions + 2
unfolding coded ending
length-coded decisions =
    let last : (narrow (narrowed whole decisions) 129 false).shifts ≤ (narrowed whole decisions).shifts + 1 = narrow_once (narrowed whole decisions) 129 false in
    let before : (narrowed whole decisions).shifts ≤ whole.shifts + length decisions = narrowed_shifts whole decisions in
    let none : whole.shifts ≡ 0 = whole_shifts in
    let len = length_of_bytes (narrow (narrowed whole decisions) 129 false) in
    omega (arith, len)

pub length-decided : (table states : List ℕ) (choices : List Choice) → length (decided table states choices) ≡ length choices
unfolding decided
length-decided table states [] = refl
length-decided table states (c ∷ more) = ap (λ (n : ℕ). suc n) (length-decided table (adapted table states c) more)

pub length-moved : (first : ℕ) (choices : List Choice) → length (moved first choices) ≡ length choices
length-moved first choices = length-map choices _

-- the parts of a number
length-ones : (k : ℕ) → length (ones k) ≡ k
unfolding ones
length-ones zero = refl
length-ones (suc k) =
    let before : length (ones k) ≡ k = length-ones k in
    let both : length (ones k ++ choice (exponent_slot k) true ∷ []) ≡ length (ones k) + 1 = length-append (ones k) (choice (exponent_slot k) true ∷ []) in
    omega arith

length-low_bits : (k magnitude : ℕ) → length (low_bits k magnitude) ≡ k
unfolding low_bits
length-low_bits zero magnitude = refl
length-low_bits (suc k) magnitude = ap (λ (n : ℕ). suc n) (length-low_bits k magnitude)

length-sign : (signed : Bool) (e : ℕ) (negative : Bool) → length (sign_choices signed e negative) ≤ 1
length-sign true e negative = omega arith
length-sign false e negative = omega arith

length-exponent : (e : ℕ) → length (exponent_choices e) ≡ e + 1
length-exponent e =
    let before : length (ones e) ≡ e = length-ones e in
    let both : length (ones e ++ choice (exponent_slot e) false ∷ []) ≡ length (ones e) + 1 = length-append (ones e) (choice (exponent_slot e) false ∷ []) in
    omega arith

length-number : (e magnitude : ℕ) (negative signed : Bool) → length (number_choices e magnitude negative signed) ≤ 2 * e + 3
length-number e magnitude negative signed =
    let some : List Choice = choice 0 false ∷ [] in
    let a : length (exponent_choices e) ≡ e + 1 = length-exponent e in
    let b : length (low_bits e magnitude) ≡ e = length-low_bits e magnitude in
    let c : length (sign_choices signed e negative) ≤ 1 = length-sign signed e negative in
    let ab : length (some ++ exponent_choices e) ≡ 1 + length (exponent_choices e) = length-append some (exponent_choices e) in
    let abc : length (some ++ exponent_choices e ++ low_bits e magnitude) ≡ length (some ++ exponent_choices e) + length (low_bits e magnitude) = length-append (some ++ exponent_choices e) (low_bits e magnitude) in
    let all : length (number_choices e magnitude negative signed) ≡ length (some ++ exponent_choices e ++ low_bits e magnitude) + length (sign_choices signed e negative) = length-append (some ++ exponent_choices e ++ low_bits e magnitude) (sign_choices signed e negative) in
    omega arith

exponent_most : (most magnitude e : ℕ) → magnitude < 2 ^ (e + 1) → exponent_up_to most magnitude ≤ e
unfolding exponent_up_to
exponent_most zero magnitude e high = omega arith
exponent_most (suc most) magnitude e high = elim (cases_lt magnitude (2 ^ suc most)) [
  | inl below ↦ rw (lt-leb (2 ^ suc most) magnitude below) (exponent_most most magnitude e high)
  | inr above ↦
      rw (le-leb (2 ^ suc most) magnitude above)
      (elim (cases_lt e (suc most)) [
        | inl small ↦ (let more : 2 ^ (e + 1) ≤ 2 ^ suc most = pow_mono {i = e + 1} {j = suc most} (omega arith) in absurd (omega arith))
        | inr large ↦ large
      ])
]

pub length-symbol : (value : ℤ) (signed : Bool) (e : ℕ) → unsigned_abs value < 2 ^ (e + 1) → length (symbol_choices value signed) ≤ 2 * e + 3
length-symbol value signed e high = elim (cases_eq (unsigned_abs value) 0) [
  | inl none ↦ (let is = symbol_of_zero value signed none in rw is (omega arith))
  | inr ne ↦
      (let some : 0 < unsigned_abs value = omega arith in
      let is = symbol_of_number value signed (is_negative value) (unsigned_abs value) refl refl some in
      let most : exponent_of (unsigned_abs value) ≤ e = exponent_most 31 (unsigned_abs value) e high in
      let len = length-number (exponent_of (unsigned_abs value)) (unsigned_abs value) (is_negative value) signed in
      rw is (omega arith))
]

pub length-difference : (value : ℤ) (signed : Bool) → unsigned_abs value ≤ 65536 → length (symbol_choices value signed) ≤ 35
length-difference value signed few =
    let high : unsigned_abs value < 2 ^ (16 + 1) = omega arith in
    length-symbol value signed 16 high

pub length-overlong : length overlong_choices ≡ 32
unfolding overlong_choices
length-overlong =
    let len : length (ones 31) ≡ 31 = length-ones 31 in
    let both : length ((choice 0 false ∷ []) ++ ones 31) ≡ 1 + length (ones 31) = length-append (choice 0 false ∷ []) (ones 31) in
    omega arith

abbrev IsDifference : Placed → Type 0
IsDifference p = unsigned_abs p.value ≤ 65536

pub length-line : (signed : Bool) (symbols : List Placed) → AreDifferences symbols → length (placed_symbols signed symbols) ≤ 35 * length symbols
length-line signed [] are = omega arith
length-line signed (p ∷ more) are =
    let few : unsigned_abs p.value ≤ 65536 = All-head IsDifference p more are.each in
    let rest : length (placed_symbols signed more) ≤ 35 * length more = length-line signed more (record { each = All-tail IsDifference p more are.each }) in
    let first : length (symbol_choices p.value signed) ≤ 35 = length-difference p.value signed few in
    let same : length (placed_symbol signed p) ≡ length (symbol_choices p.value signed) = length-moved p.first (symbol_choices p.value signed) in
    let both : length (placed_symbol signed p ++ placed_symbols signed more) ≡ length (placed_symbol signed p) + length (placed_symbols signed more) = length-append (placed_symbol signed p) (placed_symbols signed more) in
    omega arith
