-- Fields, residuals and subframes that are written are read.
use Rattle.std.proofs.Common.{◌≡◌, ℕ, zero, suc, ◌-◌, ◌+◌, ◌*◌, ◌/◌, ◌%◌, ◌^◌, ◌≤◌, ◌<◌, Bool, true, false, ◌==◌, nat_le, nat_lt, if◌then◌else◌, ℤ, pos, negsuc, List, [], ◌∷◌, ◌++◌, length, drop, get_or, sub-one, Some, Ok, Result, refl, ap, ◌∙◌, append_assoc, arith}
use Rattle.std.proofs.Math.Nat.{pow-suc, mod-lt}
use Rattle.std.proofs.lemmas.Bool.{leb-true, eqb-true, le-leb, lt-ltb, le-ltb, eq-eqb}
use Rattle.std.proofs.lemmas.Int.{ints}
use Rattle.std.proofs.lemmas.Nat.{pow_pos, div-add-mod'}
use Rattle.std.proofs.lemmas.List.{append-nil}
use Rattle.std.specs.List.{flat_map}
use Rattle.cook_bits.specs.Bits.{low_bits}
use Rattle.cook_bits.specs.Laws.{WrittenFieldIsRead}
use Rattle.cook_bits.specs.Unary.{unary_taken, unary_left}
use Rattle.flac_predict.specs.Samples.{IsInside, AreInside}
use Rattle.flac_predict.specs.Rice.{zigzag, quotient}
use Rattle.flac_frame.specs.declared.error.FlacWhy.{FlacWhy}
use Rattle.flac_frame.specs.declared.error.FlacWhy.TheVariants.{Residual}
use Rattle.flac_frame.specs.Reading.{field_at, accepted_at, expected_at, signed_at, unary_at, each_at}
use Rattle.flac_frame.specs.Residual.{unfolded, value_at, partition_at, partitions_at, is_partition_order, residual_at}
use Rattle.flac_frame.specs.Spelling.{signed_field, signed_bits, unary_bits, value_bits_of, values_bits, method_of, residual_bits_of}

pub other_number : (a b : ℕ) (t : Bool) → (a == b) ≡ t → (a ≡ b → ⊥) → (a == b) ≡ false
other_number a b true t apart = absurd (apart (eqb-true a b t))
other_number a b false t apart = t

-- ---- fields

pub field_back : WrittenFieldIsRead → (count value : ℕ) (rest : List Bool) → value < 2 ^ count → field_at count (low_bits count value ++ rest) ≡ Ok (value, rest)
unfolding field_at
field_back law count value rest lt =
    let w = law count value rest lt in
    let taken = w.0 in
    let left = w.1 in
    rw (taken, left) refl

pub accept_back : WrittenFieldIsRead → (count value : ℕ) (accepts : ℕ → Bool) (why : FlacWhy) (rest : List Bool) → value < 2 ^ count → accepts value ≡ true
    → accepted_at count accepts why (low_bits count value ++ rest) ≡ Ok (value, rest)
unfolding accepted_at
accept_back law count value accepts why rest lt t = let f = field_back law count value rest lt in rw (f, t) refl

pub expect_back : WrittenFieldIsRead → (count value : ℕ) (why : FlacWhy) (rest : List Bool) → value < 2 ^ count → expected_at count value why (low_bits count value ++ rest) ≡ Ok rest
unfolding expected_at
expect_back law count value why rest lt =
    let f = field_back law count value rest lt in
    let t : (value == value) ≡ true = eq-eqb value value refl in
    rw (f, t) refl

pub double : (count : ℕ) → 1 ≤ count → 2 ^ count ≡ 2 * 2 ^ (count - 1)
double zero some = absurd (omega arith)
double (suc count) some = let two : 2 ^ suc count ≡ 2 ^ count * 2 = pow-suc 2 count in rw sub-one (omega arith)

pub signed_back : WrittenFieldIsRead → (count : ℕ) (x : ℤ) (rest : List Bool) → 1 ≤ count → IsInside count x → signed_at count (low_bits count (signed_field count x) ++ rest) ≡ Ok (x, rest)
unfolding signed_at
signed_back law count (pos n) rest some h =
    let high = h.high in
    let two = double count some in
    let small : n < 2 ^ (count - 1) = omega (arith, ints) in
    let f = field_back law count n rest (omega arith) in
    let t : nat_lt (2 * n) (2 ^ count) ≡ true = lt-ltb (2 * n) (2 ^ count) (omega arith) in
    rw (f, t) refl
signed_back law count (negsuc n) rest some h =
    let low = h.low in
    let two = double count some in
    let small : n < 2 ^ (count - 1) = omega (arith, ints) in
    let f = field_back law count (2 ^ count - 1 - n) rest (omega arith) in
    let t : nat_lt (2 * (2 ^ count - 1 - n)) (2 ^ count) ≡ false = le-ltb (2 * (2 ^ count - 1 - n)) (2 ^ count) (omega arith) in
    let back : 2 ^ count - 1 - (2 ^ count - 1 - n) ≡ n = omega arith in
    rw (f, t) (ap (λ m. Ok (negsuc m, rest)) back)

-- ---- one after the other

pub each_back : (read : List Bool → Result (ℤ × List Bool) FlacWhy) (spell : ℤ → List Bool) (xs : List ℤ) (rest : List Bool)
    → ((k : ℕ) (after : List Bool) → k < length xs → read (spell (get_or xs k (pos 0)) ++ after) ≡ Ok (get_or xs k (pos 0), after))
    → each_at read (length xs) (flat_map spell xs ++ rest) ≡ Ok (xs, rest)
unfolding each_at
each_back read spell [] rest one = refl
each_back read spell (x ∷ xs) rest one =
    let more = flat_map spell xs ++ rest in
    let split : flat_map spell (x ∷ xs) ++ rest ≡ spell x ++ more = append_assoc (spell x) (flat_map spell xs) rest in
    let first : read (spell x ++ more) ≡ Ok (x, more) = one 0 more (omega arith) in
    let others : each_at read (length xs) more ≡ Ok (xs, rest) = each_back read spell xs rest (λ k after lt. one (suc k) after (omega arith)) in
    rw (split, first, others) refl

pub signed_all_back : WrittenFieldIsRead → (count : ℕ) (xs : List ℤ) (rest : List Bool) → 1 ≤ count → AreInside count xs
    → each_at (signed_at count) (length xs) (signed_bits count xs ++ rest) ≡ Ok (xs, rest)
unfolding signed_bits
signed_all_back law count xs rest some inside =
    each_back (signed_at count) (λ x. low_bits count (signed_field count x)) xs rest (λ k after lt. signed_back law count (get_or xs k (pos 0)) after some (inside.each k))

-- ---- residuals

unary_is_taken : (count : ℕ) (rest : List Bool) → unary_taken (unary_bits count ++ rest) ≡ Some count
unfolding unary_taken unary_bits
unary_is_taken zero rest = refl
unary_is_taken (suc count) rest = let e = unary_is_taken count rest in rw e refl

unary_is_left : (count : ℕ) (rest : List Bool) → drop (suc count) (unary_bits count ++ rest) ≡ rest
unfolding unary_bits
unary_is_left zero rest = refl
unary_is_left (suc count) rest = unary_is_left count rest

pub unary_back : (count : ℕ) (rest : List Bool) → unary_at (unary_bits count ++ rest) ≡ Ok (count, rest)
unfolding unary_at unary_left
unary_back count rest =
    let t = unary_is_taken count rest in
    let l = unary_is_left count rest in
    rw (t, l) refl

unfolded_back : (x : ℤ) → unfolded (zigzag x) ≡ x
unfolded_back (pos n) =
    let even : 2 * n % 2 ≡ 0 = omega arith in
    let half : 2 * n / 2 ≡ n = omega arith in
    rw (even, half) refl
unfolded_back (negsuc n) =
    let odd : (2 * n + 1) % 2 ≡ 1 = omega arith in
    let half : (2 * n + 1) / 2 ≡ n = omega arith in
    rw (odd, half) refl

pub value_back : WrittenFieldIsRead → (parameter : ℕ) (x : ℤ) (rest : List Bool) → zigzag x ≤ 2 ^ 32 - 2 → value_at parameter (value_bits_of parameter x ++ rest) ≡ Ok (x, rest)
unfolding value_at value_bits_of
value_back law parameter x rest small =
    let low = zigzag x % 2 ^ parameter in
    let some : 1 ≤ 2 ^ parameter = pow_pos parameter in
    let split : unary_bits (quotient parameter x) ++ low_bits parameter low ++ rest ≡ unary_bits (quotient parameter x) ++ (low_bits parameter low ++ rest) =
    append_assoc (unary_bits (quotient parameter x)) (low_bits parameter low) rest in
    let u = unary_back (quotient parameter x) (low_bits parameter low ++ rest) in
    let f = field_back law parameter low rest (mod-lt (zigzag x) (omega arith)) in
    let whole : quotient parameter x * 2 ^ parameter + low ≡ zigzag x = div-add-mod' (zigzag x) (2 ^ parameter) in
    let t : nat_le (zigzag x) (2 ^ 32 - 2) ≡ true = le-leb (zigzag x) (2 ^ 32 - 2) small in
    let back = unfolded_back x in
    rw (split, u, f, whole, t, back) refl

pub values_back : WrittenFieldIsRead → (parameter : ℕ) (xs : List ℤ) (rest : List Bool) → ((k : ℕ) → zigzag (get_or xs k (pos 0)) ≤ 2 ^ 32 - 2)
    → each_at (value_at parameter) (length xs) (values_bits parameter xs ++ rest) ≡ Ok (xs, rest)
unfolding values_bits
values_back law parameter xs rest small =
    each_back (value_at parameter) (value_bits_of parameter) xs rest (λ k after lt. value_back law parameter (get_or xs k (pos 0)) after (small k))

-- a parameter isn't the escape of its method
parameter_below : (parameter : ℕ) (b : Bool) → nat_le parameter 14 ≡ b → parameter ≤ 30 → parameter < 2 ^ (4 + (if b then 0 else 1)) - 1
parameter_below parameter true t le = let small : parameter ≤ 14 = leb-true parameter 14 t in omega arith
parameter_below parameter false t le = omega arith

method_small : (b : Bool) → (if b then 0 else 1) < 2
method_small true = omega arith
method_small false = omega arith

one_partition : WrittenFieldIsRead → (method parameter order : ℕ) (residuals : List ℤ) (rest : List Bool) → parameter < 2 ^ (4 + method) - 1
    → ((k : ℕ) → zigzag (get_or residuals k (pos 0)) ≤ 2 ^ 32 - 2)
    → partitions_at (4 + method) (order + length residuals) order 1 (low_bits (4 + method) parameter ++ (values_bits parameter residuals ++ rest)) ≡ Ok (residuals, rest)
unfolding partitions_at partition_at
one_partition law method parameter order residuals rest lt small =
    let after = values_bits parameter residuals ++ rest in
    let f = field_back law (4 + method) parameter after (omega arith) in
    let t : (parameter == 2 ^ (4 + method) - 1) ≡ false = other_number parameter (2 ^ (4 + method) - 1) (parameter == 2 ^ (4 + method) - 1) refl (λ e. omega arith) in
    let n : order + length residuals - order ≡ length residuals = omega arith in
    let v = values_back law parameter residuals rest small in
    rw (f, t, n, v) (ap (λ (xs : List ℤ). Ok (xs, rest)) (append-nil residuals))

pub residual_back : WrittenFieldIsRead → (parameter order size : ℕ) (residuals : List ℤ) (rest : List Bool) → parameter ≤ 30 → order + length residuals ≡ size → order < size
    → ((k : ℕ) → zigzag (get_or residuals k (pos 0)) ≤ 2 ^ 32 - 2)
    → residual_at order size (residual_bits_of parameter residuals ++ rest) ≡ Ok (residuals, rest)
unfolding residual_at residual_bits_of
residual_back law parameter order size residuals rest le is enough small =
    let method = method_of parameter in
    let values = low_bits (4 + method) parameter ++ (values_bits parameter residuals ++ rest) in
    let split : low_bits 2 method ++ (low_bits 4 0 ++ (low_bits (4 + method) parameter ++ values_bits parameter residuals)) ++ rest ≡ low_bits 2 method ++ (low_bits 4 0 ++ values) =
    append_assoc (low_bits 2 method) (low_bits 4 0 ++ (low_bits (4 + method) parameter ++ values_bits parameter residuals)) rest
    ∙ ap (λ (bits : List Bool). low_bits 2 method ++ bits)
    (append_assoc (low_bits 4 0) (low_bits (4 + method) parameter ++ values_bits parameter residuals) rest
    ∙ ap (λ (bits : List Bool). low_bits 4 0 ++ bits) (append_assoc (low_bits (4 + method) parameter) (values_bits parameter residuals) rest)) in
    let two : method < 2 = method_small (nat_le parameter 14) in
    let m = accept_back law 2 method (λ method. nat_lt method 2) Residual (low_bits 4 0 ++ values) (omega arith) (lt-ltb method 2 two) in
    let whole : is_partition_order size order 0 ≡ true =
    let none : (size % 2 ^ 0 == 0) ≡ true = eq-eqb (size % 2 ^ 0) 0 (omega arith) in
    let fits : nat_lt order (size / 2 ^ 0) ≡ true = lt-ltb order (size / 2 ^ 0) (omega arith) in
    rw (none, fits) refl in
    let x = accept_back law 4 0 (is_partition_order size order) Residual values (omega arith) whole in
    let p = one_partition law method parameter order residuals rest (parameter_below parameter (nat_le parameter 14) refl le) small in
    let same : size / 2 ^ 0 ≡ order + length residuals = omega arith in
    rw (split, m, x, same) p
