-- Residuals of a quotient that is counted in 32 bits, and signed numbers inside their bits.
use Rattle.std.proofs.Common.{◌≡◌, ℕ, zero, suc, ◌-◌, ◌+◌, ◌*◌, ◌%◌, ◌^◌, ◌≤◌, ◌<◌, min, Bool, true, false, nat_le, pos, negsuc, ◌-ℤ◌, sub-one, List, [], Result, Ok, Err, refl, sym, ap, ◌∙◌, arith}
use Rattle.std.proofs.lemmas.Bool.{le-leb, lt-leb, leb-true, leb-false}
use Rattle.std.proofs.lemmas.Nat.{pow_pos, one_shl}
use Rattle.std.proofs.Math.Pow.{pow_mono}
use Rattle.std.proofs.lemmas.Int.{ints, to_z_pos}
use mir.Val.{to_z, of_z}
use mir.Syntax.{w32}
use Rattle.flac_predict.specs.Samples.{IsInside}
use Rattle.std.proofs.Math.Nat.{mul-le-mul_right, pow-suc}
use Rattle.flac_frame.specs.declared.error.FlacWhy.{FlacWhy}
use Rattle.flac_frame.specs.declared.error.FlacWhy.TheVariants.{Residual}
use Rattle.flac_frame.specs.Reading.{counted, field_at, unary_at}
use Rattle.flac_frame.specs.Residual.{unfolded, value_at}

-- a quotient that can't be counted is too large under each parameter
large_all : (q k rest : ℕ) → 2 ^ 32 - 1 ≤ q → 2 ^ 32 - 1 ≤ q * 2 ^ k + rest
large_all q k rest le =
    let one : 1 ≤ 2 ^ k = pow_pos k in
    let more : 1 * q ≤ 2 ^ k * q = mul-le-mul_right q one in
    omega arith

record Counted (read : Result (ℕ × List Bool) FlacWhy) (n : ℕ) (after : List Bool) : Type 0 where
  q : ℕ
  is : read ≡ Ok (q, after)
  n_is : n ≡ min q (2 ^ 32 - 1)

taken : Result (ℕ × List Bool) FlacWhy → ℕ
taken (Ok x) = x.0
taken (Err why) = 0

left_of : Result (ℕ × List Bool) FlacWhy → List Bool
left_of (Ok x) = x.1
left_of (Err why) = []

counted_back : (read : Result (ℕ × List Bool) FlacWhy) (n : ℕ) (after : List Bool) → counted read ≡ Ok (n, after) → Counted read n after
unfolding taken left_of
counted_back (Ok x) n after e =
    let parts : (min x.0 (2 ^ 32 - 1) ≡ n) × (x.1 ≡ after) = (ap taken e, ap left_of e) in
    record { q = x.0; is = ap (λ (l : List Bool). Ok (x.0, l)) parts.1; n_is = sym parts.0 }
counted_back (Err why) n after e = absurd (cc)

counted_err : (read : Result (ℕ × List Bool) FlacWhy) (why : FlacWhy) → counted read ≡ Err why → read ≡ Err why
counted_err (Ok x) why e = absurd (cc)
counted_err (Err w) why e = e

pub value_cut : (k : ℕ) (bits : List Bool) (why : FlacWhy) → counted (unary_at bits) ≡ Err why → value_at k bits ≡ Err why
unfolding value_at
value_cut k bits why e = let u = counted_err (unary_at bits) why e in rw u refl

pub value_short : (k n : ℕ) (bits after : List Bool) (why : FlacWhy) → counted (unary_at bits) ≡ Ok (n, after) → field_at k after ≡ Err why → value_at k bits ≡ Err why
unfolding value_at
value_short k n bits after why e h = let c = counted_back (unary_at bits) n after e in let u = c.is in rw (u, h) refl

same_by : (q n k rest : ℕ) (b : Bool) → nat_le q (2 ^ 32 - 2) ≡ b → n ≡ min q (2 ^ 32 - 1) → nat_le (q * 2 ^ k + rest) (2 ^ 32 - 2) ≡ nat_le (n * 2 ^ k + rest) (2 ^ 32 - 2)
same_by q n k rest true t e =
    let le : q ≤ 2 ^ 32 - 2 = leb-true q (2 ^ 32 - 2) t in
    let same : n ≡ q = omega arith in
    rw same refl
same_by q n k rest false t e =
    let lt : 2 ^ 32 - 2 < q = leb-false q (2 ^ 32 - 2) t in
    let first = large_all q k rest (omega arith) in
    let second = large_all n k rest (omega arith) in
    lt-leb (q * 2 ^ k + rest) (2 ^ 32 - 2) (omega arith) ∙ sym (lt-leb (n * 2 ^ k + rest) (2 ^ 32 - 2) (omega arith))

same_test : (q n k rest : ℕ) → n ≡ min q (2 ^ 32 - 1) → nat_le (q * 2 ^ k + rest) (2 ^ 32 - 2) ≡ nat_le (n * 2 ^ k + rest) (2 ^ 32 - 2)
same_test q n k rest e = same_by q n k rest (nat_le q (2 ^ 32 - 2)) refl e

exact_by : (q n k rest : ℕ) (b : Bool) → nat_le q (2 ^ 32 - 2) ≡ b → n ≡ min q (2 ^ 32 - 1) → n * 2 ^ k + rest ≤ 2 ^ 32 - 2 → q ≡ n
exact_by q n k rest true t e small =
    let le : q ≤ 2 ^ 32 - 2 = leb-true q (2 ^ 32 - 2) t in omega arith
exact_by q n k rest false t e small =
    let lt : 2 ^ 32 - 2 < q = leb-false q (2 ^ 32 - 2) t in
    let second = large_all n k rest (omega arith) in
    absurd (omega arith)

pub value_large : (k n rest : ℕ) (bits after left : List Bool) → counted (unary_at bits) ≡ Ok (n, after) → field_at k after ≡ Ok (rest, left) → 2 ^ 32 - 2 < n * 2 ^ k + rest
    → value_at k bits ≡ Err Residual
unfolding value_at
value_large k n rest bits after left e h large =
    let c = counted_back (unary_at bits) n after e in
    let u = c.is in
    let t : nat_le (c.q * 2 ^ k + rest) (2 ^ 32 - 2) ≡ false = same_test c.q n k rest c.n_is ∙ lt-leb (n * 2 ^ k + rest) (2 ^ 32 - 2) large in
    rw (u, h, t) refl

pub value_read : (k n rest : ℕ) (bits after left : List Bool) → counted (unary_at bits) ≡ Ok (n, after) → field_at k after ≡ Ok (rest, left) → n * 2 ^ k + rest ≤ 2 ^ 32 - 2
    → value_at k bits ≡ Ok (unfolded (n * 2 ^ k + rest), left)
unfolding value_at
value_read k n rest bits after left e h small =
    let c = counted_back (unary_at bits) n after e in
    let u = c.is in
    let same : c.q ≡ n = exact_by c.q n k rest (nat_le c.q (2 ^ 32 - 2)) refl c.n_is small in
    let t : nat_le (n * 2 ^ k + rest) (2 ^ 32 - 2) ≡ true = le-leb (n * 2 ^ k + rest) (2 ^ 32 - 2) small in
    rw (u, h, same, t) refl

-- ---- signed numbers

half : (count number : ℕ) → 2 * number < 2 ^ count → number < 2 ^ (count - 1)
half zero number lt = omega arith
half (suc count) number lt = let two : 2 ^ suc count ≡ 2 ^ count * 2 = pow-suc 2 count in rw sub-one (omega arith)

rest_of : (count number : ℕ) → number < 2 ^ count → 2 ^ count ≤ 2 * number → 2 ^ count ≤ 2 ^ (count - 1) + number
rest_of zero number lt le = absurd (omega arith)
rest_of (suc count) number lt le = let two : 2 ^ suc count ≡ 2 ^ count * 2 = pow-suc 2 count in rw sub-one (omega arith)

pub inside_above : (count number : ℕ) → count ≤ 31 → 2 * number < 1 * 2 ^ count % 2 ^ 32 → IsInside count (to_z w32 number)
inside_above count number few lt =
    let mask : 1 * 2 ^ count % 2 ^ 32 ≡ 2 ^ count = one_shl count 32 (omega arith) in
    let most : 2 ^ count ≤ 2 ^ 31 = pow_mono {i = count} {j = 31} few in
    let small : number < 2 ^ (count - 1) = half count number (rw mask at lt) in
    let is : to_z w32 number ≡ pos number = to_z_pos w32 number (omega arith) in
    rw is (record { low = omega (arith, ints); high = omega (arith, ints) })

pub inside_below : (count number : ℕ) → count ≤ 31 → number < 2 ^ count → 1 * 2 ^ count % 2 ^ 32 ≤ 2 * number
    → IsInside count (to_z w32 (of_z w32 (negsuc 0 -ℤ to_z w32 (1 * 2 ^ count % 2 ^ 32 - 1 - number))))
inside_below count number few lt le =
    let mask : 1 * 2 ^ count % 2 ^ 32 ≡ 2 ^ count = one_shl count 32 (omega arith) in
    let most : 2 ^ count ≤ 2 ^ 31 = pow_mono {i = count} {j = 31} few in
    let all : 2 ^ count ≤ 2 ^ (count - 1) + number = rest_of count number lt (rw mask at le) in
    rw mask (record { low = omega (arith, ints); high = omega (arith, ints) })
