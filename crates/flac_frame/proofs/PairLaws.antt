-- Two channels, and the code under which they take the fewest bits.
use Rattle.std.proofs.Common.{◌≡◌, ◌≢◌, ℕ, ◌-◌, ◌+◌, ◌*◌, ◌^◌, ◌≤◌, Bool, true, false, nat_lt, if◌then◌else◌, ℤ, pos, List, get_or, Result, Ok, Err, IfOk, refl, sym, ap, subst, ◌∙◌, arith}
use Rattle.std.proofs.Math.Nat.{mul-le-mul}
use Rattle.std.proofs.Math.Pow.{pow_mono}
use Rattle.std.proofs.lemmas.Int.{ints}
use Rattle.flac_predict.specs.Least.{kept, least_of}
use Rattle.flac_predict.specs.Samples.{IsInside, AreInside}
use Rattle.flac_predict.specs.Choice.{best_candidate, candidate_bits}
use Rattle.flac_predict.specs.declared.choosing.Choice.{Choice}
use Rattle.flac_frame.specs.declared.encoding.channels.Mode.{Mode}
use Rattle.flac_frame.specs.declared.encoding.channels.Subframes.{Subframes}
use Rattle.flac_frame.specs.Writing.{sides, mids, pair_bits, best_bits, best_code, lesser, code_by}
use Rattle.flac_frame.proofs.StereoBack.{sides_inside, mids_inside}
use Rattle.flac_frame.proofs.StoredLaws.{best_code_has}

record Matches (cost : ℕ → ℕ) (mode : Mode) (number : ℕ) : Type 0 where
  code : mode.code ≡ number
  bits : mode.bits ≡ cost number

taken : (cost : ℕ → ℕ) (first next : Mode) (c d : ℕ) (b : Bool) → Matches cost first c → Matches cost next d → Matches cost (if b then next else first) (if b then d else c)
taken cost first next c d true f n = n
taken cost first next c d false f n = f

matches : (cost : ℕ → ℕ) (first next : Mode) (c d : ℕ) → Matches cost first c → Matches cost next d → Matches cost (lesser first next) (if nat_lt (cost d) (cost c) then d else c)
matches cost first next c d f n =
    let t : nat_lt (cost d) (cost c) ≡ nat_lt next.bits first.bits = ap (λ k. nat_lt k (cost c)) (sym n.bits) ∙ ap (λ k. nat_lt next.bits k) (sym f.bits) in
    subst (λ (b : Bool). Matches cost (lesser first next) (if b then d else c)) (sym t) (taken cost first next c d (nat_lt next.bits first.bits) f n)

pub code_is : (bits : ℕ) (left right : List ℤ) (l r s m : ℕ) → l ≡ best_bits bits left → r ≡ best_bits bits right → s ≡ best_bits (bits + 1) (sides left right) → m ≡ best_bits bits (mids left right)
    → code_by l r s m ≡ best_code bits left right
unfolding code_by best_code least_of kept
code_is bits left right l r s m el er es em =
    let cost = pair_bits bits left right in
    let each : Mode = record { code = 1; bits = l + r } in
    let left_side : Mode = record { code = 8; bits = l + s } in
    let side_right : Mode = record { code = 9; bits = s + r } in
    let mid_side : Mode = record { code = 10; bits = m + s } in
    let m1 : Matches cost each 1 = record { code = refl; bits = ap (λ n. n + r) el ∙ ap (λ n. best_bits bits left + n) er } in
    let m8 : Matches cost left_side 8 = record { code = refl; bits = ap (λ n. n + s) el ∙ ap (λ n. best_bits bits left + n) es } in
    let m9 : Matches cost side_right 9 = record { code = refl; bits = ap (λ n. n + r) es ∙ ap (λ n. best_bits (bits + 1) (sides left right) + n) er } in
    let m10 : Matches cost mid_side 10 = record { code = refl; bits = ap (λ n. n + s) em ∙ ap (λ n. best_bits bits (mids left right) + n) es } in
    let n9 = if nat_lt (cost 10) (cost 9) then 10 else 9 in
    let a9 : Matches cost (lesser side_right mid_side) n9 = matches cost side_right mid_side 9 10 m9 m10 in
    let n8 = if nat_lt (cost n9) (cost 8) then n9 else 8 in
    let a8 : Matches cost (lesser left_side (lesser side_right mid_side)) n8 = matches cost left_side (lesser side_right mid_side) 8 n9 m8 a9 in
    let a1 = matches cost each (lesser left_side (lesser side_right mid_side)) 1 n8 m1 a8 in
    a1.code

-- what a channel takes is few enough for sums
pub few_bits : (count bits n : ℕ) → count ≤ 4096 → bits ≤ 25 → n ≤ 8 + count * bits → n ≤ 200000
few_bits count bits n few low le =
    let m : count * bits ≤ 4096 * 25 = mul-le-mul few low in
    omega arith

-- ---- the samples are inside their bits

wider : (bits most : ℕ) (x : ℤ) → bits ≤ most → IsInside bits x → IsInside most x
wider bits most x le h =
    let more : 2 ^ (bits - 1) ≤ 2 ^ (most - 1) = pow_mono {i = bits - 1} {j = most - 1} (omega arith) in
    let low = h.low in
    let high = h.high in
    record { low = omega (arith, ints); high = omega (arith, ints) }

pub all_wider : (bits most : ℕ) (xs : List ℤ) → bits ≤ most → AreInside bits xs → AreInside most xs
all_wider bits most xs le h = record { each = λ k. wider bits most (get_or xs k (pos 0)) le (h.each k) }

pub all_sides : (bits : ℕ) (left right : List ℤ) → 1 ≤ bits → AreInside bits left → AreInside bits right → AreInside (bits + 1) (sides left right)
all_sides bits left right some l r = record { each = sides_inside bits left right some l.each r.each }

pub all_mids : (bits : ℕ) (left right : List ℤ) → AreInside bits left → AreInside bits right → AreInside bits (mids left right)
all_mids bits left right l r = record { each = mids_inside bits left right l.each r.each }

-- ---- two channels as they are stored under the best code

pub last_code : (bits code : ℕ) (left right : List ℤ) → code ≡ best_code bits left right → code ≢ 8 → code ≢ 9 → code ≢ 10 → code ≡ 1
last_code bits code left right is not8 not9 not10 =
    best_code_has (λ n. code ≡ n → code ≡ 1) bits left right (λ e. e) (λ e. absurd (not8 e)) (λ e. absurd (not9 e)) (λ e. absurd (not10 e)) is

pub stored_code : {E : Type 0} (r : Result Subframes E) (code best : ℕ) → code ≡ best → IfOk r (λ all. all.code ≡ code) → IfOk r (λ all. all.code ≡ best)
stored_code (Ok all) code best is e = e ∙ is
stored_code (Err e) code best is t = t

pub side_inside : (bits most : ℕ) (left right xs : List ℤ) → xs ≡ sides left right → 1 ≤ bits → bits + 1 ≤ most → AreInside bits left → AreInside bits right → AreInside most xs
side_inside bits most left right xs is some le l r = subst (AreInside most) (sym is) (all_wider (bits + 1) most (sides left right) le (all_sides bits left right some l r))

pub mid_inside : (bits most : ℕ) (left right xs : List ℤ) → xs ≡ mids left right → bits ≤ most → AreInside bits left → AreInside bits right → AreInside most xs
mid_inside bits most left right xs is le l r = subst (AreInside most) (sym is) (all_wider bits most (mids left right) le (all_mids bits left right l r))

-- what a channel takes by its best choice
pub weighed : (depth : ℕ) (xs ys : List ℤ) (choice : Choice) (bits : ℕ) → xs ≡ ys → choice ≡ best_candidate depth xs → bits ≡ candidate_bits depth xs choice → bits ≡ best_bits depth ys
weighed depth xs ys choice bits is best takes = takes ∙ ap (candidate_bits depth xs) best ∙ ap (best_bits depth) is
