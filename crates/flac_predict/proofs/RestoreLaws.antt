-- A list restored in place: what is restored, and what is left to restore.
use Rattle.std.proofs.Common.{◌≡◌, ℕ, zero, suc, ◌+◌, ◌-◌, ◌^◌, ◌<◌, ◌≤◌, true, false, leb, ltb, ℤ, pos, negsuc, neg_ℤ, ◌≤ℤ◌, ◌<ℤ◌, List, [], ◌∷◌, ◌++◌, length, take, drop, set, refl, sym, ap, ◌∙◌, arith, append_assoc, pow_mono, inl, inr}
use Rattle.std.proofs.lemmas.Int.{ints}
use Rattle.std.proofs.lemmas.Bool.{and_parts, and_left, cases_lt, lt-ltb, le-ltb, le-leb, lt-leb}
use Rattle.std.proofs.lemmas.List.{append-nil, take_all, take_more_set, drop_more, drop-set-lt, drop-drop, length-take-le}
use lib.Signed.{lt_z, le_z}
use Rattle.flac_predict.specs.Samples.{is_inside, all_inside, sample_at, IsInside, AreInside}
use Rattle.flac_predict.specs.Fixed.{sums_from, following, lasts, fixed_restored}
use Rattle.flac_predict.proofs.Bounds.{inside_told, wider_one, wider, are_tells}
use Rattle.flac_predict.proofs.FixedLaws.{restored_follows}

pub all_inside-append : (bits : ℕ) (xs ys : List ℤ) → all_inside bits xs ≡ true → all_inside bits (xs ++ ys) ≡ all_inside bits ys
unfolding all_inside
all_inside-append bits [] ys e = refl
all_inside-append bits (x ∷ xs) ys e =
    let p = and_parts (is_inside bits x) (all_inside bits xs) e in rw (p.0) (all_inside-append bits xs ys p.1)

one_less : (xs ys : List ℤ) (n : ℕ) → drop n xs ≡ drop n ys → drop (n + 1) xs ≡ drop (n + 1) ys
one_less xs ys n e = sym (drop-drop 1 n xs) ∙ ap (drop 1) e ∙ drop-drop 1 n ys

-- the list that is to come out, the list that came in, how it is now, and what is to stand from a place on
pub record Restoring (bits : ℕ) (whole initial now : List ℤ) (place : ℕ) (rest : List ℤ) : Type 0 where
  pub whole_is : take place now ++ rest ≡ whole
  pub same : drop place now ≡ drop place initial
  pub inside : all_inside bits (take place now) ≡ true

pub restoring_starts : (bits : ℕ) (whole initial : List ℤ) → Restoring bits whole initial initial 0 whole
unfolding all_inside
restoring_starts bits whole initial = record { whole_is = refl; same = refl; inside = refl }

inside_one : (bits : ℕ) (x : ℤ) → is_inside bits x ≡ true → all_inside bits (x ∷ []) ≡ true
unfolding all_inside
inside_one bits x e = rw e refl

pub restoring_goes_on : (bits : ℕ) (whole initial now : List ℤ) (place : ℕ) (rest : List ℤ) (x : ℤ) (more : List ℤ) → Restoring bits whole initial now place rest → place < length now → rest ≡ x ∷ more → is_inside bits x ≡ true → Restoring bits whole initial (set now place x) (place + 1) more
restoring_goes_on bits whole initial now place rest x more r h e i =
    let t : take (place + 1) (set now place x) ≡ take place now ++ x ∷ [] = take_more_set now place x h in
    let l : length now ≡ length now = refl in
    record {
      whole_is = rw t (append_assoc (take place now) (x ∷ []) more ∙ ap (λ (l : List ℤ). take place now ++ l) (sym e) ∙ r.whole_is);
      same = drop-set-lt (place + 1) now place x (omega arith) ∙ one_less now initial place r.same;
      inside = rw t (all_inside-append bits (take place now) (x ∷ []) r.inside ∙ inside_one bits x i);
    }

-- the next to be restored stands where it stood
pub next_is : (initial now : List ℤ) (place : ℕ) → drop place now ≡ drop place initial → place < length now → drop place initial ≡ sample_at now place ∷ drop (place + 1) initial
next_is initial now place e h = sym e ∙ drop_more now place (pos 0) h ∙ ap (λ (l : List ℤ). sample_at now place ∷ l) (one_less now initial place e)

broken : (bits : ℕ) (x : ℤ) (more : List ℤ) → is_inside bits x ≡ false → all_inside bits (x ∷ more) ≡ false
unfolding all_inside
broken bits x more e = and_left (is_inside bits x) (all_inside bits more) e

pub restoring_breaks : (bits : ℕ) (whole initial now : List ℤ) (place : ℕ) (rest : List ℤ) (x : ℤ) (more : List ℤ) → Restoring bits whole initial now place rest → rest ≡ x ∷ more → is_inside bits x ≡ false → all_inside bits whole ≡ false
restoring_breaks bits whole initial now place rest x more r e i =
    ap (all_inside bits) (sym r.whole_is) ∙ all_inside-append bits (take place now) rest r.inside ∙ ap (all_inside bits) e ∙ broken bits x more i

pub restoring_ends : (bits : ℕ) (whole initial now : List ℤ) (place : ℕ) (rest : List ℤ) → Restoring bits whole initial now place rest → length now ≤ place → rest ≡ [] → (now ≡ whole) × (all_inside bits whole ≡ true)
restoring_ends bits whole initial now place rest r h e =
    let t : take place now ≡ now = take_all place now h in
    let w : now ≡ whole = sym t ∙ sym (append-nil (take place now)) ∙ ap (λ (l : List ℤ). take place now ++ l) (sym e) ∙ r.whole_is in
    (w, ap (all_inside bits) (sym w ∙ sym t) ∙ r.inside)

pub following_nothing : (lasts : List ℤ) → following lasts [] ≡ []
unfolding following sums_from
following_nothing [] = refl
following_nothing (x ∷ more) = rw (following_nothing more) refl

-- what is inside fewer bits is inside 25
pub inside_25 : (bits : ℕ) (x : ℤ) → bits ≤ 25 → is_inside bits x ≡ true → IsInside 25 x
inside_25 bits x h e =
    wider_one bits 25 x (pow_mono {i = bits - 1} {j = 24} (omega arith)) (inside_told bits x e)

-- the test of a number against a limit
pub tested_high : (bits : ℕ) (x y l : ℤ) → y ≡ x → l ≡ pos (2 ^ (bits - 1)) → pos 0 ≤ℤ x → lt_z y l ≡ is_inside bits x
unfolding is_inside
tested_high bits (pos n) y l e f h = rw (e, f) refl
tested_high bits (negsuc n) y l e f h = absurd (omega (arith, ints, h))

negative : (m n : ℕ) → le_z (neg_ℤ (pos m)) (negsuc n) ≡ ltb n m
negative zero n = sym (le-ltb n 0 (omega arith))
negative (suc m) n =
    elim (cases_lt m n) as (λ _. leb n m ≡ ltb n (suc m)) [
      | inl h ↦ lt-leb n m h ∙ sym (le-ltb n (suc m) (omega arith))
      | inr h ↦ le-leb n m h ∙ sym (lt-ltb n (suc m) (omega arith))
    ]

pub tested_low : (bits : ℕ) (x y l : ℤ) → y ≡ x → l ≡ neg_ℤ (pos (2 ^ (bits - 1))) → x <ℤ pos 0 → le_z l y ≡ is_inside bits x
unfolding is_inside
tested_low bits (pos n) y l e f h = absurd (omega (arith, ints, h))
tested_low bits (negsuc n) y l e f h = rw (e, f) (negative (2 ^ (bits - 1)) n)

-- a warm-up, and what follows it
pub record RestoredIs (order bits : ℕ) (samples front back last : List ℤ) : Type 0 where
  pub list : front ++ following last back ≡ fixed_restored order (take order samples) (drop order samples)
  pub inside : all_inside bits (following last back) ≡ all_inside bits (fixed_restored order (take order samples) (drop order samples))

pub restored_is : (order bits : ℕ) (samples front back last : List ℤ) → order ≤ length samples → front ≡ take order samples → back ≡ drop order samples → last ≡ lasts order front → AreInside bits (take order samples) → RestoredIs order bits samples front back last
restored_is order bits samples front back last h f b l are =
    let w = take order samples in
    let r = drop order samples in
    let whole : fixed_restored order w r ≡ w ++ following (lasts order w) r = restored_follows order w r (length-take-le order samples h) in
    let same : front ++ following last back ≡ w ++ following (lasts order w) r = rw (l, f, b) refl in
    let rest : following last back ≡ following (lasts order w) r = rw (l, f, b) refl in
    record {
      list = same ∙ sym whole;
      inside = ap (all_inside bits) rest ∙ sym (all_inside-append bits w (following (lasts order w) r) (are_tells bits w are.each)) ∙ ap (all_inside bits) (sym whole);
    }

pub are_inside_25 : (bits : ℕ) (xs : List ℤ) → bits ≤ 25 → AreInside bits xs → AreInside 25 xs
are_inside_25 bits xs h are = wider bits 25 xs (pow_mono {i = bits - 1} {j = 24} (omega arith)) are
