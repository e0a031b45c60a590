-- Linear prediction as the code makes it: sums with one more product, residuals place after place, samples restored in
-- place.
use Rattle.std.proofs.Common.{◌≡◌, ◌≢◌, ℕ, suc, ◌+◌, ◌-◌, ◌*◌, ◌^◌, ◌<◌, ◌≤◌, true, false, ℤ, pos, ◌+ℤ◌, ◌-ℤ◌, ◌*ℤ◌, List, [], ◌∷◌, ◌++◌, length, map, take, drop, refl, sym, ap, ◌∙◌, subst, arith, pow_mono, below_more, get_or-set_other, get_or-set_same, inl, inr, negsuc, to_z, of_z, w32, w64, FitsSigned}
use Rattle.std.specs.Prelude.{unsigned_abs, slice_set as set_at}
use Rattle.std.specs.Int.{int_shr}
use Rattle.std.specs.List.{range_with_len}
use Rattle.std.proofs.Math.Nat.{mul-le-mul, mul-le-mul_left}
use Rattle.std.proofs.lemmas.Nat.{pow_pos}
use Rattle.std.proofs.lemmas.Int.{ints, to_z-of_z, unsigned_abs-mul, fits_signed_from_abs}
use Rattle.std.proofs.lemmas.Bool.{and_left, cases_lt, cases_Bool}
use Rattle.std.proofs.lemmas.List.{get_or-take, get_or_past, length-take, length-take-le, take_all, take_more_set, drop_more, drop_all, drop-set-lt, take-append-drop, ext_get_or}
use Rattle.std.proofs.lemmas.List.FromFn.{get_or-map-range_with_len}
use Rattle.flac_predict.specs.declared.sets.LinearSet.{LinearSet}
use Rattle.flac_predict.specs.Samples.{sample_at, is_inside, all_inside, IsInside, AreInside}
use Rattle.flac_predict.specs.Linear.{weighted, predicted, linear_residual, linear_residuals, linear_restored, IsLinearSet}
use Rattle.flac_predict.proofs.Bounds.{abs_shifted, abs_low, abs_high, abs_sum, abs_inside, inside_from_abs, nothing_is_inside, wider_one, are_tells, are_told}
use Rattle.flac_predict.proofs.BankLaws.{weight, weighted_most, weight_most}
use Rattle.flac_predict.proofs.LinearLaws.{weighted_same, predicted_front, restored_begins, length-linear_residuals}
use Rattle.flac_predict.proofs.RestoreLaws.{all_inside-append}

-- a front of samples that are inside their bits
pub front_inside : (bits count : ℕ) (samples : List ℤ) → 0 < 2 ^ (bits - 1) → AreInside bits samples → AreInside bits (take count samples)
front_inside bits count samples h are = record {
  each = λ k. elim (cases_lt k count) as (λ _. IsInside bits (sample_at (take count samples) k)) [
    | inl l ↦ let e : sample_at (take count samples) k ≡ sample_at samples k = get_or-take count samples k (pos 0) l in rw e (are.each k)
    | inr l ↦
        let p : sample_at (take count samples) k ≡ pos 0 = get_or_past (take count samples) k (pos 0) (omega (arith, length-take count samples)) in
        rw p (nothing_is_inside bits h)
  ];
}

-- a sum with one more product, as the code makes it
abbrev kept : ℤ → ℤ
kept x = to_z w64 (of_z w64 x)

abbrev taken : ℤ → ℤ
taken r = to_z w32 (of_z w32 r)

taken_is : (x : ℤ) → FitsSigned w32 x → kept (taken x) ≡ x
taken_is x f = let t : taken x ≡ x = to_z-of_z w32 x f in rw t (omega (arith, ints))

abs_32 : (x : ℤ) → FitsSigned w32 x → unsigned_abs x ≤ 2147483648
abs_32 (pos n) f = let h = f.sfits in omega arith
abs_32 (negsuc n) f = let h = f.sfits in omega arith

product_most : (c x : ℤ) → FitsSigned w32 c → FitsSigned w32 x → unsigned_abs (c *ℤ x) ≤ 4611686018427387904
product_most c x f g =
    rw (unsigned_abs-mul c x) (mul-le-mul (abs_32 c f) (abs_32 x g))

abs_below : (s p : ℤ) → IsInside 60 s → unsigned_abs p ≤ 4611686018427387904 → unsigned_abs (s +ℤ p) < 9223372036854775808
abs_below s p i h = omega (arith, abs_sum s p, abs_inside 60 s i)

whole_sum : (s p : ℤ) → IsInside 60 s → unsigned_abs p ≤ 4611686018427387904 → (kept (kept s +ℤ kept p) ≡ s +ℤ p) × FitsSigned w64 (kept s +ℤ kept p)
whole_sum s p i h =
    let l = abs_low p in
    let u = abs_high p in
    let kp : kept p ≡ p = omega (arith, ints) in
    let ks : kept s ≡ s = omega (arith, ints) in
    let sp : FitsSigned w64 (s +ℤ p) = fits_signed_from_abs w64 (s +ℤ p) (abs_below s p i h) in
    (rw (kp, ks) (to_z-of_z w64 (s +ℤ p) sp), rw (kp, ks) sp)

pub with_term_is : (s c x : ℤ) → IsInside 60 s → FitsSigned w32 c → FitsSigned w32 x → kept (kept s +ℤ kept (kept (taken c) *ℤ kept (taken x))) ≡ s +ℤ (c *ℤ x)
with_term_is s c x i f g = rw (taken_is c f, taken_is x g) (whole_sum s (c *ℤ x) i (product_most c x f g)).0

pub with_term_fits : (s c x : ℤ) → IsInside 60 s → FitsSigned w32 c → FitsSigned w32 x → FitsSigned w64 (kept s +ℤ kept (kept (taken c) *ℤ kept (taken x)))
with_term_fits s c x i f g = rw (taken_is c f, taken_is x g) (whole_sum s (c *ℤ x) i (product_most c x f g)).1

-- one more product
pub one_more_term : (set : LinearSet) (samples : List ℤ) (place count : ℕ) (s c x t : ℤ) → s ≡ weighted count set.coefficients samples place → c ≡ sample_at set.coefficients count → x ≡ sample_at samples (place - 1 - count) → t ≡ s +ℤ (c *ℤ x) → t ≡ weighted (count + 1) set.coefficients samples place
unfolding weighted
one_more_term set samples place count s c x t e f g h =
    let n : count + 1 ≡ suc count = omega arith in
    let m : place - 1 - count ≡ place - suc count = omega arith in
    let x' : x ≡ sample_at samples (place - suc count) = g ∙ ap (λ (k : ℕ). sample_at samples k) m in
    let w : s +ℤ (c *ℤ x) ≡ weighted (suc count) set.coefficients samples place = rw (e, f, x') refl in
    h ∙ w ∙ ap (λ (k : ℕ). weighted k set.coefficients samples place) (sym n)

-- how large a sum of a set's products is
scaled_most : (w n : ℕ) → w ≤ n * 16384 → n ≤ 32 → w * 16777216 ≤ 8796093022208
scaled_most w n h k = omega arith

coefficient_inside : (set : LinearSet) → IsLinearSet set → (k : ℕ) → k < set.order → IsInside 15 (sample_at set.coefficients k)
coefficient_inside set is k h =
    let e : sample_at (take set.order set.coefficients) k ≡ sample_at set.coefficients k = get_or-take set.order set.coefficients k (pos 0) h in
    let i : IsInside set.precision (sample_at set.coefficients k) = subst (IsInside set.precision) e (is.coefficients.each k) in
    wider_one set.precision 15 (sample_at set.coefficients k) (pow_mono {i = set.precision - 1} {j = 14} (omega (arith, is.precision))) i

pub weighted_is_small : (set : LinearSet) (samples : List ℤ) (place count : ℕ) → IsLinearSet set → AreInside 25 (take place samples) → count ≤ set.order → set.order ≤ place → unsigned_abs (weighted count set.coefficients samples place) ≤ 8796093022208
weighted_is_small set samples place count is are h o =
    let e : weighted count set.coefficients (take place samples) place ≡ weighted count set.coefficients samples place = weighted_same count set.coefficients (take place samples) samples place (omega arith) (λ k l. get_or-take place samples k (pos 0) l) in
    let m : unsigned_abs (weighted count set.coefficients (take place samples) place) ≤ weight count set.coefficients * 16777216 = weighted_most count set.coefficients (take place samples) place are in
    let c = λ (k : ℕ) (l : k < count). coefficient_inside set is k (omega arith) in
    let w : weight count set.coefficients ≤ count * 16384 = weight_most count set.coefficients c in
    let s = scaled_most (weight count set.coefficients) count w (omega (arith, is.order)) in
    subst (λ (z : ℤ). unsigned_abs z ≤ 8796093022208) e (omega (arith, m, s))

-- and a prediction
pub shift_is : (set : LinearSet) (samples : List ℤ) (place : ℕ) (s t : ℤ) → s ≡ weighted set.order set.coefficients samples place → t ≡ int_shr s set.shift → t ≡ predicted set samples place
unfolding predicted
shift_is set samples place s t e f = f ∙ ap (λ (x : ℤ). int_shr x set.shift) e

shift_most : (x : ℤ) (k m : ℕ) → unsigned_abs x ≤ m → unsigned_abs (int_shr x k) ≤ m
shift_most x k m h =
    let p : 0 < 2 ^ k = pow_pos k in
    let one : 1 ≤ 2 ^ k = omega arith in
    let q : m * 1 ≤ m * 2 ^ k = mul-le-mul_left m one in
    abs_shifted x k m (omega (arith, q))

pub prediction_inside : (set : LinearSet) (samples : List ℤ) (place : ℕ) → IsLinearSet set → AreInside 25 (take place samples) → set.order ≤ place → IsInside 45 (predicted set samples place)
unfolding predicted
prediction_inside set samples place is are o =
    let m = shift_most (weighted set.order set.coefficients samples place) set.shift 8796093022208 (weighted_is_small set samples place set.order is are (omega arith) o) in
    inside_from_abs 45 (int_shr (weighted set.order set.coefficients samples place) set.shift) (omega (arith, m))

-- residuals, place after place
pub residual_written : (set : LinearSet) (samples out : List ℤ) (place : ℕ) (x : ℤ) → place < length out → ((k : ℕ) → k < place → sample_at out k ≡ linear_residual set samples (set.order + k)) → x ≡ linear_residual set samples (set.order + place) → (k : ℕ) → k < place + 1 → sample_at (set_at out place x) k ≡ linear_residual set samples (set.order + k)
residual_written set samples out place x h below e =
    below_more (λ (k : ℕ). sample_at (set_at out place x) k ≡ linear_residual set samples (set.order + k)) place
    (λ k l. let n : k ≢ place = omega arith in get_or-set_other out place k x (pos 0) n ∙ below k l)
    (get_or-set_same out place x (pos 0) h ∙ e)

pub all_written : (set : LinearSet) (samples out : List ℤ) → length out + set.order ≡ length samples → ((k : ℕ) → k < length out → sample_at out k ≡ linear_residual set samples (set.order + k)) → out ≡ linear_residuals set samples
unfolding linear_residuals
all_written set samples out e h =
    let n : length samples - set.order ≡ length out = omega arith in
    ext_get_or (pos 0) out (map (linear_residual set samples) (range_with_len set.order (length samples - set.order))) (omega (arith, length-linear_residuals set samples))
    (λ k l. h k l ∙ sym (get_or-map-range_with_len (linear_residual set samples) set.order (length samples - set.order) k (set.order + k) (pos 0) (omega arith) refl))

pub residual_value : (set : LinearSet) (samples : List ℤ) (place : ℕ) (s p x : ℤ) → s ≡ sample_at samples place → p ≡ predicted set samples place → x ≡ s -ℤ p → x ≡ linear_residual set samples place
unfolding linear_residual
residual_value set samples place s p x e f g = rw (g, e, f) refl

-- the list that is to come out, how it is now, and a place before which it is restored
pub record LinearRestoring (set : LinearSet) (bits : ℕ) (whole now : List ℤ) (place : ℕ) : Type 0 where
  pub whole_is : linear_restored set (take place now) (drop place now) ≡ whole
  pub inside : AreInside bits (take place now)

one_inside : (bits : ℕ) (x : ℤ) → is_inside bits x ≡ true → all_inside bits (x ∷ []) ≡ true
unfolding all_inside
one_inside bits x e = rw e refl

one_step : (set : LinearSet) (now : List ℤ) (place : ℕ) (x : ℤ) → place < length now → x ≡ sample_at now place +ℤ predicted set now place → set.order ≤ place → linear_restored set (take place now) (drop place now) ≡ linear_restored set (take place now ++ x ∷ []) (drop (place + 1) now)
unfolding linear_restored
one_step set now place x h e o =
    let l : length (take place now) ≡ place = length-take-le place now (omega arith) in
    let q : predicted set (take place now) (length (take place now)) ≡ predicted set now place = ap (predicted set (take place now)) l ∙ predicted_front set now place o in
    let y : sample_at now place +ℤ predicted set (take place now) (length (take place now)) ≡ x = ap (λ (z : ℤ). sample_at now place +ℤ z) q ∙ sym e in
    ap (linear_restored set (take place now)) (drop_more now place (pos 0) h)
    ∙ ap (λ (z : ℤ). linear_restored set (take place now ++ z ∷ []) (drop (place + 1) now)) y

pub linear_goes_on : (set : LinearSet) (bits : ℕ) (whole now : List ℤ) (place : ℕ) (x : ℤ) → 0 < 2 ^ (bits - 1) → LinearRestoring set bits whole now place → place < length now → x ≡ sample_at now place +ℤ predicted set now place → set.order ≤ place → is_inside bits x ≡ true → LinearRestoring set bits whole (set_at now place x) (place + 1)
linear_goes_on set bits whole now place x p r h e o i =
    let t : take (place + 1) (set_at now place x) ≡ take place now ++ x ∷ [] = take_more_set now place x h in
    let d : drop (place + 1) (set_at now place x) ≡ drop (place + 1) now = drop-set-lt (place + 1) now place x (omega arith) in
    record {
      whole_is = rw (t, d) (sym (one_step set now place x h e o) ∙ r.whole_is);
      inside = rw t (are_told bits (take place now ++ x ∷ []) p (all_inside-append bits (take place now) (x ∷ []) (are_tells bits (take place now) r.inside.each) ∙ one_inside bits x i));
    }

not_all_front : (bits : ℕ) (xs ys : List ℤ) → all_inside bits xs ≡ false → all_inside bits (xs ++ ys) ≡ false
unfolding all_inside
not_all_front bits [] ys e = absurd (cc)
not_all_front bits (x ∷ xs) ys e =
    elim (cases_Bool (is_inside bits x)) as (λ _. all_inside bits ((x ∷ xs) ++ ys) ≡ false) [
      | inl t ↦ rw t (not_all_front bits xs ys (rw t at e))
      | inr t ↦ and_left (is_inside bits x) (all_inside bits (xs ++ ys)) t
    ]

ends_outside : (bits : ℕ) (xs : List ℤ) (x : ℤ) → all_inside bits xs ≡ true → is_inside bits x ≡ false → all_inside bits (xs ++ x ∷ []) ≡ false
unfolding all_inside
ends_outside bits xs x e i =
    all_inside-append bits xs (x ∷ []) e ∙ and_left (is_inside bits x) (all_inside bits []) i

pub linear_breaks : (set : LinearSet) (bits : ℕ) (whole now : List ℤ) (place : ℕ) (x : ℤ) → LinearRestoring set bits whole now place → place < length now → x ≡ sample_at now place +ℤ predicted set now place → set.order ≤ place → is_inside bits x ≡ false → all_inside bits whole ≡ false
linear_breaks set bits whole now place x r h e o i =
    let before = take place now ++ x ∷ [] in
    let w : linear_restored set before (drop (place + 1) now) ≡ whole = sym (one_step set now place x h e o) ∙ r.whole_is in
    let b : take (length before) whole ≡ before = ap (take (length before)) (sym w) ∙ restored_begins set before (drop (place + 1) now) in
    let f : all_inside bits (take (length before) whole) ≡ false = ap (all_inside bits) b ∙ ends_outside bits (take place now) x (are_tells bits (take place now) r.inside.each) i in
    ap (all_inside bits) (sym (take-append-drop (length before) whole)) ∙ not_all_front bits (take (length before) whole) (drop (length before) whole) f

pub linear_ends : (set : LinearSet) (bits : ℕ) (whole now : List ℤ) (place : ℕ) → LinearRestoring set bits whole now place → length now ≤ place → (now ≡ whole) × (all_inside bits whole ≡ true)
unfolding linear_restored
linear_ends set bits whole now place r h =
    let t : take place now ≡ now = take_all place now h in
    let d : drop place now ≡ [] = drop_all place now h in
    let w : now ≡ whole = sym t ∙ sym (ap (linear_restored set (take place now)) d) ∙ r.whole_is in
    (w, ap (all_inside bits) (sym w ∙ sym t) ∙ are_tells bits (take place now) r.inside.each)

pub inside_60 : (w s : ℤ) → s ≡ w → unsigned_abs w ≤ 8796093022208 → IsInside 60 s
inside_60 w s e h = rw e (inside_from_abs 60 w (omega arith))

pub kept_45 : (p x : ℤ) → x ≡ p → IsInside 45 p → to_z w64 (of_z w64 x) ≡ p
kept_45 p x e i = rw e (omega (arith, ints))

pub same_inside : (bits : ℕ) (x y : ℤ) → y ≡ x → IsInside bits x → IsInside bits y
same_inside bits x y e i = subst (IsInside bits) (sym e) i

pub sample_value : (set : LinearSet) (samples : List ℤ) (place : ℕ) (r p x : ℤ) → r ≡ sample_at samples place → p ≡ predicted set samples place → x ≡ r +ℤ p → x ≡ sample_at samples place +ℤ predicted set samples place
sample_value set samples place r p x e f g = rw (g, e, f) refl

pub fits_32 : (y x : ℤ) → y ≡ x → IsInside 25 x → FitsSigned w32 y
fits_32 y x e i = rw e (fits_signed_from_abs w32 x (omega (arith, abs_inside 25 x i)))
