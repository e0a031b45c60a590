-- How large linear predictions are, and what holds of the writer's sets.
use Rattle.std.proofs.Common.{◌≡◌, ℕ, zero, suc, ◌+◌, ◌-◌, ◌*◌, ◌^◌, ◌<◌, ◌≤◌, Bool, true, ◌&&◌, leb, ℤ, pos, ◌*ℤ◌, List, ◌++◌, length, map, take, drop, replicate, refl, sym, ap, ◌∙◌, subst, arith, lit<, lit≤}
use Rattle.std.specs.Prelude.{unsigned_abs}
use Rattle.std.specs.List.{range_with_len}
use Rattle.std.proofs.Math.Nat.{mul-le-mul_left}
use Rattle.std.proofs.lemmas.Int.{ints, unsigned_abs-mul}
use Rattle.std.proofs.lemmas.Bool.{leb-true, and_parts}
use Rattle.std.proofs.lemmas.List.{drop-replicate}
use Rattle.flac_predict.specs.declared.sets.LinearSet.{LinearSet}
use Rattle.flac_predict.specs.Samples.{sample_at, IsInside, AreInside, all_inside, is_inside}
use Rattle.flac_predict.specs.Linear.{weighted, predicted, linear_residual, linear_residuals, IsLinearSet}
use Rattle.flac_predict.specs.Bank.{bank_set, set_of, bank_rows, IsOfBank}
use Rattle.flac_predict.proofs.Bounds.{abs_sum, abs_inside, abs_shifted, nothing_is_inside, are_told, abs_low, abs_high}

-- the sum of the first coefficients' absolute values
unfoldable pub weight : ℕ → List ℤ → ℕ
weight zero coefficients = 0
weight (suc count) coefficients = weight count coefficients + unsigned_abs (sample_at coefficients count)

pub weighted_most : (count : ℕ) (coefficients samples : List ℤ) (place : ℕ) → AreInside 25 samples → unsigned_abs (weighted count coefficients samples place) ≤ weight count coefficients * 16777216
unfolding weighted weight
weighted_most zero coefficients samples place are = lit≤ tt
weighted_most (suc count) coefficients samples place are =
    let w = weighted count coefficients samples place in
    let c = sample_at coefficients count in
    let s = sample_at samples (place - suc count) in
    let ih : unsigned_abs w ≤ weight count coefficients * 16777216 = weighted_most count coefficients samples place are in
    let p : unsigned_abs (c *ℤ s) ≡ unsigned_abs c * unsigned_abs s = unsigned_abs-mul c s in
    let m : unsigned_abs c * unsigned_abs s ≤ unsigned_abs c * 16777216 = mul-le-mul_left (unsigned_abs c) (abs_inside 25 s (are.each (place - suc count))) in
    omega (arith, abs_sum w (c *ℤ s), p, m, ih)

-- coefficients of at most 15 bits
pub weight_most : (count : ℕ) (coefficients : List ℤ) → ((k : ℕ) → k < count → IsInside 15 (sample_at coefficients k)) → weight count coefficients ≤ count * 16384
unfolding weight
weight_most zero coefficients are = lit≤ tt
weight_most (suc count) coefficients are =
    let ih = weight_most count coefficients (λ k h. are k (omega arith)) in
    let m = abs_inside 15 (sample_at coefficients count) (are count (omega arith)) in
    omega (arith, ih, m)

-- what is computed of a set of the bank
abbrev is_tame : LinearSet → Bool
is_tame set =
    leb 1 set.order && (leb set.order 32 && (leb set.shift 15 && (leb (weight set.order set.coefficients) (10 * 2 ^ set.shift) && all_inside 8 (take set.order set.coefficients))))

tame_at : (number : ℕ) → 1 ≤ number → number ≤ 8 → is_tame (bank_set number) ≡ true
unfolding bank_set set_of bank_rows weight all_inside is_inside
tame_at zero l h = absurd (omega arith)
tame_at (suc zero) l h = refl
tame_at (suc (suc zero)) l h = refl
tame_at (suc (suc (suc zero))) l h = refl
tame_at (suc (suc (suc (suc zero)))) l h = refl
tame_at (suc (suc (suc (suc (suc zero))))) l h = refl
tame_at (suc (suc (suc (suc (suc (suc zero)))))) l h = refl
tame_at (suc (suc (suc (suc (suc (suc (suc zero))))))) l h = refl
tame_at (suc (suc (suc (suc (suc (suc (suc (suc zero)))))))) l h = refl
tame_at (suc (suc (suc (suc (suc (suc (suc (suc (suc more))))))))) l h = absurd (omega arith)

pub record IsTame (set : LinearSet) : Type 0 where
  pub some : 1 ≤ set.order
  pub few : set.order ≤ 32
  pub shift : set.shift ≤ 15
  pub light : weight set.order set.coefficients ≤ 10 * 2 ^ set.shift
  pub inside : AreInside 8 (take set.order set.coefficients)

told : (set : LinearSet) → is_tame set ≡ true → IsTame set
told set e =
    let a = leb 1 set.order in
    let b = leb set.order 32 in
    let c = leb set.shift 15 in
    let d = leb (weight set.order set.coefficients) (10 * 2 ^ set.shift) in
    let f = all_inside 8 (take set.order set.coefficients) in
    let p = and_parts a (b && (c && (d && f))) e in
    let q = and_parts b (c && (d && f)) p.1 in
    let r = and_parts c (d && f) q.1 in
    let s = and_parts d f r.1 in
    record {
      some = leb-true 1 set.order p.0;
      few = leb-true set.order 32 q.0;
      shift = leb-true set.shift 15 r.0;
      light = leb-true (weight set.order set.coefficients) (10 * 2 ^ set.shift) s.0;
      inside = are_told 8 (take set.order set.coefficients) (lit< tt) s.1;
    }

pub bank_is_tame : (set : LinearSet) → IsOfBank set → IsTame set
bank_is_tame set of = subst IsTame (sym of.is) (told (bank_set of.number) (tame_at of.number of.low of.high))

precision_is : (number : ℕ) → (bank_set number).precision ≡ 8
unfolding bank_set set_of
precision_is number = refl

pub bank_is_linear : (set : LinearSet) → IsOfBank set → IsLinearSet set
bank_is_linear set of =
    let t = bank_is_tame set of in
    let p : set.precision ≡ 8 = ap (λ (s : LinearSet). s.precision) of.is ∙ precision_is of.number in
    record {
      some = t.some;
      order = t.few;
      precise = omega arith;
      precision = omega arith;
      shift = t.shift;
      coefficients = subst (λ (n : ℕ). AreInside n (take set.order set.coefficients)) (sym p) t.inside;
    }

scaled : (w q p : ℕ) → w ≤ 10 * p → w * 16777216 ≤ 167772160 * p
scaled w q p h = omega arith

-- predictions by the bank
pub predicted_most : (set : LinearSet) (samples : List ℤ) (place : ℕ) → IsTame set → AreInside 25 samples → unsigned_abs (predicted set samples place) ≤ 167772160
unfolding predicted
predicted_most set samples place t are =
    let w = weighted set.order set.coefficients samples place in
    let h : unsigned_abs w ≤ weight set.order set.coefficients * 16777216 = weighted_most set.order set.coefficients samples place are in
    let s : weight set.order set.coefficients * 16777216 ≤ 167772160 * 2 ^ set.shift = scaled (weight set.order set.coefficients) 0 (2 ^ set.shift) t.light in
    abs_shifted w set.shift 167772160 (omega arith)

pub residual_inside : (set : LinearSet) (samples : List ℤ) (place : ℕ) → IsTame set → AreInside 25 samples → IsInside 29 (linear_residual set samples place)
unfolding linear_residual
residual_inside set samples place t are =
    let p = predicted set samples place in
    let m : unsigned_abs p ≤ 167772160 = predicted_most set samples place t are in
    let i : IsInside 25 (sample_at samples place) = are.each place in
    record {
      low = omega (arith, ints, abs_low p, abs_high p, i.low, i.high, m);
      high = omega (arith, ints, abs_low p, abs_high p, i.low, i.high, m);
    }

each_residual : (set : LinearSet) (samples : List ℤ) (count first : ℕ) → IsTame set → AreInside 25 samples → (place : ℕ) → IsInside 29 (sample_at (map (linear_residual set samples) (range_with_len first count)) place)
each_residual set samples zero first t are place = nothing_is_inside 29 (lit< tt)
each_residual set samples (suc count) first t are zero = residual_inside set samples first t are
each_residual set samples (suc count) first t are (suc place) = each_residual set samples count (first + 1) t are place

pub linear_is_small : (set : LinearSet) (samples : List ℤ) → IsOfBank set → AreInside 25 samples → AreInside 29 (linear_residuals set samples)
unfolding linear_residuals
linear_is_small set samples of are =
    record { each = each_residual set samples (length samples - set.order) set.order (bank_is_tame set of) are }

-- a set from its coefficients, with zeros behind
pub set_is : (shift : ℕ) (first copied : List ℤ) → copied ≡ first → record { order = length first; precision = 8; shift = shift; coefficients = copied ++ drop (length first) (replicate 32 (pos 0)) } ≡ set_of (record { shift = shift; coefficients = first })
unfolding set_of
set_is shift first copied e = rw (e, drop-replicate (length first) 32 (pos 0)) refl
