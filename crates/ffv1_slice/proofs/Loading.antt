-- Lines of samples, filled in place by place.
use Rattle.std.proofs.Common.{◌≡◌, ◌≢◌, ℕ, ◌+◌, ◌*◌, ◌<◌, List, Bool, length, get_or, set, refl, sym, ap, ◌∙◌, arith, inl, inr, get_or-set_same, get_or-set_other, length-set}
use Rattle.std.proofs.lemmas.Bool.{cases_eq}
use Rattle.ffv1_slice.specs.Below.{AreBelow}
use Rattle.ffv1_slice.specs.Colour.{pixel_in, plane_sample}
use Rattle.ffv1_slice.specs.Loading.{AreSamples}

pub no_samples : (half : ℕ) (green : Bool) (pixels : List ℕ) (plane : ℕ) (line : List ℕ) → AreSamples half green pixels plane 0 line line
no_samples half green pixels plane line = record { each = λ x b. absurd (omega arith); below = λ h. h; count_same = refl }

pub below_set : (most : ℕ) (line : List ℕ) (k v : ℕ) → AreBelow most line → v < most → k < length line → AreBelow most (set line k v)
below_set most line k v are small within = record {
  each = λ j. elim (cases_eq j k) as (λ _. get_or (set line k v) j 0 < most) [
    | inl is ↦
        let at : get_or (set line k v) j 0 ≡ v = ap (λ (n : ℕ). get_or (set line k v) n 0) is ∙ get_or-set_same line k v 0 within in
        omega arith
    | inr ne ↦
        let at : get_or (set line k v) j 0 ≡ get_or line j 0 = get_or-set_other line k j v 0 ne in
        let small' : get_or line j 0 < most = are.each j in
        omega arith
  ];
}

pub sample_loaded : (half : ℕ) (green : Bool) (pixels : List ℕ) (plane x : ℕ) (old line : List ℕ) (v : ℕ) → AreSamples half green pixels plane x old line → v ≡ plane_sample half green (pixel_in pixels x) plane → v < 2 * half → x + 2 < length line → AreSamples half green pixels plane (x + 1) old (set line (x + 2) v)
sample_loaded half green pixels plane x old line v are is small within = record {
  each = λ k b. elim (cases_eq k x) as (λ _. get_or (set line (x + 2) v) (k + 2) 0 ≡ plane_sample half green (pixel_in pixels k) plane) [
    | inl e ↦
        let at : get_or (set line (x + 2) v) (k + 2) 0 ≡ v = ap (λ (n : ℕ). get_or (set line (x + 2) v) (n + 2) 0) e ∙ get_or-set_same line (x + 2) v 0 within in
        at ∙ is ∙ ap (λ (n : ℕ). plane_sample half green (pixel_in pixels n) plane) (sym e)
    | inr ne ↦
        let other : k + 2 ≢ x + 2 = omega arith in
        let below : k < x = omega arith in
        get_or-set_other line (x + 2) (k + 2) v 0 other ∙ are.each k below
  ];
  below = λ h. below_set (2 * half) line (x + 2) v (are.below h) small within;
  count_same = length-set line (x + 2) v ∙ are.count_same;
}

pub ruleset loading = (no_samples, sample_loaded)
