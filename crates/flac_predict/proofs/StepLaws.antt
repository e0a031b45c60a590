-- One more sample of sums, and the lasts of a warm-up.
use Rattle.std.proofs.Common.{◌≡◌, ℕ, ◌+◌, ◌-◌, ◌^◌, ℤ, ◌+ℤ◌, ◌-ℤ◌, List, [], ◌∷◌, length, refl, sym, ◌∙◌, subst, arith, lit≤, to_z, of_z, w32, w64, FitsSigned}
use Rattle.std.proofs.lemmas.Int.{ints, to_z-of_z, fits_signed_from_abs}
use Rattle.flac_predict.specs.Samples.{sample_at, IsInside, AreInside}
use Rattle.flac_predict.specs.Fixed.{differences, sums_from, fixed_residuals, following, lasts}
use Rattle.flac_predict.proofs.Bounds.{difference_inside, wider_one, abs_sum, abs_inside}
use Rattle.flac_predict.proofs.FixedLaws.{length-differences}
use Rattle.flac_predict.proofs.SmallLaws.{differences_at}

pub next_of_none : (r a : ℤ) (more : List ℤ) → a ≡ r → following [] (r ∷ more) ≡ a ∷ following [] more
unfolding following
next_of_none r a more e = rw e refl

pub next_of_one : (s r a b : ℤ) (more : List ℤ) → a ≡ s +ℤ r → b ≡ s +ℤ r → following (s ∷ []) (r ∷ more) ≡ a ∷ following (b ∷ []) more
unfolding following sums_from
next_of_one s r a b more e f = rw (e, f) refl

pub next_of_two : (s d r a b e : ℤ) (more : List ℤ) → e ≡ d +ℤ r → b ≡ s +ℤ e → a ≡ b → following (s ∷ d ∷ []) (r ∷ more) ≡ a ∷ following (b ∷ e ∷ []) more
unfolding following sums_from
next_of_two s d r a b e more h i j = rw (j, i, h) refl

pub next_of_three : (s d k r a b e l : ℤ) (more : List ℤ) → l ≡ k +ℤ r → e ≡ d +ℤ (k +ℤ r) → b ≡ s +ℤ (d +ℤ (k +ℤ r)) → a ≡ s +ℤ (d +ℤ (k +ℤ r)) → following (s ∷ d ∷ k ∷ []) (r ∷ more) ≡ a ∷ following (b ∷ e ∷ l ∷ []) more
unfolding following sums_from
next_of_three s d k r a b e l more g h i j = rw (j, i, h, g) refl

pub next_of_four : (s d k m r a b e l n : ℤ) (more : List ℤ) → n ≡ m +ℤ r → l ≡ k +ℤ (m +ℤ r) → e ≡ d +ℤ (k +ℤ (m +ℤ r)) → b ≡ s +ℤ (d +ℤ (k +ℤ (m +ℤ r))) → a ≡ s +ℤ (d +ℤ (k +ℤ (m +ℤ r))) → following (s ∷ d ∷ k ∷ m ∷ []) (r ∷ more) ≡ a ∷ following (b ∷ e ∷ l ∷ n ∷ []) more
unfolding following sums_from
next_of_four s d k m r a b e l n more f g h i j = rw (j, i, h, g, f) refl

-- sums as the code makes them, of numbers that are small enough
abbrev kept : ℤ → ℤ
kept x = to_z w64 (of_z w64 x)

abbrev added : ℤ → ℤ → ℤ
added x y = kept (kept x +ℤ kept y)

abbrev taken : ℤ → ℤ
taken r = to_z w32 (of_z w32 r)

kept_is : (x a : ℤ) → a ≡ x → IsInside 40 x → kept a ≡ x
kept_is x a e i = rw e (omega (arith, ints))

added_is : (x y a b : ℤ) → a ≡ x → b ≡ y → IsInside 40 x → IsInside 40 y → added a b ≡ x +ℤ y
added_is x y a b e f i j = rw (e, f) (omega (arith, ints))

sum_fits : (x y a b : ℤ) → a ≡ x → b ≡ y → IsInside 40 x → IsInside 40 y → FitsSigned w64 (kept a +ℤ kept b)
sum_fits x y a b e f i j =
    let kx : kept x ≡ x = kept_is x x refl i in
    let ky : kept y ≡ y = kept_is y y refl j in
    rw (e, f, kx, ky) (fits_signed_from_abs w64 (x +ℤ y) (omega (arith, abs_sum x y, abs_inside 40 x i, abs_inside 40 y j)))

inside_32 : (r : ℤ) → FitsSigned w32 r → IsInside 32 r
inside_32 r f = record { low = omega (arith, ints); high = omega (arith, ints) }

pub record ThreeNext (s d k r : ℤ) : Type 0 where
  pub second : added k (taken r) ≡ k +ℤ r
  pub first : added d (added k (taken r)) ≡ d +ℤ (k +ℤ r)
  pub sample : added s (added d (added k (taken r))) ≡ s +ℤ (d +ℤ (k +ℤ r))
  pub result_is : kept (added s (added d (added k (taken r)))) ≡ s +ℤ (d +ℤ (k +ℤ r))
  pub fits : FitsSigned w64 (kept s +ℤ kept (added d (added k (taken r))))

pub three_next : (s d k r : ℤ) → IsInside 25 s × IsInside 26 d × IsInside 27 k → FitsSigned w32 r → ThreeNext s d k r
three_next s d k r f g =
    let i : IsInside 32 r = inside_32 r g in
    let t : taken r ≡ r = to_z-of_z w32 r g in
    let is = wider_one 25 40 s (lit≤ tt) f.0 in
    let id = wider_one 26 40 d (lit≤ tt) f.1 in
    let ik = wider_one 27 40 k (lit≤ tt) f.2 in
    let i1 : IsInside 40 (k +ℤ r) = record { low = omega (arith, ints, f.2); high = omega (arith, ints, f.2) } in
    let i2 : IsInside 40 (d +ℤ (k +ℤ r)) = record { low = omega (arith, ints, f.1, f.2); high = omega (arith, ints, f.1, f.2) } in
    let i3 : IsInside 40 (s +ℤ (d +ℤ (k +ℤ r))) = record { low = omega (arith, ints, f.0, f.1, f.2); high = omega (arith, ints, f.0, f.1, f.2) } in
    let l = added_is k r k (taken r) refl t ik (wider_one 32 40 r (lit≤ tt) i) in
    let e = added_is d (k +ℤ r) d (added k (taken r)) refl l id i1 in
    let b = added_is s (d +ℤ (k +ℤ r)) s (added d (added k (taken r))) refl e is i2 in
    record { second = l; first = e; sample = b; result_is = kept_is (s +ℤ (d +ℤ (k +ℤ r))) (added s (added d (added k (taken r)))) b i3; fits = sum_fits s (d +ℤ (k +ℤ r)) s (added d (added k (taken r))) refl e is i2 }

pub record FourNext (s d k m r : ℤ) : Type 0 where
  pub third : added m (taken r) ≡ m +ℤ r
  pub second : added k (added m (taken r)) ≡ k +ℤ (m +ℤ r)
  pub first : added d (added k (added m (taken r))) ≡ d +ℤ (k +ℤ (m +ℤ r))
  pub sample : added s (added d (added k (added m (taken r)))) ≡ s +ℤ (d +ℤ (k +ℤ (m +ℤ r)))
  pub result_is : kept (added s (added d (added k (added m (taken r))))) ≡ s +ℤ (d +ℤ (k +ℤ (m +ℤ r)))
  pub fits : FitsSigned w64 (kept s +ℤ kept (added d (added k (added m (taken r)))))
  pub fits_first : FitsSigned w64 (kept d +ℤ kept (added k (added m (taken r))))

pub four_next : (s d k m r : ℤ) → IsInside 25 s × IsInside 26 d × IsInside 27 k × IsInside 28 m → FitsSigned w32 r → FourNext s d k m r
four_next s d k m r f g =
    let i : IsInside 32 r = inside_32 r g in
    let t : taken r ≡ r = to_z-of_z w32 r g in
    let is = wider_one 25 40 s (lit≤ tt) f.0 in
    let id = wider_one 26 40 d (lit≤ tt) f.1 in
    let ik = wider_one 27 40 k (lit≤ tt) f.2 in
    let im = wider_one 28 40 m (lit≤ tt) f.3 in
    let i0 : IsInside 40 (m +ℤ r) = record { low = omega (arith, ints, f.3); high = omega (arith, ints, f.3) } in
    let i1 : IsInside 40 (k +ℤ (m +ℤ r)) = record { low = omega (arith, ints, f.2, f.3); high = omega (arith, ints, f.2, f.3) } in
    let i2 : IsInside 40 (d +ℤ (k +ℤ (m +ℤ r))) = record { low = omega (arith, ints, f.1, f.2, f.3); high = omega (arith, ints, f.1, f.2, f.3) } in
    let i3 : IsInside 40 (s +ℤ (d +ℤ (k +ℤ (m +ℤ r)))) = record { low = omega (arith, ints, f.0, f.1, f.2, f.3); high = omega (arith, ints, f.0, f.1, f.2, f.3) } in
    let n = added_is m r m (taken r) refl t im (wider_one 32 40 r (lit≤ tt) i) in
    let l = added_is k (m +ℤ r) k (added m (taken r)) refl n ik i0 in
    let e = added_is d (k +ℤ (m +ℤ r)) d (added k (added m (taken r))) refl l id i1 in
    let b = added_is s (d +ℤ (k +ℤ (m +ℤ r))) s (added d (added k (added m (taken r)))) refl e is i2 in
    record { third = n; second = l; first = e; sample = b; result_is = kept_is (s +ℤ (d +ℤ (k +ℤ (m +ℤ r)))) (added s (added d (added k (added m (taken r))))) b i3; fits = sum_fits s (d +ℤ (k +ℤ (m +ℤ r))) s (added d (added k (added m (taken r)))) refl e is i2; fits_first = sum_fits d (k +ℤ (m +ℤ r)) d (added k (added m (taken r))) refl l id i1 }

-- the lasts of so many samples
pub lasts_of_one : (w : List ℤ) (a : ℤ) → a ≡ sample_at w 0 → a ∷ [] ≡ lasts 1 w
unfolding lasts
lasts_of_one w a e = rw e refl

pub lasts_of_two : (w : List ℤ) (a b : ℤ) → length w ≡ 2 → a ≡ sample_at w 1 → b ≡ sample_at w 1 -ℤ sample_at w 0 → a ∷ b ∷ [] ≡ lasts 2 w
unfolding lasts
lasts_of_two w a b l e f =
    let d : sample_at (differences w) 0 ≡ sample_at w 1 -ℤ sample_at w 0 = differences_at w 0 (omega arith) in
    rw (e, f, d) refl

pub lasts_of_three : (w : List ℤ) (a b g : ℤ) → length w ≡ 3 → a ≡ sample_at w 2 → b ≡ sample_at w 2 -ℤ sample_at w 1 → g ≡ (sample_at w 2 -ℤ sample_at w 1) -ℤ (sample_at w 1 -ℤ sample_at w 0) → a ∷ b ∷ g ∷ [] ≡ lasts 3 w
unfolding lasts
lasts_of_three w a b g l e f h =
    let m : length (differences w) ≡ 2 = omega (arith, length-differences w) in
    let d0 : sample_at (differences w) 0 ≡ sample_at w 1 -ℤ sample_at w 0 = differences_at w 0 (omega arith) in
    let d1 : sample_at (differences w) 1 ≡ sample_at w 2 -ℤ sample_at w 1 = differences_at w 1 (omega arith) in
    let dd : sample_at (differences (differences w)) 0 ≡ sample_at (differences w) 1 -ℤ sample_at (differences w) 0 = differences_at (differences w) 0 (omega arith) in
    rw (e, f, h, dd, d1, d0) refl

pub lasts_of_four : (w : List ℤ) (a b g k : ℤ) → a ≡ sample_at w 3 → b ≡ sample_at (fixed_residuals 1 w) 2 → g ≡ sample_at (fixed_residuals 2 w) 1 → k ≡ sample_at (fixed_residuals 3 w) 0 → a ∷ b ∷ g ∷ k ∷ [] ≡ lasts 4 w
unfolding lasts fixed_residuals
lasts_of_four w a b g k e f h i = rw (e, f, h, i) refl

-- lasts stay small: a difference has one bit more
inside_same : (bits : ℕ) (x y : ℤ) → y ≡ x → IsInside bits x → IsInside bits y
inside_same bits x y e i = subst (IsInside bits) (sym e) i

inside_less : (bits more : ℕ) (x y z : ℤ) → 2 ^ (more - 1) ≡ 2 ^ (bits - 1) + 2 ^ (bits - 1) → z ≡ y -ℤ x → IsInside bits x → IsInside bits y → IsInside more z
inside_less bits more x y z h e i j = inside_same more (y -ℤ x) z e (difference_inside bits more x y h i j)

pub fits_of_two : (s d a b e : ℤ) → IsInside 25 s × IsInside 26 d → b ≡ s +ℤ e → a ≡ b → IsInside 25 a → IsInside 25 b × IsInside 26 e
fits_of_two s d a b e f i j h =
    let ib = inside_same 25 a b (sym j) h in (ib, inside_less 25 26 s b e refl (omega (arith, ints)) f.0 ib)

pub fits_of_three : (s d k x a b e l : ℤ) → IsInside 25 s × IsInside 26 d × IsInside 27 k → l ≡ x → e ≡ d +ℤ x → b ≡ s +ℤ (d +ℤ x) → a ≡ s +ℤ (d +ℤ x) → IsInside 25 a → IsInside 25 b × IsInside 26 e × IsInside 27 l
fits_of_three s d k x a b e l f o g i j h =
    let ib = inside_same 25 a b (i ∙ sym j) h in
    let ie = inside_less 25 26 s b e refl (omega (arith, ints)) f.0 ib in
    (ib, ie, inside_less 26 27 d e l refl (omega (arith, ints)) f.1 ie)

pub fits_of_four : (s d k m y a b e l n : ℤ) → IsInside 25 s × IsInside 26 d × IsInside 27 k × IsInside 28 m → n ≡ y → l ≡ k +ℤ y → e ≡ d +ℤ (k +ℤ y) → b ≡ s +ℤ (d +ℤ (k +ℤ y)) → a ≡ s +ℤ (d +ℤ (k +ℤ y)) → IsInside 25 a → IsInside 25 b × IsInside 26 e × IsInside 27 l × IsInside 28 n
fits_of_four s d k m y a b e l n f o p g i j h =
    let ib = inside_same 25 a b (i ∙ sym j) h in
    let ie = inside_less 25 26 s b e refl (omega (arith, ints)) f.0 ib in
    let il = inside_less 26 27 d e l refl (omega (arith, ints)) f.1 ie in
    (ib, ie, il, inside_less 27 28 k l n refl (omega (arith, ints)) f.2 il)

-- and those of a warm-up are
pub lasts_fit_two : (w : List ℤ) (a b : ℤ) → AreInside 25 w → a ≡ sample_at w 1 → b ≡ sample_at w 1 -ℤ sample_at w 0 → IsInside 25 a × IsInside 26 b
lasts_fit_two w a b i e f =
    (inside_same 25 (sample_at w 1) a e (i.each 1), inside_less 25 26 (sample_at w 0) (sample_at w 1) b refl f (i.each 0) (i.each 1))

pub lasts_fit_three : (w : List ℤ) (a b g : ℤ) → AreInside 25 w → a ≡ sample_at w 2 → b ≡ sample_at w 2 -ℤ sample_at w 1 → g ≡ (sample_at w 2 -ℤ sample_at w 1) -ℤ (sample_at w 1 -ℤ sample_at w 0) → IsInside 25 a × IsInside 26 b × IsInside 27 g
lasts_fit_three w a b g i e f h =
    let d0 = difference_inside 25 26 (sample_at w 0) (sample_at w 1) refl (i.each 0) (i.each 1) in
    let d1 = difference_inside 25 26 (sample_at w 1) (sample_at w 2) refl (i.each 1) (i.each 2) in
    (inside_same 25 (sample_at w 2) a e (i.each 2), inside_same 26 (sample_at w 2 -ℤ sample_at w 1) b f d1, inside_less 26 27 (sample_at w 1 -ℤ sample_at w 0) (sample_at w 2 -ℤ sample_at w 1) g refl h d0 d1)

pub lasts_fit_four : (w : List ℤ) (x y z a b g k : ℤ) → AreInside 25 w → a ≡ sample_at w 3 → b ≡ x → g ≡ y → k ≡ z → IsInside 26 x → IsInside 27 y → IsInside 28 z → IsInside 25 a × IsInside 26 b × IsInside 27 g × IsInside 28 k
lasts_fit_four w x y z a b g k i e f h l m n o =
    (inside_same 25 (sample_at w 3) a e (i.each 3), inside_same 26 x b f m, inside_same 27 y g h n, inside_same 28 z k l o)
