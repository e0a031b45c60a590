-- Two channels that are stored by their code are restored.
use Rattle.std.proofs.Common.{◌≡◌, ℕ, zero, suc, ◌-◌, ◌+◌, ◌≤◌, ◌^◌, get_or, Bool, true, false, ◌&&◌, ℤ, pos, negsuc, ◌+ℤ◌, ◌-ℤ◌, ◌≤ℤ◌, ◌<ℤ◌, List, [], ◌∷◌, length, Ok, refl, ap, ◌∙◌, arith}
use Rattle.std.specs.Int.{int_shr}
use Rattle.std.proofs.lemmas.Int.{ints}
use Rattle.std.proofs.Math.Pow.{pow_mono}
use Rattle.flac_predict.specs.Samples.{is_inside, all_inside, IsInside}
use Rattle.flac_frame.proofs.InsideLaws.{zero_inside}
use Rattle.flac_frame.proofs.RoundLaws.{double}
use Rattle.flac_frame.specs.Frame.{right_of, left_by, right_by, narrowed, pair_of, stereo_of}
use Rattle.flac_frame.specs.Writing.{pairwise, sides, mids}

record IsHalf (x : ℤ) : Type 0 where
  low : (int_shr x 1 +ℤ int_shr x 1) ≤ℤ x
  high : x <ℤ ((int_shr x 1 +ℤ int_shr x 1) +ℤ pos 2)

half : (x : ℤ) → IsHalf x
half (pos n) = record { low = omega (arith, ints); high = omega (arith, ints) }
half (negsuc n) = record { low = omega (arith, ints); high = omega (arith, ints) }

mid_right : (l r : ℤ) → right_of (int_shr (l +ℤ r) 1) (l -ℤ r) ≡ r
mid_right l r =
    let m = half (l +ℤ r) in
    let s = half (l -ℤ r) in
    let ml = m.low in
    let mh = m.high in
    let sl = s.low in
    let sh = s.high in
    omega (arith, ints)

mid_left : (l r : ℤ) → right_of (int_shr (l +ℤ r) 1) (l -ℤ r) +ℤ (l -ℤ r) ≡ l
mid_left l r = ap (λ (x : ℤ). x +ℤ (l -ℤ r)) (mid_right l r) ∙ omega (arith, ints)

both_parts : (a b : Bool) → (a && b) ≡ true → (a ≡ true) × (b ≡ true)
both_parts true b e = (refl, e)
both_parts false b e = absurd (cc)

pair_back : (code depth : ℕ) (x y l r : ℤ) (xs ys left right : List ℤ) → left_by code x y ≡ l → right_by code x y ≡ r → is_inside depth l ≡ true → is_inside depth r ≡ true
    → stereo_of code depth xs ys ≡ Ok (left, right) → stereo_of code depth (x ∷ xs) (y ∷ ys) ≡ Ok (l ∷ left, r ∷ right)
unfolding stereo_of pair_of narrowed
pair_back code depth x y l r xs ys left right el er tl tr more = rw (el, er, tl, tr, more) refl

pub left_side : (depth : ℕ) (left right : List ℤ) → length left ≡ length right → all_inside depth left ≡ true → all_inside depth right ≡ true
    → stereo_of 8 depth left (sides left right) ≡ Ok (left, right)
unfolding stereo_of pairwise all_inside
left_side depth [] [] same tl tr = refl
left_side depth [] (r ∷ right) same tl tr = absurd (omega arith)
left_side depth (l ∷ left) [] same tl tr = absurd (omega arith)
left_side depth (l ∷ left) (r ∷ right) same tl tr =
    let pl = both_parts (is_inside depth l) (all_inside depth left) tl in
    let pr = both_parts (is_inside depth r) (all_inside depth right) tr in
    let e : l -ℤ (l -ℤ r) ≡ r = omega (arith, ints) in
    pair_back 8 depth l (l -ℤ r) l r left (sides left right) left right refl e pl.0 pr.0 (left_side depth left right (omega arith) pl.1 pr.1)

pub side_right : (depth : ℕ) (left right : List ℤ) → length left ≡ length right → all_inside depth left ≡ true → all_inside depth right ≡ true
    → stereo_of 9 depth (sides left right) right ≡ Ok (left, right)
unfolding stereo_of pairwise all_inside
side_right depth [] [] same tl tr = refl
side_right depth [] (r ∷ right) same tl tr = absurd (omega arith)
side_right depth (l ∷ left) [] same tl tr = absurd (omega arith)
side_right depth (l ∷ left) (r ∷ right) same tl tr =
    let pl = both_parts (is_inside depth l) (all_inside depth left) tl in
    let pr = both_parts (is_inside depth r) (all_inside depth right) tr in
    let e : (l -ℤ r) +ℤ r ≡ l = omega (arith, ints) in
    pair_back 9 depth (l -ℤ r) r l r (sides left right) right left right e refl pl.0 pr.0 (side_right depth left right (omega arith) pl.1 pr.1)

pub mid_side : (depth : ℕ) (left right : List ℤ) → length left ≡ length right → all_inside depth left ≡ true → all_inside depth right ≡ true
    → stereo_of 10 depth (mids left right) (sides left right) ≡ Ok (left, right)
unfolding stereo_of pairwise all_inside
mid_side depth [] [] same tl tr = refl
mid_side depth [] (r ∷ right) same tl tr = absurd (omega arith)
mid_side depth (l ∷ left) [] same tl tr = absurd (omega arith)
mid_side depth (l ∷ left) (r ∷ right) same tl tr =
    let pl = both_parts (is_inside depth l) (all_inside depth left) tl in
    let pr = both_parts (is_inside depth r) (all_inside depth right) tr in
    pair_back 10 depth (int_shr (l +ℤ r) 1) (l -ℤ r) l r (mids left right) (sides left right) left right (mid_left l r) (mid_right l r) pl.0 pr.0
    (mid_side depth left right (omega arith) pl.1 pr.1)

-- ---- the channels that are stored are inside their bits

pub sides_len : (left right : List ℤ) → length left ≡ length right → length (sides left right) ≡ length left
unfolding pairwise
sides_len [] right same = refl
sides_len (l ∷ left) [] same = absurd (omega arith)
sides_len (l ∷ left) (r ∷ right) same = ap suc (sides_len left right (omega arith))

pub mids_len : (left right : List ℤ) → length left ≡ length right → length (mids left right) ≡ length left
unfolding pairwise
mids_len [] right same = refl
mids_len (l ∷ left) [] same = absurd (omega arith)
mids_len (l ∷ left) (r ∷ right) same = ap suc (mids_len left right (omega arith))

pub difference_inside : (bits : ℕ) (l r : ℤ) → 1 ≤ bits → IsInside bits l → IsInside bits r → IsInside (bits + 1) (l -ℤ r)
difference_inside bits l r some hl hr =
    let two = double bits some in
    let e : bits + 1 - 1 ≡ bits = omega arith in
    let ll = hl.low in
    let lh = hl.high in
    let rl = hr.low in
    let rh = hr.high in
    record { low = rw e (omega (arith, ints)); high = rw e (omega (arith, ints)) }

pub half_inside : (bits : ℕ) (l r : ℤ) → IsInside bits l → IsInside bits r → IsInside bits (int_shr (l +ℤ r) 1)
half_inside bits l r hl hr =
    let m = half (l +ℤ r) in
    let ml = m.low in
    let mh = m.high in
    let ll = hl.low in
    let lh = hl.high in
    let rl = hr.low in
    let rh = hr.high in
    record { low = omega (arith, ints); high = omega (arith, ints) }

pub sides_inside : (bits : ℕ) (left right : List ℤ) → 1 ≤ bits → ((k : ℕ) → IsInside bits (get_or left k (pos 0))) → ((k : ℕ) → IsInside bits (get_or right k (pos 0)))
    → (k : ℕ) → IsInside (bits + 1) (get_or (sides left right) k (pos 0))
unfolding pairwise
sides_inside bits [] right some hl hr k = zero_inside (bits + 1)
sides_inside bits (l ∷ left) [] some hl hr k = zero_inside (bits + 1)
sides_inside bits (l ∷ left) (r ∷ right) some hl hr zero = difference_inside bits l r some (hl 0) (hr 0)
sides_inside bits (l ∷ left) (r ∷ right) some hl hr (suc k) = sides_inside bits left right some (λ j. hl (suc j)) (λ j. hr (suc j)) k

pub mids_inside : (bits : ℕ) (left right : List ℤ) → ((k : ℕ) → IsInside bits (get_or left k (pos 0))) → ((k : ℕ) → IsInside bits (get_or right k (pos 0)))
    → (k : ℕ) → IsInside bits (get_or (mids left right) k (pos 0))
unfolding pairwise
mids_inside bits [] right hl hr k = zero_inside bits
mids_inside bits (l ∷ left) [] hl hr k = zero_inside bits
mids_inside bits (l ∷ left) (r ∷ right) hl hr zero = half_inside bits l r (hl 0) (hr 0)
mids_inside bits (l ∷ left) (r ∷ right) hl hr (suc k) = mids_inside bits left right (λ j. hl (suc j)) (λ j. hr (suc j)) k

pub widened : (bits : ℕ) (x : ℤ) → bits ≤ 25 → IsInside bits x → IsInside 25 x
widened bits x few h =
    let most : 2 ^ (bits - 1) ≤ 2 ^ 24 = pow_mono {i = bits - 1} {j = 24} (omega arith) in
    let low = h.low in
    let high = h.high in
    record { low = omega (arith, ints); high = omega (arith, ints) }
