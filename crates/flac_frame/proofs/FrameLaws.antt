-- The subframes of a frame, as a loop reads them into their stretches, and the stereo decoding.
use Rattle.std.proofs.Common.{◌≡◌, ℕ, zero, suc, ◌-◌, ◌+◌, ◌*◌, ◌≤◌, ◌<◌, Bool, false, nat_lt, ℤ, pos, get_or, List, [], ◌∷◌, ◌++◌, length, take, drop, Result, Ok, Err, refl, sym, ap, ◌∙◌, append_assoc, add-one, arith}
use Rattle.std.proofs.Math.Nat.{mul-le-mul_right, suc-mul}
use Rattle.std.proofs.lemmas.List.{append-nil, take_all, take_at, drop_at, drop-take, take-take, length-take-le, drop_all, drop_more, take-append-le}
use Rattle.std.proofs.lemmas.Grind.{drop_more_same}
use borrow.Rule.Slice.PartMut.{put_mid, post_of, take_put}
use Rattle.flac_frame.specs.declared.error.FlacWhy.{FlacWhy}
use Rattle.flac_frame.specs.declared.stereo.Pair.{Pair}
use Rattle.std.proofs.lemmas.Bool.{le-ltb}
use Rattle.flac_frame.specs.Reading.{◌>>=◌, Gives}
use Rattle.flac_frame.specs.Samples.{stretch, stretches}
use Rattle.flac_frame.specs.Subframe.{subframe_at}
use Rattle.flac_frame.specs.Frame.{depth_of, subframes_at, decorrelated, pair_of, with_pair, stereo_of}

-- what was read before, and what is still read
abbrev pub with_rows : List (List ℤ) → Result (List (List ℤ) × List Bool) FlacWhy → Result (List (List ℤ) × List Bool) FlacWhy
with_rows front read = read >>= λ x. Ok (front ++ x.0, x.1)

pub no_rows : (read : Result (List (List ℤ) × List Bool) FlacWhy) → with_rows [] read ≡ read
no_rows (Ok x) = refl
no_rows (Err why) = refl

regroup : (front : List (List ℤ)) (row : List ℤ) (read : Result (List (List ℤ) × List Bool) FlacWhy) → with_rows front (read >>= λ y. Ok (row ∷ y.0, y.1)) ≡ with_rows (front ++ row ∷ []) read
regroup front row (Ok y) = ap (λ (rows : List (List ℤ)). Ok (rows, y.1)) (sym (append_assoc front (row ∷ []) y.0))
regroup front row (Err why) = refl

pub rows_on : (front rows : List (List ℤ)) (row : List ℤ) (code bits size count k : ℕ) (left after : List Bool) (total : Result (List (List ℤ) × List Bool) FlacWhy) → k < count
    → subframe_at (depth_of code bits k) size left ≡ Ok (row, after) → rows ≡ front ++ row ∷ []
    → with_rows front (subframes_at code bits size k (count - k) left) ≡ total → with_rows rows (subframes_at code bits size (k + 1) (count - (k + 1)) after) ≡ total
unfolding subframes_at
rows_on front rows row code bits size count k left after total lt h is so_far =
    let n : count - k ≡ suc (count - (k + 1)) = omega arith in
    let one : with_rows front (subframes_at code bits size k (count - k) left) ≡ with_rows (front ++ row ∷ []) (subframes_at code bits size (suc k) (count - (k + 1)) after) =
    rw (n, h) (regroup front row (subframes_at code bits size (suc k) (count - (k + 1)) after)) in
    rw is (ap (λ m. with_rows (front ++ row ∷ []) (subframes_at code bits size m (count - (k + 1)) after)) (add-one k) ∙ sym one ∙ so_far)

pub rows_end : (front : List (List ℤ)) (code bits size count k : ℕ) (left : List Bool) (why : FlacWhy) (total : Result (List (List ℤ) × List Bool) FlacWhy) → k < count
    → subframe_at (depth_of code bits k) size left ≡ Err why → with_rows front (subframes_at code bits size k (count - k) left) ≡ total → total ≡ Err why
unfolding subframes_at
rows_end front code bits size count k left why total lt h so_far =
    let n : count - k ≡ suc (count - (k + 1)) = omega arith in
    let one : with_rows front (subframes_at code bits size k (count - k) left) ≡ Err why = rw (n, h) refl in
    sym so_far ∙ one

pub rows_done : (front rows : List (List ℤ)) (code bits size count k : ℕ) (left : List Bool) (total : Result (List (List ℤ) × List Bool) FlacWhy) → count ≤ k → front ≡ rows
    → with_rows front (subframes_at code bits size k (count - k) left) ≡ total → total ≡ Ok (rows, left)
unfolding subframes_at
rows_done front rows code bits size count k left total le is so_far =
    let n : count - k ≡ 0 = omega arith in
    let one : with_rows front (subframes_at code bits size k (count - k) left) ≡ Ok (front, left) = rw n (ap (λ (r : List (List ℤ)). Ok (r, left)) (append-nil front)) in
    sym so_far ∙ one ∙ ap (λ (r : List (List ℤ)). Ok (r, left)) is

-- ---- stretches

pub room_for : (room size count k len : ℕ) → k < count → size ≤ room → len ≡ count * room → k * room + size ≤ len
room_for room size count k len lt le is =
    let more : suc k * room ≤ count * room = mul-le-mul_right room lt in
    let step : suc k * room ≡ k * room + room = suc-mul k room in
    omega arith

same_stretches : (room len count : ℕ) (xs ys : List ℤ) → ((k : ℕ) → k < count → stretch room len xs k ≡ stretch room len ys k) → stretches room len xs count ≡ stretches room len ys count
unfolding stretches
same_stretches room len zero xs ys same = refl
same_stretches room len (suc count) xs ys same =
    ap (λ (front : List (List ℤ)). front ++ stretch room len xs count ∷ []) (same_stretches room len count xs ys (λ k lt. same k (omega arith)))
    ∙ ap (λ (row : List ℤ). stretches room len ys count ++ row ∷ []) (same count (omega arith))

before : (at i n : ℕ) (k : ℕ) (xs ws : List ℤ) → at ≤ length xs → i + n ≤ at → take n (drop i (put_mid at k xs ws)) ≡ take n (drop i xs)
before at i n k xs ws le low =
    let same : take (i + n) (put_mid at k xs ws) ≡ take (i + n) xs =
    sym (take-take (i + n) at (put_mid at k xs ws) low) ∙ ap (take (i + n)) (take_put at k xs ws le) ∙ take-take (i + n) at xs low in
    sym (drop-take i n (put_mid at k xs ws)) ∙ ap (drop i) same ∙ drop-take i n xs

itself : (at n k : ℕ) (xs ws : List ℤ) → at ≤ length xs → length ws ≡ n → take n (drop at (put_mid at k xs ws)) ≡ ws
itself at n k xs ws le e =
    ap (take n) (drop_at (take at xs) (ws ++ post_of at k xs) at (length-take-le at xs le)) ∙ take_at ws (post_of at k xs) n e

range_len : (start len : ℕ) → (start + len) - start ≡ len
range_len start len = omega arith

pub row_stored : (room size k n : ℕ) (xs ws : List ℤ) → size ≤ room → k * room + size ≤ length xs → length ws ≡ size
    → stretches room size (put_mid (k * room) n xs ws) (k + 1) ≡ stretches room size xs k ++ ws ∷ []
unfolding stretches stretch
row_stored room size k n xs ws le within e =
    let at = k * room in
    let new = put_mid at n xs ws in
    let earlier : stretches room size new k ≡ stretches room size xs k =
    same_stretches room size k new xs (λ j lt.
    let more : suc j * room ≤ k * room = mul-le-mul_right room lt in
    let step : suc j * room ≡ j * room + room = suc-mul j room in
    before at (j * room) (j * room + size - j * room) n xs ws (omega arith) (omega arith)) in
    let here : stretch room size new k ≡ ws = ap (λ m. take m (drop at new)) (range_len at size) ∙ itself at size n xs ws (omega arith) e in
    rw add-one (ap (λ (front : List (List ℤ)). front ++ stretch room size new k ∷ []) earlier ∙ ap (λ (row : List ℤ). stretches room size xs k ++ row ∷ []) here)

-- ---- stereo

regroup_pair : (front back : List ℤ) (l r : ℤ) (read : Result (List ℤ × List ℤ) FlacWhy) → with_pair front back (with_pair (l ∷ []) (r ∷ []) read) ≡ with_pair (front ++ l ∷ []) (back ++ r ∷ []) read
regroup_pair front back l r (Ok x) =
    ap (λ (zs : List ℤ). Ok (zs, back ++ (r ∷ [] ++ x.1))) (sym (append_assoc front (l ∷ []) x.0)) ∙ ap (λ (zs : List ℤ). Ok ((front ++ l ∷ []) ++ x.0, zs)) (sym (append_assoc back (r ∷ []) x.1))
regroup_pair front back l r (Err why) = refl

pub no_pair : (read : Result (List ℤ × List ℤ) FlacWhy) → with_pair [] [] read ≡ read
no_pair (Ok x) = refl
no_pair (Err why) = refl

pub next_is : (place : ℕ) (now old : List ℤ) → drop place now ≡ drop place old → place < length now → drop place old ≡ get_or now place (pos 0) ∷ drop (place + 1) old
next_is place now old e lt = sym e ∙ drop_more now place (pos 0) lt ∙ ap (λ (more : List ℤ). get_or now place (pos 0) ∷ more) (drop_more_same now old place e)

pub pair_on : (code depth place : ℕ) (front back xs ys left right : List ℤ) (x y : ℤ) (pair : Pair) (total : Result (List ℤ × List ℤ) FlacWhy)
    → drop place xs ≡ x ∷ drop (place + 1) xs → drop place ys ≡ y ∷ drop (place + 1) ys → pair_of code depth x y ≡ Ok pair
    → left ≡ front ++ pair.left ∷ [] → right ≡ back ++ pair.right ∷ []
    → with_pair front back (stereo_of code depth (drop place xs) (drop place ys)) ≡ total
    → with_pair left right (stereo_of code depth (drop (place + 1) xs) (drop (place + 1) ys)) ≡ total
unfolding stereo_of
pair_on code depth place front back xs ys left right x y pair total ex ey h eleft eright so_far =
    let rest = stereo_of code depth (drop (place + 1) xs) (drop (place + 1) ys) in
    let one : with_pair front back (stereo_of code depth (drop place xs) (drop place ys)) ≡ with_pair (front ++ pair.left ∷ []) (back ++ pair.right ∷ []) rest =
    rw (ex, ey, h) (regroup_pair front back pair.left pair.right rest) in
    rw (eleft, eright) (sym one ∙ so_far)

pub pair_ends : (code depth place : ℕ) (front back xs ys : List ℤ) (x y : ℤ) (why : FlacWhy) (total : Result (List ℤ × List ℤ) FlacWhy)
    → drop place xs ≡ x ∷ drop (place + 1) xs → drop place ys ≡ y ∷ drop (place + 1) ys → pair_of code depth x y ≡ Err why
    → with_pair front back (stereo_of code depth (drop place xs) (drop place ys)) ≡ total → total ≡ Err why
unfolding stereo_of
pair_ends code depth place front back xs ys x y why total ex ey h so_far =
    let one : with_pair front back (stereo_of code depth (drop place xs) (drop place ys)) ≡ Err why = rw (ex, ey, h) refl in
    sym so_far ∙ one

pub pairs_done : (code depth place : ℕ) (front back xs ys : List ℤ) (total : Result (List ℤ × List ℤ) FlacWhy) → length xs ≤ place
    → with_pair front back (stereo_of code depth (drop place xs) (drop place ys)) ≡ total → total ≡ Ok (front, back)
unfolding stereo_of
pairs_done code depth place front back xs ys total le so_far =
    let none : drop place xs ≡ [] = drop_all place xs le in
    let one : with_pair front back (stereo_of code depth (drop place xs) (drop place ys)) ≡ Ok (front, back) =
    rw none (ap (λ (zs : List ℤ). Ok (zs, back ++ [])) (append-nil front) ∙ ap (λ (zs : List ℤ). Ok (front, zs)) (append-nil back)) in
    sym so_far ∙ one

pub pairs_whole : (code depth place : ℕ) (left right xs ys : List ℤ) (total : Result (List ℤ × List ℤ) FlacWhy) → length xs ≤ place → length left ≤ place → length right ≤ place
    → with_pair (take place left) (take place right) (stereo_of code depth (drop place xs) (drop place ys)) ≡ total → total ≡ Ok (left, right)
pairs_whole code depth place left right xs ys total le all every so_far =
    pairs_done code depth place (take place left) (take place right) xs ys total le so_far
    ∙ ap (λ (zs : List ℤ). Ok (zs, take place right)) (take_all place left all) ∙ ap (λ (zs : List ℤ). Ok (left, zs)) (take_all place right every)

-- ---- two stretches of one list

pub two_stretches : (room size : ℕ) (xs ys : List ℤ) → length xs ≡ room → size ≤ room → stretches room size (xs ++ ys) 2 ≡ take size xs ∷ take size ys ∷ []
unfolding stretches stretch
two_stretches room size xs ys e le =
    let one : 1 * room ≡ room = omega arith in
    let first : take (0 * room + size - 0 * room) (drop (0 * room) (xs ++ ys)) ≡ take size xs =
    let n : 0 * room + size - 0 * room ≡ size = omega arith in
    let z : 0 * room ≡ 0 = omega arith in
    ap (λ m. take m (drop (0 * room) (xs ++ ys))) n ∙ ap (λ m. take size (drop m (xs ++ ys))) z ∙ take-append-le size xs ys (omega arith) in
    let second : take (1 * room + size - 1 * room) (drop (1 * room) (xs ++ ys)) ≡ take size ys =
    let n : 1 * room + size - 1 * room ≡ size = omega arith in
    ap (λ m. take m (drop (1 * room) (xs ++ ys))) n ∙ ap (λ m. take size (drop m (xs ++ ys))) one ∙ ap (take size) (drop_at xs ys room e) in
    ap (λ (row : List ℤ). row ∷ take (1 * room + size - 1 * room) (drop (1 * room) (xs ++ ys)) ∷ []) first ∙ ap (λ (row : List ℤ). take size xs ∷ row ∷ []) second

pub two_parts : (room size : ℕ) (x y rx ry : List ℤ) → length x ≡ size → length y ≡ size → length (x ++ rx) ≡ room → size ≤ room → stretches room size (x ++ rx ++ (y ++ ry)) 2 ≡ x ∷ y ∷ []
two_parts room size x y rx ry ex ey e le =
    two_stretches room size (x ++ rx) (y ++ ry) e le
    ∙ ap (λ (row : List ℤ). row ∷ take size (y ++ ry) ∷ []) (take_at x rx size ex) ∙ ap (λ (row : List ℤ). x ∷ row ∷ []) (take_at y ry size ey)

pub decorrelated_by : (code depth : ℕ) (rows out : List (List ℤ)) (x y left right : List ℤ) (result : Result Unit FlacWhy) → 8 ≤ code → rows ≡ x ∷ y ∷ [] → out ≡ left ∷ right ∷ []
    → Gives (λ _. (left, right)) result (stereo_of code depth x y) → Gives (λ _. out) result (decorrelated code depth rows)
unfolding decorrelated
decorrelated_by code depth rows out x y left right (Ok done) le er eo h =
    let t : nat_lt code 8 ≡ false = le-ltb code 8 le in
    rw (t, er, h, eo) refl
decorrelated_by code depth rows out x y left right (Err why) le er eo h =
    let t : nat_lt code 8 ≡ false = le-ltb code 8 le in
    rw (t, er, h) refl
