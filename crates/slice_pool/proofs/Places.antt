-- Parts of lists that are read, written over and put together.
use Rattle.std.proofs.Common.{◌≡◌, ℕ, ◌+◌, ◌-◌, ◌*◌, ◌/◌, ◌<◌, ◌≤◌, List, ◌++◌, length, take, drop, sym, ◌∙◌, ap, arith, length-append, length-drop}
use Rattle.std.proofs.lemmas.List.{drop-take, drop-drop, length-take-le, take-append-le, drop-append-le}
use Rattle.std.proofs.Math.Seq.{drop-append-add}
use Rattle.std.proofs.Math.Nat.{div-mul-le_self, mul-le-mul_right}
use Rattle.std.proofs.lemmas.Nat.{le-div}
use Rattle.std.proofs.lemmas.Slice.{take-put_mid_below}
use borrow.Rule.Slice.PartMut.{put_mid}
use Rattle.slice_pool.specs.Shares.{first_tile}

pub length-put : (b k : ℕ) (xs ys : List ℕ) → b + k ≤ length xs → length ys ≡ k → length (put_mid b k xs ys) ≡ length xs
length-put b k xs ys room long =
    let front : length (take b xs) ≡ b = length-take-le b xs (omega arith) in
    let rest : length (drop k (drop b xs)) ≡ length xs - b - k = length-drop k (drop b xs) ∙ ap (λ n. n - k) (length-drop b xs) in
    length-append (take b xs) (ys ++ drop k (drop b xs))
    ∙ ap (λ n. length (take b xs) + n) (length-append ys (drop k (drop b xs)))
    ∙ omega arith

-- what stands before the part that is written over
pub part-below : (a w b k : ℕ) (xs ys : List ℕ) → a + w ≤ b → b ≤ length xs
    → take w (drop a (put_mid b k xs ys)) ≡ take w (drop a xs)
part-below a w b k xs ys before room =
    sym (drop-take a w (put_mid b k xs ys))
    ∙ ap (drop a) (take-put_mid_below b k xs ys (a + w) before room)
    ∙ drop-take a w xs

-- what stands behind a place is the same behind a later one
pub drop-later : (a b : ℕ) (xs ys : List ℕ) → a ≤ b → drop a xs ≡ drop a ys → drop b xs ≡ drop b ys
drop-later a b xs ys up same =
    let sum : a + (b - a) ≡ b = omega arith in
    ap (λ n. drop n xs) (sym sum) ∙ sym (drop-drop (b - a) a xs) ∙ ap (drop (b - a)) same
    ∙ drop-drop (b - a) a ys ∙ ap (λ n. drop n ys) sum

-- a part of two lists behind one another that is in the first, and one that is in the second
pub part-front : (a w : ℕ) (xs ys : List ℕ) → a + w ≤ length xs → take w (drop a (xs ++ ys)) ≡ take w (drop a xs)
part-front a w xs ys room =
    let rest : length (drop a xs) ≡ length xs - a = length-drop a xs in
    ap (take w) (drop-append-le a xs ys (omega arith)) ∙ take-append-le w (drop a xs) ys (omega arith)

pub part-back : (a b w : ℕ) (xs ys : List ℕ) → a ≡ length xs + b → take w (drop a (xs ++ ys)) ≡ take w (drop b ys)
part-back a b w xs ys is =
    ap (λ n. take w (drop n (xs ++ ys))) is ∙ ap (take w) (drop-append-add xs ys b)

-- a later share begins with a later tile
pub first-up : (tiles workers share next : ℕ) → 0 < workers → share ≤ next
    → first_tile tiles workers share ≤ first_tile tiles workers next
unfolding first_tile
first-up tiles workers share next some up =
    let down : share * tiles / workers * workers ≤ share * tiles = div-mul-le_self (share * tiles) workers in
    let more : share * tiles ≤ next * tiles = mul-le-mul_right tiles up in
    le-div (share * tiles / workers) (next * tiles) workers some (omega arith)
