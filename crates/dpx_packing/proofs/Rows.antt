-- Blocks in a row: what one more of them adds.
use Rattle.std.proofs.Common.{◌≡◌, ℕ, zero, suc, ◌+◌, ◌-◌, ◌*◌, ◌≤◌, List, ◌++◌, length, take, drop, sym, ◌∙◌, ap, arith, append_assoc, add-one}
use Rattle.std.proofs.lemmas.List.{drop-drop, append-nil}
use Rattle.std.proofs.lemmas.Slice.{take-put_mid}
use Rattle.std.specs.List.{between}
use borrow.Rule.Slice.PartMut.{put_mid}
use Rattle.dpx_packing.specs.Blocks.{of_blocks, of_pairs}

-- the items past so many blocks and one more
pub drop-block : (count size : ℕ) (xs : List ℕ) → drop (count * size) (drop size xs) ≡ drop (suc count * size) xs
drop-block count size xs =
    let e : size + count * size ≡ suc count * size = omega arith in
    drop-drop (count * size) size xs ∙ ap (λ n. drop n xs) e

pub of_blocks-next : (part : List ℕ → List ℕ) (size count : ℕ) (xs : List ℕ)
    → of_blocks part size (suc count) xs ≡ of_blocks part size count xs ++ part (take size (drop (count * size) xs))
unfolding of_blocks
of_blocks-next part size zero xs =
    let e : 0 * size ≡ 0 = omega arith in
    append-nil (part (take size xs)) ∙ ap (λ n. part (take size (drop n xs))) (sym e)
of_blocks-next part size (suc count) xs =
    ap (λ rest. part (take size xs) ++ rest) (of_blocks-next part size count (drop size xs))
    ∙ sym (append_assoc (part (take size xs)) (of_blocks part size count (drop size xs)) (part (take size (drop (count * size) (drop size xs)))))
    ∙ ap (λ rest. part (take size xs) ++ of_blocks part size count (drop size xs) ++ part (take size rest)) (drop-block count size xs)

pub of_pairs-next : (whole : List ℕ → List ℕ → List ℕ) (left right count : ℕ) (xs ys : List ℕ)
    → of_pairs whole left right (suc count) xs ys ≡ of_pairs whole left right count xs ys ++ whole (take left (drop (count * left) xs)) (take right (drop (count * right) ys))
unfolding of_pairs
of_pairs-next whole left right zero xs ys =
    let e : 0 * left ≡ 0 = omega arith in
    let f : 0 * right ≡ 0 = omega arith in
    append-nil (whole (take left xs) (take right ys))
    ∙ ap (λ n. whole (take left (drop n xs)) (take right ys)) (sym e)
    ∙ ap (λ n. whole (take left (drop (0 * left) xs)) (take right (drop n ys))) (sym f)
of_pairs-next whole left right (suc count) xs ys =
    let first : List ℕ = whole (take left xs) (take right ys) in
    ap (λ rest. first ++ rest) (of_pairs-next whole left right count (drop left xs) (drop right ys))
    ∙ sym (append_assoc first (of_pairs whole left right count (drop left xs) (drop right ys)) (whole (take left (drop (count * left) (drop left xs))) (take right (drop (count * right) (drop right ys)))))
    ∙ ap (λ rest. first ++ of_pairs whole left right count (drop left xs) (drop right ys) ++ whole (take left rest) (take right (drop (count * right) (drop right ys)))) (drop-block count left xs)
    ∙ ap (λ rest. first ++ of_pairs whole left right count (drop left xs) (drop right ys) ++ whole (take left (drop (suc count * left) xs)) (take right rest)) (drop-block count right ys)

-- what a loop has written after one more block
grown : (width i : ℕ) (before out new : List ℕ) → take (i * width) out ≡ before → i * width ≤ length out
    → length new ≡ width
    → take ((i + 1) * width) (put_mid (i * width) (i * width + width - i * width) out new) ≡ before ++ new
grown width i before out new so_far room long =
    let end : (i + 1) * width ≡ i * width + length new = omega arith in
    take-put_mid (i * width) (i * width + width - i * width) out new ((i + 1) * width) end room
    ∙ ap (λ xs. xs ++ new) so_far

between-block : (size i : ℕ) (xs : List ℕ) → between (i * size) (i * size + size) xs ≡ take size (drop (i * size) xs)
between-block size i xs =
    let e : i * size + size - i * size ≡ size = omega arith in
    ap (λ n. take n (drop (i * size) xs)) e

pub blocks-grown : (part : List ℕ → List ℕ) (size width i : ℕ) (xs out new : List ℕ)
    → take (i * width) out ≡ of_blocks part size i xs → i * width ≤ length out → length new ≡ width
    → new ≡ part (between (i * size) (i * size + size) xs)
    → take ((i + 1) * width) (put_mid (i * width) (i * width + width - i * width) out new) ≡ of_blocks part size (i + 1) xs
blocks-grown part size width i xs out new so_far room long is =
    grown width i (of_blocks part size i xs) out new so_far room long
    ∙ ap (λ last. of_blocks part size i xs ++ last) (is ∙ ap part (between-block size i xs))
    ∙ sym (of_blocks-next part size i xs)
    ∙ ap (λ n. of_blocks part size n xs) (sym (add-one i))

pub pairs-grown : (whole : List ℕ → List ℕ → List ℕ) (left right width i : ℕ) (xs ys out new : List ℕ)
    → take (i * width) out ≡ of_pairs whole left right i xs ys → i * width ≤ length out → length new ≡ width
    → new ≡ whole (between (i * left) (i * left + left) xs) (between (i * right) (i * right + right) ys)
    → take ((i + 1) * width) (put_mid (i * width) (i * width + width - i * width) out new) ≡ of_pairs whole left right (i + 1) xs ys
pairs-grown whole left right width i xs ys out new so_far room long is =
    grown width i (of_pairs whole left right i xs ys) out new so_far room long
    ∙ ap (λ last. of_pairs whole left right i xs ys ++ last)
    (is ∙ ap (λ part. whole part (between (i * right) (i * right + right) ys)) (between-block left i xs)
    ∙ ap (λ part. whole (take left (drop (i * left) xs)) part) (between-block right i ys))
    ∙ sym (of_pairs-next whole left right i xs ys)
    ∙ ap (λ n. of_pairs whole left right n xs ys) (sym (add-one i))

-- no block yet
pub blocks-none : (part : List ℕ → List ℕ) (size width : ℕ) (xs out : List ℕ)
    → take (0 * width) out ≡ of_blocks part size 0 xs
unfolding of_blocks
blocks-none part size width xs out =
    let e : 0 * width ≡ 0 = omega arith in
    ap (λ n. take n out) e

pub pairs-none : (whole : List ℕ → List ℕ → List ℕ) (left right width : ℕ) (xs ys out : List ℕ)
    → take (0 * width) out ≡ of_pairs whole left right 0 xs ys
unfolding of_pairs
pairs-none whole left right width xs ys out =
    let e : 0 * width ≡ 0 = omega arith in
    ap (λ n. take n out) e
