-- Blocks taken apart and put together: lengths, the round trip both ways, and facts of every item.
use Rattle.std.proofs.Common.{◌≡◌, ℕ, zero, suc, ◌+◌, ◌-◌, ◌*◌, ◌<◌, ◌≤◌, List, ◌++◌, length, take, drop, refl, sym, ◌∙◌, ap, subst, arith, length-append, length-drop, All}
use Rattle.std.proofs.lemmas.List.{take_at, drop_at, take-append-drop, take_all, length-take-le}
use Rattle.std.proofs.lemmas.List.Elements.{All-append, All-nil, All-take, All-drop}
use Rattle.dpx_packing.specs.Blocks.{of_blocks, of_pairs}
use Rattle.dpx_packing.proofs.Rows.{drop-block}

-- one of so many blocks and the rest
length-first : (size count : ℕ) (xs : List ℕ) → length xs ≡ suc count * size → length (take size xs) ≡ size
length-first size count xs long = length-take-le size xs (omega arith)

length-rest : (size count : ℕ) (xs : List ℕ) → length xs ≡ suc count * size → length (drop size xs) ≡ count * size
length-rest size count xs long =
    let e : length (drop size xs) ≡ length xs - size = length-drop size xs in
    omega arith

pub length-of_blocks : (part : List ℕ → List ℕ) (size width : ℕ)
    → ((xs : List ℕ) → length xs ≡ size → length (part xs) ≡ width) → (count : ℕ) (xs : List ℕ)
    → length xs ≡ count * size → length (of_blocks part size count xs) ≡ count * width
unfolding of_blocks
length-of_blocks part size width each zero xs long = omega arith
length-of_blocks part size width each (suc count) xs long =
    let first : length (part (take size xs)) ≡ width = each (take size xs) (length-first size count xs long) in
    let rest : length (of_blocks part size count (drop size xs)) ≡ count * width =
    length-of_blocks part size width each count (drop size xs) (length-rest size count xs long) in
    let e : length (part (take size xs) ++ of_blocks part size count (drop size xs)) ≡ length (part (take size xs)) + length (of_blocks part size count (drop size xs)) =
    length-append (part (take size xs)) (of_blocks part size count (drop size xs)) in
    e ∙ omega arith

pub length-of_pairs : (whole : List ℕ → List ℕ → List ℕ) (left right size : ℕ)
    → ((xs ys : List ℕ) → length xs ≡ left → length ys ≡ right → length (whole xs ys) ≡ size)
    → (count : ℕ) (xs ys : List ℕ) → length xs ≡ count * left → length ys ≡ count * right
    → length (of_pairs whole left right count xs ys) ≡ count * size
unfolding of_pairs
length-of_pairs whole left right size each zero xs ys long_xs long_ys = omega arith
length-of_pairs whole left right size each (suc count) xs ys long_xs long_ys =
    let first : length (whole (take left xs) (take right ys)) ≡ size =
    each (take left xs) (take right ys) (length-first left count xs long_xs) (length-first right count ys long_ys) in
    let rest : length (of_pairs whole left right count (drop left xs) (drop right ys)) ≡ count * size =
    length-of_pairs whole left right size each count (drop left xs) (drop right ys) (length-rest left count xs long_xs) (length-rest right count ys long_ys) in
    let e : length (whole (take left xs) (take right ys) ++ of_pairs whole left right count (drop left xs) (drop right ys)) ≡ length (whole (take left xs) (take right ys)) + length (of_pairs whole left right count (drop left xs) (drop right ys)) =
    length-append (whole (take left xs) (take right ys)) (of_pairs whole left right count (drop left xs) (drop right ys)) in
    e ∙ omega arith

-- what is taken apart makes the whole again
pub of_pairs-of_blocks : (P : ℕ → Type 0) (first second : List ℕ → List ℕ) (whole : List ℕ → List ℕ → List ℕ) (left right size : ℕ)
    → ((xs : List ℕ) → length xs ≡ size → length (first xs) ≡ left)
    → ((xs : List ℕ) → length xs ≡ size → length (second xs) ≡ right)
    → ((xs : List ℕ) → length xs ≡ size → All P xs → whole (first xs) (second xs) ≡ xs) → (count : ℕ) (xs : List ℕ)
    → length xs ≡ count * size → All P xs
    → of_pairs whole left right count (of_blocks first size count xs) (of_blocks second size count xs) ≡ xs
unfolding of_pairs of_blocks
of_pairs-of_blocks P first second whole left right size long_first long_second again zero xs long all =
    let none : length xs ≤ 0 = omega arith in
    take_all 0 xs none
of_pairs-of_blocks P first second whole left right size long_first long_second again (suc count) xs long all =
    let one : List ℕ = take size xs in
    let rest : List ℕ = drop size xs in
    let one_long : length one ≡ size = length-first size count xs long in
    let firsts : List ℕ = of_blocks first size count rest in
    let seconds : List ℕ = of_blocks second size count rest in
    let first_long : length (first one) ≡ left = long_first one one_long in
    let second_long : length (second one) ≡ right = long_second one one_long in
    ap (λ l. whole l (take right (second one ++ seconds)) ++ of_pairs whole left right count (drop left (first one ++ firsts)) (drop right (second one ++ seconds))) (take_at (first one) firsts left first_long)
    ∙ ap (λ l. whole (first one) l ++ of_pairs whole left right count (drop left (first one ++ firsts)) (drop right (second one ++ seconds))) (take_at (second one) seconds right second_long)
    ∙ ap (λ l. whole (first one) (second one) ++ of_pairs whole left right count l (drop right (second one ++ seconds))) (drop_at (first one) firsts left first_long)
    ∙ ap (λ l. whole (first one) (second one) ++ of_pairs whole left right count firsts l) (drop_at (second one) seconds right second_long)
    ∙ ap (λ l. l ++ of_pairs whole left right count firsts seconds) (again one one_long (All-take P size xs all))
    ∙ ap (λ l. one ++ l) (of_pairs-of_blocks P first second whole left right size long_first long_second again count rest (length-rest size count xs long) (All-drop P size xs all))
    ∙ take-append-drop size xs

-- of pairs that are put together, one side is there again
pub of_blocks-of_pairs : (Fits : List ℕ → List ℕ → Type 0) (part : List ℕ → List ℕ) (whole side : List ℕ → List ℕ → List ℕ) (left right size : ℕ)
    → ((xs ys : List ℕ) → length xs ≡ left → length ys ≡ right → length (whole xs ys) ≡ size)
    → ((xs ys : List ℕ) → length xs ≡ left → length ys ≡ right → Fits xs ys → part (whole xs ys) ≡ side xs ys)
    → (count : ℕ) (xs ys : List ℕ) → length xs ≡ count * left → length ys ≡ count * right
    → ((k : ℕ) → k < count → Fits (take left (drop (k * left) xs)) (take right (drop (k * right) ys)))
    → of_blocks part size count (of_pairs whole left right count xs ys) ≡ of_pairs side left right count xs ys
unfolding of_pairs of_blocks
of_blocks-of_pairs Fits part whole side left right size long again zero xs ys long_xs long_ys fits = refl
of_blocks-of_pairs Fits part whole side left right size long again (suc count) xs ys long_xs long_ys fits =
    let x : List ℕ = take left xs in
    let y : List ℕ = take right ys in
    let x_long : length x ≡ left = length-first left count xs long_xs in
    let y_long : length y ≡ right = length-first right count ys long_ys in
    let rest : List ℕ = of_pairs whole left right count (drop left xs) (drop right ys) in
    let none_left : 0 * left ≡ 0 = omega arith in
    let none_right : 0 * right ≡ 0 = omega arith in
    let low : 0 < suc count = omega arith in
    let fits_first : Fits x y =
    subst (λ n. Fits (take left (drop n xs)) y) none_left (subst (λ n. Fits (take left (drop (0 * left) xs)) (take right (drop n ys))) none_right (fits 0 low)) in
    let fits_rest : (k : ℕ) → k < count → Fits (take left (drop (k * left) (drop left xs))) (take right (drop (k * right) (drop right ys))) =
    λ k k_low.
    subst (λ l. Fits (take left (drop (k * left) (drop left xs))) (take right l)) (sym (drop-block k right ys))
    (subst (λ l. Fits (take left l) (take right (drop (suc k * right) ys))) (sym (drop-block k left xs)) (fits (suc k) (omega arith)))
    in
    ap (λ l. part l ++ of_blocks part size count (drop size (whole x y ++ rest))) (take_at (whole x y) rest size (long x y x_long y_long))
    ∙ ap (λ l. part (whole x y) ++ of_blocks part size count l) (drop_at (whole x y) rest size (long x y x_long y_long))
    ∙ ap (λ l. l ++ of_blocks part size count rest) (again x y x_long y_long fits_first)
    ∙ ap (λ l. side x y ++ l) (of_blocks-of_pairs Fits part whole side left right size long again count (drop left xs) (drop right ys) (length-rest left count xs long_xs) (length-rest right count ys long_ys) fits_rest)

-- the blocks of a list, one after the other, are the list
pub of_pairs-left : (left right count : ℕ) (xs ys : List ℕ) → length xs ≡ count * left
    → of_pairs (λ x y. x) left right count xs ys ≡ xs
unfolding of_pairs
of_pairs-left left right zero xs ys long =
    let none : length xs ≤ 0 = omega arith in
    take_all 0 xs none
of_pairs-left left right (suc count) xs ys long =
    ap (λ l. take left xs ++ l) (of_pairs-left left right count (drop left xs) (drop right ys) (length-rest left count xs long))
    ∙ take-append-drop left xs

pub of_pairs-right : (left right count : ℕ) (xs ys : List ℕ) → length ys ≡ count * right
    → of_pairs (λ x y. y) left right count xs ys ≡ ys
unfolding of_pairs
of_pairs-right left right zero xs ys long =
    let none : length ys ≤ 0 = omega arith in
    take_all 0 ys none
of_pairs-right left right (suc count) xs ys long =
    ap (λ l. take right ys ++ l) (of_pairs-right left right count (drop left xs) (drop right ys) (length-rest right count ys long))
    ∙ take-append-drop right ys

-- what holds of the items of each block holds of all
pub All-of_blocks : (P Q : ℕ → Type 0) (part : List ℕ → List ℕ) (size : ℕ)
    → ((xs : List ℕ) → length xs ≡ size → All P xs → All Q (part xs)) → (count : ℕ) (xs : List ℕ)
    → length xs ≡ count * size → All P xs → All Q (of_blocks part size count xs)
unfolding of_blocks
All-of_blocks P Q part size each zero xs long all = All-nil Q
All-of_blocks P Q part size each (suc count) xs long all =
    All-append Q (part (take size xs)) (of_blocks part size count (drop size xs))
    (each (take size xs) (length-first size count xs long) (All-take P size xs all))
    (All-of_blocks P Q part size each count (drop size xs) (length-rest size count xs long) (All-drop P size xs all))

-- the block at a place of what is taken apart
pub of_blocks-at : (part : List ℕ → List ℕ) (size width : ℕ)
    → ((xs : List ℕ) → length xs ≡ size → length (part xs) ≡ width) → (count k : ℕ) (xs : List ℕ)
    → length xs ≡ count * size → k < count
    → take width (drop (k * width) (of_blocks part size count xs)) ≡ part (take size (drop (k * size) xs))
unfolding of_blocks
of_blocks-at part size width each zero k xs long low = absurd (omega arith)
of_blocks-at part size width each (suc count) zero xs long low =
    let none_size : 0 * size ≡ 0 = omega arith in
    let none_width : 0 * width ≡ 0 = omega arith in
    ap (λ n. take width (drop n (part (take size xs) ++ of_blocks part size count (drop size xs)))) none_width
    ∙ take_at (part (take size xs)) (of_blocks part size count (drop size xs)) width (each (take size xs) (length-first size count xs long))
    ∙ ap (λ n. part (take size (drop n xs))) (sym none_size)
of_blocks-at part size width each (suc count) (suc k) xs long low =
    let one : List ℕ = part (take size xs) in
    let rest : List ℕ = of_blocks part size count (drop size xs) in
    ap (take width) (sym (drop-block k width (one ++ rest)))
    ∙ ap (λ l. take width (drop (k * width) l)) (drop_at one rest width (each (take size xs) (length-first size count xs long)))
    ∙ of_blocks-at part size width each count k (drop size xs) (length-rest size count xs long) (omega arith)
    ∙ ap (λ l. part (take size l)) (drop-block k size xs)
