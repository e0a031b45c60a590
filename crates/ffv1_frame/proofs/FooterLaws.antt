-- Frames that were put together, cut again.
use Rattle.std.proofs.Common.{◌≡◌, ℕ, suc, ◌+◌, ◌-◌, ◌*◌, ◌/◌, ◌%◌, ◌^◌, ◌<◌, ◌≤◌, Bool, true, false, cond, ◌||◌, List, [], ◌∷◌, ◌++◌, length, take, drop, Some, None, Result, Ok, All, refl, sym, ◌∙◌, ap, ap₂, arith, append_assoc, eqb}
use Rattle.std.specs.Prelude.{nat_lt, not}
use Rattle.std.specs.Int.{bytes_high_first}
use Rattle.std.specs.List.{flat_map}
use Rattle.std.proofs.lemmas.Bool.Decides.{nat_tests}
use Rattle.std.proofs.lemmas.List.{append-nil, length-append, take_at, drop_at}
use Rattle.std.proofs.lemmas.List.Elements.{All-head, All-tail}
use Rattle.cook_bits.specs.Crc.{crc32_high_of}
use Rattle.cook_bits.specs.Laws.{ParityLeavesZero}
use Rattle.ffv1_frame.specs.declared.error.FrameWhy.{FrameWhy}
use Rattle.ffv1_frame.specs.Footers.{sized, footed, frame_of_slices, footer_place, size_told, last_size, slice_place, last_coded, last_fault, followed, cut_back, slices_of}
use Rattle.ffv1_frame.specs.Laws.{IsSlice}
use Rattle.ffv1_frame.proofs.CutLaws.{cut_back-none, cut_back-more, followed-none, followed-twice, slices-are}

length-sized : (slice : List ℕ) → length (sized slice) ≡ length slice + 4
unfolding sized
length-sized slice = length-append slice (bytes_high_first 3 (length slice) ++ 0 ∷ [])

pub length-footed : (slice : List ℕ) → length (footed slice) ≡ length slice + 8
unfolding footed
length-footed slice =
    let e : length (sized slice ++ bytes_high_first 4 (crc32_high_of (sized slice))) ≡ length (sized slice) + 4 =
    length-append (sized slice) (bytes_high_first 4 (crc32_high_of (sized slice))) in
    let f : length (sized slice) ≡ length slice + 4 = length-sized slice in
    omega arith

three_bytes : (n : ℕ) → n < 2 ^ 24 → 65536 * (n / 65536 % 256) + 256 * (n / 256 % 256) + n % 256 ≡ n
three_bytes n small = omega arith

-- the footer of the last slice tells its size
size-told : (slice parity : List ℕ) → length slice < 2 ^ 24 → size_told ((bytes_high_first 3 (length slice) ++ 0 ∷ []) ++ parity) ≡ length slice
size-told slice parity small = three_bytes (length slice) small

behind-slice : (front slice : List ℕ) → drop (length front + length slice) (front ++ footed slice) ≡ (bytes_high_first 3 (length slice) ++ 0 ∷ []) ++ bytes_high_first 4 (crc32_high_of (sized slice))
unfolding footed sized
behind-slice front slice =
    let foot : List ℕ = (bytes_high_first 3 (length slice) ++ 0 ∷ []) ++ bytes_high_first 4 (crc32_high_of (slice ++ (bytes_high_first 3 (length slice) ++ 0 ∷ []))) in
    let size : length (front ++ slice) ≡ length front + length slice = length-append front slice in
    ap (λ (b : List ℕ). drop (length front + length slice) (front ++ b)) (append_assoc slice (bytes_high_first 3 (length slice) ++ 0 ∷ []) (bytes_high_first 4 (crc32_high_of (slice ++ (bytes_high_first 3 (length slice) ++ 0 ∷ [])))))
    ∙ ap (λ (b : List ℕ). drop (length front + length slice) b) (sym (append_assoc front slice ((bytes_high_first 3 (length slice) ++ 0 ∷ []) ++ bytes_high_first 4 (crc32_high_of (slice ++ (bytes_high_first 3 (length slice) ++ 0 ∷ []))))))
    ∙ drop_at (front ++ slice) ((bytes_high_first 3 (length slice) ++ 0 ∷ []) ++ bytes_high_first 4 (crc32_high_of (slice ++ (bytes_high_first 3 (length slice) ++ 0 ∷ [])))) (length front + length slice) size

place-behind : (front slice : List ℕ) → footer_place true (front ++ footed slice) ≡ length front + length slice
place-behind front slice =
    let e : length (front ++ footed slice) ≡ length front + length (footed slice) = length-append front (footed slice) in
    let f : length (footed slice) ≡ length slice + 8 = length-footed slice in
    omega arith

last-size : (front slice : List ℕ) → length slice < 2 ^ 24 → last_size true (front ++ footed slice) ≡ length slice
unfolding last_size
last-size front slice small =
    ap (λ n. size_told (drop n (front ++ footed slice))) (place-behind front slice)
    ∙ ap (λ (b : List ℕ). size_told b) (behind-slice front slice)
    ∙ size-told slice (bytes_high_first 4 (crc32_high_of (sized slice))) small

slice-place : (front slice : List ℕ) → length slice < 2 ^ 24 → slice_place true (front ++ footed slice) ≡ length front
unfolding slice_place
slice-place front slice small =
    let e : footer_place true (front ++ footed slice) ≡ length front + length slice = place-behind front slice in
    let f : last_size true (front ++ footed slice) ≡ length slice = last-size front slice small in
    omega (arith, e, f)

last-coded : (front slice : List ℕ) → length slice < 2 ^ 24 → last_coded true (front ++ footed slice) ≡ slice
unfolding last_coded footed sized
last-coded front slice small =
    ap₂ (λ (n p : ℕ). take n (drop p (front ++ footed slice))) (last-size front slice small) (slice-place front slice small)
    ∙ ap (λ (b : List ℕ). take (length slice) b) (drop_at front (footed slice) (length front) refl)
    ∙ ap (λ (b : List ℕ). take (length slice) b) (append_assoc slice (bytes_high_first 3 (length slice) ++ 0 ∷ []) (bytes_high_first 4 (crc32_high_of (slice ++ (bytes_high_first 3 (length slice) ++ 0 ∷ [])))))
    ∙ take_at slice ((bytes_high_first 3 (length slice) ++ 0 ∷ []) ++ bytes_high_first 4 (crc32_high_of (slice ++ (bytes_high_first 3 (length slice) ++ 0 ∷ [])))) (length slice) refl

no_fault : (short size crc : Bool) (first second third : FrameWhy) → short ≡ false → size ≡ false → crc ≡ false
    → cond short (Some first) (cond size (Some second) (cond crc (Some third) None)) ≡ None
no_fault short size crc first second third a b c = rw (a, b, c) refl

tests_pass : (size place room length_ : ℕ) → 1 ≤ size → size ≤ place → 1 ≤ room → ((eqb size 0 || nat_lt place size) || eqb room 0) ≡ false
tests_pass size place room length_ some fits left = grind (arith, nat_tests)

whole-slice : (front slice : List ℕ) → length slice < 2 ^ 24 → drop (slice_place true (front ++ footed slice)) (front ++ footed slice) ≡ footed slice
whole-slice front slice small =
    ap (λ n. drop n (front ++ footed slice)) (slice-place front slice small) ∙ drop_at front (footed slice) (length front) refl

crc-zero : ParityLeavesZero → (slice : List ℕ) → crc32_high_of (footed slice) ≡ 0
unfolding footed
crc-zero parity slice = parity (sized slice)

pub last-fault : ParityLeavesZero → (front slice : List ℕ) (room : ℕ) → IsSlice slice → last_fault true (suc room) (front ++ footed slice) ≡ None
unfolding last_fault
last-fault parity front slice room is =
    let long : length (front ++ footed slice) ≡ length front + length (footed slice) = length-append front (footed slice) in
    let foot : length (footed slice) ≡ length slice + 8 = length-footed slice in
    let some : 1 ≤ length slice = is.some in
    let place : footer_place true (front ++ footed slice) ≡ length front + length slice = place-behind front slice in
    let size : last_size true (front ++ footed slice) ≡ length slice = last-size front slice is.small in
    no_fault (nat_lt (length (front ++ footed slice)) 8)
    ((eqb (last_size true (front ++ footed slice)) 0 || nat_lt (footer_place true (front ++ footed slice)) (last_size true (front ++ footed slice))) || eqb (suc room) 0)
    (not (eqb (crc32_high_of (drop (slice_place true (front ++ footed slice)) (front ++ footed slice))) 0))
    _ _ _
    (grind (arith, nat_tests))
    (tests_pass (last_size true (front ++ footed slice)) (footer_place true (front ++ footed slice)) (suc room) 0 (omega (arith, size, some)) (omega (arith, size, place)) (omega arith))
    (ap (λ (b : List ℕ). not (eqb (crc32_high_of b) 0)) (whole-slice front slice is.small)
    ∙ ap (λ n. not (eqb n 0)) (crc-zero parity slice))

-- one slice behind a front
cut-one : ParityLeavesZero → (front slice : List ℕ) (room : ℕ) → IsSlice slice → cut_back true (suc room) (front ++ footed slice) ≡ followed (cut_back true room front) (slice ∷ [])
cut-one parity front slice room is =
    let long : length (front ++ footed slice) ≡ length front + length (footed slice) = length-append front (footed slice) in
    let foot : length (footed slice) ≡ length slice + 8 = length-footed slice in
    cut_back-more true room (front ++ footed slice) (omega arith) (last-fault parity front slice room is)
    ∙ ap₂ (λ (b s : List ℕ). followed (cut_back true room b) (s ∷ []))
    (ap (λ n. take n (front ++ footed slice)) (slice-place front slice is.small) ∙ take_at front (footed slice) (length front) refl)
    (last-coded front slice is.small)

cut-all : ParityLeavesZero → (slices : List (List ℕ)) (front : List ℕ) (room : ℕ) → All IsSlice slices
    → cut_back true (room + length slices) (front ++ flat_map footed slices) ≡ followed (cut_back true room front) slices
cut-all parity [] front room are =
    let e : room + 0 ≡ room = omega arith in
    ap₂ (λ (r : ℕ) (b : List ℕ). cut_back true r b) e (append-nil front) ∙ followed-none (cut_back true room front)
cut-all parity (slice ∷ slices) front room are =
    let e : room + suc (length slices) ≡ suc room + length slices = omega arith in
    ap₂ (λ (r : ℕ) (b : List ℕ). cut_back true r b) e (sym (append_assoc front (footed slice) (flat_map footed slices)))
    ∙ cut-all parity slices (front ++ footed slice) (suc room) (All-tail IsSlice slice slices are)
    ∙ ap (λ (f : Result (List (List ℕ)) FrameWhy). followed f slices) (cut-one parity front slice room (All-head IsSlice slice slices are))
    ∙ followed-twice (cut_back true room front) slice slices

pub cut-again : ParityLeavesZero → (slices : List (List ℕ)) → All IsSlice slices → 1 ≤ length slices → length slices ≤ 1024
    → slices_of true (frame_of_slices slices) ≡ Ok slices
unfolding frame_of_slices
cut-again parity [] are some few = absurd (omega arith)
cut-again parity (slice ∷ slices) are some few =
    let long : length (footed slice ++ flat_map footed slices) ≡ length (footed slice) + length (flat_map footed slices) = length-append (footed slice) (flat_map footed slices) in
    let foot : length (footed slice) ≡ length slice + 8 = length-footed slice in
    let room : (1024 - length (slice ∷ slices)) + length (slice ∷ slices) ≡ 1024 = omega arith in
    slices-are true (footed slice ++ flat_map footed slices) (omega arith)
    ∙ ap (λ r. cut_back true r ([] ++ flat_map footed (slice ∷ slices))) (sym room)
    ∙ cut-all parity (slice ∷ slices) [] (1024 - length (slice ∷ slices)) are
    ∙ ap (λ (f : Result (List (List ℕ)) FrameWhy). followed f (slice ∷ slices)) (cut_back-none true (1024 - length (slice ∷ slices)))
