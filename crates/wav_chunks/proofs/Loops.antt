-- The loops over blocks: what one more of them adds.
use Rattle.std.proofs.Common.{◌≡◌, ◌≢◌, ℕ, ◌+◌, ◌-◌, ◌*◌, ◌/◌, ◌<◌, ◌≤◌, inl, inr, ℤ, pos, List, [], ◌∷◌, ◌++◌, length, take, drop, set, get_or-set_other, get_or-set_same, below_more, sym, ◌∙◌, ap, arith, length-append, length-drop, append_assoc, add-one}
use Rattle.std.proofs.lemmas.Bool.{cases_lt}
use Rattle.std.proofs.lemmas.Int.{ints}
use Rattle.std.proofs.lemmas.List.{take-take, drop-take, drop-drop, length-take-le, take_more_set, get_or_past}
use Rattle.std.proofs.lemmas.Nat.{pow_pos}
use Rattle.std.proofs.Math.Seq.{take-add, take-append-add}
use Rattle.std.proofs.lemmas.Slice.{drop-put_mid}
use borrow.Rule.Slice.PartMut.{put_mid}
use Rattle.wav_chunks.specs.Samples.{IsInside, AreInside, sample_at, sample_of, sample_bytes, stretch, of_stretches, put_at, put_in_each}

-- ---- samples that are taken

-- one sample more
pub taken-next : (value : List ℕ → ℤ) (size i : ℕ) (bytes : List ℕ) (out : List ℤ) (x : ℤ) → take i out ≡ of_stretches value size i bytes → i < length out
    → x ≡ value (stretch size i bytes) → take (i + 1) (set out i x) ≡ of_stretches value size (i + 1) bytes
unfolding of_stretches
taken-next value size i bytes out x so_far low is =
    take_more_set out i x low
    ∙ ap (λ xs. xs ++ x ∷ []) so_far
    ∙ ap (λ y. of_stretches value size i bytes ++ y ∷ []) is
    ∙ ap (λ (n : ℕ). of_stretches value size n bytes) (sym (add-one i))

-- the part of a block where a sample stands
pub in-stretch : (place size width i : ℕ) (bytes : List ℕ) → place + width ≤ size
    → take width (drop (i * size + place) bytes) ≡ take width (drop place (stretch size i bytes))
in-stretch place size width i bytes within =
    let split : size ≡ place + (size - place) = omega (arith, within) in
    ap (λ xs. take width xs) (sym (drop-drop place (i * size) bytes))
    ∙ sym (take-take width (size - place) (drop place (drop (i * size) bytes)) (omega (arith, within)))
    ∙ ap (λ xs. take width xs) (sym (drop-take place (size - place) (drop (i * size) bytes)))
    ∙ ap (λ (n : ℕ). take width (drop place (take n (drop (i * size) bytes)))) (sym split)

-- a sample that was read at its place
pub taken-is : (bits place size i width : ℕ) (bytes : List ℕ) (x : ℤ) → x ≡ sample_of bits (take (i * size + place + width - (i * size + place)) (drop (i * size + place) bytes))
    → width ≡ bits / 8 → place + bits / 8 ≤ size → x ≡ sample_of bits (take (bits / 8) (drop place (stretch size i bytes)))
taken-is bits place size i width bytes x is wide within =
    let span : i * size + place + width - (i * size + place) ≡ bits / 8 = omega (arith, wide) in
    is
    ∙ ap (λ (n : ℕ). sample_of bits (take n (drop (i * size + place) bytes))) span
    ∙ ap (sample_of bits) (in-stretch place size (bits / 8) i bytes within)

-- the samples so far are inside their bits, and so is one more
pub inside-next : (bits i : ℕ) (out : List ℤ) (x : ℤ) → i < length out → IsInside bits x → ((k : ℕ) → k < i → IsInside bits (sample_at out k))
    → (k : ℕ) → k < i + 1 → IsInside bits (sample_at (set out i x) k)
inside-next bits i out x low here so_far =
    below_more _ _ (λ k h. let other : k ≢ i = omega arith in rw get_or-set_other (so_far k h)) (rw get_or-set_same here)

nothing_is_inside : (bits : ℕ) → IsInside bits (pos 0)
nothing_is_inside bits =
    let h = pow_pos (bits - 1) in
    record { low = omega (arith, ints, h); high = omega (arith, ints, h) }

-- samples whose places were all written
pub all_are_inside : (bits place : ℕ) (samples : List ℤ) → length samples ≤ place → ((k : ℕ) → k < place → IsInside bits (sample_at samples k)) → AreInside bits samples
all_are_inside bits place samples end each = record {
  each = λ k. elim (cases_lt k place) as (λ _. IsInside bits (sample_at samples k)) [
    | inl l ↦ each k l
    | inr l ↦ let p : sample_at samples k ≡ pos 0 = get_or_past samples k (pos 0) (omega (arith, end, l)) in rw p (nothing_is_inside bits)
  ];
}

-- ---- samples that are put

-- no blocks yet
pub put-none : (bits place size : ℕ) (samples : List ℤ) (bytes : List ℕ) → take (0 * size) bytes ≡ put_in_each bits place size 0 samples bytes
unfolding put_in_each
put-none bits place size samples bytes = let none : 0 * size ≡ 0 = omega arith in ap (λ (n : ℕ). take n bytes) none

-- a longer list's front
front-put_at : (place size : ℕ) (new xs : List ℕ) → place + length new ≤ size → size ≤ length xs → take size (put_at place new xs) ≡ put_at place new (take size xs)
front-put_at place size new xs within room =
    let p : ℕ = place + length new in
    let front : length (take place xs) ≡ place = length-take-le place xs (omega (arith, within, room)) in
    let two : length (take place xs ++ new) ≡ length (take place xs) + length new = length-append (take place xs) new in
    let split : size ≡ length (take place xs ++ new) + (size - p) = omega (arith, within, front, two) in
    let again : size ≡ p + (size - p) = omega (arith, within) in
    ap (λ (n : ℕ). take n (put_at place new xs)) split
    ∙ take-append-add (take place xs ++ new) (drop p xs) (size - p)
    ∙ ap (λ ys. take place xs ++ new ++ ys) (sym (drop-take p (size - p) xs))
    ∙ ap (λ (n : ℕ). take place xs ++ new ++ drop p (take n xs)) (sym again)
    ∙ ap (λ ys. ys ++ new ++ drop p (take size xs)) (sym (take-take place size xs (omega (arith, within))))

-- a sample written into the bytes, by what is behind the blocks before
put-mid_is : (place size i width : ℕ) (bytes piece : List ℕ) → length piece ≡ width
    → put_mid (i * size + place) width bytes piece ≡ take (i * size) bytes ++ put_at place piece (drop (i * size) bytes)
put-mid_is place size i width bytes piece long =
    let ends : i * size + place + width ≡ i * size + (place + length piece) = omega (arith, long) in
    ap (λ xs. xs ++ (piece ++ drop width (drop (i * size + place) bytes))) (take-add (i * size) place bytes)
    ∙ ap (λ xs. take (i * size) bytes ++ take place (drop (i * size) bytes) ++ (piece ++ xs)) (drop-drop width (i * size + place) bytes ∙ ap (λ (n : ℕ). drop n bytes) ends ∙ sym (drop-drop (place + length piece) (i * size) bytes))
    ∙ append_assoc (take (i * size) bytes) (take place (drop (i * size) bytes)) (piece ++ drop (place + length piece) (drop (i * size) bytes))
    ∙ ap (λ xs. take (i * size) bytes ++ xs) (sym (append_assoc (take place (drop (i * size) bytes)) piece (drop (place + length piece) (drop (i * size) bytes))))

-- the blocks so far, with one more
pub put-next : (bits place size i width span : ℕ) (samples : List ℤ) (old bytes piece : List ℕ)
    → take (i * size) bytes ≡ put_in_each bits place size i samples old → drop (i * size) bytes ≡ drop (i * size) old
    → place + width ≤ size → i * size + size ≤ length bytes → length piece ≡ width → span ≡ width → piece ≡ sample_bytes bits (sample_at samples i)
    → take ((i + 1) * size) (put_mid (i * size + place) span bytes piece) ≡ put_in_each bits place size (i + 1) samples old
unfolding put_in_each
put-next bits place size i width span samples old bytes piece so_far rest within room long same is =
    let front : length (take (i * size) bytes) ≡ i * size = length-take-le (i * size) bytes (omega (arith, room)) in
    let total : (i + 1) * size ≡ length (take (i * size) bytes) + size = omega (arith, front) in
    let left : length (drop (i * size) bytes) ≡ length bytes - i * size = length-drop (i * size) bytes in
    ap (λ (n : ℕ). take ((i + 1) * size) (put_mid (i * size + place) n bytes piece)) same
    ∙ ap (λ xs. take ((i + 1) * size) xs) (put-mid_is place size i width bytes piece long)
    ∙ ap (λ (n : ℕ). take n (take (i * size) bytes ++ put_at place piece (drop (i * size) bytes))) total
    ∙ take-append-add (take (i * size) bytes) (put_at place piece (drop (i * size) bytes)) size
    ∙ ap (λ xs. take (i * size) bytes ++ xs) (front-put_at place size piece (drop (i * size) bytes) (omega (arith, within, long)) (omega (arith, room, left)))
    ∙ ap (λ xs. take (i * size) bytes ++ put_at place piece (take size xs)) rest
    ∙ ap (λ xs. xs ++ put_at place piece (stretch size i old)) so_far
    ∙ ap (λ xs. put_in_each bits place size i samples old ++ put_at place xs (stretch size i old)) is
    ∙ ap (λ (n : ℕ). put_in_each bits place size n samples old) (sym (add-one i))

-- the rest stays
pub rest-next : (place size i span : ℕ) (old bytes piece : List ℕ) → drop (i * size) bytes ≡ drop (i * size) old → place + span ≤ size → i * size + size ≤ length bytes → length piece ≡ span
    → drop ((i + 1) * size) (put_mid (i * size + place) span bytes piece) ≡ drop ((i + 1) * size) old
rest-next place size i span old bytes piece rest within room long =
    let total : (i + 1) * size ≡ i * size + size = omega arith in
    drop-put_mid (i * size + place) span bytes piece ((i + 1) * size) (omega (arith, within)) (omega (arith, within, room)) long
    ∙ ap (λ (n : ℕ). drop n bytes) total
    ∙ sym (drop-drop size (i * size) bytes)
    ∙ ap (λ xs. drop size xs) rest
    ∙ drop-drop size (i * size) old
    ∙ ap (λ (n : ℕ). drop n old) (sym total)
