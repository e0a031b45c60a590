-- The first 1,664 bytes decide the layout.
use Rattle.std.proofs.Common.{◌≡◌, ℕ, ◌+◌, ◌-◌, ◌≤◌, Bool, true, false, List, ◌++◌, length, take, drop, refl, ap, sym, ◌∙◌, arith}
use Rattle.std.proofs.lemmas.List.{drop-take, get_or-take, take-append-le}
use Rattle.byteorder.specs.Numbers.{big_from-take, little_from-take}
use Rattle.dpx_header.specs.Header.{number_at, has_magic, header_at}
use Rattle.dpx_header.specs.Layout.{layout_of}

-- a number that stands before the cut stays
number_at-take : (big : Bool) (count place cut : ℕ) (bytes : List ℕ) → place + count ≤ cut → number_at big count place (take cut bytes) ≡ number_at big count place bytes
unfolding number_at
number_at-take big count place cut bytes h =
    let split : cut ≡ place + (cut - place) = omega arith in
    let rest : drop place (take cut bytes) ≡ take (cut - place) (drop place bytes) = ap (λ (n : ℕ). drop place (take n bytes)) split ∙ drop-take place (cut - place) bytes in
    elim big as (λ (b : Bool). number_at b count place (take cut bytes) ≡ number_at b count place bytes) [
      | true ↦ rw rest (big_from-take 0 count (cut - place) (drop place bytes) (omega arith))
      | false ↦ rw rest (little_from-take 0 count (cut - place) (drop place bytes) (omega arith))
    ]

has_magic-take : (big : Bool) (cut : ℕ) (bytes : List ℕ) → 1664 ≤ cut → has_magic big (take cut bytes) ≡ has_magic big bytes
unfolding has_magic
has_magic-take big cut bytes h = rw (number_at-take big 4 0 cut bytes (omega arith)) refl

header_at-take : (big : Bool) (cut : ℕ) (bytes : List ℕ) → 1664 ≤ cut → header_at big (take cut bytes) ≡ header_at big bytes
unfolding header_at
header_at-take big cut bytes h =
    let offset = number_at-take big 4 4 cut bytes (omega arith) in
    let elements = number_at-take big 2 770 cut bytes (omega arith) in
    let width = number_at-take big 4 772 cut bytes (omega arith) in
    let height = number_at-take big 4 776 cut bytes (omega arith) in
    let descriptor = get_or-take cut bytes 800 0 (omega arith) in
    let depth = get_or-take cut bytes 803 0 (omega arith) in
    let packing = number_at-take big 2 804 cut bytes (omega arith) in
    let encoding = number_at-take big 2 806 cut bytes (omega arith) in
    let padding = number_at-take big 4 812 cut bytes (omega arith) in
    rw (offset, elements, width, height, descriptor, depth, packing, encoding, padding) refl

pub first_bytes_decide : (bytes : List ℕ) (len count : ℕ) → 1664 ≤ count → layout_of (take count bytes) len ≡ layout_of bytes len
unfolding layout_of
first_bytes_decide bytes len count h =
    rw (has_magic-take true count bytes h, has_magic-take false count bytes h, header_at-take (has_magic true bytes) count bytes h) refl

pub following_bytes_dont : (head rest : List ℕ) (len : ℕ) → 1664 ≤ length head → layout_of (head ++ rest) len ≡ layout_of head len
following_bytes_dont head rest len h =
    let same : take 1664 (head ++ rest) ≡ take 1664 head = take-append-le 1664 head rest h in
    sym (first_bytes_decide (head ++ rest) len 1664 (omega arith)) ∙ ap (λ (bytes : List ℕ). layout_of bytes len) same ∙ first_bytes_decide head len 1664 (omega arith)
