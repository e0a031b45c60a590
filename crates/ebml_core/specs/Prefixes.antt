-- What is read of bytes, and what of fewer or of more of them.
use Rattle.std.proofs.Common.{◌≡◌, ℕ, zero, suc, ◌+◌, ◌-◌, ◌*◌, ◌^◌, ◌%◌, ◌≤◌, Bool, true, false, ◌&&◌, nat_le, min, cond, List, [], ◌∷◌, ◌++◌, length, take, drop, Option, Some, None, refl, ap, ◌∙◌, arith, length-append, length-take}
use Rattle.std.proofs.lemmas.Bool.{le-leb, leb-true}
use Rattle.std.proofs.lemmas.Bool.Decides.{nat_tests}
use Rattle.std.proofs.lemmas.List.{drop-append-le, drop-take}
use Rattle.byteorder.specs.Endian.{big_number}
use Rattle.byteorder.specs.Numbers.{big_from-append, big_from-take}
use Rattle.ebml_core.specs.declared.parts.Size.{Size}
use Rattle.ebml_core.specs.declared.parts.Head.{Head}
use Rattle.ebml_core.specs.Reading.{width_of, vint_len, id_at, id_of_len, size_at, size_of_len, size_meant, head_at, head_of_id, head_of_size}

-- what a length that is read says of the bytes
pub record IsRead (most : ℕ) (bytes : List ℕ) (len : ℕ) : Type 0 where
  pub positive : 1 ≤ len
  pub within : len ≤ most
  pub whole : len ≤ length bytes

some_is : (a b : ℕ) → Some a ≡ Some b → a ≡ b
some_is a b h = cc

pub chosen : (within whole : Bool) (width len : ℕ) → cond (within && whole) (Some width) None ≡ Some len → (within ≡ true) × (whole ≡ true) × (width ≡ len)
chosen true true width len h = (refl, refl, some_is width len h)
chosen true false width len h = let no : ⊥ = cc in absurd no
chosen false whole width len h = let no : ⊥ = cc in absurd no

pub vint_len-read : (most len : ℕ) (bytes : List ℕ) → vint_len most bytes ≡ Some len → IsRead most bytes len
unfolding vint_len
vint_len-read most len [] h = let no : ⊥ = cc in absurd no
vint_len-read most len (first ∷ rest) h =
    let parts = chosen (nat_le (width_of first) most) (nat_le (width_of first) (length (first ∷ rest))) (width_of first) len h in
    let within = leb-true _ _ parts.0 in
    let whole = leb-true _ _ parts.1 in
    record { positive = omega (arith, parts.2); within = omega (arith, within, parts.2); whole = omega (arith, whole, parts.2) }

-- more bytes leave the length as it was
vint_len-append : (most len : ℕ) (bytes more : List ℕ) → vint_len most bytes ≡ Some len → vint_len most (bytes ++ more) ≡ Some len
unfolding vint_len
vint_len-append most len [] more h = let no : ⊥ = cc in absurd no
vint_len-append most len (first ∷ rest) more h =
    let parts = chosen (nat_le (width_of first) most) (nat_le (width_of first) (length (first ∷ rest))) (width_of first) len h in
    let whole = leb-true _ _ parts.1 in
    let longer : width_of first ≤ length (first ∷ (rest ++ more)) = omega (arith, length-append rest more, whole) in
    rw (parts.0, le-leb _ _ longer, parts.2) refl

id_at-append : (bytes more : List ℕ) (id : ℕ × ℕ) → id_at bytes ≡ Some id → (id_at (bytes ++ more) ≡ Some id) × (id.1 ≤ length bytes)
unfolding id_at
id_at-append bytes more id h =
    elim (vint_len 4 bytes) as (λ (o : Option ℕ). (vint_len 4 bytes ≡ o) → (id_of_len bytes o ≡ Some id) → (id_of_len (bytes ++ more) (vint_len 4 (bytes ++ more)) ≡ Some id) × (id.1 ≤ length bytes)) [
      | None ↦ λ e is. (let no : ⊥ = cc in absurd no)
      | Some len ↦ λ e is. (
          let read = vint_len-read 4 len bytes e in
          let same = vint_len-append 4 len bytes more e in
          let number : big_number len (bytes ++ more) ≡ big_number len bytes = big_from-append len bytes more read.whole in
          let pair : (let p : ℕ × ℕ = (big_number len bytes, len) in p) ≡ id = cc in
          let count : len ≡ id.1 = ap (λ (p : ℕ × ℕ). p.1) pair in
          (rw (same, number) is, omega (arith, read.whole)))
    ] refl h

size_at-append : (bytes more : List ℕ) (size : Size × ℕ) → size_at bytes ≡ Some size → size_at (bytes ++ more) ≡ Some size
unfolding size_at
size_at-append bytes more size h =
    elim (vint_len 8 bytes) as (λ (o : Option ℕ). (vint_len 8 bytes ≡ o) → (size_of_len bytes o ≡ Some size) → size_of_len (bytes ++ more) (vint_len 8 (bytes ++ more)) ≡ Some size) [
      | None ↦ λ e is. (let no : ⊥ = cc in absurd no)
      | Some len ↦ λ e is. (
          let read = vint_len-read 8 len bytes e in
          let same = vint_len-append 8 len bytes more e in
          let number : big_number len (bytes ++ more) ≡ big_number len bytes = big_from-append len bytes more read.whole in
          rw (same, number) is)
    ] refl h

-- a head stays the same where more bytes follow
pub head_stays : (bytes more : List ℕ) (head : Head) → head_at bytes ≡ Some head → head_at (bytes ++ more) ≡ Some head
unfolding head_at
head_stays bytes more head h =
    elim (id_at bytes) as (λ (o : Option (ℕ × ℕ)). (id_at bytes ≡ o) → (head_of_id bytes o ≡ Some head) → head_of_id (bytes ++ more) (id_at (bytes ++ more)) ≡ Some head) [
      | None ↦ λ e is. (let no : ⊥ = cc in absurd no)
      | Some id ↦ λ e is. (
          let first = id_at-append bytes more id e in
          let left : drop id.1 (bytes ++ more) ≡ drop id.1 bytes ++ more = drop-append-le id.1 bytes more first.1 in
          rw (first.0, left)
          (elim (size_at (drop id.1 bytes)) as (λ (o : Option (Size × ℕ)). (size_at (drop id.1 bytes) ≡ o) → (head_of_size id o ≡ Some head) → head_of_size id (size_at (drop id.1 bytes ++ more)) ≡ Some head) [
            | None ↦ λ e2 is2. (let no : ⊥ = cc in absurd no)
            | Some size ↦ λ e2 is2. rw (size_at-append (drop id.1 bytes) more size e2) is2
          ] refl is))
    ] refl h

-- a length of at most so many bytes is read of so many bytes
same_test : (width count rest : ℕ) → width ≤ suc count → nat_le width (suc (min count rest)) ≡ nat_le width (suc rest)
same_test width count rest h = grind (arith, nat_tests)

vint_len-take : (most count : ℕ) (bytes : List ℕ) → most ≤ count → 1 ≤ count → vint_len most (take count bytes) ≡ vint_len most bytes
unfolding vint_len
vint_len-take most zero bytes h one = absurd (omega arith)
vint_len-take most (suc count) [] h one = refl
vint_len-take most (suc count) (first ∷ rest) h one =
    elim (nat_le (width_of first) most) as (λ (b : Bool). (nat_le (width_of first) most ≡ b) → cond (b && nat_le (width_of first) (suc (length (take count rest)))) (Some (width_of first)) None ≡ cond (b && nat_le (width_of first) (suc (length rest))) (Some (width_of first)) None) [
      | true ↦ λ e. (let within = leb-true _ _ e in rw (length-take count rest, same_test (width_of first) count (length rest) (omega arith)) refl)
      | false ↦ λ e. refl
    ] refl

-- what is made of a number of that length is the same for so many bytes
read-take : {X : Type 0} (most count : ℕ) (make : List ℕ → Option ℕ → X) (bytes : List ℕ) → most ≤ count → 1 ≤ count → make (take count bytes) None ≡ make bytes None
    → ((len : ℕ) → big_number len (take count bytes) ≡ big_number len bytes → make (take count bytes) (Some len) ≡ make bytes (Some len)) → make (take count bytes) (vint_len most (take count bytes)) ≡ make bytes (vint_len most bytes)
read-take most count make bytes h one none some =
    rw (vint_len-take most count bytes h one)
    (elim (vint_len most bytes) as (λ (o : Option ℕ). (vint_len most bytes ≡ o) → make (take count bytes) o ≡ make bytes o) [
      | None ↦ λ e. none
      | Some len ↦ λ e. (
          let read = vint_len-read most len bytes e in
          some len (big_from-take 0 len count bytes (omega (arith, read.within))))
    ] refl)

id_at-take : (count : ℕ) (bytes : List ℕ) → 4 ≤ count → id_at (take count bytes) ≡ id_at bytes
unfolding id_at
id_at-take count bytes h = read-take 4 count id_of_len bytes h (omega arith) refl (λ len number. rw number refl)

-- eight bytes tell whether there is a size, and which
pub size_at-take : (count : ℕ) (bytes : List ℕ) → 8 ≤ count → size_at (take count bytes) ≡ size_at bytes
unfolding size_at
size_at-take count bytes h = read-take 8 count size_of_len bytes h (omega arith) refl (λ len number. rw number refl)

-- a size takes eight bytes or fewer
pub size_at-len : (bytes : List ℕ) (size : Size × ℕ) → size_at bytes ≡ Some size → size.1 ≤ 8
unfolding size_at
size_at-len bytes size h =
    elim (vint_len 8 bytes) as (λ (o : Option ℕ). (vint_len 8 bytes ≡ o) → (size_of_len bytes o ≡ Some size) → size.1 ≤ 8) [
      | None ↦ λ e is. (let no : ⊥ = cc in absurd no)
      | Some len ↦ λ e is. (
          let read = vint_len-read 8 len bytes e in
          let pair : (let p : Size × ℕ = (size_meant len (big_number len bytes % 2 ^ (7 * len)), len) in p) ≡ size = cc in
          let count : len ≡ size.1 = ap (λ (p : Size × ℕ). p.1) pair in
          omega (arith, read.within))
    ] refl h

id_at-len : (bytes : List ℕ) (id : ℕ × ℕ) → id_at bytes ≡ Some id → id.1 ≤ 4
unfolding id_at
id_at-len bytes id h =
    elim (vint_len 4 bytes) as (λ (o : Option ℕ). (vint_len 4 bytes ≡ o) → (id_of_len bytes o ≡ Some id) → id.1 ≤ 4) [
      | None ↦ λ e is. (let no : ⊥ = cc in absurd no)
      | Some len ↦ λ e is. (
          let read = vint_len-read 4 len bytes e in
          let pair : (let p : ℕ × ℕ = (big_number len bytes, len) in p) ≡ id = cc in
          let count : len ≡ id.1 = ap (λ (p : ℕ × ℕ). p.1) pair in
          omega (arith, read.within))
    ] refl h

-- twelve bytes tell whether there is a head, and which
pub twelve_bytes_tell : (bytes : List ℕ) (count : ℕ) → 12 ≤ count → head_at (take count bytes) ≡ head_at bytes
unfolding head_at
twelve_bytes_tell bytes count h =
    rw (id_at-take count bytes (omega arith))
    (elim (id_at bytes) as (λ (o : Option (ℕ × ℕ)). (id_at bytes ≡ o) → head_of_id (take count bytes) o ≡ head_of_id bytes o) [
      | None ↦ λ e. refl
      | Some id ↦ λ e. (
          let short = id_at-len bytes id e in
          let split : count ≡ id.1 + (count - id.1) = omega arith in
          let left : drop id.1 (take count bytes) ≡ take (count - id.1) (drop id.1 bytes) = ap (λ (n : ℕ). drop id.1 (take n bytes)) split ∙ drop-take id.1 (count - id.1) bytes in
          let size = size_at-take (count - id.1) (drop id.1 bytes) (omega arith) in
          rw (left, size) refl)
    ] refl)
