-- What is spelled is read.
use Rattle.std.proofs.Common.{◌≡◌, ℕ, suc, ◌+◌, ◌-◌, ◌*◌, ◌%◌, ◌^◌, ◌<◌, ◌≤◌, Bool, true, false, IsTrue, List, ◌++◌, length, drop, Some, refl, ap, sym, ◌∙◌, arith, append_assoc, ◌||◌, ◌==◌}
use Rattle.std.proofs.Math.Nat.{mod-eq_of_lt, pow-suc, mul-add-mod_self_right}
use Rattle.std.proofs.Math.Pow.{pow_mono}
use Rattle.std.proofs.Math.Seq.{drop-append_seam}
use Rattle.std.proofs.lemmas.Bool.{lt-ltb, le-ltb, ltb-true}
use Rattle.std.proofs.lemmas.Bool.Decides.{nat_tests}
use Rattle.std.specs.Int.{bytes_high_first}
use Rattle.byteorder.specs.Endian.{big_number}
use Rattle.byteorder.specs.Numbers.{big_number-reads_back}
use Rattle.byteorder.proofs.Bytes.{pow256}
use Rattle.ebml_core.specs.declared.parts.Size.{Size}
use Rattle.ebml_core.specs.declared.parts.Size.TheVariants.{Known}
use Rattle.ebml_core.specs.Element.{is_vint, IsIdentifier, byte_count, fits_bytes, fits_size, shortest_size, uint_bytes, size_bytes, head_of}
use Rattle.ebml_core.specs.Reading.{id_at, size_at, size_meant, head_at}
use Rattle.ebml_core.proofs.Lengths.{least_from-is, least_from-passes, marked_fits}
use Rattle.ebml_core.specs.Heads.{length-head_parts, length-uint_bytes, shortest_size-positive, shortest_size-le}
use Rattle.ebml_core.proofs.Readings.{vint_low, vint_high, vint_len-spelled}

-- a VINT fits its bytes
vint_fits : (len n : ℕ) → 1 ≤ len → n < 2 * 2 ^ (7 * len) → n < 256 ^ len
vint_fits len n one high =
    let twice : 2 ^ suc (7 * len) ≡ 2 ^ (7 * len) * 2 = pow-suc 2 (7 * len) in
    let more : 2 ^ suc (7 * len) ≤ 2 ^ (8 * len) = pow_mono {i = suc (7 * len)} {j = 8 * len} (omega arith) in
    let bytes = pow256 len in
    omega arith

-- each spelling of an identifier is read
pub spelled_id : (len id : ℕ) (rest : List ℕ) → 1 ≤ len → len ≤ 4 → IsTrue (is_vint len id) → id_at (bytes_high_first len id ++ rest) ≡ Some (id, len)
unfolding id_at
spelled_id len id rest one four vint =
    let high = vint_high len id vint in
    let e = vint_len-spelled 4 len id rest one four (omega arith) (vint_low len id vint) high in
    let number : big_number len (bytes_high_first len id ++ rest) ≡ id = big_number-reads_back len id rest (vint_fits len id one high) in
    rw (e, number) refl

-- each spelling of a size is read
pub spelled_size : (len content : ℕ) (rest : List ℕ) → 1 ≤ len → len ≤ 8 → content < 2 ^ (7 * len) → size_at (bytes_high_first len (2 ^ (7 * len) + content) ++ rest) ≡ Some (size_meant len content, len)
unfolding size_at
spelled_size len content rest one eight fits =
    let marked : ℕ = 2 ^ (7 * len) + content in
    let e = vint_len-spelled 8 len (2 ^ (7 * len) + content) rest one eight (omega arith) (omega arith) (omega arith) in
    let number : big_number len (bytes_high_first len (2 ^ (7 * len) + content) ++ rest) ≡ 2 ^ (7 * len) + content = big_number-reads_back len (2 ^ (7 * len) + content) rest (marked_fits content len one fits) in
    let as_product : 2 ^ (7 * len) + content ≡ 1 * 2 ^ (7 * len) + content = omega arith in
    let below : (2 ^ (7 * len) + content) % 2 ^ (7 * len) ≡ content = ap (λ (x : ℕ). x % 2 ^ (7 * len)) as_product ∙ mul-add-mod_self_right 1 (2 ^ (7 * len)) content ∙ mod-eq_of_lt fits in
    rw (e, number, below) refl

-- an identifier's number takes as many bytes as the identifier has
byte_count-of_vint : (k id : ℕ) → 1 ≤ k → k ≤ 8 → IsTrue (is_vint k id) → byte_count id ≡ k
unfolding byte_count
byte_count-of_vint k id one eight vint =
    let low = vint_low k id vint in
    let fits : id < 2 ^ (8 * k) = rw (← pow256 k) (vint_fits k id one (vint_high k id vint)) in
    least_from-is (fits_bytes id) 1 7 k one (omega arith) (lt-ltb id (2 ^ (8 * k)) fits)
    (λ j before. let smaller : 2 ^ (8 * j) ≤ 2 ^ (7 * k) = pow_mono {i = 8 * j} {j = 7 * k} (omega arith) in le-ltb id (2 ^ (8 * j)) (omega arith))

pub record HasWidth (id : ℕ) : Type 0 where
  pub low : 1 ≤ byte_count id
  pub high : byte_count id ≤ 4
  pub vint : IsTrue (is_vint (byte_count id) id)

of_vint : (k id : ℕ) → 1 ≤ k → k ≤ 4 → IsTrue (is_vint k id) → HasWidth id
of_vint k id one four vint =
    let e = byte_count-of_vint k id one (omega arith) vint in
    record { low = omega arith; high = omega arith; vint = rw e vint }

or_cases : (a b : Bool) (P : Type 0) → IsTrue (a || b) → (IsTrue a → P) → (IsTrue b → P) → P
or_cases true b P h f g = f refl
or_cases false b P h f g = g h

-- an identifier is spelled by its fewest bytes
identifier_width : (id : ℕ) → IsIdentifier id → HasWidth id
identifier_width id h =
    or_cases (is_vint 1 id || is_vint 2 id || is_vint 3 id) (is_vint 4 id) (HasWidth id) h
    (λ h3. or_cases (is_vint 1 id || is_vint 2 id) (is_vint 3 id) (HasWidth id) h3
    (λ h2. or_cases (is_vint 1 id) (is_vint 2 id) (HasWidth id) h2 (of_vint 1 id (omega arith) (omega arith)) (of_vint 2 id (omega arith) (omega arith)))
    (of_vint 3 id (omega arith) (omega arith)))
    (of_vint 4 id (omega arith) (omega arith))

-- the shortest size isn't all ones
shortest_size-holds : (size : ℕ) → size < 2 ^ 56 - 1 → size + 1 < 2 ^ (7 * shortest_size size)
unfolding shortest_size
shortest_size-holds size known =
    ltb-true (size + 1) _ (least_from-passes (fits_size size) 1 7 (lt-ltb (size + 1) (2 ^ 56) (omega arith)))

size_meant-known : (len size : ℕ) → size + 1 < 2 ^ (7 * len) → size_meant len size ≡ Known size
unfolding size_meant
size_meant-known len size fits =
    let test : (size + 1 == 2 ^ (7 * len)) ≡ false = grind (arith, nat_tests) in
    rw test refl

-- the written size is the size that is read
pub written_size : (size : ℕ) (rest : List ℕ) → size < 2 ^ 56 - 1 → size_at (size_bytes size ++ rest) ≡ Some (Known size, shortest_size size)
unfolding size_bytes
written_size size rest known =
    let len = shortest_size size in
    let holds = shortest_size-holds size known in
    let e = spelled_size (shortest_size size) size rest (shortest_size-positive size) (shortest_size-le size) (omega arith) in
    e ∙ ap (λ (s : Size). Some (s, shortest_size size)) (size_meant-known (shortest_size size) size holds)

-- the written identifier is the identifier that is read
id_at-written : (id : ℕ) (rest : List ℕ) → IsIdentifier id → id_at (uint_bytes id ++ rest) ≡ Some (id, byte_count id)
unfolding uint_bytes
id_at-written id rest identifier =
    let width = identifier_width id identifier in
    spelled_id (byte_count id) id rest width.low width.high width.vint

-- the written head is the head that is read
pub written_head : (id size : ℕ) (rest : List ℕ) → IsIdentifier id → size < 2 ^ 56 - 1 → head_at (head_of id size ++ rest) ≡ Some (record { id = id; size = Known size; len = length (head_of id size) })
unfolding head_at head_of
written_head id size rest identifier known =
    let parts : (uint_bytes id ++ size_bytes size) ++ rest ≡ uint_bytes id ++ (size_bytes size ++ rest) = append_assoc (uint_bytes id) (size_bytes size) rest in
    let first = id_at-written id (size_bytes size ++ rest) identifier in
    let count = length-uint_bytes id in
    let left : drop (byte_count id) (uint_bytes id ++ (size_bytes size ++ rest)) ≡ size_bytes size ++ rest = ap (λ (n : ℕ). drop n (uint_bytes id ++ (size_bytes size ++ rest))) (sym count) ∙ drop-append_seam (uint_bytes id) (size_bytes size ++ rest) in
    let second = written_size size rest known in
    rw (parts, first, left, second, length-head_parts id size) refl
