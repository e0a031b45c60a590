-- The lengths of heads and elements.
use Rattle.std.proofs.Common.{◌≡◌, ℕ, zero, suc, ◌+◌, ◌*◌, ◌^◌, ◌<◌, ◌≤◌, Bool, true, false, List, ◌++◌, length, refl, ap, sym, ◌∙◌, arith, cond, length-append}
use Rattle.std.proofs.lemmas.Bool.{lt-ltb}
use Rattle.byteorder.specs.Numbers.{length-bytes_high_first}
use Rattle.ebml_core.specs.Element.{least_from, fits_bytes, fits_size, byte_count, shortest_size, uint_bytes, size_bytes, head_of, element, uint_element}

-- the search stops no later than where the test passes
least_from-le : (test : ℕ → Bool) (from more k : ℕ) → from ≤ k → test k ≡ true → least_from test from more ≤ k
unfolding least_from
least_from-le test from zero k h passes = h
least_from-le test from (suc more) k h passes =
    elim (test from) as (λ (b : Bool). (test from ≡ b) → cond b from (least_from test (suc from) more) ≤ k) [
      | true ↦ λ e. h
      | false ↦ λ e. least_from-le test (suc from) more k (let apart : (from ≡ k) → ⊥ = λ same. let there : test k ≡ false = ap test (sym same) ∙ e in cc in omega arith) passes
    ] refl

-- and no later than at its last
least_from-last : (test : ℕ → Bool) (from more : ℕ) → least_from test from more ≤ from + more
unfolding least_from
least_from-last test from zero = omega arith
least_from-last test from (suc more) =
    elim (test from) as (λ (b : Bool). cond b from (least_from test (suc from) more) ≤ from + suc more) [
      | true ↦ omega arith
      | false ↦ let ih = least_from-last test (suc from) more in omega arith
    ]

-- and no sooner than at its first
least_from-first : (test : ℕ → Bool) (from more : ℕ) → from ≤ least_from test from more
unfolding least_from
least_from-first test from zero = omega arith
least_from-first test from (suc more) =
    elim (test from) as (λ (b : Bool). from ≤ cond b from (least_from test (suc from) more)) [
      | true ↦ omega arith
      | false ↦ let ih = least_from-first test (suc from) more in omega arith
    ]

pub shortest_size-positive : (size : ℕ) → 1 ≤ shortest_size size
unfolding shortest_size
shortest_size-positive size = least_from-first (fits_size size) 1 7

-- a number of 32 bits has at most four bytes
pub byte_count-of_32_bits : (value : ℕ) → value < 2 ^ 32 → byte_count value ≤ 4
unfolding byte_count
byte_count-of_32_bits value h = least_from-le (fits_bytes value) 1 7 4 (omega arith) (lt-ltb value (2 ^ 32) h)

pub shortest_size-le : (size : ℕ) → shortest_size size ≤ 8
unfolding shortest_size
shortest_size-le size = least_from-last (fits_size size) 1 7

pub byte_count-le : (value : ℕ) → byte_count value ≤ 8
unfolding byte_count
byte_count-le value = least_from-last (fits_bytes value) 1 7

pub length-uint_bytes : (value : ℕ) → length (uint_bytes value) ≡ byte_count value
unfolding uint_bytes
length-uint_bytes value = length-bytes_high_first (byte_count value) value

pub length-size_bytes : (size : ℕ) → length (size_bytes size) ≡ shortest_size size
unfolding size_bytes
length-size_bytes size = length-bytes_high_first (shortest_size size) (2 ^ (7 * shortest_size size) + size)

pub length-head_parts : (id size : ℕ) → length (uint_bytes id ++ size_bytes size) ≡ byte_count id + shortest_size size
length-head_parts id size = omega (arith, length-append (uint_bytes id) (size_bytes size), length-uint_bytes id, length-size_bytes size)

-- a head is as long as its two parts
pub length-head_of : (id size : ℕ) → length (head_of id size) ≡ byte_count id + shortest_size size
unfolding head_of
length-head_of id size = length-head_parts id size

-- a head has at most twelve bytes
pub length-head_of-le : (id size : ℕ) → id < 2 ^ 32 → length (head_of id size) ≤ 12
length-head_of-le id size h = omega (arith, length-head_of id size, byte_count-of_32_bits id h, shortest_size-le size)

-- an element is as long as its head and its content
pub length-element : (id : ℕ) (content : List ℕ) → length (element id content) ≡ length (head_of id (length content)) + length content
unfolding element
length-element id content = length-append (head_of id (length content)) content

pub length-uint_element-le : (id value : ℕ) → id < 2 ^ 32 → length (uint_element id value) ≤ 20
unfolding uint_element
length-uint_element-le id value h =
    omega (arith, length-element id (uint_bytes value), length-head_of-le id (length (uint_bytes value)) h, length-uint_bytes value, byte_count-le value)

pub ruleset heads = (length-head_of, byte_count-of_32_bits, shortest_size-le, length-uint_bytes, byte_count-le)
