-- The lengths of numbers and sizes: the search for the least, and what a length of so many bytes holds.
use Rattle.std.proofs.Common.{◌≡◌, ℕ, zero, suc, ◌+◌, ◌-◌, ◌*◌, ◌%◌, ◌^◌, ◌<◌, ◌≤◌, Bool, true, false, refl, ap, sym, ◌∙◌, arith, cond}
use Rattle.std.proofs.lemmas.Bool.{lt-ltb, le-ltb}
use Rattle.std.proofs.Math.Nat.{mod-eq_of_lt, pow-suc}
use Rattle.std.proofs.Math.Pow.{pow_mono}
use Rattle.byteorder.proofs.Bytes.{pow256}
use Rattle.ebml_core.specs.Element.{least_from, fits_bytes, fits_size, byte_count, shortest_size}

-- a search finds the number that passes where none before it does
pub least_from-is : (test : ℕ → Bool) (from more k : ℕ) → from ≤ k → k ≤ from + more → test k ≡ true → ((j : ℕ) → j < k → test j ≡ false) → least_from test from more ≡ k
unfolding least_from
least_from-is test from zero k low high passes before = omega arith
least_from-is test from (suc more) k low high passes before =
    elim (test from) as (λ (b : Bool). (test from ≡ b) → cond b from (least_from test (suc from) more) ≡ k) [
      | true ↦ λ e. (let late : (from < k) → ⊥ = λ below. let h = before from below in cc in omega arith)
      | false ↦ λ e. least_from-is test (suc from) more k (let apart : (from ≡ k) → ⊥ = λ same. let there : test k ≡ false = ap test (sym same) ∙ e in cc in omega arith) (omega arith) passes before
    ] refl

-- what a search finds passes where its last does
pub least_from-passes : (test : ℕ → Bool) (from more : ℕ) → test (from + more) ≡ true → test (least_from test from more) ≡ true
unfolding least_from
least_from-passes test from zero last = let e : from + 0 ≡ from = omega arith in ap test (sym e) ∙ last
least_from-passes test from (suc more) last =
    elim (test from) as (λ (b : Bool). (test from ≡ b) → test (cond b from (least_from test (suc from) more)) ≡ true) [
      | true ↦ λ e. e
      | false ↦ λ e. let moved : suc from + more ≡ from + suc more = omega arith in least_from-passes test (suc from) more (ap test moved ∙ last)
    ] refl

-- the search for a length has come to `len`: what it finds from there on is what it finds at all
pub record Sought (test : ℕ → Bool) (total len : ℕ) : Type 0 where
  pub from_here : total ≡ least_from test len (8 - len)

sought_at : (test : ℕ → Bool) (len more : ℕ) → test len ≡ true → least_from test len more ≡ len
unfolding least_from
sought_at test len zero h = refl
sought_at test len (suc more) h = rw h refl

-- it ends where the test passes
pub sought_found : (test : ℕ → Bool) (total len : ℕ) → Sought test total len → test len ≡ true → total ≡ len
sought_found test total len s h = s.from_here ∙ sought_at test len (8 - len) h

after_miss : (test : ℕ → Bool) (len more : ℕ) → test len ≡ false → least_from test len (suc more) ≡ least_from test (suc len) more
unfolding least_from
after_miss test len more h = rw h refl

-- and goes on where it does not
pub sought_next : (test : ℕ → Bool) (total len : ℕ) → len < 8 → Sought test total len → test len ≡ false → Sought test total (len + 1)
sought_next test total len below s h =
    let more : 8 - len ≡ suc (8 - (len + 1)) = omega arith in
    let next : suc len ≡ len + 1 = omega arith in
    record { from_here = s.from_here ∙ ap (λ (m : ℕ). least_from test len m) more ∙ after_miss test len (8 - (len + 1)) h ∙ ap (λ (n : ℕ). least_from test n (8 - (len + 1))) next }

-- eight is the last
pub sought_last : (test : ℕ → Bool) (total : ℕ) → Sought test total 8 → total ≡ 8
unfolding least_from
sought_last test total s = s.from_here

-- a bit of a 64-bit number, as code makes it
pub shifted : (k : ℕ) → k ≤ 56 → 1 * 2 ^ k % 2 ^ 64 ≡ 2 ^ k
shifted k h =
    let small : 2 ^ k ≤ 2 ^ 56 = pow_mono {i = k} {j = 56} h in
    let same : 1 * 2 ^ k ≡ 2 ^ k = omega arith in
    rw same (mod-eq_of_lt (omega arith))

-- `byte_count` in code is such a search
pub byte_count_start : (value : ℕ) → Sought (fits_bytes value) (byte_count value) 1
unfolding byte_count
byte_count_start value = record { from_here = refl }

pub byte_count_found : (value len : ℕ) → len < 8 → Sought (fits_bytes value) (byte_count value) len → value < 1 * 2 ^ (8 * len) % 2 ^ 64 → len ≡ byte_count value
byte_count_found value len h s fits =
    let e = shifted (8 * len) (omega arith) in
    let below : value < 2 ^ (8 * len) = omega arith in
    sym (sought_found (fits_bytes value) (byte_count value) len s (lt-ltb value (2 ^ (8 * len)) below))

pub byte_count_next : (value len : ℕ) → len < 8 → Sought (fits_bytes value) (byte_count value) len → 1 * 2 ^ (8 * len) % 2 ^ 64 ≤ value → Sought (fits_bytes value) (byte_count value) (len + 1)
byte_count_next value len h s misses =
    let e = shifted (8 * len) (omega arith) in
    let above : 2 ^ (8 * len) ≤ value = omega arith in
    sought_next (fits_bytes value) (byte_count value) len h s (le-ltb value (2 ^ (8 * len)) above)

pub byte_count_holds : (value len : ℕ) → len < 8 → value < 1 * 2 ^ (8 * len) % 2 ^ 64 → value < 256 ^ len
byte_count_holds value len h fits =
    let e = shifted (8 * len) (omega arith) in
    rw (pow256 len) (omega arith)

-- and so is `shortest_size`
pub shortest_size_start : (size : ℕ) → Sought (fits_size size) (shortest_size size) 1
unfolding shortest_size
shortest_size_start size = record { from_here = refl }

pub shortest_size_found : (size len : ℕ) → len < 8 → Sought (fits_size size) (shortest_size size) len → size + 1 < 1 * 2 ^ (7 * len) % 2 ^ 64 → len ≡ shortest_size size
shortest_size_found size len h s fits =
    let e = shifted (7 * len) (omega arith) in
    let below : size + 1 < 2 ^ (7 * len) = omega arith in
    sym (sought_found (fits_size size) (shortest_size size) len s (lt-ltb (size + 1) (2 ^ (7 * len)) below))

pub shortest_size_next : (size len : ℕ) → len < 8 → Sought (fits_size size) (shortest_size size) len → 1 * 2 ^ (7 * len) % 2 ^ 64 ≤ size + 1 → Sought (fits_size size) (shortest_size size) (len + 1)
shortest_size_next size len h s misses =
    let e = shifted (7 * len) (omega arith) in
    let above : 2 ^ (7 * len) ≤ size + 1 = omega arith in
    sought_next (fits_size size) (shortest_size size) len h s (le-ltb (size + 1) (2 ^ (7 * len)) above)

pub marker_small : (len : ℕ) → len ≤ 8 → 2 ^ (7 * len) ≤ 2 ^ 56
marker_small len h = pow_mono {i = 7 * len} {j = 56} (omega arith)

-- with its marker a size fits its bytes
pub marked_fits : (size len : ℕ) → 1 ≤ len → size < 2 ^ (7 * len) → 2 ^ (7 * len) + size < 256 ^ len
marked_fits size len h fits =
    let twice : 2 ^ suc (7 * len) ≡ 2 ^ (7 * len) * 2 = pow-suc 2 (7 * len) in
    let more : 2 ^ suc (7 * len) ≤ 2 ^ (8 * len) = pow_mono {i = suc (7 * len)} {j = 8 * len} (omega arith) in
    rw (pow256 len) (omega arith)

pub shortest_size_holds : (size len : ℕ) → 1 ≤ len → len < 8 → size + 1 < 1 * 2 ^ (7 * len) % 2 ^ 64 → 2 ^ (7 * len) + size < 256 ^ len
shortest_size_holds size len h k fits =
    let e = shifted (7 * len) (omega arith) in
    marked_fits size len h (omega arith)

pub ruleset lengths = (byte_count_start, byte_count_found, byte_count_next, byte_count_holds, shortest_size_start, shortest_size_found, shortest_size_next, shortest_size_holds, marker_small, sought_last, shifted)
