-- What is read was spelled so.
use Rattle.std.proofs.Common.{◌≡◌, ℕ, zero, suc, ◌+◌, ◌-◌, ◌*◌, ◌/◌, ◌%◌, ◌^◌, ◌<◌, ◌≤◌, Bool, true, false, IsTrue, ◌||◌, nat_le, List, [], ◌∷◌, ◌++◌, length, take, drop, Option, Some, None, refl, ap, sym, ◌∙◌, arith, add-one, subst}
use Rattle.std.proofs.Math.Nat.{mod-eq_of_lt, mod-lt, mul-add-div_right, mul-add-mod_self_right, mul-le-mul_right, mul_assoc, one-mul, pow-suc, add-mul}
use Rattle.std.proofs.lemmas.Bool.{le-leb, leb-true, lt-ltb, or_left}
use Rattle.std.proofs.lemmas.List.{take-append-drop}
use Rattle.std.proofs.lemmas.Nat.{div-mul-add, leading_top, pow-add, pow_pos}
use Rattle.std.specs.Int.{byte_at, bytes_high_first}
use Rattle.std.specs.Int.Count.{leading_of_zero}
use Rattle.byteorder.specs.Endian.{big_number, big_from}
use Rattle.byteorder.specs.Numbers.{big_from-cons, big_from-lt}
use Rattle.cook_bits.specs.Bits.{AreBytes}
use Rattle.ebml_core.specs.declared.parts.Size.{Size}
use Rattle.ebml_core.specs.Element.{is_vint, IsIdentifier}
use Rattle.ebml_core.specs.Reading.{width_of, vint_len, id_at, id_of_len, size_at, size_meant, size_of_len}
use Rattle.ebml_core.specs.Laws.{SpellsVint, SpellsSize}
use Rattle.ebml_core.specs.Prefixes.{chosen}
use Rattle.ebml_core.proofs.Readings.{byte_at-power, first_power, pow_pos256, vint_high, vint_low}

-- what stands above a byte leaves it as it is
byte_at-above : (j more high low : ℕ) → byte_at j (high * 256 ^ (suc more + j) + low) ≡ byte_at j low
byte_at-above j more high low =
    let power : 256 ^ (suc more + j) ≡ 256 ^ suc more * 256 ^ j = pow-add 256 (suc more) j in
    let next : 256 ^ suc more ≡ 256 ^ more * 256 = pow-suc 256 more in
    let product : high * 256 ^ (suc more + j) ≡ high * 256 ^ more * 256 * 256 ^ j =
    ap (λ (x : ℕ). high * x) (power ∙ ap (λ (x : ℕ). x * 256 ^ j) next) ∙ sym (mul_assoc high (256 ^ more * 256) (256 ^ j)) ∙ ap (λ (x : ℕ). x * 256 ^ j) (sym (mul_assoc high (256 ^ more) 256)) in
    let moved : (high * 256 ^ more * 256 * 256 ^ j + low) / 256 ^ j ≡ high * 256 ^ more * 256 + low / 256 ^ j = mul-add-div_right (pow_pos256 j) (high * 256 ^ more * 256) low in
    rw (byte_at-power j (high * 256 ^ (suc more + j) + low), byte_at-power j low, product, moved)
    (mul-add-mod_self_right (high * 256 ^ more) 256 (low / 256 ^ j))

bytes_high_first-above : (k above high low : ℕ) → bytes_high_first k (high * 256 ^ (above + k) + low) ≡ bytes_high_first k low
bytes_high_first-above zero above high low = refl
bytes_high_first-above (suc k) above high low =
    let moved : above + suc k ≡ suc above + k = omega arith in
    let first : byte_at k (high * 256 ^ (above + suc k) + low) ≡ byte_at k low = ap (λ (n : ℕ). byte_at k (high * 256 ^ n + low)) moved ∙ byte_at-above k above high low in
    let rest : bytes_high_first k (high * 256 ^ (above + suc k) + low) ≡ bytes_high_first k low = ap (λ (n : ℕ). bytes_high_first k (high * 256 ^ n + low)) moved ∙ bytes_high_first-above k (suc above) high low in
    rw (first, rest) refl

-- the bytes of the number that bytes are read as are those bytes
bytes-big_from : (k : ℕ) (bytes : List ℕ) → AreBytes bytes → k ≤ length bytes → bytes_high_first k (big_from 0 k bytes) ≡ take k bytes
bytes-big_from zero bytes all room = refl
bytes-big_from (suc k) [] all room = absurd (omega arith)
bytes-big_from (suc k) (a ∷ rest) all room =
    let byte : a < 256 = all 0 in
    let tail : AreBytes rest = λ i. all (suc i) in
    let cons : big_from 1 k (a ∷ rest) ≡ big_from 0 k rest = big_from-cons 0 k a rest in
    let below : big_from 0 k rest < 256 ^ k = big_from-lt 0 k rest tail in
    let quotient : (a * 256 ^ k + big_from 0 k rest) / 256 ^ k ≡ a = div-mul-add a (256 ^ k) (big_from 0 k rest) below in
    let first : byte_at k (a * 256 ^ k + big_from 0 k rest) ≡ a = byte_at-power k (a * 256 ^ k + big_from 0 k rest) ∙ ap (λ (x : ℕ). x % 256) quotient ∙ mod-eq_of_lt byte in
    let low : bytes_high_first k (a * 256 ^ k + big_from 0 k rest) ≡ bytes_high_first k (big_from 0 k rest) =
    let none : k ≡ 0 + k = omega arith in ap (λ (n : ℕ). bytes_high_first k (a * 256 ^ n + big_from 0 k rest)) none ∙ bytes_high_first-above k 0 a (big_from 0 k rest) in
    let ih = bytes-big_from k rest tail (omega arith) in
    rw (cons, first, low, ih) refl

-- the first byte of a VINT of k + 1 bytes stands between two powers
first_bounds : (k a : ℕ) → k ≤ 7 → a < 256 → width_of a ≡ suc k → (2 ^ (7 - k) ≤ a) × (a < 2 * 2 ^ (7 - k))
first_bounds k zero small byte width = let zeros = leading_of_zero 8 in absurd (omega (arith, zeros))
first_bounds k (suc b) small byte width =
    let top = leading_top 8 (suc b) (omega arith) byte in
    let place : top.0 ≡ 7 - k = omega (arith, top.1) in
    let power : 2 ^ top.0 ≡ 2 ^ (7 - k) = ap (λ (n : ℕ). 2 ^ n) place in
    let twice : 2 ^ suc top.0 ≡ 2 ^ top.0 * 2 = pow-suc 2 top.0 in
    (omega (arith, top.2), omega (arith, top.3))

-- what the numbers say, as a test of a VINT
is_vint-true : (len n : ℕ) → 2 ^ (7 * len) ≤ n → n < 2 * 2 ^ (7 * len) → IsTrue (is_vint len n)
is_vint-true len n low high =
    let plus : 7 * len + 1 ≡ suc (7 * len) = omega arith in
    let power : 2 ^ (7 * len + 1) ≡ 2 ^ (7 * len) * 2 = ap (λ (k : ℕ). 2 ^ k) plus ∙ pow-suc 2 (7 * len) in
    let below : n < 2 ^ (7 * len + 1) = omega arith in
    rw (le-leb (2 ^ (7 * len)) n low, lt-ltb n (2 ^ (7 * len + 1)) below) refl

-- the number in a VINT's bytes is one of a VINT
number_bounds : (k a low : ℕ) → k ≤ 7 → 2 ^ (7 - k) ≤ a → a < 2 * 2 ^ (7 - k) → low < 256 ^ k → (2 ^ (7 * suc k) ≤ a * 256 ^ k + low) × (a * 256 ^ k + low < 2 * 2 ^ (7 * suc k))
number_bounds k a low small least most below =
    let power = first_power k small in
    let floor : 2 ^ (7 - k) * 256 ^ k ≤ a * 256 ^ k = mul-le-mul_right (256 ^ k) least in
    let next : suc a ≤ 2 * 2 ^ (7 - k) = most in
    let ceiling : suc a * 256 ^ k ≤ 2 * 2 ^ (7 - k) * 256 ^ k = mul-le-mul_right (256 ^ k) next in
    let one_more : suc a * 256 ^ k ≡ a * 256 ^ k + 256 ^ k = ap (λ (n : ℕ). n * 256 ^ k) (sym (add-one a)) ∙ add-mul a 1 (256 ^ k) ∙ ap (λ (n : ℕ). a * 256 ^ k + n) (one-mul (256 ^ k)) in
    let twice : 2 * 2 ^ (7 - k) * 256 ^ k ≡ 2 * (2 ^ (7 - k) * 256 ^ k) = mul_assoc 2 (2 ^ (7 - k)) (256 ^ k) in
    (omega arith, omega arith)

-- a length is read of bytes that spell a VINT of that length
vint_spelled : (most len : ℕ) (bytes : List ℕ) → most ≤ 8 → AreBytes bytes → vint_len most bytes ≡ Some len → SpellsVint most bytes len (big_number len bytes)
unfolding vint_len
vint_spelled most len [] eight all h = let no : ⊥ = cc in absurd no
vint_spelled most zero (first ∷ rest) eight all h =
    let parts = chosen (nat_le (width_of first) most) (nat_le (width_of first) (length (first ∷ rest))) (width_of first) zero h in
    absurd (omega (arith, parts.2))
vint_spelled most (suc k) (first ∷ rest) eight all h =
    let parts = chosen (nat_le (width_of first) most) (nat_le (width_of first) (length (first ∷ rest))) (width_of first) (suc k) h in
    let within = leb-true _ _ parts.0 in
    let whole = leb-true _ _ parts.1 in
    let small : suc k ≤ 8 = omega (arith, parts.2, within) in
    let room : suc k ≤ length (first ∷ rest) = omega (arith, parts.2, whole) in
    let bounds = first_bounds k first (omega arith) (all 0) parts.2 in
    let cons : big_from 1 k (first ∷ rest) ≡ big_from 0 k rest = big_from-cons 0 k first rest in
    let below : big_from 0 k rest < 256 ^ k = big_from-lt 0 k rest (λ i. all (suc i)) in
    let number : big_number (suc k) (first ∷ rest) ≡ first * 256 ^ k + big_from 0 k rest = ap (λ (n : ℕ). first * 256 ^ k + n) cons in
    let edges = number_bounds k first (big_from 0 k rest) (omega arith) bounds.0 bounds.1 below in
    let same : bytes_high_first (suc k) (big_number (suc k) (first ∷ rest)) ≡ take (suc k) (first ∷ rest) = bytes-big_from (suc k) (first ∷ rest) all room in
    record {
      low = omega arith;
      high = omega (arith, parts.2, within);
      vint = rw number (is_vint-true (suc k) (first * 256 ^ k + big_from 0 k rest) edges.0 edges.1);
      spelled = sym (take-append-drop (suc k) (first ∷ rest)) ∙ ap (λ (front : List ℕ). front ++ drop (suc k) (first ∷ rest)) (sym same);
    }

or_second : (a b : Bool) → b ≡ true → (a || b) ≡ true
or_second true b h = refl
or_second false b h = h

parts_of : {A : Type 0} (a c : A) (b d : ℕ) → (let o : Option (A × ℕ) = Some (a, b) in o) ≡ Some (c, d) → (a ≡ c) × (b ≡ d)
parts_of {A} a c b d h =
    let pair : (let x : A × ℕ = (a, b) in x) ≡ (c, d) = cc in
    (ap (λ (x : A × ℕ). x.0) pair, ap (λ (x : A × ℕ). x.1) pair)

both : (P : ℕ → ℕ → Type 0) {a b c d : ℕ} → a ≡ b → c ≡ d → P a c → P b d
both P {a} {b} {c} {d} e f p = subst (λ (x : ℕ). P x d) e (subst (λ (y : ℕ). P a y) f p)

-- a VINT of one to four bytes is an identifier
is_identifier-true : (len id : ℕ) → 1 ≤ len → len ≤ 4 → IsTrue (is_vint len id) → IsIdentifier id
is_identifier-true zero id one four vint = absurd (omega arith)
is_identifier-true (suc zero) id one four vint = or_left (is_vint 1 id || is_vint 2 id || is_vint 3 id) (is_vint 4 id) (or_left (is_vint 1 id || is_vint 2 id) (is_vint 3 id) (or_left (is_vint 1 id) (is_vint 2 id) vint))
is_identifier-true (suc (suc zero)) id one four vint = or_left (is_vint 1 id || is_vint 2 id || is_vint 3 id) (is_vint 4 id) (or_left (is_vint 1 id || is_vint 2 id) (is_vint 3 id) (or_second (is_vint 1 id) (is_vint 2 id) vint))
is_identifier-true (suc (suc (suc zero))) id one four vint = or_left (is_vint 1 id || is_vint 2 id || is_vint 3 id) (is_vint 4 id) (or_second (is_vint 1 id || is_vint 2 id) (is_vint 3 id) vint)
is_identifier-true (suc (suc (suc (suc zero)))) id one four vint = or_second (is_vint 1 id || is_vint 2 id || is_vint 3 id) (is_vint 4 id) vint
is_identifier-true (suc (suc (suc (suc (suc k))))) id one four vint = absurd (omega arith)

-- what is read as an identifier is the spelling of one
pub read_id_is_spelled : (bytes : List ℕ) (id len : ℕ) → AreBytes bytes → id_at bytes ≡ Some (id, len) → SpellsVint 4 bytes len id × IsIdentifier id
unfolding id_at
read_id_is_spelled bytes id len all h =
    elim (vint_len 4 bytes) as (λ (o : Option ℕ). (vint_len 4 bytes ≡ o) → (id_of_len bytes o ≡ Some (id, len)) → SpellsVint 4 bytes len id × IsIdentifier id) [
      | None ↦ λ e is. (let no : ⊥ = cc in absurd no)
      | Some found ↦ λ e is. (
          let s = vint_spelled 4 found bytes (omega arith) all e in
          let parts = parts_of (big_number found bytes) id found len is in
          let t : SpellsVint 4 bytes len id = both (λ (l : ℕ) (n : ℕ). SpellsVint 4 bytes l n) parts.1 parts.0 s in
          (t, is_identifier-true len id t.low t.high t.vint))
    ] refl h

-- a VINT is its marker and the VINT_DATA below it
data_of : (len number : ℕ) → 2 ^ (7 * len) ≤ number → number < 2 * 2 ^ (7 * len) → number ≡ 2 ^ (7 * len) + number % 2 ^ (7 * len)
data_of len number low high =
    let left : number ≡ 1 * 2 ^ (7 * len) + (number - 2 ^ (7 * len)) = omega arith in
    let below : number % 2 ^ (7 * len) ≡ number - 2 ^ (7 * len) = ap (λ (n : ℕ). n % 2 ^ (7 * len)) left ∙ mul-add-mod_self_right 1 (2 ^ (7 * len)) (number - 2 ^ (7 * len)) ∙ mod-eq_of_lt (omega arith) in
    omega arith

-- what is read as a size is the spelling of one
pub read_size_is_spelled : (bytes : List ℕ) (size : Size) (len : ℕ) → AreBytes bytes → size_at bytes ≡ Some (size, len) → SpellsSize bytes len size
unfolding size_at
read_size_is_spelled bytes size len all h =
    elim (vint_len 8 bytes) as (λ (o : Option ℕ). (vint_len 8 bytes ≡ o) → (size_of_len bytes o ≡ Some (size, len)) → SpellsSize bytes len size) [
      | None ↦ λ e is. (let no : ⊥ = cc in absurd no)
      | Some found ↦ λ e is. (
          let s = vint_spelled 8 found bytes (omega arith) all e in
          let parts = parts_of (size_meant found (big_number found bytes % 2 ^ (7 * found))) size found len is in
          let split = data_of found (big_number found bytes) (vint_low found (big_number found bytes) s.vint) (vint_high found (big_number found bytes) s.vint) in
          subst (λ (l : ℕ). SpellsSize bytes l size) parts.1 (record {
            content = big_number found bytes % 2 ^ (7 * found);
            fits = mod-lt (big_number found bytes) (pow_pos (7 * found));
            spelled = subst (λ (n : ℕ). SpellsVint 8 bytes found n) split s;
            meant = sym parts.0;
          }))
    ] refl h
