-- Fields of bits among bytes: what a reader holds and takes, and what a writer adds.
use Rattle.std.proofs.Common.{◌≡◌, ℕ, zero, suc, ◌+◌, ◌-◌, ◌*◌, ◌/◌, ◌%◌, ◌^◌, ◌<◌, ◌≤◌, Bool, false, List, [], ◌∷◌, ◌++◌, length, get_or, take, drop, nat_le, Some, None, refl, sym, ap, ◌∙◌, arith, append_assoc, length-append, zero-add}
use Rattle.std.proofs.Math.Nat.{mod-eq_of_lt, pow-suc}
use Rattle.std.proofs.Math.Pow.{pow_mono}
use Rattle.std.specs.Int.{w32, byte_at, bytes_high_first, to_be_bytes}
use Rattle.std.proofs.lemmas.Bool.{le-leb, lt-leb}
use Rattle.std.proofs.lemmas.List.{append-nil, drop_more, drop_all, take_at, drop_at, take_all, nil_from_length, length-take-le, length-drop, take-append-drop}
use Rattle.std.proofs.lemmas.List.Concat.{flat_map-append}
use Rattle.std.proofs.lemmas.Nat.{shr_below, shl_below, pow-add, one_shl}
use Rattle.cook_bits.specs.Bits.{AreBytes, low_bits, number_of, bits_of, first_bytes, bytes_of, number_taken, bits_left}
use Rattle.cook_bits.proofs.Division.{zeros}
use Rattle.cook_bits.proofs.Numbers.{length-low_bits, number_of-low_bits, low_bits-cat, low_bits-mod, low_bits-split, low_bits_of_zero, low_bits_back}

-- ---- bits of bytes

pub bits_of-cons : (byte : ℕ) (bytes : List ℕ) → bits_of (byte ∷ bytes) ≡ low_bits 8 byte ++ bits_of bytes
unfolding bits_of
bits_of-cons byte bytes = refl

pub bits_of_nothing : bits_of [] ≡ []
unfolding bits_of
bits_of_nothing = refl

pub bits_of-append : (xs ys : List ℕ) → bits_of (xs ++ ys) ≡ bits_of xs ++ bits_of ys
unfolding bits_of
bits_of-append xs ys = flat_map-append (low_bits 8) xs ys

pub length-bits_of : (bytes : List ℕ) → length (bits_of bytes) ≡ 8 * length bytes
length-bits_of [] = ap length bits_of_nothing
length-bits_of (byte ∷ bytes) =
    let rest = length-bits_of bytes in
    ap length (bits_of-cons byte bytes) ∙ length-append (low_bits 8 byte) (bits_of bytes) ∙ ap (λ n. n + length (bits_of bytes)) (length-low_bits 8 byte) ∙ omega (arith, rest)

pub no_bits : (n : ℕ) → low_bits 0 n ≡ []
unfolding low_bits
no_bits n = refl

byte_place : (count : ℕ) → 256 ^ count ≡ 2 ^ (8 * count)
byte_place zero = refl
byte_place (suc count) =
    let more : 8 * suc count ≡ 8 * count + 8 = omega arith in
    let split : 2 ^ (8 * count + 8) ≡ 2 ^ (8 * count) * 2 ^ 8 = pow-add 2 (8 * count) 8 in
    let e = byte_place count in
    rw (pow-suc, more) (ap (λ n. n * 256) e ∙ sym split)

byte_is : (count n : ℕ) → byte_at count n ≡ n / 2 ^ (8 * count) % 256
byte_is zero n = let e : n / 1 ≡ n = omega arith in ap (λ m. m % 256) (sym e)
byte_is (suc count) n = ap (λ m. n / m % 256) (byte_place (suc count))

-- the bytes of a number are its bits
pub bits_of-bytes_high_first : (count n : ℕ) → bits_of (bytes_high_first count n) ≡ low_bits (8 * count) n
bits_of-bytes_high_first zero n = bits_of_nothing ∙ sym (no_bits n)
bits_of-bytes_high_first (suc count) n =
    let more : 8 * suc count ≡ 8 + 8 * count = omega arith in
    bits_of-cons (byte_at count n) (bytes_high_first count n)
    ∙ ap (λ bits. low_bits 8 (byte_at count n) ++ bits) (bits_of-bytes_high_first count n)
    ∙ ap (λ b. low_bits 8 b ++ low_bits (8 * count) n) (byte_is count n)
    ∙ ap (λ bits. bits ++ low_bits (8 * count) n) (low_bits-mod 8 8 (n / 2 ^ (8 * count)) (omega arith))
    ∙ sym (low_bits-split 8 (8 * count) n)
    ∙ ap (λ k. low_bits k n) (sym more)

-- they are so many, and bytes
pub length-bytes_high_first : (count n : ℕ) → length (bytes_high_first count n) ≡ count
length-bytes_high_first zero n = refl
length-bytes_high_first (suc count) n = ap suc (length-bytes_high_first count n)

byte_small : (count n : ℕ) → byte_at count n < 256
byte_small zero n = omega arith
byte_small (suc count) n = omega arith

pub are_bytes-bytes_high_first : (count n : ℕ) → AreBytes (bytes_high_first count n)
are_bytes-bytes_high_first zero n i = omega arith
are_bytes-bytes_high_first (suc count) n zero = byte_small count n
are_bytes-bytes_high_first (suc count) n (suc i) = are_bytes-bytes_high_first count n i

last_bytes : (more count n : ℕ) → drop more (bytes_high_first (more + count) n) ≡ bytes_high_first count n
last_bytes zero count n = ap (λ k. bytes_high_first k n) (zero-add count)
last_bytes (suc more) count n =
    let e : suc more + count ≡ suc (more + count) = omega arith in
    ap (λ k. drop (suc more) (bytes_high_first k n)) e ∙ last_bytes more count n

-- ---- a reader

-- one byte more is held
pub held_more : (word held byte i : ℕ) (bytes : List ℕ) → held ≤ 56 → byte < 256 → i < length bytes → byte ≡ get_or bytes i 0
    → low_bits (held + 8) (word % 2 ^ 56 * 256 + byte) ++ bits_of (drop (i + 1) bytes) ≡ low_bits held word ++ bits_of (drop i bytes)
held_more word held byte i bytes le small lt read =
    let rest = bits_of (drop (i + 1) bytes) in
    ap (λ row. row ++ rest) (low_bits-cat held 8 (word % 2 ^ 56) byte small ∙ ap (λ row. row ++ low_bits 8 byte) (low_bits-mod held 56 word le))
    ∙ append_assoc (low_bits held word) (low_bits 8 byte) rest
    ∙ ap (λ row. low_bits held word ++ row) (sym (bits_of-cons byte (drop (i + 1) bytes)) ∙ ap (λ b. bits_of (b ∷ drop (i + 1) bytes)) read ∙ ap bits_of (sym (drop_more bytes i 0 lt)))

-- all of the next bytes are held
pub held_all : (word held i : ℕ) (next rest all : List ℕ) (before : List Bool) → length next ≤ i → all ≡ next ++ rest
    → low_bits held word ++ bits_of (drop i next) ≡ before ++ bits_of next → low_bits held word ++ bits_of rest ≡ before ++ bits_of all
held_all word held i next rest all before le whole so_far =
    let held_now : low_bits held word ≡ before ++ bits_of next =
    sym (append-nil (low_bits held word)) ∙ ap (λ row. low_bits held word ++ row) (sym (ap bits_of (drop_all i next le) ∙ bits_of_nothing)) ∙ so_far in
    ap (λ row. row ++ bits_of rest) held_now
    ∙ append_assoc before (bits_of next) (bits_of rest)
    ∙ ap (λ row. before ++ row) (sym (bits_of-append next rest) ∙ ap bits_of (sym whole))

taken_if : (bits : List Bool) (count : ℕ) → count ≤ length bits → (number_taken count bits ≡ Some (number_of (take count bits))) × (bits_left count bits ≡ drop count bits)
unfolding number_taken bits_left
taken_if bits count le = let e = le-leb count (length bits) le in (rw e refl, rw e refl)

-- the field that is taken, and what is left
pub field_taken : (word held count : ℕ) (rest : List Bool) (bits : List Bool) → held < 64 → count ≤ held → low_bits held word ++ rest ≡ bits
    → (Some (word / 2 ^ (held - count) % (1 * 2 ^ count % 2 ^ 64)) ≡ number_taken count bits) × (low_bits (held - count) word ++ rest ≡ bits_left count bits)
field_taken word held count rest bits lt le view =
    let low = held - count in
    let field = low_bits count (word / 2 ^ low) in
    let after = low_bits low word ++ rest in
    let parts : bits ≡ field ++ after =
    sym view ∙ ap (λ n. low_bits n word ++ rest) (omega arith) ∙ ap (λ row. row ++ rest) (low_bits-split count low word) ∙ append_assoc field (low_bits low word) rest in
    let len : length field ≡ count = length-low_bits count (word / 2 ^ low) in
    let enough : count ≤ length bits = rw parts (omega (arith, length-append field after, len)) in
    let t = taken_if bits count enough in
    let first : take count bits ≡ field = ap (take count) parts ∙ take_at field after count len in
    let last : drop count bits ≡ after = ap (drop count) parts ∙ drop_at field after count len in
    let mask : 1 * 2 ^ count % 2 ^ 64 ≡ 2 ^ count = one_shl count 64 (omega arith) in
    (ap (λ n. Some (word / 2 ^ low % n)) mask ∙ ap (λ n. Some n) (sym (number_of-low_bits count (word / 2 ^ low)) ∙ ap number_of (sym first)) ∙ sym t.0, sym (t.1 ∙ last))

-- no field where too few bits are left
pub field_refused : (word held count : ℕ) (rest : List ℕ) (bits : List Bool) → held < count → rest ≡ [] → low_bits held word ++ bits_of rest ≡ bits
    → (None ≡ number_taken count bits) × (low_bits held word ++ bits_of rest ≡ bits_left count bits)
unfolding number_taken bits_left
field_refused word held count rest bits lt none view =
    let len : length bits ≡ held =
    ap length (sym view ∙ ap (λ r. low_bits held word ++ bits_of r) none ∙ ap (λ row. low_bits held word ++ row) bits_of_nothing ∙ append-nil (low_bits held word)) ∙ length-low_bits held word in
    let e : nat_le count (length bits) ≡ false = lt-leb count (length bits) (omega arith) in
    (rw e refl, rw e view)

pub length_held : (word held : ℕ) (rest : List ℕ) (bits : List Bool) → low_bits held word ++ bits_of rest ≡ bits → length bits ≡ held + 8 * length rest
length_held word held rest bits view =
    ap length (sym view) ∙ length-append (low_bits held word) (bits_of rest) ∙ ap (λ n. n + length (bits_of rest)) (length-low_bits held word) ∙ ap (λ n. held + n) (length-bits_of rest)

-- ---- a writer

-- a field behind the bits that are held
record Joined (held rest count value : ℕ) : Type 0 where
  whole : rest * 2 ^ count % 2 ^ 64 ≡ rest * 2 ^ count
  small : rest * 2 ^ count + value < 2 ^ (held + count)
  few : 2 ^ (held + count) ≤ 2 ^ 39

joined : (held rest count value : ℕ) → held < 8 → rest < 2 ^ held → count ≤ 32 → value < 2 ^ count → Joined held rest count value
joined held rest count value held_lt rest_lt count_le value_lt =
    let few : 2 ^ (held + count) ≤ 2 ^ 39 = pow_mono {i = held + count} {j = 39} (omega arith) in
    let below : rest * 2 ^ count < 2 ^ (held + count) = shl_below rest held count rest_lt in
    let sum : 2 ^ (held + count) ≡ 2 ^ held * 2 ^ count = pow-add 2 held count in
    let room : (rest + 1) * 2 ^ count ≤ 2 ^ held * 2 ^ count = grind arith in
    record {
      whole = mod-eq_of_lt (omega arith);
      small = omega arith;
      few = few;
    }

pub whole_fits : (held rest count value : ℕ) → held < 8 → rest < 2 ^ held → count ≤ 32 → value < 2 ^ count
    → (rest * 2 ^ count % 2 ^ 64 + value) / 2 ^ ((held + count) % 8) < 2 ^ 32
whole_fits held rest count value a b c d =
    let j = joined held rest count value a b c d in
    let k = (held + count) % 8 in
    let n = (held + count) / 8 in
    let parts : held + count ≡ 8 * n + k = omega arith in
    let at : rest * 2 ^ count + value < 2 ^ (8 * n + k) = rw parts at j.small in
    let most : 2 ^ (8 * n) ≤ 2 ^ 32 = pow_mono {i = 8 * n} {j = 32} (omega arith) in
    let below : (rest * 2 ^ count + value) / 2 ^ k < 2 ^ (8 * n) = shr_below (rest * 2 ^ count + value) (8 * n) k at in
    rw j.whole (omega arith)

pub put_bits : (bytes : List ℕ) (held rest count value : ℕ) → held < 8 → rest < 2 ^ held → count ≤ 32 → value < 2 ^ count
    → bits_of (bytes ++ take (4 - (4 - (held + count) / 8)) (drop (4 - (held + count) / 8) (to_be_bytes w32 ((rest * 2 ^ count % 2 ^ 64 + value) / 2 ^ ((held + count) % 8)))))
    ++ low_bits ((held + count) % 8) ((rest * 2 ^ count % 2 ^ 64 + value) % (1 * 2 ^ ((held + count) % 8) % 2 ^ 64))
    ≡ (bits_of bytes ++ low_bits held rest) ++ low_bits count value
put_bits bytes held rest count value a b c d =
    let j = joined held rest count value a b c d in
    let k = (held + count) % 8 in
    let n = (held + count) / 8 in
    let number = rest * 2 ^ count + value in
    let word = rest * 2 ^ count % 2 ^ 64 + value in
    let same : word ≡ number = ap (λ m. m + value) j.whole in
    let n_le : n ≤ 4 = omega arith in
    let four : 4 ≡ (4 - n) + n = omega arith in
    let parts : held + count ≡ 8 * n + k = omega arith in
    let mask : 1 * 2 ^ k % 2 ^ 64 ≡ 2 ^ k = one_shl k 64 (omega arith) in
    let written = take (4 - (4 - n)) (drop (4 - n) (to_be_bytes w32 (word / 2 ^ k))) in
    let last : written ≡ bytes_high_first n (word / 2 ^ k) =
    ap (λ m. take (4 - (4 - n)) (drop (4 - n) (bytes_high_first m (word / 2 ^ k)))) four
    ∙ ap (take (4 - (4 - n))) (last_bytes (4 - n) n (word / 2 ^ k))
    ∙ take_all (4 - (4 - n)) (bytes_high_first n (word / 2 ^ k)) (omega (arith, length-bytes_high_first n (word / 2 ^ k))) in
    let front : bits_of (bytes ++ written) ≡ bits_of bytes ++ low_bits (8 * n) (word / 2 ^ k) =
    ap (λ more. bits_of (bytes ++ more)) last ∙ bits_of-append bytes (bytes_high_first n (word / 2 ^ k)) ∙ ap (λ row. bits_of bytes ++ row) (bits_of-bytes_high_first n (word / 2 ^ k)) in
    let back : low_bits k (word % (1 * 2 ^ k % 2 ^ 64)) ≡ low_bits k word = ap (λ m. low_bits k (word % m)) mask ∙ low_bits-mod k k word (omega arith) in
    let whole : low_bits (8 * n) (word / 2 ^ k) ++ low_bits k word ≡ low_bits held rest ++ low_bits count value =
    sym (low_bits-split (8 * n) k word) ∙ ap (λ m. low_bits m word) (sym parts) ∙ ap (low_bits (held + count)) same ∙ low_bits-cat held count rest value d in
    ap (λ row. row ++ low_bits k (word % (1 * 2 ^ k % 2 ^ 64))) front
    ∙ ap (λ row. (bits_of bytes ++ low_bits (8 * n) (word / 2 ^ k)) ++ row) back
    ∙ append_assoc (bits_of bytes) (low_bits (8 * n) (word / 2 ^ k)) (low_bits k word)
    ∙ ap (λ row. bits_of bytes ++ row) whole
    ∙ sym (append_assoc (bits_of bytes) (low_bits held rest) (low_bits count value))

written_len : (bytes : List ℕ) (held rest : ℕ) (bits : List Bool) → held < 8 → bits_of bytes ++ low_bits held rest ≡ bits → length bits % 8 ≡ held
written_len bytes held rest bits lt view =
    let len : length bits ≡ 8 * length bytes + held =
    ap length (sym view) ∙ length-append (bits_of bytes) (low_bits held rest) ∙ ap (λ n. n + length (low_bits held rest)) (length-bits_of bytes) ∙ ap (λ n. 8 * length bytes + n) (length-low_bits held rest) in
    omega arith

pub aligned : (bytes : List ℕ) (held rest : ℕ) (bits : List Bool) → held < 8 → bits_of bytes ++ low_bits held rest ≡ bits → held ≡ 0 → bits ≡ bits ++ zeros ((8 - length bits % 8) % 8)
aligned bytes held rest bits lt view none =
    let len = written_len bytes held rest bits lt view in
    let count : (8 - length bits % 8) % 8 ≡ 0 = omega arith in
    sym (ap (λ n. bits ++ zeros n) count ∙ append-nil bits)

pub padding : (bytes : List ℕ) (held rest : ℕ) (bits : List Bool) → held < 8 → bits_of bytes ++ low_bits held rest ≡ bits → 0 < held → low_bits (8 - held) 0 ≡ zeros ((8 - length bits % 8) % 8)
padding bytes held rest bits lt view some =
    let len = written_len bytes held rest bits lt view in
    let count : 8 - held ≡ (8 - length bits % 8) % 8 = omega arith in
    low_bits_of_zero (8 - held) ∙ ap zeros count

pub finished : (bytes : List ℕ) (held rest : ℕ) (bits : List Bool) → held < 8 → bits_of bytes ++ low_bits held rest ≡ bits → length bits % 8 ≡ 0 → bits_of bytes ≡ bits
finished bytes held rest bits lt view whole =
    let none : held ≡ 0 = sym (written_len bytes held rest bits lt view) ∙ whole in
    sym (append-nil (bits_of bytes)) ∙ ap (λ row. bits_of bytes ++ row) (sym (ap (λ n. low_bits n rest) none ∙ no_bits rest)) ∙ view

-- ---- bytes and their bits

first_bytes_back : (bytes : List ℕ) → AreBytes bytes → first_bytes (length bytes) (bits_of bytes) ≡ bytes
unfolding first_bytes
first_bytes_back [] are = refl
first_bytes_back (byte ∷ bytes) are =
    let front : take 8 (bits_of (byte ∷ bytes)) ≡ low_bits 8 byte = ap (take 8) (bits_of-cons byte bytes) ∙ take_at (low_bits 8 byte) (bits_of bytes) 8 (length-low_bits 8 byte) in
    let back : drop 8 (bits_of (byte ∷ bytes)) ≡ bits_of bytes = ap (drop 8) (bits_of-cons byte bytes) ∙ drop_at (low_bits 8 byte) (bits_of bytes) 8 (length-low_bits 8 byte) in
    let number : number_of (take 8 (bits_of (byte ∷ bytes))) ≡ byte = ap number_of front ∙ number_of-low_bits 8 byte ∙ mod-eq_of_lt (are 0) in
    let rest : first_bytes (length bytes) (drop 8 (bits_of (byte ∷ bytes))) ≡ bytes = ap (first_bytes (length bytes)) back ∙ first_bytes_back bytes (λ i. are (suc i)) in
    cc

pub bytes_of-bits_of : (bytes : List ℕ) → AreBytes bytes → bytes_of (bits_of bytes) ≡ bytes
unfolding bytes_of
bytes_of-bits_of bytes are =
    let len = length-bits_of bytes in
    let count : length (bits_of bytes) / 8 ≡ length bytes = omega arith in
    ap (λ n. first_bytes n (bits_of bytes)) count ∙ first_bytes_back bytes are

first_bits_back : (count : ℕ) (bits : List Bool) → length bits ≡ 8 * count → bits_of (first_bytes count bits) ≡ bits
unfolding first_bytes
first_bits_back zero bits e = bits_of_nothing ∙ sym (nil_from_length bits e)
first_bits_back (suc count) bits e =
    let len : length (take 8 bits) ≡ 8 = length-take-le 8 bits (omega arith) in
    let rest : length (drop 8 bits) ≡ 8 * count = omega (arith, length-drop 8 bits) in
    bits_of-cons (number_of (take 8 bits)) (first_bytes count (drop 8 bits))
    ∙ ap (λ row. row ++ bits_of (first_bytes count (drop 8 bits))) (low_bits_back 8 (take 8 bits) len)
    ∙ ap (λ row. take 8 bits ++ row) (first_bits_back count (drop 8 bits) rest)
    ∙ take-append-drop 8 bits

pub bits_of-bytes_of : (bits : List Bool) → length bits % 8 ≡ 0 → bits_of (bytes_of bits) ≡ bits
unfolding bytes_of
bits_of-bytes_of bits whole = first_bits_back (length bits / 8) bits (omega arith)

-- a field that is written is read
pub read_back : (count value : ℕ) (rest : List Bool) → value < 2 ^ count
    → (number_taken count (low_bits count value ++ rest) ≡ Some value) × (bits_left count (low_bits count value ++ rest) ≡ rest)
read_back count value rest lt =
    let field = low_bits count value in
    let len : length field ≡ count = length-low_bits count value in
    let t = taken_if (field ++ rest) count (omega (arith, length-append field rest, len)) in
    (t.0 ∙ ap (λ n. Some n) (ap number_of (take_at field rest count len) ∙ number_of-low_bits count value ∙ mod-eq_of_lt lt), t.1 ∙ drop_at field rest count len)
