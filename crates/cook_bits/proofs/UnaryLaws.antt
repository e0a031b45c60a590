-- Numbers in unary among the bits that a reader holds.
use Rattle.std.proofs.Common.{◌≡◌, ℕ, zero, suc, ◌+◌, ◌-◌, ◌*◌, ◌/◌, ◌%◌, ◌^◌, ◌<◌, ◌≤◌, ◌==◌, Bool, true, false, List, [], ◌∷◌, ◌++◌, length, drop, min, Some, None, refl, sym, ap, ◌∙◌, arith, append_assoc}
use Rattle.std.proofs.Math.Nat.{pow-suc, div-eq_of_lt, lt_of_not-le}
use Rattle.std.proofs.Math.Pow.{pow_mono}
use Rattle.std.proofs.lemmas.Nat.{one_shl, mod_below, pow_pos}
use Rattle.std.proofs.lemmas.List.{append-nil, replicate-append-replicate, drop_at}
use Rattle.std.specs.Int.{bit_at}
use Rattle.std.proofs.lemmas.Nat.Bits.{bit_at_cat_high}
use Rattle.cook_bits.specs.Bits.{low_bits, bits_of}
use Rattle.cook_bits.specs.Unary.{one_more, unary_taken, left_behind, unary_left, in_32_bits, Found}
use Rattle.cook_bits.proofs.Division.{zeros}
use Rattle.cook_bits.proofs.Fields.{length_held, no_bits, bits_of_nothing}
use Rattle.cook_bits.proofs.Numbers.{length-low_bits, low_bits-mod, low_bits-split, low_bits_of_zero}

-- ---- on lists

one_behind : (count : ℕ) (rest : List Bool) → unary_taken (zeros count ++ true ∷ rest) ≡ Some count
unfolding unary_taken
one_behind zero rest = refl
one_behind (suc count) rest = ap one_more (one_behind count rest)

rest_behind : (count : ℕ) (rest : List Bool) → drop (suc count) (zeros count ++ true ∷ rest) ≡ rest
rest_behind zero rest = refl
rest_behind (suc count) rest = rest_behind count rest

no_one : (count : ℕ) → unary_taken (zeros count) ≡ None
unfolding unary_taken
no_one zero = refl
no_one (suc count) = ap one_more (no_one count)

-- ---- on the bits that are held

-- a number of so many bits begins with zeros and its highest bit
leading : (above e m : ℕ) → 2 ^ e ≤ m → m < 2 ^ suc e → low_bits (above + suc e) m ≡ zeros above ++ true ∷ low_bits e m
unfolding low_bits
leading above e m le lt =
    let two : 2 ^ suc e ≡ 2 ^ e * 2 = pow-suc 2 e in
    let b = m - 2 ^ e in
    let small : b < 2 ^ e = omega arith in
    let parts : m ≡ 1 * 2 ^ e + b = omega arith in
    let none : e - e ≡ 0 = omega arith in
    let one : bit_at m e ≡ 1 = ap (λ n. bit_at n e) parts ∙ bit_at_cat_high 1 e b e small (omega arith) ∙ ap (bit_at 1) none in
    low_bits-split above (suc e) m
    ∙ ap (λ n. low_bits above n ++ low_bits (suc e) m) (div-eq_of_lt lt)
    ∙ ap (λ row. row ++ low_bits (suc e) m) (low_bits_of_zero above)
    ∙ ap (λ n. zeros above ++ (n == 1) ∷ low_bits e m) one

-- the bits of all that were passed, of which none was set
pub record Passed (taken : ℕ) (all now : List Bool) : Type 0 where
  pub count : ℕ
  pub is : all ≡ zeros count ++ now
  pub counted : taken ≡ min count (2 ^ 32 - 1)

pub nothing_passed : (all now : List Bool) → now ≡ all → Passed 0 all now
nothing_passed all now e = record { count = 0; is = sym e; counted = refl }

pub held_passed : (taken held word : ℕ) (all rest : List Bool) → Passed taken all (low_bits held word ++ rest) → word % 2 ^ held ≡ 0 → Passed (min (taken + held) (2 ^ 32 - 1)) all rest
held_passed taken held word all rest p e =
    let row : low_bits held word ≡ zeros held = sym (low_bits-mod held held word (omega arith)) ∙ ap (low_bits held) e ∙ low_bits_of_zero held in
    let c = p.counted in
    record {
      count = p.count + held;
      is = p.is ∙ ap (λ bits. zeros p.count ++ (bits ++ rest)) row ∙ sym (append_assoc (zeros p.count) (zeros held) rest) ∙ ap (λ bits. bits ++ rest) (replicate-append-replicate p.count held false);
      counted = omega arith;
    }

pub is_found : (taken held word e : ℕ) (all rest : List Bool) → Passed taken all (low_bits held word ++ rest) → 2 ^ e ≤ word % 2 ^ held → word % 2 ^ held < 2 ^ suc e → e < held
    → Found (min (taken + (held - 1 - e)) (2 ^ 32 - 1)) all (low_bits e word ++ rest)
unfolding unary_left
is_found taken held word e all rest p le lt below =
    let m = word % 2 ^ held in
    let above = held - 1 - e in
    let sum : held ≡ above + suc e = omega arith in
    let row : low_bits held word ≡ zeros above ++ true ∷ low_bits e word =
    sym (low_bits-mod held held word (omega arith)) ∙ ap (λ n. low_bits n m) sum ∙ leading above e m le lt ∙ ap (λ bits. zeros above ++ true ∷ bits) (low_bits-mod e held word (omega arith)) in
    let total = p.count + above in
    let after = low_bits e word ++ rest in
    let parts : all ≡ zeros total ++ true ∷ after =
    p.is ∙ ap (λ bits. zeros p.count ++ (bits ++ rest)) row ∙ ap (λ bits. zeros p.count ++ bits) (append_assoc (zeros above) (true ∷ low_bits e word) rest)
    ∙ sym (append_assoc (zeros p.count) (zeros above) (true ∷ after)) ∙ ap (λ bits. bits ++ true ∷ after) (replicate-append-replicate p.count above false) in
    let is : unary_taken all ≡ Some total = ap unary_taken parts ∙ one_behind total after in
    let c = p.counted in
    let clipped : min (taken + above) (2 ^ 32 - 1) ≡ min total (2 ^ 32 - 1) = omega arith in
    record {
      value = ap (λ n. Some n) clipped ∙ sym (ap in_32_bits is);
      left = sym (ap (λ t. left_behind t all) is ∙ ap (drop (suc total)) parts ∙ rest_behind total after);
    }

pub not_found : (taken : ℕ) (all now : List Bool) → Passed taken all now → now ≡ [] → unary_taken all ≡ None
not_found taken all now p e =
    let parts : all ≡ zeros p.count = p.is ∙ ap (λ bits. zeros p.count ++ bits) e ∙ append-nil (zeros p.count) in
    ap unary_taken parts ∙ no_one p.count

-- ---- whole bytes

-- the bits before the whole bytes that are left
pub to_whole_bytes : (held word : ℕ) (rest : List ℕ) (bits : List Bool) → low_bits held word ++ bits_of rest ≡ bits
    → low_bits (held - held % 8) word ++ bits_of rest ≡ drop (length bits % 8) bits
to_whole_bytes held word rest bits view =
    let extra = held % 8 in
    let low = held - extra in
    let field = low_bits extra (word / 2 ^ low) in
    let after = low_bits low word ++ bits_of rest in
    let parts : bits ≡ field ++ after =
    sym view ∙ ap (λ n. low_bits n word ++ bits_of rest) (omega arith) ∙ ap (λ row. row ++ bits_of rest) (low_bits-split extra low word) ∙ append_assoc field (low_bits low word) (bits_of rest) in
    let len : length field ≡ extra = length-low_bits extra (word / 2 ^ low) in
    let total = length_held word held rest bits view in
    let spare : length bits % 8 ≡ extra = omega arith in
    sym (ap (λ n. drop n bits) spare ∙ ap (drop extra) parts ∙ drop_at field after extra len)

-- ---- the search for the bit

pub exponent_below : (e held m : ℕ) → 2 ^ e ≤ m → m < 2 ^ held → e < held
exponent_below e held m le lt = lt_of_not-le (λ wrong. let up : 2 ^ held ≤ 2 ^ e = pow_mono {i = held} {j = e} wrong in omega arith)

-- of so many bits, fewer than 64, that the code masks
pub highest_below : (held word e : ℕ) → held < 64 → 2 ^ e ≤ word % (1 * 2 ^ held % 2 ^ 64) → e < held
highest_below held word e lt le =
    let mask : 1 * 2 ^ held % 2 ^ 64 ≡ 2 ^ held = one_shl held 64 lt in
    exponent_below e held (word % 2 ^ held) (rw mask at le) (mod_below word (2 ^ held) (pow_pos held))

pub finds : (taken held word e sum : ℕ) (all rest : List Bool) → held < 64 → Passed taken all (low_bits held word ++ rest)
    → 2 ^ e ≤ word % (1 * 2 ^ held % 2 ^ 64) → word % (1 * 2 ^ held % 2 ^ 64) < 2 * 2 ^ e → sum ≡ min (taken + (held - 1 - e)) (2 ^ 32 - 1)
    → (e < 64) × Found sum all (low_bits e word ++ rest)
finds taken held word e sum all rest lt p le below is =
    let mask : 1 * 2 ^ held % 2 ^ 64 ≡ 2 ^ held = one_shl held 64 lt in
    let two : 2 ^ suc e ≡ 2 ^ e * 2 = pow-suc 2 e in
    let less = highest_below held word e lt le in
    let least : 2 ^ e ≤ word % 2 ^ held = rw mask at le in
    let most : word % 2 ^ held < 2 * 2 ^ e = rw mask at below in
    (omega arith, rw is (is_found taken held word e all rest p least (omega arith) less))

pub passes : (taken held word sum ahead_held ahead_word : ℕ) (all : List Bool) (rest after : List ℕ) → held < 64 → Passed taken all (low_bits held word ++ bits_of rest)
    → word % (1 * 2 ^ held % 2 ^ 64) ≤ 0 → sum ≡ min (taken + held) (2 ^ 32 - 1) → low_bits ahead_held ahead_word ++ bits_of after ≡ low_bits 0 0 ++ bits_of rest
    → Passed sum all (low_bits ahead_held ahead_word ++ bits_of after)
passes taken held word sum ahead_held ahead_word all rest after lt p none is same =
    let mask : 1 * 2 ^ held % 2 ^ 64 ≡ 2 ^ held = one_shl held 64 lt in
    let least : word % 2 ^ held ≤ 0 = rw mask at none in
    let view : low_bits ahead_held ahead_word ++ bits_of after ≡ bits_of rest = same ∙ ap (λ row. row ++ bits_of rest) (no_bits 0) in
    rw (is, view) (held_passed taken held word all (bits_of rest) p (omega arith))

pub fewer : (held ahead_held ahead_word : ℕ) (rest after : List ℕ) → 0 < held → low_bits ahead_held ahead_word ++ bits_of after ≡ low_bits 0 0 ++ bits_of rest
    → ahead_held + 8 * length after < held + 8 * length rest
fewer held ahead_held ahead_word rest after lt same =
    let now = length_held ahead_word ahead_held after (low_bits 0 0 ++ bits_of rest) same in
    let before = length_held 0 0 rest (low_bits 0 0 ++ bits_of rest) refl in
    omega arith

pub runs_out : (taken held word : ℕ) (all : List Bool) (rest : List ℕ) → Passed taken all (low_bits held word ++ bits_of rest) → held ≤ 0 → rest ≡ [] → unary_taken all ≡ None
runs_out taken held word all rest p le none =
    let zero_held : held ≡ 0 = omega arith in
    not_found taken all (low_bits held word ++ bits_of rest) p
    (ap (λ n. low_bits n word ++ bits_of rest) zero_held ∙ ap (λ r. low_bits 0 word ++ bits_of r) none ∙ ap (λ row. low_bits 0 word ++ row) bits_of_nothing ∙ append-nil (low_bits 0 word) ∙ no_bits word)
