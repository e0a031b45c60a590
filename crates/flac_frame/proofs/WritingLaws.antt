-- Fields as a writer adds them, one behind another.
use Rattle.std.proofs.Common.{◌≡◌, ℕ, zero, suc, ◌-◌, ◌+◌, ◌*◌, ◌/◌, ◌%◌, ◌^◌, ◌≤◌, ◌<◌, Bool, false, ℤ, pos, List, [], ◌∷◌, ◌++◌, length, take, drop, replicate, get_or, refl, sym, ap, subst, ◌∙◌, append_assoc, add-one, zero-add, suc-add, ◌==◌, arith}
use Rattle.std.proofs.Math.Nat.{pow-suc}
use Rattle.std.proofs.Math.Pow.{pow_mono}
use Rattle.std.proofs.lemmas.Nat.{pow_pos, mod_below}
use Rattle.std.proofs.lemmas.Grind.{flat_map-append}
use Rattle.std.proofs.lemmas.List.{append-nil, take_all, take_more, drop_more, drop_all, replicate-append-replicate}
use Rattle.std.proofs.Math.ListN.{set}
use mir.Val.{SFits, to_z, of_z}
use mir.Syntax.{w32}
use Rattle.std.proofs.lemmas.Nat.Bits.{bit_at-zero, bit_at-pow_other, bit_at_cat_low, bit_at_cat_high}
use Rattle.std.specs.Int.{bit_at}
use Rattle.std.specs.List.{flat_map}
use Rattle.cook_bits.specs.Bits.{low_bits}
use Rattle.flac_frame.specs.Spelling.{unary_bits, value_bits_of}
use Rattle.flac_predict.specs.Samples.{AreInside}
use Rattle.flac_predict.specs.Rice.{zigzag}
use Rattle.flac_frame.specs.Writing.{pairwise, later_bits, each_bits, best_subframe}
use Rattle.flac_frame.proofs.StereoBack.{widened}
use Rattle.flac_frame.proofs.EachLaws.{stored_next}

-- ---- one after the other

pub put_none : (old : List Bool) → old ≡ old ++ []
put_none old = sym (append-nil old)

pub put_on : (spell : ℤ → List Bool) (place : ℕ) (values : List ℤ) (old writer new : List Bool) → place < length values → writer ≡ old ++ flat_map spell (take place values)
    → new ≡ writer ++ spell (get_or values place (pos 0)) → new ≡ old ++ flat_map spell (take (place + 1) values)
put_on spell place values old writer new lt so_far e =
    let x = get_or values place (pos 0) in
    let front = flat_map spell (take place values) in
    let one : flat_map spell (x ∷ []) ≡ spell x = append-nil (spell x) in
    e ∙ ap (λ (bits : List Bool). bits ++ spell x) so_far ∙ append_assoc old front (spell x)
    ∙ ap (λ (bits : List Bool). old ++ (front ++ bits)) (sym one)
    ∙ ap (λ (bits : List Bool). old ++ bits) (sym (flat_map-append spell (take place values) (x ∷ [])) ∙ ap (flat_map spell) (sym (take_more values place (pos 0) lt)))

pub put_all : (spell : ℤ → List Bool) (place : ℕ) (values : List ℤ) (old writer : List Bool) → length values ≤ place → writer ≡ old ++ flat_map spell (take place values) → writer ≡ old ++ flat_map spell values
put_all spell place values old writer le so_far = so_far ∙ ap (λ (xs : List ℤ). old ++ flat_map spell xs) (take_all place values le)

-- ---- in unary

pub low_zero : (count : ℕ) → low_bits count 0 ≡ replicate count false
unfolding low_bits
low_zero zero = refl
low_zero (suc count) =
    let b : bit_at 0 count ≡ 0 = bit_at-zero count in
    rw b (ap (λ (bits : List Bool). false ∷ bits) (low_zero count))

one_at : (count : ℕ) → bit_at 1 (suc count) ≡ 0
one_at count = bit_at-pow_other 0 (suc count) (λ e. omega arith)

pub low_one : (count : ℕ) → low_bits (suc count) 1 ≡ unary_bits count
unfolding low_bits unary_bits
low_one zero = refl
low_one (suc count) =
    let b : bit_at 1 (suc count) ≡ 0 = one_at count in
    rw b (ap (λ (bits : List Bool). false ∷ bits) (low_one count))

same_low : (count m n : ℕ) → ((i : ℕ) → i < count → bit_at m i ≡ bit_at n i) → low_bits count m ≡ low_bits count n
unfolding low_bits
same_low zero m n same = refl
same_low (suc count) m n same =
    ap (λ (b : ℕ). (b == 1) ∷ low_bits count m) (same count (omega arith)) ∙ ap (λ (bits : List Bool). (bit_at n count == 1) ∷ bits) (same_low count m n (λ i lt. same i (omega arith)))

pub low_cat : (high low a b : ℕ) → b < 2 ^ low → low_bits (high + low) (a * 2 ^ low + b) ≡ low_bits high a ++ low_bits low b
unfolding low_bits
low_cat zero low a b lt = rw zero-add (same_low low (a * 2 ^ low + b) b (λ i i_lt. bit_at_cat_low a low b i i_lt))
low_cat (suc high) low a b lt =
    let bit : bit_at (a * 2 ^ low + b) (high + low) ≡ bit_at a high = bit_at_cat_high a low b (high + low) lt (omega arith) ∙ ap (bit_at a) (omega arith) in
    rw suc-add (ap (λ (n : ℕ). (n == 1) ∷ low_bits (high + low) (a * 2 ^ low + b)) bit ∙ ap (λ (bits : List Bool). (bit_at a high == 1) ∷ bits) (low_cat high low a b lt))

-- a number in unary and a field behind it are one field
unary_joined : (low z : ℕ) → low_bits (z / 2 ^ low + 1 + low) (2 ^ low + z % 2 ^ low) ≡ unary_bits (z / 2 ^ low) ++ low_bits low (z % 2 ^ low)
unary_joined low z =
    let q = z / 2 ^ low in
    let one : 2 ^ low + z % 2 ^ low ≡ 1 * 2 ^ low + z % 2 ^ low = omega arith in
    ap (low_bits (q + 1 + low)) one ∙ low_cat (q + 1) low 1 (z % 2 ^ low) (mod_below z (2 ^ low) (pow_pos low))
    ∙ ap (λ (bits : List Bool). bits ++ low_bits low (z % 2 ^ low)) (ap (λ k. low_bits k 1) (add-one q) ∙ low_one q)

joined_fits : (low q rest : ℕ) → rest < 2 ^ low → 2 ^ low + rest < 2 ^ (q + 1 + low)
joined_fits low q rest lt =
    let more : 2 ^ suc low ≤ 2 ^ (q + 1 + low) = pow_mono {i = suc low} {j = q + 1 + low} (omega arith) in
    let twice : 2 ^ suc low ≡ 2 ^ low * 2 = pow-suc 2 low in
    omega arith

-- the power as 32 bits hold it
power_is : (low : ℕ) → low ≤ 30 → 2 ^ low ≡ 1 * 2 ^ low % 4294967296
power_is low le =
    let most : 2 ^ low ≤ 2 ^ 30 = pow_mono {i = low} {j = 30} le in
    omega arith

pub value_fits : (low z : ℕ) → low ≤ 30 → 1 * 2 ^ low % 4294967296 + z % (1 * 2 ^ low % 4294967296) < 2 ^ (z / 2 ^ low + 1 + low)
value_fits low z le =
    subst (λ (m : ℕ). m + z % m < 2 ^ (z / 2 ^ low + 1 + low)) (power_is low le) (joined_fits low (z / 2 ^ low) (z % 2 ^ low) (mod_below z (2 ^ low) (pow_pos low)))

pub value_joined : (low z : ℕ) (x : ℤ) → low ≤ 30 → z ≡ zigzag x → low_bits (z / 2 ^ low + 1 + low) (1 * 2 ^ low % 4294967296 + z % (1 * 2 ^ low % 4294967296)) ≡ value_bits_of low x
unfolding value_bits_of
value_joined low z x le is =
    subst (λ (m : ℕ). low_bits (z / 2 ^ low + 1 + low) (m + z % m) ≡ unary_bits (z / 2 ^ low) ++ low_bits low (z % 2 ^ low)) (power_is low le) (unary_joined low z)
    ∙ ap (λ (n : ℕ). unary_bits (n / 2 ^ low) ++ low_bits low (n % 2 ^ low)) is

zero_more : (b : ℕ) → b ≡ 0 + b
zero_more b = omega arith

one_more : (a b : ℕ) → suc (a + b) ≡ suc a + b
one_more a b = omega arith

unary_split : (a b : ℕ) → replicate a false ++ unary_bits b ≡ unary_bits (a + b)
unfolding unary_bits
unary_split zero b = ap unary_bits (zero_more b)
unary_split (suc a) b = ap (λ (bits : List Bool). false ∷ bits) (unary_split a b) ∙ ap unary_bits (one_more a b)

pub zeros_on : (i : ℕ) (old writer new : List Bool) → writer ≡ old ++ replicate (32 * i) false → new ≡ writer ++ low_bits 32 0 → new ≡ old ++ replicate (32 * (i + 1)) false
zeros_on i old writer new so_far e =
    let n : 32 * i + 32 ≡ 32 * (i + 1) = omega arith in
    e ∙ ap (λ (bits : List Bool). bits ++ low_bits 32 0) so_far ∙ ap (λ (bits : List Bool). old ++ replicate (32 * i) false ++ bits) (low_zero 32)
    ∙ append_assoc old (replicate (32 * i) false) (replicate 32 false) ∙ ap (λ (bits : List Bool). old ++ bits) (replicate-append-replicate (32 * i) 32 false)
    ∙ ap (λ k. old ++ replicate k false) n

pub unary_put : (number i : ℕ) (old writer new : List Bool) → i ≡ number / 32 → writer ≡ old ++ replicate (32 * i) false → new ≡ writer ++ low_bits (number % 32 + 1) 1 → new ≡ old ++ unary_bits number
unary_put number i old writer new is so_far e =
    let one : low_bits (number % 32 + 1) 1 ≡ unary_bits (number % 32) = ap (λ k. low_bits k 1) (add-one (number % 32)) ∙ low_one (number % 32) in
    let all : 32 * i + number % 32 ≡ number = omega arith in
    e ∙ ap (λ (bits : List Bool). bits ++ low_bits (number % 32 + 1) 1) so_far ∙ ap (λ (bits : List Bool). old ++ replicate (32 * i) false ++ bits) one
    ∙ append_assoc old (replicate (32 * i) false) (unary_bits (number % 32)) ∙ ap (λ (bits : List Bool). old ++ bits) (unary_split (32 * i) (number % 32) ∙ ap unary_bits all)

pub more_than_one : (n : ℕ) → 1 < 2 ^ (n + 1)
more_than_one n =
    let one : 1 ≤ 2 ^ n = pow_pos n in
    let two : 2 ^ suc n ≡ 2 ^ n * 2 = pow-suc 2 n in
    rw add-one (omega arith)

-- ---- the later bytes of a coded number

pub later_on : (count done number : ℕ) (writer new total : List Bool) → done < count → writer ++ later_bits (count - done) number ≡ total
    → new ≡ writer ++ low_bits 8 (128 + number / 2 ^ (6 * (count - 1 - done)) % 64) → new ++ later_bits (count - (done + 1)) number ≡ total
unfolding later_bits
later_on count done number writer new total lt so_far e =
    let m = count - (done + 1) in
    let n : count - done ≡ suc m = omega arith in
    let k : count - 1 - done ≡ m = omega arith in
    let byte = low_bits 8 (128 + number / 2 ^ (6 * m) % 64) in
    let one : new ≡ writer ++ byte = e ∙ ap (λ j. writer ++ low_bits 8 (128 + number / 2 ^ (6 * j) % 64)) k in
    ap (λ (bits : List Bool). bits ++ later_bits m number) one ∙ append_assoc writer byte (later_bits m number)
    ∙ ap (λ j. writer ++ later_bits j number) (sym n) ∙ so_far

pub later_done : (count done number : ℕ) (writer total : List Bool) → count ≤ done → writer ++ later_bits (count - done) number ≡ total → writer ≡ total
unfolding later_bits
later_done count done number writer total le so_far =
    let n : count - done ≡ 0 = omega arith in
    sym (append-nil writer) ∙ ap (λ j. writer ++ later_bits j number) (sym n) ∙ so_far

-- ---- a number of each two

pub pair_stored : (f : ℤ → ℤ → ℤ) (place : ℕ) (out left right total : List ℤ) (v : ℤ) → SFits w32 v → place < length out → place < length left → place < length right
    → v ≡ f (get_or left place (pos 0)) (get_or right place (pos 0)) → take place out ++ pairwise f (drop place left) (drop place right) ≡ total
    → take (place + 1) (set out place (to_z w32 (of_z w32 v))) ++ pairwise f (drop (place + 1) left) (drop (place + 1) right) ≡ total
unfolding pairwise
pair_stored f place out left right total v fits lt in_left in_right is so_far =
    let l = get_or left place (pos 0) in
    let r = get_or right place (pos 0) in
    let more = pairwise f (drop (place + 1) left) (drop (place + 1) right) in
    let dl : drop place left ≡ l ∷ drop (place + 1) left = drop_more left place (pos 0) in_left in
    let dr : drop place right ≡ r ∷ drop (place + 1) right = drop_more right place (pos 0) in_right in
    let one : pairwise f (drop place left) (drop place right) ≡ v ∷ more = rw (dl, dr) (ap (λ (x : ℤ). x ∷ more) (sym is)) in
    ap (λ (front : List ℤ). front ++ more) (stored_next out place v fits lt) ∙ append_assoc (take place out) (v ∷ []) more
    ∙ ap (λ (back : List ℤ). take place out ++ back) (sym one) ∙ so_far

pub pairs_filled : (f : ℤ → ℤ → ℤ) (place : ℕ) (out left right total : List ℤ) → length out ≤ place → length left ≤ place
    → take place out ++ pairwise f (drop place left) (drop place right) ≡ total → out ≡ total
unfolding pairwise
pairs_filled f place out left right total le every so_far =
    let none : drop place left ≡ [] = drop_all place left every in
    let empty : pairwise f (drop place left) (drop place right) ≡ [] = rw none refl in
    sym (take_all place out le) ∙ sym (append-nil (take place out)) ∙ ap (λ (back : List ℤ). take place out ++ back) (sym empty) ∙ so_far

-- ---- fields in a row

pub joined : (old front x writer new : List Bool) → writer ≡ old ++ front → new ≡ writer ++ x → new ≡ old ++ (front ++ x)
joined old front x writer new so_far e = e ∙ ap (λ (bits : List Bool). bits ++ x) so_far ∙ append_assoc old front x

pub nine : (a b c d e f g h i : List Bool) → a ++ b ++ c ++ d ++ e ++ f ++ g ++ h ++ i ≡ a ++ (b ++ (c ++ (d ++ (e ++ (f ++ (g ++ (h ++ i)))))))
nine a b c d e f g h i =
    append_assoc (a ++ b ++ c ++ d ++ e ++ f ++ g) h i ∙ append_assoc (a ++ b ++ c ++ d ++ e ++ f) g (h ++ i) ∙ append_assoc (a ++ b ++ c ++ d ++ e) f (g ++ (h ++ i))
    ∙ append_assoc (a ++ b ++ c ++ d) e (f ++ (g ++ (h ++ i))) ∙ append_assoc (a ++ b ++ c) d (e ++ (f ++ (g ++ (h ++ i))))
    ∙ append_assoc (a ++ b) c (d ++ (e ++ (f ++ (g ++ (h ++ i))))) ∙ append_assoc a b (c ++ (d ++ (e ++ (f ++ (g ++ (h ++ i))))))

-- ---- channels, each by itself

pub no_rows_yet : (bits : ℕ) (old : List Bool) → old ≡ old ++ each_bits bits []
unfolding each_bits
no_rows_yet bits old = sym (append-nil old)

pub row_on : (bits : ℕ) (old writer new : List Bool) (rows : List (List ℤ)) (row : List ℤ) → writer ≡ old ++ each_bits bits rows → new ≡ writer ++ best_subframe bits row → new ≡ old ++ each_bits bits (rows ++ row ∷ [])
unfolding each_bits
row_on bits old writer new rows row so_far e =
    let one : flat_map (best_subframe bits) (row ∷ []) ≡ best_subframe bits row = append-nil (best_subframe bits row) in
    e ∙ ap (λ (b : List Bool). b ++ best_subframe bits row) so_far ∙ append_assoc old (flat_map (best_subframe bits) rows) (best_subframe bits row)
    ∙ ap (λ (b : List Bool). old ++ (flat_map (best_subframe bits) rows ++ b)) (sym one) ∙ ap (λ (b : List Bool). old ++ b) (sym (flat_map-append (best_subframe bits) rows (row ∷ [])))

pub all_wide : (bits : ℕ) (row : List ℤ) → bits ≤ 25 → AreInside bits row → AreInside 25 row
all_wide bits row few h = record { each = λ k. widened bits (get_or row k (pos 0)) few (h.each k) }
