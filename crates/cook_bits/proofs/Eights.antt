-- Eight bytes at once: each of them, with the register's byte above it, counts as it does before as many zero bytes as
-- follow it.
use Rattle.std.proofs.Common.{◌≡◌, ℕ, suc, ◌+◌, ◌*◌, ◌/◌, ◌%◌, ◌^◌, ◌<◌, Bool, List, [], ◌∷◌, length, get_or, map, replicate, refl, sym, ap, ◌∙◌, arith, bit_xor}
use Rattle.std.proofs.lemmas.List.{replicate_more, get_or-map}
use Rattle.std.specs.Int.Bits.{xor_assoc}
use Rattle.std.proofs.lemmas.Nat.{xor_of_8, xor_shr, xor_mod}
use Rattle.std.specs.Int.{w32, from_be_bytes, from_le_bytes}
use Rattle.cook_bits.specs.Crc.{crc_of, highest_first, lowest_first}
use Rattle.cook_bits.specs.declared.crc.high_tables.TheConstants.{HIGH_0, HIGH_1, HIGH_2, HIGH_3, HIGH_4, HIGH_5, HIGH_6, HIGH_7}
use Rattle.cook_bits.specs.declared.crc.ebml_tables.TheConstants.{EBML_0, EBML_1, EBML_2, EBML_3, EBML_4, EBML_5, EBML_6, EBML_7}
use Rattle.cook_bits.proofs.Orders.{IsOrder, IsOrder-highest_first, IsOrder-lowest_first, IsCut, IsCut-highest_first, IsCut-lowest_first}
use Rattle.cook_bits.proofs.Checks.{crc_of_first, crc_of-append, crc_of-lt}
use Rattle.cook_bits.proofs.Tables.{high_0, ebml_0}
use Rattle.cook_bits.proofs.Registers.{high_step, ebml_step}

-- the eight bytes of a list
all_eight : (bytes : List ℕ) → length bytes ≡ 8
    → bytes ≡ get_or bytes 0 0 ∷ get_or bytes 1 0 ∷ get_or bytes 2 0 ∷ get_or bytes 3 0 ∷ get_or bytes 4 0 ∷ get_or bytes 5 0 ∷ get_or bytes 6 0 ∷ get_or bytes 7 0 ∷ []
all_eight (b0 ∷ b1 ∷ b2 ∷ b3 ∷ b4 ∷ b5 ∷ b6 ∷ b7 ∷ []) e = refl
all_eight (b0 ∷ b1 ∷ b2 ∷ b3 ∷ b4 ∷ b5 ∷ b6 ∷ b7 ∷ b8 ∷ bytes) e = absurd (omega arith)
all_eight [] e = absurd (omega arith)
all_eight (b0 ∷ []) e = absurd (omega arith)
all_eight (b0 ∷ b1 ∷ []) e = absurd (omega arith)
all_eight (b0 ∷ b1 ∷ b2 ∷ []) e = absurd (omega arith)
all_eight (b0 ∷ b1 ∷ b2 ∷ b3 ∷ []) e = absurd (omega arith)
all_eight (b0 ∷ b1 ∷ b2 ∷ b3 ∷ b4 ∷ []) e = absurd (omega arith)
all_eight (b0 ∷ b1 ∷ b2 ∷ b3 ∷ b4 ∷ b5 ∷ []) e = absurd (omega arith)
all_eight (b0 ∷ b1 ∷ b2 ∷ b3 ∷ b4 ∷ b5 ∷ b6 ∷ []) e = absurd (omega arith)

-- the sum of eight, from the first on or from the last
sum_of_eight : (a b c d e f g h a' b' c' d' e' f' g' h' : ℕ) → a ≡ a' → b ≡ b' → c ≡ c' → d ≡ d' → e ≡ e' → f ≡ f' → g ≡ g' → h ≡ h'
    → bit_xor (bit_xor (bit_xor (bit_xor (bit_xor (bit_xor (bit_xor a b) c) d) e) f) g) h ≡ bit_xor a' (bit_xor b' (bit_xor c' (bit_xor d' (bit_xor e' (bit_xor f' (bit_xor g' h'))))))
sum_of_eight a b c d e f g h a' b' c' d' e' f' g' h' pa pb pc pd pe pf pg ph =
    let moved : bit_xor (bit_xor (bit_xor (bit_xor (bit_xor (bit_xor (bit_xor a' b') c') d') e') f') g') h' ≡ bit_xor a' (bit_xor b' (bit_xor c' (bit_xor d' (bit_xor e' (bit_xor f' (bit_xor g' h')))))) = simp xor_assoc in
    cc

module _ (order : List Bool → List Bool) (is_order : IsOrder order) (width divisor : ℕ) where
  -- the CRC of a byte that so many zero bytes follow
  abbrev pub single : ℕ → ℕ → ℕ
  single count byte = crc_of order width divisor 0 (byte ∷ replicate count 0)

  abbrev pub IsTable : ℕ → List ℕ → Type 0
  IsTable count table = (byte : ℕ) → byte < 256 → get_or table byte 0 ≡ single count byte

  -- a table whose entries are another's after one zero byte more
  pub next_table : (f : ℕ → ℕ) → ((register : ℕ) → register < 2 ^ width → f register ≡ crc_of order width divisor register (0 ∷ []))
      → (count : ℕ) (table next : List ℕ) → length table ≡ 256 → map f table ≡ next → IsTable count table → IsTable (suc count) next
  next_table f step count table next len mapped is_table byte lt =
      let zeros = replicate_more {X = ℕ} count 0 in
      let more : count + 1 ≡ suc count = omega arith in
      ap (λ t. get_or t byte 0) (sym mapped)
      ∙ get_or-map f table byte 0 0 (omega arith)
      ∙ ap f (is_table byte lt)
      ∙ step (single count byte) (crc_of-lt order is_order width divisor 0 (byte ∷ replicate count 0))
      ∙ sym (crc_of-append order is_order width divisor 0 (byte ∷ replicate count 0) (0 ∷ []))
      ∙ ap (λ bytes. crc_of order width divisor 0 (byte ∷ bytes)) (zeros ∙ ap (λ n. replicate n 0) more)

  -- the register, byte by byte
  pub record Cuts (r0 f0 f1 f2 f3 : ℕ) : Type 0 where
    pub r1 : ℕ
    pub r2 : ℕ
    pub r3 : ℕ
    pub c0 : IsCut order width r0 f0 r1
    pub c1 : IsCut order width r1 f1 r2
    pub c2 : IsCut order width r2 f2 r3
    pub c3 : IsCut order width r3 f3 0
    pub none : IsCut order width 0 0 0

  pub eight_bytes : (r f0 f1 f2 f3 b0 b1 b2 b3 b4 b5 b6 b7 : ℕ) → Cuts r f0 f1 f2 f3
      → crc_of order width divisor r (b0 ∷ b1 ∷ b2 ∷ b3 ∷ b4 ∷ b5 ∷ b6 ∷ b7 ∷ [])
      ≡ bit_xor (single 7 (bit_xor f0 b0)) (bit_xor (single 6 (bit_xor f1 b1)) (bit_xor (single 5 (bit_xor f2 b2)) (bit_xor (single 4 (bit_xor f3 b3))
      (bit_xor (single 3 b4) (bit_xor (single 2 b5) (bit_xor (single 1 b6) (single 0 b7)))))))
  eight_bytes r f0 f1 f2 f3 b0 b1 b2 b3 b4 b5 b6 b7 cuts =
      let first = crc_of_first order is_order width divisor in
      first r f0 cuts.r1 b0 (b1 ∷ b2 ∷ b3 ∷ b4 ∷ b5 ∷ b6 ∷ b7 ∷ []) cuts.c0 ∙ ap (bit_xor (single 7 (bit_xor f0 b0))) (
      first cuts.r1 f1 cuts.r2 b1 (b2 ∷ b3 ∷ b4 ∷ b5 ∷ b6 ∷ b7 ∷ []) cuts.c1 ∙ ap (bit_xor (single 6 (bit_xor f1 b1))) (
      first cuts.r2 f2 cuts.r3 b2 (b3 ∷ b4 ∷ b5 ∷ b6 ∷ b7 ∷ []) cuts.c2 ∙ ap (bit_xor (single 5 (bit_xor f2 b2))) (
      first cuts.r3 f3 0 b3 (b4 ∷ b5 ∷ b6 ∷ b7 ∷ []) cuts.c3 ∙ ap (bit_xor (single 4 (bit_xor f3 b3))) (
      first 0 0 0 b4 (b5 ∷ b6 ∷ b7 ∷ []) cuts.none ∙ ap (bit_xor (single 3 b4)) (
      first 0 0 0 b5 (b6 ∷ b7 ∷ []) cuts.none ∙ ap (bit_xor (single 2 b5)) (
      first 0 0 0 b6 (b7 ∷ []) cuts.none))))))

  pub record Tables (t0 t1 t2 t3 t4 t5 t6 t7 : List ℕ) : Type 0 where
    pub is0 : IsTable 0 t0
    pub is1 : IsTable 1 t1
    pub is2 : IsTable 2 t2
    pub is3 : IsTable 3 t3
    pub is4 : IsTable 4 t4
    pub is5 : IsTable 5 t5
    pub is6 : IsTable 6 t6
    pub is7 : IsTable 7 t7

  -- the CRC of eight bytes by their entries, the first four with the register's bytes
  pub eight_entries : (t0 t1 t2 t3 t4 t5 t6 t7 : List ℕ) → Tables t0 t1 t2 t3 t4 t5 t6 t7
      → (r f0 f1 f2 f3 : ℕ) → f0 < 2 ^ 8 → f1 < 2 ^ 8 → f2 < 2 ^ 8 → f3 < 2 ^ 8 → Cuts r f0 f1 f2 f3
      → (bytes : List ℕ) → ((i : ℕ) → get_or bytes i 0 < 2 ^ 8) → length bytes ≡ 8
      → (p0 p1 p2 p3 : ℕ) → p0 ≡ bit_xor f0 (get_or bytes 0 0) → p1 ≡ bit_xor f1 (get_or bytes 1 0) → p2 ≡ bit_xor f2 (get_or bytes 2 0) → p3 ≡ bit_xor f3 (get_or bytes 3 0)
      → bit_xor (bit_xor (bit_xor (bit_xor (bit_xor (bit_xor (bit_xor (get_or t7 p0 0) (get_or t6 p1 0)) (get_or t5 p2 0)) (get_or t4 p3 0))
      (get_or t3 (get_or bytes 4 0) 0)) (get_or t2 (get_or bytes 5 0) 0)) (get_or t1 (get_or bytes 6 0) 0)) (get_or t0 (get_or bytes 7 0) 0)
      ≡ crc_of order width divisor r bytes
  eight_entries t0 t1 t2 t3 t4 t5 t6 t7 tables r f0 f1 f2 f3 s0 s1 s2 s3 cuts bytes fit len p0 p1 p2 p3 e0 e1 e2 e3 =
      let place : (first i : ℕ) → first < 2 ^ 8 → bit_xor first (get_or bytes i 0) < 2 ^ 8 = λ first i small. xor_of_8 first (get_or bytes i 0) small (fit i) in
      sum_of_eight _ _ _ _ _ _ _ _ _ _ _ _ _ _ _ _
      (ap (λ p. get_or t7 p 0) e0 ∙ tables.is7 (bit_xor f0 (get_or bytes 0 0)) (place f0 0 s0))
      (ap (λ p. get_or t6 p 0) e1 ∙ tables.is6 (bit_xor f1 (get_or bytes 1 0)) (place f1 1 s1))
      (ap (λ p. get_or t5 p 0) e2 ∙ tables.is5 (bit_xor f2 (get_or bytes 2 0)) (place f2 2 s2))
      (ap (λ p. get_or t4 p 0) e3 ∙ tables.is4 (bit_xor f3 (get_or bytes 3 0)) (place f3 3 s3))
      (tables.is3 (get_or bytes 4 0) (fit 4)) (tables.is2 (get_or bytes 5 0) (fit 5)) (tables.is1 (get_or bytes 6 0) (fit 6)) (tables.is0 (get_or bytes 7 0) (fit 7))
      ∙ sym (eight_bytes r f0 f1 f2 f3 (get_or bytes 0 0) (get_or bytes 1 0) (get_or bytes 2 0) (get_or bytes 3 0) (get_or bytes 4 0) (get_or bytes 5 0) (get_or bytes 6 0) (get_or bytes 7 0) cuts)
      ∙ ap (crc_of order width divisor r) (sym (all_eight bytes len))

abbrev high_next : ℕ → ℕ
high_next register = bit_xor (register * 2 ^ 8 % 2 ^ 32) (get_or HIGH_0 (bit_xor (register / 2 ^ 24) 0) 0)

high_more : (count : ℕ) (table next : List ℕ) → length table ≡ 256 → map high_next table ≡ next
    → IsTable highest_first IsOrder-highest_first 32 0x04C1_1DB7 count table → IsTable highest_first IsOrder-highest_first 32 0x04C1_1DB7 (suc count) next
high_more = next_table highest_first IsOrder-highest_first 32 0x04C1_1DB7 high_next (λ register lt. high_step register 0 lt (omega arith))

abbrev pub IsHigh : ℕ → List ℕ → Type 0
IsHigh = IsTable highest_first IsOrder-highest_first 32 0x04C1_1DB7

pub high_1 : IsHigh 1 HIGH_1
high_1 = high_more 0 HIGH_0 HIGH_1 refl refl high_0

pub high_2 : IsHigh 2 HIGH_2
high_2 = high_more 1 HIGH_1 HIGH_2 refl refl high_1

pub high_3 : IsHigh 3 HIGH_3
high_3 = high_more 2 HIGH_2 HIGH_3 refl refl high_2

pub high_4 : IsHigh 4 HIGH_4
high_4 = high_more 3 HIGH_3 HIGH_4 refl refl high_3

pub high_5 : IsHigh 5 HIGH_5
high_5 = high_more 4 HIGH_4 HIGH_5 refl refl high_4

pub high_6 : IsHigh 6 HIGH_6
high_6 = high_more 5 HIGH_5 HIGH_6 refl refl high_5

pub high_7 : IsHigh 7 HIGH_7
high_7 = high_more 6 HIGH_6 HIGH_7 refl refl high_6

abbrev ebml_next : ℕ → ℕ
ebml_next register = bit_xor (register / 2 ^ 8) (get_or EBML_0 (bit_xor (register % 2 ^ 8) 0) 0)

ebml_more : (count : ℕ) (table next : List ℕ) → length table ≡ 256 → map ebml_next table ≡ next
    → IsTable lowest_first IsOrder-lowest_first 32 0x04C1_1DB7 count table → IsTable lowest_first IsOrder-lowest_first 32 0x04C1_1DB7 (suc count) next
ebml_more = next_table lowest_first IsOrder-lowest_first 32 0x04C1_1DB7 ebml_next (λ register lt. ebml_step register 0 lt (omega arith))

abbrev pub IsEbml : ℕ → List ℕ → Type 0
IsEbml = IsTable lowest_first IsOrder-lowest_first 32 0x04C1_1DB7

pub ebml_1 : IsEbml 1 EBML_1
ebml_1 = ebml_more 0 EBML_0 EBML_1 refl refl ebml_0

pub ebml_2 : IsEbml 2 EBML_2
ebml_2 = ebml_more 1 EBML_1 EBML_2 refl refl ebml_1

pub ebml_3 : IsEbml 3 EBML_3
ebml_3 = ebml_more 2 EBML_2 EBML_3 refl refl ebml_2

pub ebml_4 : IsEbml 4 EBML_4
ebml_4 = ebml_more 3 EBML_3 EBML_4 refl refl ebml_3

pub ebml_5 : IsEbml 5 EBML_5
ebml_5 = ebml_more 4 EBML_4 EBML_5 refl refl ebml_4

pub ebml_6 : IsEbml 6 EBML_6
ebml_6 = ebml_more 5 EBML_5 EBML_6 refl refl ebml_5

pub ebml_7 : IsEbml 7 EBML_7
ebml_7 = ebml_more 6 EBML_6 EBML_7 refl refl ebml_6

high_cuts : (r : ℕ) → r < 2 ^ 32 → Cuts highest_first IsOrder-highest_first 32 0x04C1_1DB7 r (r / 2 ^ 24) (r / 2 ^ 16 % 2 ^ 8) (r / 2 ^ 8 % 2 ^ 8) (r % 2 ^ 8)
high_cuts r lt =
    let r1 = r * 2 ^ 8 % 2 ^ 32 in
    let r2 = r1 * 2 ^ 8 % 2 ^ 32 in
    let r3 = r2 * 2 ^ 8 % 2 ^ 32 in
    let f1 : r1 / 2 ^ 24 ≡ r / 2 ^ 16 % 2 ^ 8 = omega arith in
    let f2 : r2 / 2 ^ 24 ≡ r / 2 ^ 8 % 2 ^ 8 = omega arith in
    let f3 : r3 / 2 ^ 24 ≡ r % 2 ^ 8 = omega arith in
    let r4 : r3 * 2 ^ 8 % 2 ^ 32 ≡ 0 = omega arith in
    record {
      r1 = r1;
      r2 = r2;
      r3 = r3;
      c0 = IsCut-highest_first 24 r;
      c1 = rw f1 at (IsCut-highest_first 24 r1);
      c2 = rw f2 at (IsCut-highest_first 24 r2);
      c3 = rw (f3, r4) at (IsCut-highest_first 24 r3);
      none = IsCut-highest_first 24 0;
    }

ebml_cuts : (r : ℕ) → r < 2 ^ 32 → Cuts lowest_first IsOrder-lowest_first 32 0x04C1_1DB7 r (r % 2 ^ 8) (r / 2 ^ 8 % 2 ^ 8) (r / 2 ^ 16 % 2 ^ 8) (r / 2 ^ 24)
ebml_cuts r lt =
    let r1 = r / 2 ^ 8 in
    let r2 = r1 / 2 ^ 8 in
    let r3 = r2 / 2 ^ 8 in
    let f2 : r2 % 2 ^ 8 ≡ r / 2 ^ 16 % 2 ^ 8 = omega arith in
    let f3 : r3 % 2 ^ 8 ≡ r / 2 ^ 24 = omega arith in
    let r4 : r3 / 2 ^ 8 ≡ 0 = omega arith in
    record {
      r1 = r1;
      r2 = r2;
      r3 = r3;
      c0 = IsCut-lowest_first 24 r lt;
      c1 = IsCut-lowest_first 24 r1 (omega arith);
      c2 = rw f2 at (IsCut-lowest_first 24 r2 (omega arith));
      c3 = rw (f3, r4) at (IsCut-lowest_first 24 r3 (omega arith));
      none = IsCut-lowest_first 24 0 (omega arith);
    }

-- ---- the first four bytes as a number

be_parts : (a b c d four : ℕ) → a < 2 ^ 8 → b < 2 ^ 8 → c < 2 ^ 8 → d < 2 ^ 8 → four ≡ from_be_bytes w32 (a ∷ b ∷ c ∷ d ∷ [])
    → (four / 2 ^ 24 ≡ a) × (four / 2 ^ 16 % 2 ^ 8 ≡ b) × (four / 2 ^ 8 % 2 ^ 8 ≡ c) × (four % 2 ^ 8 ≡ d)
be_parts a b c d four la lb lc ld e =
    let sum : four ≡ a * 16777216 + b * 65536 + c * 256 + d = omega (arith, e) in
    (omega arith, omega arith, omega arith, omega arith)

le_parts : (a b c d four : ℕ) → a < 2 ^ 8 → b < 2 ^ 8 → c < 2 ^ 8 → d < 2 ^ 8 → four ≡ from_le_bytes w32 (a ∷ b ∷ c ∷ d ∷ [])
    → (four % 2 ^ 8 ≡ a) × (four / 2 ^ 8 % 2 ^ 8 ≡ b) × (four / 2 ^ 16 % 2 ^ 8 ≡ c) × (four / 2 ^ 24 ≡ d)
le_parts a b c d four la lb lc ld e =
    let sum : four ≡ a + b * 256 + c * 65536 + d * 16777216 = omega (arith, e) in
    (omega arith, omega arith, omega arith, omega arith)

high_all : Tables highest_first IsOrder-highest_first 32 0x04C1_1DB7 HIGH_0 HIGH_1 HIGH_2 HIGH_3 HIGH_4 HIGH_5 HIGH_6 HIGH_7
high_all = record { is0 = high_0; is1 = high_1; is2 = high_2; is3 = high_3; is4 = high_4; is5 = high_5; is6 = high_6; is7 = high_7 }

pub high_eight : (register four : ℕ) (bytes : List ℕ) → register < 2 ^ 32 → four ≡ from_be_bytes w32 (get_or bytes 0 0 ∷ get_or bytes 1 0 ∷ get_or bytes 2 0 ∷ get_or bytes 3 0 ∷ []) → ((i : ℕ) → get_or bytes i 0 < 2 ^ 8) → length bytes ≡ 8
    → bit_xor (bit_xor (bit_xor (bit_xor (bit_xor (bit_xor (bit_xor ((get_or HIGH_7 (bit_xor register four / 2 ^ 24) 0)) (get_or HIGH_6 (bit_xor register four / 2 ^ 16 % 2 ^ 8) 0)) (get_or HIGH_5 (bit_xor register four / 2 ^ 8 % 2 ^ 8) 0)) (get_or HIGH_4 (bit_xor register four % 2 ^ 8) 0)) (get_or HIGH_3 (get_or bytes 4 0) 0)) (get_or HIGH_2 (get_or bytes 5 0) 0)) (get_or HIGH_1 (get_or bytes 6 0) 0)) (get_or HIGH_0 (get_or bytes 7 0) 0)
    ≡ crc_of highest_first 32 0x04C1_1DB7 register bytes
high_eight register four bytes lt four_is fit len =
    let word = bit_xor register four in
    let parts = be_parts (get_or bytes 0 0) (get_or bytes 1 0) (get_or bytes 2 0) (get_or bytes 3 0) four (fit 0) (fit 1) (fit 2) (fit 3) four_is in
    eight_entries highest_first IsOrder-highest_first 32 0x04C1_1DB7 HIGH_0 HIGH_1 HIGH_2 HIGH_3 HIGH_4 HIGH_5 HIGH_6 HIGH_7 high_all register (register / 2 ^ 24) (register / 2 ^ 16 % 2 ^ 8) (register / 2 ^ 8 % 2 ^ 8) (register % 2 ^ 8)
    (omega arith) (omega arith) (omega arith) (omega arith) (high_cuts register lt) bytes fit len
    (word / 2 ^ 24) (word / 2 ^ 16 % 2 ^ 8) (word / 2 ^ 8 % 2 ^ 8) (word % 2 ^ 8)
    (xor_shr register four 24 ∙ ap (bit_xor (register / 2 ^ 24)) parts.0)
    (ap (λ n. n % 2 ^ 8) (xor_shr register four 16) ∙ xor_mod (register / 2 ^ 16) (four / 2 ^ 16) 8 ∙ ap (bit_xor (register / 2 ^ 16 % 2 ^ 8)) parts.1)
    (ap (λ n. n % 2 ^ 8) (xor_shr register four 8) ∙ xor_mod (register / 2 ^ 8) (four / 2 ^ 8) 8 ∙ ap (bit_xor (register / 2 ^ 8 % 2 ^ 8)) parts.2)
    (xor_mod register four 8 ∙ ap (bit_xor (register % 2 ^ 8)) parts.3)

ebml_all : Tables lowest_first IsOrder-lowest_first 32 0x04C1_1DB7 EBML_0 EBML_1 EBML_2 EBML_3 EBML_4 EBML_5 EBML_6 EBML_7
ebml_all = record { is0 = ebml_0; is1 = ebml_1; is2 = ebml_2; is3 = ebml_3; is4 = ebml_4; is5 = ebml_5; is6 = ebml_6; is7 = ebml_7 }

pub ebml_eight : (register four : ℕ) (bytes : List ℕ) → register < 2 ^ 32 → four ≡ from_le_bytes w32 (get_or bytes 0 0 ∷ get_or bytes 1 0 ∷ get_or bytes 2 0 ∷ get_or bytes 3 0 ∷ []) → ((i : ℕ) → get_or bytes i 0 < 2 ^ 8) → length bytes ≡ 8
    → bit_xor (bit_xor (bit_xor (bit_xor (bit_xor (bit_xor (bit_xor ((get_or EBML_7 (bit_xor register four % 2 ^ 8) 0)) (get_or EBML_6 (bit_xor register four / 2 ^ 8 % 2 ^ 8) 0)) (get_or EBML_5 (bit_xor register four / 2 ^ 16 % 2 ^ 8) 0)) (get_or EBML_4 (bit_xor register four / 2 ^ 24) 0)) (get_or EBML_3 (get_or bytes 4 0) 0)) (get_or EBML_2 (get_or bytes 5 0) 0)) (get_or EBML_1 (get_or bytes 6 0) 0)) (get_or EBML_0 (get_or bytes 7 0) 0)
    ≡ crc_of lowest_first 32 0x04C1_1DB7 register bytes
ebml_eight register four bytes lt four_is fit len =
    let word = bit_xor register four in
    let parts = le_parts (get_or bytes 0 0) (get_or bytes 1 0) (get_or bytes 2 0) (get_or bytes 3 0) four (fit 0) (fit 1) (fit 2) (fit 3) four_is in
    eight_entries lowest_first IsOrder-lowest_first 32 0x04C1_1DB7 EBML_0 EBML_1 EBML_2 EBML_3 EBML_4 EBML_5 EBML_6 EBML_7 ebml_all register (register % 2 ^ 8) (register / 2 ^ 8 % 2 ^ 8) (register / 2 ^ 16 % 2 ^ 8) (register / 2 ^ 24)
    (omega arith) (omega arith) (omega arith) (omega arith) (ebml_cuts register lt) bytes fit len
    (word % 2 ^ 8) (word / 2 ^ 8 % 2 ^ 8) (word / 2 ^ 16 % 2 ^ 8) (word / 2 ^ 24)
    (xor_mod register four 8 ∙ ap (bit_xor (register % 2 ^ 8)) parts.0)
    (ap (λ n. n % 2 ^ 8) (xor_shr register four 8) ∙ xor_mod (register / 2 ^ 8) (four / 2 ^ 8) 8 ∙ ap (bit_xor (register / 2 ^ 8 % 2 ^ 8)) parts.1)
    (ap (λ n. n % 2 ^ 8) (xor_shr register four 16) ∙ xor_mod (register / 2 ^ 16) (four / 2 ^ 16) 8 ∙ ap (bit_xor (register / 2 ^ 16 % 2 ^ 8)) parts.2)
    (xor_shr register four 24 ∙ ap (bit_xor (register / 2 ^ 24)) parts.3)
