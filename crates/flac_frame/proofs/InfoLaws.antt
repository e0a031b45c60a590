-- The parameters of a stream in their bytes.
use Rattle.std.proofs.Common.{◌≡◌, ℕ, zero, suc, ◌+◌, ◌-◌, ◌/◌, ◌%◌, ◌^◌, ◌<◌, ◌≤◌, Bool, true, false, ◌&&◌, ◌||◌, ◌==◌, nat_le, IsTrue, List, [], ◌∷◌, ◌++◌, length, length-drop, take, drop, slice_range, slice_index, Ok, refl, sym, ap, ◌∙◌, arith, rules}
use Rattle.std.proofs.lemmas.Bool.{leb-true, le-leb, eqb-true}
use Rattle.std.proofs.lemmas.List.{append-nil, get_or-drop, length-take-le, take_at, drop_at, take_all, drop-drop}
use Rattle.byteorder.specs.Endian.{big_number, big_bytes}
use Rattle.byteorder.specs.Numbers.{big_from-lt, big_number-reads_back}
use Rattle.flac_frame.specs.declared.stream_info.StreamInfo.{StreamInfo}
use Rattle.flac_frame.specs.Laws.{InfoIsRead}
use Rattle.flac_frame.specs.StreamInfo.{is_depth, IsWritable, IsReadable, FitsFields, packed, info_bytes, fields_of, is_accepted, info_read}

small_take : (n : ℕ) (bytes : List ℕ) (k : ℕ) → ((i : ℕ) → slice_index bytes i < 256) → slice_index (take n bytes) k < 256
small_take zero bytes k fits = search rules
small_take (suc n) [] k fits = search rules
small_take (suc n) (byte ∷ bytes) zero fits = fits 0
small_take (suc n) (byte ∷ bytes) (suc k) fits = small_take n bytes k (λ i. fits (suc i))

small_drop : (n : ℕ) (bytes : List ℕ) (k : ℕ) → ((i : ℕ) → slice_index bytes i < 256) → slice_index (drop n bytes) k < 256
small_drop n bytes k fits = rw (get_or-drop n bytes k 0) (fits (n + k))

pub bytes_fit : (n i j : ℕ) (bytes : List ℕ) → ((k : ℕ) → slice_index bytes k < 256) → big_number n (slice_range bytes i j) < 256 ^ n
bytes_fit n i j bytes fits = big_from-lt 0 n (slice_range bytes i j) (λ k. small_take (j - i) (drop i bytes) k (λ m. small_drop i bytes m fits))

pub fields_fit : (bytes : List ℕ) → ((k : ℕ) → slice_index bytes k < 256) → length bytes ≡ 34 → FitsFields (fields_of bytes)
unfolding fields_of
fields_fit bytes fits len =
    let numbers : big_number 8 (slice_range bytes 10 18) < 256 ^ 8 = bytes_fit 8 10 18 bytes fits in
    let behind : 16 ≤ length (drop 18 bytes) = omega (arith, length-drop 18 bytes) in
    record {
      min_block = bytes_fit 2 0 2 bytes fits;
      max_block = bytes_fit 2 2 4 bytes fits;
      min_frame = bytes_fit 3 4 7 bytes fits;
      max_frame = bytes_fit 3 7 10 bytes fits;
      rate = omega arith;
      some_channels = omega arith;
      channels = omega arith;
      total = omega arith;
      md5 = length-take-le 16 (drop 18 bytes) behind;
    }

both_true : (a b : Bool) → true ≡ (a && b) → (true ≡ a) × (true ≡ b)
both_true true b e = (refl, e)
both_true false b e = absurd (cc)

pub are_readable : (info : StreamInfo) → FitsFields info → true ≡ is_accepted info → IsReadable info
unfolding is_accepted
are_readable info f e =
    let outer = both_true (nat_le 1 info.rate && is_depth info.bits) (nat_le 16 info.max_block) e in
    let inner = both_true (nat_le 1 info.rate) (is_depth info.bits) outer.0 in
    record {
      writable = record {
        min_block = f.min_block;
        max_block = f.max_block;
        min_frame = f.min_frame;
        max_frame = f.max_frame;
        rate = f.rate;
        some_channels = f.some_channels;
        channels = f.channels;
        depth = search (rules, sym inner.1);
        total = f.total;
        md5 = f.md5;
      };
      has_rate = leb-true 1 info.rate (sym inner.0);
      large = leb-true 16 info.max_block (sym outer.1);
    }

-- ---- what is written is read

front : (n : ℕ) (xs ys : List ℕ) → length xs ≡ n → take n (xs ++ ys) ≡ xs
front n xs ys e = take_at xs ys n e

behind : (n : ℕ) (xs ys : List ℕ) → length xs ≡ n → drop n (xs ++ ys) ≡ ys
behind n xs ys e = drop_at xs ys n e

number_back : (n x : ℕ) → x < 256 ^ n → big_number n (big_bytes n x) ≡ x
number_back n x lt = ap (big_number n) (sym (append-nil (big_bytes n x))) ∙ big_number-reads_back n x [] lt

-- the pieces of a list of pieces
record Pieces (a b c d e f all : List ℕ) : Type 0 where
  first : slice_range all 0 2 ≡ a
  second : slice_range all 2 4 ≡ b
  third : slice_range all 4 7 ≡ c
  fourth : slice_range all 7 10 ≡ d
  fifth : slice_range all 10 18 ≡ e
  sixth : slice_range all 18 34 ≡ f

pieces : (a b c d e f : List ℕ) → length a ≡ 2 → length b ≡ 2 → length c ≡ 3 → length d ≡ 3 → length e ≡ 8 → length f ≡ 16
    → Pieces a b c d e f (a ++ (b ++ (c ++ (d ++ (e ++ f)))))
pieces a b c d e f la lb lc ld le lf =
    let all = a ++ (b ++ (c ++ (d ++ (e ++ f)))) in
    let from2 : drop 2 all ≡ b ++ (c ++ (d ++ (e ++ f))) = behind 2 a (b ++ (c ++ (d ++ (e ++ f)))) la in
    let from4 : drop 4 all ≡ c ++ (d ++ (e ++ f)) = sym (drop-drop 2 2 all) ∙ ap (drop 2) from2 ∙ behind 2 b (c ++ (d ++ (e ++ f))) lb in
    let from7 : drop 7 all ≡ d ++ (e ++ f) = sym (drop-drop 3 4 all) ∙ ap (drop 3) from4 ∙ behind 3 c (d ++ (e ++ f)) lc in
    let from10 : drop 10 all ≡ e ++ f = sym (drop-drop 3 7 all) ∙ ap (drop 3) from7 ∙ behind 3 d (e ++ f) ld in
    let from18 : drop 18 all ≡ f = sym (drop-drop 8 10 all) ∙ ap (drop 8) from10 ∙ behind 8 e f le in
    record {
      first = front 2 a (b ++ (c ++ (d ++ (e ++ f)))) la;
      second = ap (take 2) from2 ∙ front 2 b (c ++ (d ++ (e ++ f))) lb;
      third = ap (take 3) from4 ∙ front 3 c (d ++ (e ++ f)) lc;
      fourth = ap (take 3) from7 ∙ front 3 d (e ++ f) ld;
      fifth = ap (take 8) from10 ∙ front 8 e f le;
      sixth = ap (take 16) from18 ∙ take_all 16 f (omega arith);
    }

same_fields : (a b c d e f g h : ℕ) (i : List ℕ) (info : StreamInfo)
    → a ≡ info.min_block → b ≡ info.max_block → c ≡ info.min_frame → d ≡ info.max_frame → e ≡ info.rate → f ≡ info.channels → g ≡ info.bits → h ≡ info.total → i ≡ info.md5
    → record { min_block = a; max_block = b; min_frame = c; max_frame = d; rate = e; channels = f; bits = g; total = h; md5 = i } ≡ info
same_fields a b c d e f g h i info ea eb ec ed ee ef eg eh ei = rw (ea, eb, ec, ed, ee, ef, eg, eh, ei) refl

fields_back : (a b c d e f all : List ℕ) (info : StreamInfo) → Pieces a b c d e f all
    → big_number 2 a ≡ info.min_block → big_number 2 b ≡ info.max_block → big_number 3 c ≡ info.min_frame → big_number 3 d ≡ info.max_frame
    → big_number 8 e / 2 ^ 44 ≡ info.rate → big_number 8 e / 2 ^ 41 % 8 + 1 ≡ info.channels → big_number 8 e / 2 ^ 36 % 32 + 1 ≡ info.bits → big_number 8 e % 2 ^ 36 ≡ info.total → f ≡ info.md5
    → fields_of all ≡ info
unfolding fields_of
fields_back a b c d e f all info p ea eb ec ed er ek eg et ei =
    let fifth : big_number 8 (slice_range all 10 18) ≡ big_number 8 e = ap (big_number 8) p.fifth in
    same_fields _ _ _ _ _ _ _ _ _ info
    (ap (big_number 2) p.first ∙ ea) (ap (big_number 2) p.second ∙ eb) (ap (big_number 3) p.third ∙ ec) (ap (big_number 3) p.fourth ∙ ed)
    (ap (λ n. n / 2 ^ 44) fifth ∙ er) (ap (λ n. n / 2 ^ 41 % 8 + 1) fifth ∙ ek) (ap (λ n. n / 2 ^ 36 % 32 + 1) fifth ∙ eg) (ap (λ n. n % 2 ^ 36) fifth ∙ et) (p.sixth ∙ ei)

depth_by : (bits : ℕ) (a b c : Bool) → (a ≡ true → (1 ≤ bits) × (bits ≤ 32)) → (b ≡ true → (1 ≤ bits) × (bits ≤ 32)) → (c ≡ true → (1 ≤ bits) × (bits ≤ 32))
    → IsTrue (a || b || c) → (1 ≤ bits) × (bits ≤ 32)
depth_by bits true b c f g h t = f refl
depth_by bits false true c f g h t = g refl
depth_by bits false false true f g h t = h refl
depth_by bits false false false f g h t = absurd (cc)

depth_small : (bits : ℕ) → IsTrue (is_depth bits) → (1 ≤ bits) × (bits ≤ 32)
depth_small bits h =
    depth_by bits (bits == 8) (bits == 16) (bits == 24)
    (λ e. let is : bits ≡ 8 = eqb-true bits 8 e in omega arith)
    (λ e. let is : bits ≡ 16 = eqb-true bits 16 e in omega arith)
    (λ e. let is : bits ≡ 24 = eqb-true bits 24 e in omega arith)
    h

record Unpacked (info : StreamInfo) (n : ℕ) : Type 0 where
  fits : n < 256 ^ 8
  rate : n / 2 ^ 44 ≡ info.rate
  channels : n / 2 ^ 41 % 8 + 1 ≡ info.channels
  bits : n / 2 ^ 36 % 32 + 1 ≡ info.bits
  total : n % 2 ^ 36 ≡ info.total

unpacked : (info : StreamInfo) → IsWritable info → Unpacked info (packed info)
unfolding packed
unpacked info w =
    let d = depth_small info.bits w.depth in
    record { fits = omega arith; rate = omega arith; channels = omega arith; bits = omega arith; total = omega arith }

is_written : (info : StreamInfo) → IsWritable info → fields_of (info_bytes info) ≡ info
unfolding info_bytes
is_written info w =
    let u = unpacked info w in
    let number : big_number 8 (big_bytes 8 (packed info)) ≡ packed info = number_back 8 (packed info) u.fits in
    fields_back (big_bytes 2 info.min_block) (big_bytes 2 info.max_block) (big_bytes 3 info.min_frame) (big_bytes 3 info.max_frame) (big_bytes 8 (packed info)) info.md5 _ info
    (pieces (big_bytes 2 info.min_block) (big_bytes 2 info.max_block) (big_bytes 3 info.min_frame) (big_bytes 3 info.max_frame) (big_bytes 8 (packed info)) info.md5 refl refl refl refl refl w.md5)
    (number_back 2 info.min_block w.min_block) (number_back 2 info.max_block w.max_block) (number_back 3 info.min_frame w.min_frame) (number_back 3 info.max_frame w.max_frame)
    (ap (λ n. n / 2 ^ 44) number ∙ u.rate) (ap (λ n. n / 2 ^ 41 % 8 + 1) number ∙ u.channels) (ap (λ n. n / 2 ^ 36 % 32 + 1) number ∙ u.bits) (ap (λ n. n % 2 ^ 36) number ∙ u.total) refl

accepted : (info : StreamInfo) → IsReadable info → is_accepted info ≡ true
unfolding is_accepted
accepted info r =
    let has : nat_le 1 info.rate ≡ true = le-leb 1 info.rate r.has_rate in
    let large : nat_le 16 info.max_block ≡ true = le-leb 16 info.max_block r.large in
    let depth : is_depth info.bits ≡ true = search (rules, r.writable.depth) in
    rw (has, large, depth) refl

chosen : (bytes : List ℕ) (info : StreamInfo) → fields_of bytes ≡ info → is_accepted info ≡ true → info_read bytes ≡ Ok info
unfolding info_read
chosen bytes info e t = rw (e, t) refl

pub info_is_read : InfoIsRead
info_is_read info r = chosen (info_bytes info) info (is_written info r.writable) (accepted info r)
