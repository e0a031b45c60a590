-- A frame that is written is read.
use Rattle.std.proofs.Common.{◌≡◌, ℕ, zero, suc, ◌-◌, ◌+◌, ◌*◌, ◌/◌, ◌%◌, ◌^◌, ◌≤◌, ◌<◌, Bool, true, false, ◌==◌, if◌then◌else◌, ℤ, List, [], ◌∷◌, ◌++◌, length, take, replicate, get_or, min, Ok, refl, sym, ap, subst, ◌∙◌, append_assoc, length-append, arith}
use Rattle.std.proofs.lemmas.List.{take_at, drop_at, length-replicate, append-nil}
use Rattle.std.specs.Int.{bytes_high_first}
use Rattle.cook_bits.specs.Bits.{low_bits, bits_of, bytes_of}
use Rattle.cook_bits.specs.Crc.{crc8_of, crc16_of}
use Rattle.cook_bits.specs.Laws.{BitsAreOfTheirBytes, BitsFollow, BitsAreEightAByte, NumbersAreTheirBits, FitsBits}
use Rattle.flac_predict.specs.Samples.{AreInside}
use Rattle.flac_predict.specs.Choice.{best_candidate}
use Rattle.flac_predict.specs.Laws.{BestIsCandidate}
use Rattle.flac_frame.specs.declared.error.FlacWhy.TheVariants.{HeaderCrc, FrameCrc}
use Rattle.flac_frame.specs.Reading.{expected_at}
use Rattle.flac_frame.specs.Subframe.{subframe_at}
use Rattle.flac_frame.specs.Frame.{bytes_before, whole_bytes, depth_of, subframes_at, decorrelated, samples_at, header_end_at, end_at, frame_read}
use Rattle.flac_frame.specs.Writing.{size_code_of, bits_code_of, lead_of, head_of, best_subframe, subframes_bits, later_bits, coded_bits, size_bits, header_bits, padded, bytes_more}
use Rattle.cook_bits.specs.Laws.{WrittenFieldIsRead}
use Rattle.flac_frame.specs.declared.stream_info.StreamInfo.{StreamInfo}
use Rattle.flac_frame.specs.StreamInfo.{is_depth}
use Rattle.flac_frame.specs.Header.{channels_by}
use Rattle.flac_frame.proofs.HeaderBack.{header_back}
use Rattle.flac_frame.proofs.RoundLaws.{expect_back}
use Rattle.flac_frame.proofs.SubframeBack.{Known, subframe_back}

-- a channel as it is stored
pub record Fits (depth size : ℕ) (row : List ℤ) : Type 0 where
  pub low : 1 ≤ depth
  pub high : depth ≤ 25
  pub count : length row ≡ size
  pub inside : AreInside depth row
  pub wide : AreInside 25 row

pub subframes_back : Known → BestIsCandidate → (code depth size k : ℕ) (rows : List (List ℤ)) (rest : List Bool)
    → ((j : ℕ) → j < length rows → Fits (depth_of code depth (k + j)) size (get_or rows j []))
    → subframes_at code depth size k (length rows) (subframes_bits code depth k rows ++ rest) ≡ Ok (rows, rest)
unfolding subframes_at subframes_bits
subframes_back known best code depth size k [] rest fits = refl
subframes_back known best code depth size k (row ∷ rows) rest fits =
    let d = depth_of code depth k in
    let here : k + 0 ≡ k = omega arith in
    let h : Fits d size row = subst (λ (n : ℕ). Fits (depth_of code depth n) size row) here (fits 0 (omega arith)) in
    let after = subframes_bits code depth (suc k) rows ++ rest in
    let split : best_subframe d row ++ subframes_bits code depth (suc k) rows ++ rest ≡ best_subframe d row ++ after =
    append_assoc (best_subframe d row) (subframes_bits code depth (suc k) rows) rest in
    let f : subframe_at d size (best_subframe d row ++ after) ≡ Ok (row, after) =
    ap (λ n. subframe_at d n (best_subframe d row ++ after)) (sym h.count) ∙ subframe_back known d row (best_candidate d row) after h.low h.high h.inside h.wide (best d row) in
    let others : subframes_at code depth size (suc k) (length rows) after ≡ Ok (rows, rest) =
    subframes_back known best code depth size (suc k) rows rest
    (λ j lt. let next : k + suc j ≡ suc k + j = omega arith in subst (λ (n : ℕ). Fits (depth_of code depth n) size (get_or rows j [])) next (fits (suc j) (omega arith))) in
    rw (split, f, others) refl

-- ---- lengths

pub length-low : (count n : ℕ) → length (low_bits count n) ≡ count
unfolding low_bits
length-low zero n = refl
length-low (suc count) n = ap suc (length-low count n)

pub later_len : (count number : ℕ) → length (later_bits count number) ≡ 8 * count
unfolding later_bits
later_len zero number = refl
later_len (suc count) number =
    let byte = 128 + number / 2 ^ (6 * count) % 64 in
    let more = later_len count number in
    length-append (low_bits 8 byte) (later_bits count number) ∙ ap (λ n. n + length (later_bits count number)) (length-low 8 byte) ∙ omega arith

coded_len : (number : ℕ) → length (coded_bits number) % 8 ≡ 0
unfolding coded_bits
coded_len number =
    let count = bytes_more number in
    let more = later_len count number in
    let n = length-append (low_bits 8 (lead_of count + number / 2 ^ (6 * count))) (later_bits count number) in
    let first = length-low 8 (lead_of count + number / 2 ^ (6 * count)) in
    omega arith

size_len : (size : ℕ) (b : Bool) → length (if b then [] else low_bits 16 (size - 1)) % 8 ≡ 0
size_len size true = refl
size_len size false = let n = length-low 16 (size - 1) in omega arith

pub front_len : (count n : ℕ) (rest : List Bool) → length (low_bits count n ++ rest) ≡ count + length rest
front_len count n rest = length-append (low_bits count n) rest ∙ ap (λ m. m + length rest) (length-low count n)

pub header_len : (depth code size number : ℕ) → length (header_bits depth code size number) % 8 ≡ 0
unfolding header_bits size_bits
header_len depth code size number =
    let last = coded_bits number ++ (if size == 4096 then [] else low_bits 16 (size - 1)) in
    let b7 = low_bits 1 0 ++ last in
    let b6 = low_bits 3 (bits_code_of depth) ++ b7 in
    let b5 = low_bits 4 code ++ b6 in
    let b4 = low_bits 4 0 ++ b5 in
    let b3 = low_bits 4 (size_code_of size) ++ b4 in
    let b2 = low_bits 1 0 ++ b3 in
    let n8 = length-append (coded_bits number) (if size == 4096 then [] else low_bits 16 (size - 1)) in
    let c = coded_len number in
    let s = size_len size (size == 4096) in
    let n7 = front_len 1 0 last in
    let n6 = front_len 3 (bits_code_of depth) b7 in
    let n5 = front_len 4 code b6 in
    let n4 = front_len 4 0 b5 in
    let n3 = front_len 4 (size_code_of size) b4 in
    let n2 = front_len 1 0 b3 in
    let n1 = front_len 15 0x7FFC b2 in
    omega arith

abbrev pub pad_of : List Bool → List Bool
pad_of bits = replicate ((8 - length bits % 8) % 8) false

padded_len : (bits : List Bool) → length (padded bits) % 8 ≡ 0
padded_len bits =
    let n = length-append bits (replicate ((8 - length bits % 8) % 8) false) in
    let m : length (replicate ((8 - length bits % 8) % 8) false) ≡ (8 - length bits % 8) % 8 = length-replicate ((8 - length bits % 8) % 8) false in
    omega arith

-- ---- checksums

before_is : BitsAreEightAByte → (xs ys : List ℕ) → bytes_before (xs ++ ys) (bits_of ys) ≡ xs
before_is eight xs ys =
    let n = length-append xs ys in
    let m = eight ys in
    let e : length (xs ++ ys) - length (bits_of ys) / 8 ≡ length xs = omega arith in
    ap (λ k. take k (xs ++ ys)) e ∙ take_at xs ys (length xs) refl

byte_bits : BitsFollow → (byte : ℕ) (later : List ℕ) → bits_of (byte ∷ later) ≡ low_bits 8 byte ++ bits_of later
unfolding bits_of
byte_bits follow byte later = refl

-- what is known of bytes and checksums
pub record KnownBytes : Type 0 where
  pub whole : BitsAreOfTheirBytes
  pub follow : BitsFollow
  pub eight : BitsAreEightAByte
  pub numbers : NumbersAreTheirBits
  pub crc8 : FitsBits 8 crc8_of
  pub crc16 : FitsBits 16 crc16_of

header_end_back : KnownBytes → WrittenFieldIsRead → (head later : List ℕ) → header_end_at (head ++ crc8_of head ∷ later) (bits_of (crc8_of head ∷ later)) ≡ Ok (bits_of later)
unfolding header_end_at
header_end_back known law head later =
    let b = before_is known.eight head (crc8_of head ∷ later) in
    let s = byte_bits known.follow (crc8_of head) later in
    let f = expect_back law 8 (crc8_of head) HeaderCrc (bits_of later) (known.crc8 head) in
    rw (b, s) f

end_back : KnownBytes → WrittenFieldIsRead → (body : List ℕ) (pad : List Bool) → length pad < 8
    → end_at (body ++ bytes_high_first 2 (crc16_of body)) (pad ++ bits_of (bytes_high_first 2 (crc16_of body))) ≡ Ok []
unfolding end_at
end_back known law body pad few =
    let crc = crc16_of body in
    let last = bytes_high_first 2 crc in
    let is : bits_of last ≡ low_bits 16 crc = known.numbers 2 crc in
    let n : length (bits_of last) ≡ 16 = ap length is ∙ length-low 16 crc in
    let all = length-append pad (bits_of last) in
    let e : length pad ≡ length (pad ++ bits_of last) % 8 = omega arith in
    let w : whole_bytes (pad ++ bits_of last) ≡ bits_of last = drop_at pad (bits_of last) (length (pad ++ bits_of last) % 8) e in
    let b = before_is known.eight body last in
    let f : expected_at 16 crc FrameCrc (bits_of last) ≡ Ok [] =
    ap (expected_at 16 crc FrameCrc) (is ∙ sym (append-nil (low_bits 16 crc))) ∙ expect_back law 16 crc FrameCrc [] (known.crc16 body) in
    rw (w, b) f

-- ---- the whole frame

pub record Stored (info : StreamInfo) (code size : ℕ) (channels rows : List (List ℤ)) : Type 0 where
  pub fits : (j : ℕ) → j < length rows → Fits (depth_of code info.bits (0 + j)) size (get_or rows j [])
  pub counts : length rows ≡ info.channels
  pub back : decorrelated code info.bits rows ≡ Ok channels
  pub coded : channels_by code ≡ info.channels
  pub small : code < 2 ^ 4

pub frame_back : Known → KnownBytes → BestIsCandidate → (info : StreamInfo) (code size number room : ℕ) (channels rows : List (List ℤ)) → Stored info code size channels rows
    → is_depth info.bits ≡ true → 1 ≤ size → size ≤ 4096 → size ≤ info.max_block → size ≤ room → number < 2 ^ 31
    → let body = head_of info.bits code size number ++ bytes_of (padded (subframes_bits code info.bits 0 rows)) in
    frame_read info room (body ++ bytes_high_first 2 (crc16_of body)) ≡ Ok channels
unfolding frame_read samples_at head_of
frame_back known bytes best info code size number room channels rows h depth some few within enough lt =
    let header = header_bits info.bits code size number in
    let head = bytes_of header in
    let crc = crc8_of head in
    let subframes = subframes_bits code info.bits 0 rows in
    let pad = pad_of subframes in
    let packed = bytes_of (padded subframes) in
    let body = head ++ crc ∷ [] ++ packed in
    let last = bytes_high_first 2 (crc16_of body) in
    let later = packed ++ last in
    let whole : body ++ last ≡ head ++ crc ∷ later = append_assoc (head ++ crc ∷ []) packed last ∙ append_assoc head (crc ∷ []) later in
    let most : size ≤ min info.max_block room = omega arith in
    let head_is : bits_of head ≡ header = bytes.whole header (header_len info.bits code size number) in
    let packed_is : bits_of packed ≡ subframes ++ pad = bytes.whole (padded subframes) (padded_len subframes) in
    let all : bits_of (head ++ crc ∷ later) ≡ header ++ bits_of (crc ∷ later) = bytes.follow head (crc ∷ later) ∙ ap (λ (bits : List Bool). bits ++ bits_of (crc ∷ later)) head_is in
    let rest : bits_of later ≡ subframes ++ (pad ++ bits_of last) =
    bytes.follow packed last ∙ ap (λ (bits : List Bool). bits ++ bits_of last) packed_is ∙ append_assoc subframes pad (bits_of last) in
    let f1 = header_back known.field info (min info.max_block room) code size number (bits_of (crc ∷ later)) depth h.small h.coded some few most lt in
    let f2 = header_end_back bytes known.field head later in
    let n : info.channels ≡ length rows = sym h.counts in
    let f3 = subframes_back known best code info.bits size 0 rows (pad ++ bits_of last) h.fits in
    let f4 = h.back in
    let pad_len : length pad ≡ (8 - length subframes % 8) % 8 = length-replicate ((8 - length subframes % 8) % 8) false in
    let f5 : end_at (head ++ crc ∷ later) (pad ++ bits_of last) ≡ Ok [] =
    ap (λ (all : List ℕ). end_at all (pad ++ bits_of last)) (sym whole) ∙ end_back bytes known.field body pad (omega arith) in
    rw (whole, all, f1, f2, rest, n, f3, f4, f5) refl
