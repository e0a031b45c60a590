-- The channels of a block, as its frame is written.
use Rattle.std.proofs.Common.{◌≡◌, ◌≢◌, ℕ, zero, suc, ◌-◌, ◌+◌, ◌*◌, ◌^◌, ◌≤◌, ◌<◌, Bool, true, false, nat_le, ℤ, List, [], ◌∷◌, ◌++◌, length, get_or, take, drop, Result, Ok, Err, IfOk, refl, sym, ap, subst, ◌∙◌, length-append, length-drop, arith}
use Rattle.std.proofs.Math.Nat.{mul-le-mul_right, suc-mul}
use Rattle.std.proofs.lemmas.Bool.{leb-true, leb-false}
use Rattle.std.proofs.lemmas.List.{length-take-le}
use Rattle.std.proofs.Math.ListN.{get_or-append}
use Rattle.std.proofs.Math.Seq.{get_or-append_seam}
use Rattle.std.specs.Int.{bytes_high_first}
use Rattle.cook_bits.specs.Bits.{bytes_of}
use Rattle.cook_bits.specs.Crc.{crc16_of}
use Rattle.flac_frame.specs.declared.encoding.channels.Subframes.{Subframes}
use Rattle.flac_frame.specs.declared.stream_info.StreamInfo.{StreamInfo}
use Rattle.flac_frame.specs.Samples.{stretch, stretches, BlockValue, IsBlock, channel_of, channels_of}
use Rattle.flac_frame.specs.Writing.{each_bits, best_subframe, best_code, subframes_bits, padded, code_of, stored_by, size_of, head_of, flac_of, AreAllInside}
use Rattle.flac_frame.specs.RoundTrip.{AreChannels}
use Rattle.flac_frame.specs.Frame.{depth_of}
use Rattle.flac_frame.proofs.StoredLaws.{best_code_has, plain_depth}

-- ---- rows of a block

rows_len : (room len : ℕ) (xs : List ℤ) (n : ℕ) → length (stretches room len xs n) ≡ n
unfolding stretches
rows_len room len xs zero = refl
rows_len room len xs (suc n) =
    let e = length-append (stretches room len xs n) (stretch room len xs n ∷ []) in
    let more = rows_len room len xs n in
    omega (arith, e, more)

row_by : (room len : ℕ) (xs : List ℤ) (n k : ℕ) (b : Bool) → nat_le n k ≡ b → k < suc n → (k < n → get_or (stretches room len xs n) k [] ≡ stretch room len xs k)
    → get_or (stretches room len xs n ++ stretch room len xs n ∷ []) k [] ≡ stretch room len xs k
row_by room len xs n k false t lt before =
    let here : k < n = leb-false n k t in
    let e = rows_len room len xs n in
    get_or-append (stretches room len xs n) (stretch room len xs n ∷ []) [] k (omega arith) ∙ before here
row_by room len xs n k true t lt before =
    let le : n ≤ k = leb-true n k t in
    let e = rows_len room len xs n in
    let is : k ≡ length (stretches room len xs n) = omega arith in
    let same : n ≡ k = omega arith in
    ap (λ j. get_or (stretches room len xs n ++ stretch room len xs n ∷ []) j []) is
    ∙ get_or-append_seam (stretches room len xs n) (stretch room len xs n) [] [] ∙ ap (stretch room len xs) same

row_at : (room len : ℕ) (xs : List ℤ) (n k : ℕ) → k < n → get_or (stretches room len xs n) k [] ≡ stretch room len xs k
unfolding stretches
row_at room len xs zero k lt = absurd (omega arith)
row_at room len xs (suc n) k lt = row_by room len xs n k (nat_le n k) refl lt (row_at room len xs n k)

pub channels_len : (block : BlockValue) → length (channels_of block) ≡ block.channels
unfolding channels_of
channels_len block = rows_len block.capacity block.len block.samples block.channels

pub channel_at : (block : BlockValue) (k : ℕ) → k < block.channels → get_or (channels_of block) k [] ≡ channel_of block k
unfolding channels_of channel_of
channel_at block k lt = row_at block.capacity block.len block.samples block.channels k lt

pub two_channels : (block : BlockValue) → block.channels ≡ 2 → channels_of block ≡ channel_of block 0 ∷ channel_of block 1 ∷ []
unfolding channels_of channel_of stretches
two_channels block two = rw two refl

-- each channel has the block's samples
pub channel_len : (block : BlockValue) (k : ℕ) → IsBlock block → k < block.channels → length (channel_of block k) ≡ block.len
unfolding channel_of stretch
channel_len block k is lt =
    let room = block.capacity in
    let start = k * room in
    let more : suc k * room ≤ block.channels * room = mul-le-mul_right room lt in
    let step : suc k * room ≡ start + room = suc-mul k room in
    let all = is.room in
    let within = is.within in
    let n : start + block.len - start ≡ block.len = omega arith in
    let d = length-drop start block.samples in
    ap (λ m. length (take m (drop start block.samples))) n ∙ length-take-le block.len (drop start block.samples) (omega arith)

first_of : (all : List (List ℤ)) → 1 ≤ length all → size_of all ≡ length (get_or all 0 [])
first_of [] some = absurd (omega arith)
first_of (row ∷ rows) some = refl

pub size_is : (block : BlockValue) → IsBlock block → 1 ≤ block.channels → size_of (channels_of block) ≡ block.len
size_is block is some =
    let n = channels_len block in
    first_of (channels_of block) (omega arith) ∙ ap length (channel_at block 0 some) ∙ channel_len block 0 is some

pub are_channels : (info : StreamInfo) (block : BlockValue) (number : ℕ) → IsBlock block → block.channels ≡ info.channels → 1 ≤ block.channels → 1 ≤ block.len → block.len ≤ 4096
    → block.len ≤ info.max_block → AreAllInside info.bits block → number < 2 ^ 31 → AreChannels info (channels_of block) number
are_channels info block number is same one some few within inside lt =
    let n = channels_len block in
    let s = size_is block is one in
    record {
      count = n ∙ same;
      some = omega arith;
      few = omega arith;
      within = omega arith;
      same = λ k below. ap length (channel_at block k (omega arith)) ∙ channel_len block k is (omega arith) ∙ sym s;
      inside = λ k below. let e = channel_at block k (omega arith) in rw e (inside.each k (omega arith));
      numbered = lt;
    }

-- ---- channels that are stored each by itself

each_is : (code bits k : ℕ) (rows : List (List ℤ)) → code < 8 → each_bits bits rows ≡ subframes_bits code bits k rows
unfolding each_bits subframes_bits
each_is code bits k [] lt = refl
each_is code bits k (row ∷ rows) lt =
    let d : depth_of code bits k ≡ bits = plain_depth code bits k lt in
    rw d (ap (λ (more : List Bool). best_subframe bits row ++ more) (each_is code bits (suc k) rows lt))

pub plain_code : (bits : ℕ) (rows : List (List ℤ)) → 1 ≤ length rows → length rows ≢ 2 → code_of bits rows + 1 ≡ length rows
plain_code bits [] some apart = absurd (omega arith)
plain_code bits (mono ∷ []) some apart = refl
plain_code bits (left ∷ right ∷ []) some apart = absurd (apart refl)
plain_code bits (first ∷ second ∷ third ∷ more) some apart = omega arith

pub plain_stored : (code : ℕ) (rows : List (List ℤ)) → length rows ≢ 2 → stored_by code rows ≡ rows
plain_stored code [] apart = refl
plain_stored code (mono ∷ []) apart = refl
plain_stored code (left ∷ right ∷ []) apart = absurd (apart refl)
plain_stored code (first ∷ second ∷ third ∷ more) apart = refl

pub plain_bits : (code bits : ℕ) (rows : List (List ℤ)) → code < 8 → length rows ≢ 2 → each_bits bits rows ≡ subframes_bits code bits 0 (stored_by code rows)
plain_bits code bits rows lt apart = each_is code bits 0 rows lt ∙ ap (subframes_bits code bits 0) (sym (plain_stored code rows apart))

-- ---- what the subframes are

-- the code and the bytes of the channels of a block
pub record AreSubframes (bits : ℕ) (rows : List (List ℤ)) (all : Subframes) : Type 0 where
  pub code : all.code ≡ code_of bits rows
  pub bytes : all.bytes ≡ bytes_of (padded (subframes_bits all.code bits 0 (stored_by all.code rows)))
  pub fits : all.code < 2 ^ 4

pub each_ok : {E : Type 0} (r : Result Subframes E) (bits : ℕ) (block : BlockValue) → 1 ≤ block.channels → block.channels ≤ 8 → block.channels ≢ 2
    → IfOk r (λ all. all.code + 1 ≡ block.channels) → IfOk r (λ all. all.bytes ≡ bytes_of (padded (each_bits bits (channels_of block))))
    → IfOk r (AreSubframes bits (channels_of block))
each_ok (Ok all) bits block some eight apart code bytes =
    let rows = channels_of block in
    let n : length rows ≡ block.channels = channels_len block in
    let other : length rows ≢ 2 = λ e. apart (sym n ∙ e) in
    let c : code_of bits rows + 1 ≡ length rows = plain_code bits rows (omega arith) other in
    record {
      code = omega arith;
      bytes = bytes ∙ ap (λ more. bytes_of (padded more)) (plain_bits all.code bits rows (omega arith) other);
      fits = omega arith;
    }
each_ok (Err e) bits block some eight apart code t = t

pub pair_ok : {E : Type 0} (r : Result Subframes E) (bits : ℕ) (block : BlockValue) (left right : List ℤ) → block.channels ≡ 2 → left ≡ channel_of block 0 → right ≡ channel_of block 1
    → IfOk r (λ all. all.code ≡ best_code bits left right) → IfOk r (λ all. all.bytes ≡ bytes_of (padded (subframes_bits all.code bits 0 (stored_by all.code (left ∷ right ∷ [])))))
    → IfOk r (AreSubframes bits (channels_of block))
pair_ok (Ok all) bits block left right two el er code bytes =
    let rows : (left ∷ right ∷ []) ≡ channels_of block = ap (λ a. a ∷ right ∷ []) el ∙ ap (λ b. channel_of block 0 ∷ b ∷ []) er ∙ sym (two_channels block two) in
    let few : best_code bits left right < 2 ^ 4 = best_code_has (λ n. n < 2 ^ 4) bits left right (omega arith) (omega arith) (omega arith) (omega arith) in
    subst (λ (all_rows : List (List ℤ)). AreSubframes bits all_rows all) rows (record { code = code; bytes = bytes; fits = omega arith })
pair_ok (Err e) bits block left right two el er code t = t

-- ---- the frame

pub frame_is : (info : StreamInfo) (channels : List (List ℤ)) (number size : ℕ) (all : Subframes) (body frame : List ℕ) → size_of channels ≡ size → AreSubframes info.bits channels all
    → body ≡ head_of info.bits all.code size number ++ all.bytes → frame ≡ body ++ bytes_high_first 2 (crc16_of body) → frame ≡ flac_of channels info number
unfolding flac_of
frame_is info channels number size all body frame count are eb ef =
    let code = code_of info.bits channels in
    let whole = head_of info.bits code (size_of channels) number ++ bytes_of (padded (subframes_bits code info.bits 0 (stored_by code channels))) in
    let packed : all.bytes ≡ bytes_of (padded (subframes_bits code info.bits 0 (stored_by code channels))) =
    are.bytes ∙ ap (λ n. bytes_of (padded (subframes_bits n info.bits 0 (stored_by n channels)))) are.code in
    let is : body ≡ whole =
    eb ∙ ap (λ n. head_of info.bits n size number ++ all.bytes) are.code ∙ ap (λ n. head_of info.bits code n number ++ all.bytes) (sym count)
    ∙ ap (λ more. head_of info.bits code (size_of channels) number ++ more) packed in
    ef ∙ ap (λ b. b ++ bytes_high_first 2 (crc16_of b)) is
