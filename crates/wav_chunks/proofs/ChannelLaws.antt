-- A channel of interleaved blocks, taken and put.
use Rattle.std.proofs.Common.{◌≡◌, ◌≢◌, ℕ, zero, suc, ◌+◌, ◌-◌, ◌*◌, ◌/◌, ◌<◌, ◌≤◌, ◌⊎◌, inl, inr, ℤ, pos, List, [], ◌∷◌, ◌++◌, length, take, drop, get_or, refl, sym, ◌∙◌, ap, arith, length-append, length-drop, append_assoc}
use Rattle.std.proofs.lemmas.Bool.{cases_lt}
use Rattle.std.proofs.lemmas.List.{length-take-le, take_all, take_at, drop_at, take-take, drop-take, drop-drop, take-append-le, drop-append-le, take-append-drop, take_more}
use Rattle.std.proofs.Math.Seq.{take-add, drop-append-add}
use Rattle.cook_bits.specs.Bits.{AreBytes}
use Rattle.wav_chunks.specs.Samples.{IsDepth, sample_at, sample_of, sample_bytes, stretch, of_stretches, block_len, block_of, blocks_of, channel_of, put_at, put_in_each, with_channel}
use Rattle.wav_chunks.specs.Laws.{BlocksAreTheirBytes, ChannelsArePut, ChannelsArePutBack}
use Rattle.wav_chunks.proofs.CodingLaws.{sample-back, sample-read, length-sample_bytes, bytes-sample_bytes}
use Rattle.wav_chunks.proofs.Rows.{of_stretches-at, map-of_stretches, length-of_stretches, bytes-take, bytes-drop, bytes-append, block_end, length-stretch, flat_of_stretches}

-- the samples of a channel, stretch by stretch
pub channel_is : (bits channels channel count : ℕ) (bytes : List ℕ) → channel < channels
    → channel_of channel (blocks_of bits channels count bytes)
    ≡ of_stretches (λ block. sample_of bits (take (bits / 8) (drop (channel * (bits / 8)) block))) (block_len bits channels) count bytes
channel_is bits channels channel count bytes low =
    map-of_stretches (λ block. sample_at block channel) (block_of bits channels) _ (block_len bits channels) count bytes
    (λ xs. of_stretches-at (sample_of bits) (bits / 8) channels channel xs (pos 0) low)

-- the samples that were taken as of so many bits, which the layout has
pub channel_of-is : (depth bits channels channel count : ℕ) (bytes : List ℕ) (out : List ℤ) → bits ≡ depth → channel < channels
    → out ≡ of_stretches (λ block. sample_of depth (take (depth / 8) (drop (channel * (bits / 8)) block))) (channels * (bits / 8)) count bytes
    → out ≡ channel_of channel (blocks_of bits channels count bytes)
channel_of-is depth bits channels channel count bytes out same low is =
    is
    ∙ ap (λ (n : ℕ). of_stretches (λ block. sample_of n (take (n / 8) (drop (channel * (bits / 8)) block))) (channels * (bits / 8)) count bytes) (sym same)
    ∙ sym (channel_is bits channels channel count bytes low)

-- and the bytes in which they were put
pub with_channel-is : (depth bits channels channel : ℕ) (samples : List ℤ) (old new : List ℕ) → bits ≡ depth
    → new ≡ put_in_each depth (channel * (bits / 8)) (channels * (bits / 8)) (length samples) samples old → new ≡ with_channel bits channels channel samples old
unfolding with_channel
with_channel-is depth bits channels channel samples old new same is =
    is ∙ ap (λ (n : ℕ). put_in_each n (channel * (bits / 8)) (channels * (bits / 8)) (length samples) samples old) (sym same)

-- values that are those of a list
stretches-are : {A : Type 0} (value : List ℕ → A) (size count : ℕ) (bytes : List ℕ) (xs : List A) (d : A) → count ≤ length xs
    → ((k : ℕ) → k < count → value (stretch size k bytes) ≡ get_or xs k d) → of_stretches value size count bytes ≡ take count xs
unfolding of_stretches
stretches-are value size zero bytes xs d room each = refl
stretches-are value size (suc count) bytes xs d room each =
    let one : count + 1 ≡ suc count = omega arith in
    ap (λ ys. ys ++ value (stretch size count bytes) ∷ []) (stretches-are value size count bytes xs d (omega (arith, room)) (λ k low. each k (omega (arith, low))))
    ∙ ap (λ y. take count xs ++ y ∷ []) (each count (omega arith))
    ∙ sym (take_more xs count d (omega (arith, room)))
    ∙ ap (λ (n : ℕ). take n xs) one

stretches-same : {A : Type 0} (value : List ℕ → A) (size count : ℕ) (left right : List ℕ)
    → ((k : ℕ) → k < count → value (stretch size k left) ≡ value (stretch size k right)) → of_stretches value size count left ≡ of_stretches value size count right
unfolding of_stretches
stretches-same value size zero left right each = refl
stretches-same value size (suc count) left right each =
    ap (λ ys. ys ++ value (stretch size count left) ∷ []) (stretches-same value size count left right (λ k low. each k (omega (arith, low))))
    ∙ ap (λ y. of_stretches value size count right ++ y ∷ []) (each count (omega arith))

-- ---- other bytes at a place

pub length-put_at : (place : ℕ) (new xs : List ℕ) → place + length new ≤ length xs → length (put_at place new xs) ≡ length xs
length-put_at place new xs room =
    let front : length (take place xs) ≡ place = length-take-le place xs (omega (arith, room)) in
    let rest : length (drop (place + length new) xs) ≡ length xs - (place + length new) = length-drop (place + length new) xs in
    let two : length (take place xs ++ new) ≡ length (take place xs) + length new = length-append (take place xs) new in
    let three : length (take place xs ++ new ++ drop (place + length new) xs) ≡ length (take place xs ++ new) + length (drop (place + length new) xs) =
    length-append (take place xs ++ new) (drop (place + length new) xs) in
    omega (arith, room, front, rest, two, three)

take-put_at : (place : ℕ) (new xs : List ℕ) → place + length new ≤ length xs → take (length new) (drop place (put_at place new xs)) ≡ new
take-put_at place new xs room =
    let front : length (take place xs) ≡ place = length-take-le place xs (omega (arith, room)) in
    ap (λ ys. take (length new) (drop place ys)) (append_assoc (take place xs) new (drop (place + length new) xs))
    ∙ ap (λ ys. take (length new) ys) (drop_at (take place xs) (new ++ drop (place + length new) xs) place front)
    ∙ take_at new (drop (place + length new) xs) (length new) refl

-- what ends before the place
before-put_at : (place from width : ℕ) (new xs : List ℕ) → place + length new ≤ length xs → from + width ≤ place
    → take width (drop from (put_at place new xs)) ≡ take width (drop from xs)
before-put_at place from width new xs room before =
    let front : length (take place xs) ≡ place = length-take-le place xs (omega (arith, room)) in
    let rest : List ℕ = new ++ drop (place + length new) xs in
    let left : length (drop from (take place xs)) ≡ length (take place xs) - from = length-drop from (take place xs) in
    let split : place ≡ from + (place - from) = omega (arith, before) in
    ap (λ ys. take width (drop from ys)) (append_assoc (take place xs) new (drop (place + length new) xs))
    ∙ ap (λ ys. take width ys) (drop-append-le from (take place xs) rest (omega (arith, front, before)))
    ∙ take-append-le width (drop from (take place xs)) rest (omega (arith, front, left, before))
    ∙ ap (λ (n : ℕ). take width (drop from (take n xs))) split
    ∙ ap (λ ys. take width ys) (drop-take from (place - from) xs)
    ∙ take-take width (place - from) (drop from xs) (omega (arith, before))

-- what begins behind it
behind-put_at : (place from width : ℕ) (new xs : List ℕ) → place + length new ≤ length xs → place + length new ≤ from
    → take width (drop from (put_at place new xs)) ≡ take width (drop from xs)
behind-put_at place from width new xs room behind =
    let front : length (take place xs) ≡ place = length-take-le place xs (omega (arith, room)) in
    let two : length (take place xs ++ new) ≡ length (take place xs) + length new = length-append (take place xs) new in
    let more : ℕ = from - (place + length new) in
    let start : from ≡ length (take place xs ++ new) + more = omega (arith, front, two, behind) in
    let again : more + (place + length new) ≡ from = omega (arith, behind) in
    let other : place + length new + more ≡ from = omega (arith, behind) in
    ap (λ (n : ℕ). take width (drop n (put_at place new xs))) start
    ∙ ap (λ ys. take width ys) (drop-append-add (take place xs ++ new) (drop (place + length new) xs) more)
    ∙ ap (λ ys. take width ys) (drop-drop more (place + length new) xs)
    ∙ ap (λ (n : ℕ). take width (drop n xs)) other

-- what stood there already
put_at-same : (place width : ℕ) (xs : List ℕ) → place + width ≤ length xs → put_at place (take width (drop place xs)) xs ≡ xs
put_at-same place width xs room =
    let rest : length (drop place xs) ≡ length xs - place = length-drop place xs in
    let long : length (take width (drop place xs)) ≡ width = length-take-le width (drop place xs) (omega (arith, room, rest)) in
    ap (λ (n : ℕ). take place xs ++ take width (drop place xs) ++ drop (place + n) xs) long
    ∙ ap (λ ys. ys ++ drop (place + width) xs) (sym (take-add place width xs))
    ∙ take-append-drop (place + width) xs

-- ---- stretches of lists that are put together

stretch-left : (size count k : ℕ) (xs ys : List ℕ) → length xs ≡ count * size → k < count → stretch size k (xs ++ ys) ≡ stretch size k xs
stretch-left size count k xs ys long low =
    let end : k * size + size ≤ count * size = block_end size count k low in
    let left : length (drop (k * size) xs) ≡ length xs - k * size = length-drop (k * size) xs in
    ap (λ zs. take size zs) (drop-append-le (k * size) xs ys (omega (arith, long, end)))
    ∙ take-append-le size (drop (k * size) xs) ys (omega (arith, long, end, left))

stretch-last : (size count : ℕ) (xs ys : List ℕ) → length xs ≡ count * size → length ys ≡ size → stretch size count (xs ++ ys) ≡ ys
stretch-last size count xs ys long one =
    ap (λ zs. take size zs) (drop_at xs ys (count * size) long) ∙ take_all size ys (omega (arith, one))

-- the numbers of a channel's place in a block
pub record InBlock (bits place size : ℕ) : Type 0 where
  pub depth : IsDepth bits
  pub within : place + bits / 8 ≤ size

put-block : (bits place size : ℕ) (sample : ℤ) (xs : List ℕ) → InBlock bits place size → length xs ≡ size → place + length (sample_bytes bits sample) ≤ length xs
put-block bits place size sample xs block long =
    let w : length (sample_bytes bits sample) ≡ bits / 8 = length-sample_bytes bits block.depth sample in
    omega (arith, w, long, block.within)

pub length-put_in_each : (bits place size count : ℕ) (samples : List ℤ) (bytes : List ℕ) → InBlock bits place size → count * size ≤ length bytes
    → length (put_in_each bits place size count samples bytes) ≡ count * size
unfolding put_in_each
length-put_in_each bits place size zero samples bytes block room = omega arith
length-put_in_each bits place size (suc count) samples bytes block room =
    let one : List ℕ = stretch size count bytes in
    let long : length one ≡ size = length-stretch size (suc count) count bytes (omega arith) room in
    let new : List ℕ = sample_bytes bits (sample_at samples count) in
    let put : length (put_at place new one) ≡ length one = length-put_at place new one (put-block bits place size (sample_at samples count) one block long) in
    let before : length (put_in_each bits place size count samples bytes) ≡ count * size = length-put_in_each bits place size count samples bytes block (omega (arith, room)) in
    let both : length (put_in_each bits place size count samples bytes ++ put_at place new one) ≡ length (put_in_each bits place size count samples bytes) + length (put_at place new one) =
    length-append (put_in_each bits place size count samples bytes) (put_at place new one) in
    omega (arith, long, put, before, both)

-- the stretches of the whole
put-stretch : (bits place size count k : ℕ) (samples : List ℤ) (bytes : List ℕ) → InBlock bits place size → count * size ≤ length bytes → k < count
    → stretch size k (put_in_each bits place size count samples bytes) ≡ put_at place (sample_bytes bits (sample_at samples k)) (stretch size k bytes)
unfolding put_in_each
put-stretch bits place size zero k samples bytes block room low = absurd (omega (arith, low))
put-stretch bits place size (suc count) k samples bytes block room low =
    split (λ less. put-stretch bits place size count k samples bytes block (omega (arith, room)) less) (cases_lt k count)
  where
    before : length (put_in_each bits place size count samples bytes) ≡ count * size
    before = length-put_in_each bits place size count samples bytes block (omega (arith, room))

    split : (k < count → stretch size k (put_in_each bits place size count samples bytes) ≡ put_at place (sample_bytes bits (sample_at samples k)) (stretch size k bytes))
        → (k < count) ⊎ (count ≤ k)
        → stretch size k (put_in_each bits place size count samples bytes ++ put_at place (sample_bytes bits (sample_at samples count)) (stretch size count bytes))
        ≡ put_at place (sample_bytes bits (sample_at samples k)) (stretch size k bytes)
    split so_far (inl less) =
        stretch-left size count k (put_in_each bits place size count samples bytes) _ before less ∙ so_far less
    split so_far (inr last) =
        let same : count ≡ k = omega (arith, last, low) in
        let long : length (stretch size count bytes) ≡ size = length-stretch size (suc count) count bytes (omega arith) room in
        let put : length (put_at place (sample_bytes bits (sample_at samples count)) (stretch size count bytes)) ≡ length (stretch size count bytes) =
        length-put_at place (sample_bytes bits (sample_at samples count)) (stretch size count bytes) (put-block bits place size (sample_at samples count) (stretch size count bytes) block long) in
        ap (λ (n : ℕ). stretch size n (put_in_each bits place size count samples bytes ++ put_at place (sample_bytes bits (sample_at samples count)) (stretch size count bytes))) (sym same)
        ∙ stretch-last size count (put_in_each bits place size count samples bytes) _ before (put ∙ long)
        ∙ ap (λ (n : ℕ). put_at place (sample_bytes bits (sample_at samples n)) (stretch size n bytes)) same

bytes-put_in_each : (bits place size count : ℕ) (samples : List ℤ) (bytes : List ℕ) → AreBytes bytes → AreBytes (put_in_each bits place size count samples bytes)
unfolding put_in_each
bytes-put_in_each bits place size zero samples bytes are = λ i. omega arith
bytes-put_in_each bits place size (suc count) samples bytes are =
    let one : AreBytes (stretch size count bytes) = bytes-take size (drop (count * size) bytes) (bytes-drop (count * size) bytes are) in
    bytes-append _ _ (bytes-put_in_each bits place size count samples bytes are)
    (bytes-append _ _ (bytes-append _ _ (bytes-take place (stretch size count bytes) one) (bytes-sample_bytes bits (sample_at samples count)))
    (bytes-drop (place + length (sample_bytes bits (sample_at samples count))) (stretch size count bytes) one))

-- samples that were taken there change nothing
put-taken : (bits place size count : ℕ) (samples : List ℤ) (bytes : List ℕ) → InBlock bits place size → count * size ≤ length bytes → AreBytes bytes
    → ((k : ℕ) → k < count → sample_at samples k ≡ sample_of bits (take (bits / 8) (drop place (stretch size k bytes))))
    → put_in_each bits place size count samples bytes ≡ take (count * size) bytes
unfolding put_in_each
put-taken bits place size zero samples bytes block room are each =
    let none : 0 ≡ 0 * size = omega arith in
    ap (λ (n : ℕ). take n bytes) none
put-taken bits place size (suc count) samples bytes block room are each =
    let one : List ℕ = stretch size count bytes in
    let long : length one ≡ size = length-stretch size (suc count) count bytes (omega arith) room in
    let ones : AreBytes one = bytes-take size (drop (count * size) bytes) (bytes-drop (count * size) bytes are) in
    let there : AreBytes (take (bits / 8) (drop place one)) = bytes-take (bits / 8) (drop place one) (bytes-drop place one ones) in
    let rest : length (drop place one) ≡ length one - place = length-drop place one in
    let whole : length (take (bits / 8) (drop place one)) ≡ bits / 8 = length-take-le (bits / 8) (drop place one) (omega (arith, rest, long, block.within)) in
    let total : count * size + size ≡ suc count * size = omega arith in
    ap (λ ys. ys ++ put_at place (sample_bytes bits (sample_at samples count)) one) (put-taken bits place size count samples bytes block (omega (arith, room)) are (λ k low. each k (omega (arith, low))))
    ∙ ap (λ s. take (count * size) bytes ++ put_at place (sample_bytes bits s) one) (each count (omega arith))
    ∙ ap (λ ys. take (count * size) bytes ++ put_at place ys one) (sample-back bits block.depth (take (bits / 8) (drop place one)) whole there)
    ∙ ap (λ ys. take (count * size) bytes ++ ys) (put_at-same place (bits / 8) one (omega (arith, long, block.within)))
    ∙ sym (take-add (count * size) size bytes)
    ∙ ap (λ (n : ℕ). take n bytes) total

-- ---- the laws

in_block : (bits channels channel : ℕ) → IsDepth bits → channel < channels → InBlock bits (channel * (bits / 8)) (block_len bits channels)
in_block bits channels channel depth low = record { depth = depth; within = block_end (bits / 8) channels channel low }

pub blocks-bytes : BlocksAreTheirBytes
blocks-bytes bits channels count bytes depth long are =
    flat_of_stretches (block_of bits channels) _ (block_len bits channels) count bytes
    (λ xs size ones. flat_of_stretches (sample_of bits) (sample_bytes bits) (bits / 8) channels xs (sample-back bits depth) (omega (arith, size)) ones ∙ take_all _ xs (omega (arith, size)))
    (omega (arith, long)) are
    ∙ take_all (count * block_len bits channels) bytes (omega (arith, long))

-- a sample at another place
other-place : (bits channels channel other : ℕ) (sample : ℤ) (xs : List ℕ) → IsDepth bits → channel < channels → other < channels → other ≢ channel → length xs ≡ block_len bits channels
    → take (bits / 8) (drop (other * (bits / 8)) (put_at (channel * (bits / 8)) (sample_bytes bits sample) xs)) ≡ take (bits / 8) (drop (other * (bits / 8)) xs)
other-place bits channels channel other sample xs depth low less apart long = split (cases_lt other channel)
  where
    wide : length (sample_bytes bits sample) ≡ bits / 8
    wide = length-sample_bytes bits depth sample

    room : channel * (bits / 8) + length (sample_bytes bits sample) ≤ length xs
    room = put-block bits (channel * (bits / 8)) (block_len bits channels) sample xs (in_block bits channels channel depth low) long

    split : (other < channel) ⊎ (channel ≤ other)
        → take (bits / 8) (drop (other * (bits / 8)) (put_at (channel * (bits / 8)) (sample_bytes bits sample) xs)) ≡ take (bits / 8) (drop (other * (bits / 8)) xs)
    split (inl before) = before-put_at (channel * (bits / 8)) (other * (bits / 8)) (bits / 8) (sample_bytes bits sample) xs room (block_end (bits / 8) channel other before)
    split (inr after) =
        let more : channel < other = larger after in
        let end : channel * (bits / 8) + bits / 8 ≤ other * (bits / 8) = block_end (bits / 8) other channel more in
        behind-put_at (channel * (bits / 8)) (other * (bits / 8)) (bits / 8) (sample_bytes bits sample) xs room (omega (arith, wide, end))
      where
        larger : channel ≤ other → channel < other
        larger most = elim (cases_lt channel other) as (λ _. channel < other) [
          | inl is ↦ is
          | inr not ↦ let same : other ≡ channel = omega (arith, most, not) in absurd (apart same)
        ]

pub channels-put : ChannelsArePut
unfolding with_channel
channels-put bits channels channel samples bytes depth low long inside = record {
  long = length-put_in_each bits place size (length samples) samples bytes block room ∙ sym long;
  are_bytes = bytes-put_in_each bits place size (length samples) samples bytes;
  itself =
      channel_is bits channels channel (length samples) new low
      ∙ stretches-are _ size (length samples) new samples (pos 0) (omega arith) itself_at
      ∙ take_all (length samples) samples (omega arith);
  others = λ other less apart.
      channel_is bits channels other (length samples) new less
      ∙ stretches-same _ size (length samples) new bytes (λ k few. other_at other less apart k few)
      ∙ sym (channel_is bits channels other (length samples) bytes less);
}
  where
    size : ℕ
    size = block_len bits channels

    place : ℕ
    place = channel * (bits / 8)

    block : InBlock bits place size
    block = in_block bits channels channel depth low

    room : length samples * size ≤ length bytes
    room = omega (arith, long)

    new : List ℕ
    new = put_in_each bits place size (length samples) samples bytes

    itself_at : (k : ℕ) → k < length samples → sample_of bits (take (bits / 8) (drop place (stretch size k new))) ≡ get_or samples k (pos 0)
    itself_at k few =
        let one : length (stretch size k bytes) ≡ size = length-stretch size (length samples) k bytes few room in
        let wide : length (sample_bytes bits (sample_at samples k)) ≡ bits / 8 = length-sample_bytes bits depth (sample_at samples k) in
        ap (λ xs. sample_of bits (take (bits / 8) (drop place xs))) (put-stretch bits place size (length samples) k samples bytes block room few)
        ∙ ap (λ (n : ℕ). sample_of bits (take n (drop place (put_at place (sample_bytes bits (sample_at samples k)) (stretch size k bytes))))) (sym wide)
        ∙ ap (sample_of bits) (take-put_at place (sample_bytes bits (sample_at samples k)) (stretch size k bytes) (put-block bits place size (sample_at samples k) (stretch size k bytes) block one))
        ∙ sample-read bits depth (sample_at samples k) (inside.each k)

    other_at : (other : ℕ) → other < channels → other ≢ channel → (k : ℕ) → k < length samples
        → sample_of bits (take (bits / 8) (drop (other * (bits / 8)) (stretch size k new))) ≡ sample_of bits (take (bits / 8) (drop (other * (bits / 8)) (stretch size k bytes)))
    other_at other less apart k few =
        let one : length (stretch size k bytes) ≡ size = length-stretch size (length samples) k bytes few room in
        ap (λ xs. sample_of bits (take (bits / 8) (drop (other * (bits / 8)) xs))) (put-stretch bits place size (length samples) k samples bytes block room few)
        ∙ ap (sample_of bits) (other-place bits channels channel other (sample_at samples k) (stretch size k bytes) depth low less apart one)

pub channels-put-back : ChannelsArePutBack
unfolding with_channel
channels-put-back bits channels channel count bytes depth low long are =
    let taken_is : channel_of channel (blocks_of bits channels count bytes) ≡ taken = channel_is bits channels channel count bytes low in
    let many : length taken ≡ count = length-of_stretches value size count bytes in
    ap (λ samples. put_in_each bits place size (length samples) samples bytes) taken_is
    ∙ ap (λ (n : ℕ). put_in_each bits place size n taken bytes) many
    ∙ put-taken bits place size count taken bytes (in_block bits channels channel depth low) (omega (arith, long)) are (λ k few. of_stretches-at value size count k bytes (pos 0) few)
    ∙ take_all (count * size) bytes (omega (arith, long))
  where
    size : ℕ
    size = block_len bits channels

    place : ℕ
    place = channel * (bits / 8)

    value : List ℕ → ℤ
    value block = sample_of bits (take (bits / 8) (drop (channel * (bits / 8)) block))

    taken : List ℤ
    taken = of_stretches value (block_len bits channels) count bytes
