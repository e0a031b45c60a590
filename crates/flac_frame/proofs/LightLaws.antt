-- How many bits and bytes a frame takes that is written.
use Rattle.std.proofs.Common.{◌≡◌, ℕ, zero, suc, ◌-◌, ◌+◌, ◌*◌, ◌/◌, ◌%◌, ◌^◌, ◌≤◌, ◌<◌, Bool, true, false, ◌==◌, nat_le, nat_lt, if◌then◌else◌, ℤ, List, [], ◌∷◌, ◌++◌, length, take, replicate, get_or, refl, ap, ◌∙◌, length-append, arith}
use Rattle.std.proofs.Math.Nat.{mul-le-mul, suc-mul}
use Rattle.std.proofs.lemmas.List.{length-replicate, length-take-le}
use Rattle.std.proofs.lemmas.List.Sums.{sum_by-cons}
use Rattle.std.specs.List.{sum_by, flat_map}
use Rattle.std.specs.Int.{bytes_high_first}
use Rattle.byteorder.specs.Numbers.{length-bytes_high_first}
use Rattle.cook_bits.specs.Bits.{low_bits, first_bytes, bytes_of}
use Rattle.cook_bits.specs.Crc.{crc8_of, crc16_of}
use Rattle.flac_predict.specs.declared.choosing.Choice.{Choice}
use Rattle.flac_predict.specs.declared.choosing.Choice.TheVariants.{Constant, Fixed, Linear, Verbatim}
use Rattle.flac_predict.specs.declared.sets.LinearSet.{LinearSet}
use Rattle.flac_predict.specs.Bank.{bank_set}
use Rattle.flac_predict.specs.Fixed.{fixed_residuals}
use Rattle.flac_predict.specs.Linear.{linear_residuals}
use Rattle.flac_predict.specs.Rice.{zigzag, quotient, value_bits, parameter_bits, residual_bits}
use Rattle.flac_predict.specs.Choice.{candidate_bits, best_candidate, IsCandidate}
use Rattle.flac_predict.specs.Laws.{BestIsCandidate, BestIsLight}
use Rattle.flac_frame.specs.declared.stream_info.StreamInfo.{StreamInfo}
use Rattle.flac_frame.specs.Frame.{depth_of}
use Rattle.flac_frame.specs.Spelling.{signed_field, signed_bits, unary_bits, value_bits_of, values_bits, method_of, residual_bits_of, set_bits, kind_of, content_bits, subframe_bits}
use Rattle.flac_frame.specs.Writing.{best_subframe, subframes_bits, padded, size_of, code_of, stored_by, first_by, second_by, flac_of, head_of, header_bits, coded_bits, later_bits, size_bits, bytes_more, lead_of, bits_code_of, size_code_of}
use Rattle.flac_frame.proofs.SubframeBack.{bank_padded}
use Rattle.flac_frame.proofs.FrameBack.{length-low, later_len, front_len, Stored}
use Rattle.flac_frame.proofs.StoredLaws.{plain_depth}

-- ---- fields

signed_len : (count : ℕ) (xs : List ℤ) → length (signed_bits count xs) ≡ length xs * count
unfolding signed_bits
signed_len count [] = omega arith
signed_len count (x ∷ xs) =
    let one = length-low count (signed_field count x) in
    let more = signed_len count xs in
    length-append (low_bits count (signed_field count x)) (flat_map (λ (y : ℤ). low_bits count (signed_field count y)) xs) ∙ omega (arith, one, more, suc-mul (length xs) count)

unary_len : (count : ℕ) → length (unary_bits count) ≡ suc count
unfolding unary_bits
unary_len zero = refl
unary_len (suc count) = ap suc (unary_len count)

value_len : (parameter : ℕ) (x : ℤ) → length (value_bits_of parameter x) ≡ value_bits parameter x
unfolding value_bits_of
value_len parameter x =
    let low = zigzag x % 2 ^ parameter in
    length-append (unary_bits (quotient parameter x)) (low_bits parameter low) ∙ omega (arith, unary_len (quotient parameter x), length-low parameter low)

values_len : (parameter : ℕ) (xs : List ℤ) → length (values_bits parameter xs) ≡ sum_by (value_bits parameter) xs
unfolding values_bits
values_len parameter [] = refl
values_len parameter (x ∷ xs) =
    length-append (value_bits_of parameter x) (flat_map (value_bits_of parameter) xs) ∙ omega (arith, value_len parameter x, values_len parameter xs, sum_by-cons (value_bits parameter) x xs)

by_method : (b : Bool) → 4 + (if b then 0 else 1) ≡ (if b then 4 else 5)
by_method true = refl
by_method false = refl

residual_len : (parameter : ℕ) (xs : List ℤ) → length (residual_bits_of parameter xs) ≡ residual_bits parameter xs
unfolding residual_bits_of residual_bits
residual_len parameter xs =
    let method = method_of parameter in
    let values = values_bits parameter xs in
    let n1 = front_len 2 method (low_bits 4 0 ++ (low_bits (4 + method) parameter ++ values)) in
    let n2 = front_len 4 0 (low_bits (4 + method) parameter ++ values) in
    let n3 = front_len (4 + method) parameter values in
    let m : 4 + method ≡ parameter_bits parameter = by_method (nat_le parameter 14) in
    omega (arith, n1, n2, n3, m, values_len parameter xs)

set_len : (set : LinearSet) → set.order ≤ length set.coefficients → length (set_bits set) ≡ 4 + 5 + set.order * set.precision
unfolding set_bits
set_len set enough =
    let front = take set.order set.coefficients in
    let n1 = front_len 4 (set.precision - 1) (low_bits 5 set.shift ++ signed_bits set.precision front) in
    let n2 = front_len 5 set.shift (signed_bits set.precision front) in
    let n3 = signed_len set.precision front ∙ ap (λ n. n * set.precision) (length-take-le set.order set.coefficients enough) in
    omega (arith, n1, n2, n3)

-- ---- subframes

one_at_most : (depth : ℕ) (xs : List ℤ) → length (signed_bits depth (take 1 xs)) ≤ depth
unfolding signed_bits
one_at_most depth [] = omega arith
one_at_most depth (x ∷ xs) =
    let n = length-append (low_bits depth (signed_field depth x)) [] in
    omega (arith, n, length-low depth (signed_field depth x))

content_len : (depth : ℕ) (xs : List ℤ) (choice : Choice) → IsCandidate xs choice → 8 + length (content_bits depth xs choice) ≤ candidate_bits depth xs choice
unfolding content_bits candidate_bits
content_len depth xs Constant c = omega (arith, one_at_most depth xs)
content_len depth xs Verbatim c = omega (arith, signed_len depth xs)
content_len depth xs (Fixed order parameter) c =
    let residuals = fixed_residuals order xs in
    let enough : order < length xs = c.1 in
    let n1 = length-append (signed_bits depth (take order xs)) (residual_bits_of parameter residuals) in
    let n2 = signed_len depth (take order xs) ∙ ap (λ n. n * depth) (length-take-le order xs (omega arith)) in
    omega (arith, n1, n2, residual_len parameter residuals)
content_len depth xs (Linear number parameter) c =
    let set = bank_set number in
    let residuals = linear_residuals set xs in
    let enough : set.order < length xs = c.2 in
    let n1 = length-append (signed_bits depth (take set.order xs)) (set_bits set ++ residual_bits_of parameter residuals) in
    let n2 = signed_len depth (take set.order xs) ∙ ap (λ n. n * depth) (length-take-le set.order xs (omega arith)) in
    let n3 = length-append (set_bits set) (residual_bits_of parameter residuals) in
    omega (arith, n1, n2, n3, set_len set (bank_padded number).enough, residual_len parameter residuals)

subframe_len : (depth : ℕ) (xs : List ℤ) (choice : Choice) → IsCandidate xs choice → length (subframe_bits depth xs choice) ≤ candidate_bits depth xs choice
unfolding subframe_bits
subframe_len depth xs choice c =
    let content = content_bits depth xs choice in
    let n1 = front_len 1 0 (low_bits 6 (kind_of choice) ++ (low_bits 1 0 ++ content)) in
    let n2 = front_len 6 (kind_of choice) (low_bits 1 0 ++ content) in
    let n3 = front_len 1 0 content in
    omega (arith, n1, n2, n3, content_len depth xs choice c)

-- what is known of the choice
pub record KnownChoice : Type 0 where
  pub candidate : BestIsCandidate
  pub light : BestIsLight

best_len : KnownChoice → (most depth : ℕ) (xs : List ℤ) → length xs ≤ 4096 → depth ≤ most → length (best_subframe depth xs) ≤ 8 + 4096 * most
best_len known most depth xs few low =
    let a = subframe_len depth xs (best_candidate depth xs) (known.candidate depth xs) in
    let b = known.light depth xs in
    let m : length xs * depth ≤ 4096 * most = mul-le-mul few low in
    omega (arith, a, b, m)

subframes_len : KnownChoice → (most code depth k : ℕ) (rows : List (List ℤ)) → ((j : ℕ) → depth_of code depth j ≤ most)
    → ((j : ℕ) → j < length rows → length (get_or rows j []) ≤ 4096) → length (subframes_bits code depth k rows) ≤ length rows * (8 + 4096 * most)
unfolding subframes_bits
subframes_len known most code depth k [] low few = omega arith
subframes_len known most code depth k (row ∷ rows) low few =
    let d = depth_of code depth k in
    let one = best_len known most d row (few 0 (omega arith)) (low k) in
    let more = subframes_len known most code depth (suc k) rows low (λ j lt. few (suc j) (omega arith)) in
    let n = length-append (best_subframe d row) (subframes_bits code depth (suc k) rows) in
    omega (arith, n, one, more, suc-mul (length rows) (8 + 4096 * most))

-- ---- bytes

first_len : (count : ℕ) (bits : List Bool) → length (first_bytes count bits) ≡ count
unfolding first_bytes
first_len zero bits = refl
first_len (suc count) bits = ap suc (first_len count _)

bytes_len : (bits : List Bool) → length (bytes_of bits) ≡ length bits / 8
unfolding bytes_of
bytes_len bits = first_len (length bits / 8) bits

packed_len : (bits : List Bool) (most : ℕ) → length bits ≤ 8 * most → length (bytes_of (padded bits)) ≤ most
packed_len bits most le =
    let n = length-append bits (replicate ((8 - length bits % 8) % 8) false) in
    let m : length (replicate ((8 - length bits % 8) % 8) false) ≡ (8 - length bits % 8) % 8 = length-replicate ((8 - length bits % 8) % 8) false in
    let e = bytes_len (padded bits) in
    omega (arith, e, n, m)

more_few : (number : ℕ) (a b c d e : Bool) → (if a then 0 else if b then 1 else if c then 2 else if d then 3 else if e then 4 else 5) ≤ 5
more_few number true b c d e = omega arith
more_few number false true c d e = omega arith
more_few number false false true d e = omega arith
more_few number false false false true e = omega arith
more_few number false false false false true = omega arith
more_few number false false false false false = omega arith

coded_most : (number : ℕ) → length (coded_bits number) ≤ 48
unfolding coded_bits
coded_most number =
    let count = bytes_more number in
    let few : count ≤ 5 = more_few number (nat_lt number (2 ^ 7)) (nat_lt number (2 ^ 11)) (nat_lt number (2 ^ 16)) (nat_lt number (2 ^ 21)) (nat_lt number (2 ^ 26)) in
    let n = front_len 8 (lead_of count + number / 2 ^ (6 * count)) (later_bits count number) in
    omega (arith, few, n, later_len count number)

size_most : (size : ℕ) (b : Bool) → length (if b then [] else low_bits 16 (size - 1)) ≤ 16
size_most size true = omega arith
size_most size false = omega (arith, length-low 16 (size - 1))

header_most : (depth code size number : ℕ) → length (header_bits depth code size number) ≤ 96
unfolding header_bits size_bits
header_most depth code size number =
    let last = coded_bits number ++ (if size == 4096 then [] else low_bits 16 (size - 1)) in
    let b7 = low_bits 1 0 ++ last in
    let b6 = low_bits 3 (bits_code_of depth) ++ b7 in
    let b5 = low_bits 4 code ++ b6 in
    let b4 = low_bits 4 0 ++ b5 in
    let b3 = low_bits 4 (size_code_of size) ++ b4 in
    let b2 = low_bits 1 0 ++ b3 in
    let n8 = length-append (coded_bits number) (if size == 4096 then [] else low_bits 16 (size - 1)) in
    let c = coded_most number in
    let s = size_most size (size == 4096) in
    let n7 = front_len 1 0 last in
    let n6 = front_len 3 (bits_code_of depth) b7 in
    let n5 = front_len 4 code b6 in
    let n4 = front_len 4 0 b5 in
    let n3 = front_len 4 (size_code_of size) b4 in
    let n2 = front_len 1 0 b3 in
    let n1 = front_len 15 0x7FFC b2 in
    omega arith

head_most : (depth code size number : ℕ) → length (head_of depth code size number) ≤ 13
unfolding head_of
head_most depth code size number =
    let header = header_bits depth code size number in
    let n = length-append (bytes_of header) (crc8_of (bytes_of header) ∷ []) in
    omega (arith, n, bytes_len header, header_most depth code size number)

-- ---- the whole frame

depth_by : (bits : ℕ) (a b c d e f : Bool) → bits ≤ 24 → (if a then (if b then bits + 1 else bits) else if c then (if d then bits + 1 else bits) else if e then (if f then bits + 1 else bits) else bits) ≤ 25
depth_by bits true true c d e f le = omega arith
depth_by bits true false c d e f le = omega arith
depth_by bits false b true true e f le = omega arith
depth_by bits false b true false e f le = omega arith
depth_by bits false b false d true true le = omega arith
depth_by bits false b false d true false le = omega arith
depth_by bits false b false d false f le = omega arith

depth_most : (code bits k : ℕ) → bits ≤ 24 → depth_of code bits k ≤ 25
depth_most code bits k le = depth_by bits (code == 8) (k == 1) (code == 9) (k == 0) (code == 10) (k == 1) le

frame_most : (depth code size number : ℕ) (subframes : List Bool) → length subframes ≤ 8 * 98312
    → let body = head_of depth code size number ++ bytes_of (padded subframes) in length (body ++ bytes_high_first 2 (crc16_of body)) ≤ 98400
frame_most depth code size number subframes few =
    let head = head_of depth code size number in
    let packed = bytes_of (padded subframes) in
    let body = head ++ packed in
    let n1 = length-append body (bytes_high_first 2 (crc16_of body)) in
    let n2 = length-append head packed in
    omega (arith, n1, n2, head_most depth code size number, packed_len subframes 98312 few, length-bytes_high_first 2 (crc16_of body))

two_few : (x y : List ℤ) → length x ≤ 4096 → length y ≤ 4096 → (j : ℕ) → j < 2 → length (get_or (x ∷ y ∷ []) j []) ≤ 4096
two_few x y few_x few_y zero lt = few_x
two_few x y few_x few_y (suc zero) lt = few_y
two_few x y few_x few_y (suc (suc j)) lt = absurd (omega arith)

-- subframes of channels, each by itself, and of two
pub plain_most : KnownChoice → (code bits : ℕ) (rows : List (List ℤ)) → code < 8 → bits ≤ 24 → length rows ≤ 8
    → ((j : ℕ) → j < length rows → length (get_or rows j []) ≤ 4096) → length (subframes_bits code bits 0 rows) ≤ 8 * 98312
plain_most known code bits rows lt low eight few =
    let all = subframes_len known 24 code bits 0 rows (λ j. let e = plain_depth code bits j lt in omega (arith, e)) few in
    omega (arith, all)

pub two_most : KnownChoice → (code bits : ℕ) (x y : List ℤ) → bits ≤ 24 → length x ≤ 4096 → length y ≤ 4096 → length (subframes_bits code bits 0 (x ∷ y ∷ [])) ≤ 8 * 98312
two_most known code bits x y low few_x few_y =
    let all = subframes_len known 25 code bits 0 (x ∷ y ∷ []) (λ j. depth_most code bits j low) (two_few x y few_x few_y) in
    omega (arith, all)

all_most : KnownChoice → (info : StreamInfo) (channels : List (List ℤ)) → Stored info (code_of info.bits channels) (size_of channels) channels (stored_by (code_of info.bits channels) channels)
    → info.bits ≤ 24 → info.channels ≤ 8 → size_of channels ≤ 4096 → length channels ≡ info.channels
    → length (subframes_bits (code_of info.bits channels) info.bits 0 (stored_by (code_of info.bits channels) channels)) ≤ 8 * 98312
all_most known info [] h low eight few count = plain_most known 0 info.bits [] (omega arith) low (omega arith) (λ j lt. absurd (omega arith))
all_most known info (mono ∷ []) h low eight few count =
    plain_most known 0 info.bits (mono ∷ []) (omega arith) low (omega arith) (λ j lt. let n = (h.fits j lt).count in omega (arith, n))
all_most known info (left ∷ right ∷ []) h low eight few count =
    let code = code_of info.bits (left ∷ right ∷ []) in
    let a = (h.fits 0 (omega arith)).count in
    let b = (h.fits 1 (omega arith)).count in
    two_most known code info.bits (first_by code left right) (second_by code left right) low (omega (arith, a)) (omega (arith, b))
all_most known info (first ∷ second ∷ third ∷ more) h low eight few count =
    plain_most known (length more + 2) info.bits (first ∷ second ∷ third ∷ more) (omega (arith, count, eight)) low (omega (arith, count, eight)) (λ j lt. let n = (h.fits j lt).count in omega (arith, n))

pub light : KnownChoice → (info : StreamInfo) (channels : List (List ℤ)) (number : ℕ) → Stored info (code_of info.bits channels) (size_of channels) channels (stored_by (code_of info.bits channels) channels)
    → info.bits ≤ 24 → info.channels ≤ 8 → size_of channels ≤ 4096 → length channels ≡ info.channels → length (flac_of channels info number) ≤ 98400
unfolding flac_of
light known info channels number h low eight few count =
    frame_most info.bits (code_of info.bits channels) (size_of channels) number _ (all_most known info channels h low eight few count)
