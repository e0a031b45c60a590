-- The samples of one channel, and those of the others.
use Rattle.std.proofs.Common.{◌≡◌, ℕ, suc, ◌+◌, ◌-◌, ◌*◌, ◌<◌, ◌≤◌, ℤ, List, ◌++◌, length, length-append, length-drop, take, drop, refl, sym, ap, ◌∙◌, arith, append_assoc}
use Rattle.std.proofs.Math.Nat.{mul-le-mul_right, suc-mul}
use Rattle.std.proofs.lemmas.List.{take_all, take-take, take_at, drop_at, drop-drop, length-take-le, drop-take}
use Rattle.flac_frame.specs.Samples.{stretch, channel_of, written_at}
use Rattle.flac_frame.specs.Laws.{ChannelIsWritten}

-- numbers written over as many others
abbrev written : ℕ → List ℤ → List ℤ → List ℤ
written at xs ws = take (length xs) (take at xs ++ (ws ++ drop (length ws) (drop at xs)))

whole : (at : ℕ) (xs ws : List ℤ) → at + length ws ≤ length xs → written at xs ws ≡ take at xs ++ (ws ++ drop (at + length ws) xs)
whole at xs ws le =
    let rest = drop (length ws) (drop at xs) in
    let all = take at xs ++ (ws ++ rest) in
    let front : length (take at xs) ≡ at = length-take-le at xs (omega arith) in
    let len : length all ≡ length xs =
    length-append (take at xs) (ws ++ rest) ∙ ap (λ n. n + length (ws ++ rest)) front ∙ ap (λ n. at + n) (length-append ws rest)
    ∙ omega (arith, length-drop (length ws) (drop at xs), length-drop at xs) in
    take_all (length xs) all (omega arith) ∙ ap (λ r. take at xs ++ (ws ++ r)) (drop-drop (length ws) at xs)

kept : (at : ℕ) (xs ws : List ℤ) → at + length ws ≤ length xs → length (take at xs ++ (ws ++ drop (at + length ws) xs)) ≡ length xs
kept at xs ws le =
    length-append (take at xs) (ws ++ drop (at + length ws) xs) ∙ ap (λ n. n + length (ws ++ drop (at + length ws) xs)) (length-take-le at xs (omega arith))
    ∙ ap (λ n. at + n) (length-append ws (drop (at + length ws) xs)) ∙ omega (arith, length-drop (at + length ws) xs)

at_its_place : (at : ℕ) (xs ws : List ℤ) → at + length ws ≤ length xs → take (length ws) (drop at (written at xs ws)) ≡ ws
at_its_place at xs ws le =
    let front : length (take at xs) ≡ at = length-take-le at xs (omega arith) in
    ap (λ ys. take (length ws) (drop at ys)) (whole at xs ws le)
    ∙ ap (take (length ws)) (drop_at (take at xs) (ws ++ drop (at + length ws) xs) at front)
    ∙ take_at ws (drop (at + length ws) xs) (length ws) refl

before : (at i n : ℕ) (xs ws : List ℤ) → at + length ws ≤ length xs → i + n ≤ at → take n (drop i (written at xs ws)) ≡ take n (drop i xs)
before at i n xs ws le low =
    let front : take at (written at xs ws) ≡ take at xs = ap (take at) (whole at xs ws le) ∙ take_at (take at xs) (ws ++ drop (at + length ws) xs) at (length-take-le at xs (omega arith)) in
    let same : take (i + n) (written at xs ws) ≡ take (i + n) xs = sym (take-take (i + n) at (written at xs ws) low) ∙ ap (take (i + n)) front ∙ take-take (i + n) at xs low in
    sym (drop-take i n (written at xs ws)) ∙ ap (drop i) same ∙ drop-take i n xs

behind : (at i n : ℕ) (xs ws : List ℤ) → at + length ws ≤ length xs → at + length ws ≤ i → take n (drop i (written at xs ws)) ≡ take n (drop i xs)
behind at i n xs ws le high =
    let seam = at + length ws in
    let more : seam + (i - seam) ≡ i = omega arith in
    let front : length (take at xs ++ ws) ≡ seam = length-append (take at xs) ws ∙ ap (λ m. m + length ws) (length-take-le at xs (omega arith)) in
    let tail : drop seam (written at xs ws) ≡ drop seam xs =
    ap (drop seam) (whole at xs ws le ∙ sym (append_assoc (take at xs) ws (drop seam xs))) ∙ drop_at (take at xs ++ ws) (drop seam xs) seam front in
    let step : (ys : List ℤ) → drop i ys ≡ drop (i - seam) (drop seam ys) = λ ys. ap (λ m. drop m ys) (sym more) ∙ sym (drop-drop (i - seam) seam ys) in
    ap (take n) (step (written at xs ws) ∙ ap (drop (i - seam)) tail ∙ sym (step xs))

-- a stretch stands behind those before it
next_stretch : (room j k : ℕ) → j < k → j * room + room ≤ k * room
next_stretch room j k lt =
    let more : suc j * room ≤ k * room = mul-le-mul_right room lt in
    let step : suc j * room ≡ j * room + room = suc-mul j room in
    omega arith

range_len : (start len : ℕ) → (start + len) - start ≡ len
range_len start len = omega arith

pub channel_is_written : ChannelIsWritten
unfolding channel_of stretch written_at
channel_is_written block k samples is lt same =
    let room = block.capacity in
    let start = k * room in
    let next = next_stretch room k block.channels lt in
    let all = is.room in
    let within = is.within in
    let le : start + length samples ≤ length block.samples = omega arith in
    record {
      block = record { within = is.within; room = ap length (whole start block.samples samples le) ∙ kept start block.samples samples le ∙ is.room };
      itself = ap (λ n. take n (drop start (written start block.samples samples))) (range_len start block.len ∙ sym same) ∙ at_its_place start block.samples samples le;
      before = λ j below. let step = next_stretch room j k below in before start (j * room) (j * room + block.len - j * room) block.samples samples le (omega arith);
      behind = λ j above. let step = next_stretch room k j above in behind start (j * room) (j * room + block.len - j * room) block.samples samples le (omega arith);
    }
