-- The units of each depth are what their samples and pads make, both ways.
use Rattle.std.proofs.Common.{◌≡◌, ℕ, ◌/◌, ◌%◌, ◌^◌, ◌<◌, Bool, true, false, List, [], ◌∷◌, length, slice_index, refl, sym, ◌∙◌, ap, arith, IsTrue}
use Rattle.std.proofs.lemmas.List.Elements.{All-nil, All-cons}
use Rattle.dpx_header.specs.Layout.{is_depth}
use Rattle.dpx_packing.specs.Blocks.{Form}
use Rattle.dpx_packing.specs.Units.{Order, order_of, unit8, unit10, unit12, unit16, unit_of, word10, word12, samples10, pad_limit, AreBelow, FitUnit}
use Rattle.dpx_packing.proofs.Rounds.{Rounds}
use Rattle.dpx_packing.proofs.Numbers.{each-depth}

-- lists of few items
one-item : (xs : List ℕ) → length xs ≡ 1 → xs ≡ slice_index xs 0 ∷ []
one-item [] long = absurd (omega arith)
one-item (x ∷ []) long = refl
one-item (x ∷ y ∷ xs) long = absurd (omega arith)

two-items : (xs : List ℕ) → length xs ≡ 2 → xs ≡ slice_index xs 0 ∷ slice_index xs 1 ∷ []
two-items [] long = absurd (omega arith)
two-items (x ∷ []) long = absurd (omega arith)
two-items (x ∷ y ∷ []) long = refl
two-items (x ∷ y ∷ z ∷ xs) long = absurd (omega arith)

three-items : (xs : List ℕ) → length xs ≡ 3 → xs ≡ slice_index xs 0 ∷ slice_index xs 1 ∷ slice_index xs 2 ∷ []
three-items [] long = absurd (omega arith)
three-items (x ∷ []) long = absurd (omega arith)
three-items (x ∷ y ∷ []) long = absurd (omega arith)
three-items (x ∷ y ∷ z ∷ []) long = refl
three-items (x ∷ y ∷ z ∷ w ∷ xs) long = absurd (omega arith)

four-items : (xs : List ℕ) → length xs ≡ 4
    → xs ≡ slice_index xs 0 ∷ slice_index xs 1 ∷ slice_index xs 2 ∷ slice_index xs 3 ∷ []
four-items [] long = absurd (omega arith)
four-items (x ∷ []) long = absurd (omega arith)
four-items (x ∷ y ∷ []) long = absurd (omega arith)
four-items (x ∷ y ∷ z ∷ []) long = absurd (omega arith)
four-items (x ∷ y ∷ z ∷ w ∷ []) long = refl
four-items (x ∷ y ∷ z ∷ w ∷ v ∷ xs) long = absurd (omega arith)

-- what holds of words of two and four bytes in a byte order
pub record IsOrder (order : Order) : Type 0 where
  pub two_len : (number : ℕ) → length (order.bytes_of 2 number) ≡ 2
  pub four_len : (number : ℕ) → length (order.bytes_of 4 number) ≡ 4
  pub two_below : (xs : List ℕ) → AreBelow 256 xs → length xs ≡ 2 → order.number_of 2 xs < 65536
  pub four_below : (xs : List ℕ) → AreBelow 256 xs → length xs ≡ 4 → order.number_of 4 xs < 4294967296
  pub two_read : (number : ℕ) → number < 65536 → order.number_of 2 (order.bytes_of 2 number) ≡ number
  pub four_read : (number : ℕ) → number < 4294967296 → order.number_of 4 (order.bytes_of 4 number) ≡ number
  pub two_back : (xs : List ℕ) → AreBelow 256 xs → length xs ≡ 2 → order.bytes_of 2 (order.number_of 2 xs) ≡ xs
  pub four_back : (xs : List ℕ) → AreBelow 256 xs → length xs ≡ 4 → order.bytes_of 4 (order.number_of 4 xs) ≡ xs

-- an item of numbers below a limit
item-below : (limit : ℕ) (xs : List ℕ) (i : ℕ) → AreBelow limit xs → i < length xs → slice_index xs i < limit
item-below limit xs i below low = below i 0 low

two-equal : (a b c d : ℕ) → a ≡ c → b ≡ d → a ∷ b ∷ [] ≡ c ∷ d ∷ []
two-equal a b c d e f = cc

four-equal : (a b c d a' b' c' d' : ℕ) → a ≡ a' → b ≡ b' → c ≡ c' → d ≡ d' → a ∷ b ∷ c ∷ d ∷ [] ≡ a' ∷ b' ∷ c' ∷ d' ∷ []
four-equal a b c d a' b' c' d' e f g h = cc

big-order : IsOrder (order_of true)
big-order =
    record {
      two_len = λ number. refl;
      four_len = λ number. refl;
      two_below = λ xs below long.
          let a : slice_index xs 0 < 256 = item-below 256 xs 0 below (omega arith) in
          let b : slice_index xs 1 < 256 = item-below 256 xs 1 below (omega arith) in
          omega arith;
      four_below = λ xs below long.
          let a : slice_index xs 0 < 256 = item-below 256 xs 0 below (omega arith) in
          let b : slice_index xs 1 < 256 = item-below 256 xs 1 below (omega arith) in
          let c : slice_index xs 2 < 256 = item-below 256 xs 2 below (omega arith) in
          let d : slice_index xs 3 < 256 = item-below 256 xs 3 below (omega arith) in
          omega arith;
      two_read = λ number low. omega arith;
      four_read = λ number low. omega arith;
      two_back = λ xs below long.
          let a : slice_index xs 0 < 256 = item-below 256 xs 0 below (omega arith) in
          let b : slice_index xs 1 < 256 = item-below 256 xs 1 below (omega arith) in
          two-equal _ _ _ _ (omega arith) (omega arith) ∙ sym (two-items xs long);
      four_back = λ xs below long.
          let a : slice_index xs 0 < 256 = item-below 256 xs 0 below (omega arith) in
          let b : slice_index xs 1 < 256 = item-below 256 xs 1 below (omega arith) in
          let c : slice_index xs 2 < 256 = item-below 256 xs 2 below (omega arith) in
          let d : slice_index xs 3 < 256 = item-below 256 xs 3 below (omega arith) in
          four-equal _ _ _ _ _ _ _ _ (omega arith) (omega arith) (omega arith) (omega arith) ∙ sym (four-items xs long);
    }

little-order : IsOrder (order_of false)
little-order =
    record {
      two_len = λ number. refl;
      four_len = λ number. refl;
      two_below = λ xs below long.
          let a : slice_index xs 0 < 256 = item-below 256 xs 0 below (omega arith) in
          let b : slice_index xs 1 < 256 = item-below 256 xs 1 below (omega arith) in
          omega arith;
      four_below = λ xs below long.
          let a : slice_index xs 0 < 256 = item-below 256 xs 0 below (omega arith) in
          let b : slice_index xs 1 < 256 = item-below 256 xs 1 below (omega arith) in
          let c : slice_index xs 2 < 256 = item-below 256 xs 2 below (omega arith) in
          let d : slice_index xs 3 < 256 = item-below 256 xs 3 below (omega arith) in
          omega arith;
      two_read = λ number low. omega arith;
      four_read = λ number low. omega arith;
      two_back = λ xs below long.
          let a : slice_index xs 0 < 256 = item-below 256 xs 0 below (omega arith) in
          let b : slice_index xs 1 < 256 = item-below 256 xs 1 below (omega arith) in
          two-equal _ _ _ _ (omega arith) (omega arith) ∙ sym (two-items xs long);
      four_back = λ xs below long.
          let a : slice_index xs 0 < 256 = item-below 256 xs 0 below (omega arith) in
          let b : slice_index xs 1 < 256 = item-below 256 xs 1 below (omega arith) in
          let c : slice_index xs 2 < 256 = item-below 256 xs 2 below (omega arith) in
          let d : slice_index xs 3 < 256 = item-below 256 xs 3 below (omega arith) in
          four-equal _ _ _ _ _ _ _ _ (omega arith) (omega arith) (omega arith) (omega arith) ∙ sym (four-items xs long);
    }

order-is : (big : Bool) → IsOrder (order_of big)
order-is true = big-order
order-is false = little-order

no-items : (xs : List ℕ) → length xs ≡ 0 → [] ≡ xs
no-items [] long = refl
no-items (x ∷ xs) long = absurd (omega arith)

unit8-rounds : Rounds unit8 (FitUnit (2 ^ 8) (pad_limit 8))
unit8-rounds =
    record {
      samples_len = λ bytes long. long;
      pads_len = λ bytes long. refl;
      bytes_len = λ samples pads samples_long pads_long. samples_long;
      whole = λ bytes long below. refl;
      samples = λ samples pads samples_long pads_long fits. refl;
      pads = λ samples pads samples_long pads_long fits. no-items pads pads_long;
    }

-- the parts of a word of 10 bits
word10-again : (word : ℕ) → word10 (samples10 word) (word % 4 ∷ []) ≡ word
word10-again word = omega arith

word10-below : (samples pads : List ℕ) → length samples ≡ 3 → length pads ≡ 1 → FitUnit 1024 4 samples pads
    → word10 samples pads < 4294967296
word10-below samples pads samples_long pads_long fits =
    let r : slice_index samples 0 < 1024 = item-below 1024 samples 0 fits.0 (omega arith) in
    let g : slice_index samples 1 < 1024 = item-below 1024 samples 1 fits.0 (omega arith) in
    let b : slice_index samples 2 < 1024 = item-below 1024 samples 2 fits.0 (omega arith) in
    let p : slice_index pads 0 < 4 = item-below 4 pads 0 fits.1 (omega arith) in
    omega arith

three-equal : (a b c a' b' c' : ℕ) → a ≡ a' → b ≡ b' → c ≡ c' → a ∷ b ∷ c ∷ [] ≡ a' ∷ b' ∷ c' ∷ []
three-equal a b c a' b' c' e f g = cc

samples10-again : (samples pads : List ℕ) → length samples ≡ 3 → length pads ≡ 1 → FitUnit 1024 4 samples pads
    → samples10 (word10 samples pads) ≡ samples
samples10-again samples pads samples_long pads_long fits =
    let r : slice_index samples 0 < 1024 = item-below 1024 samples 0 fits.0 (omega arith) in
    let g : slice_index samples 1 < 1024 = item-below 1024 samples 1 fits.0 (omega arith) in
    let b : slice_index samples 2 < 1024 = item-below 1024 samples 2 fits.0 (omega arith) in
    let p : slice_index pads 0 < 4 = item-below 4 pads 0 fits.1 (omega arith) in
    three-equal _ _ _ _ _ _ (omega arith) (omega arith) (omega arith) ∙ sym (three-items samples samples_long)

pads10-again : (samples pads : List ℕ) → length samples ≡ 3 → length pads ≡ 1 → FitUnit 1024 4 samples pads
    → word10 samples pads % 4 ∷ [] ≡ pads
pads10-again samples pads samples_long pads_long fits =
    let p : slice_index pads 0 < 4 = item-below 4 pads 0 fits.1 (omega arith) in
    let e : word10 samples pads % 4 ≡ slice_index pads 0 = omega arith in
    ap (λ n. n ∷ []) e ∙ sym (one-item pads pads_long)

unit10-rounds : (order : Order) → IsOrder order → Rounds (unit10 order) (FitUnit (2 ^ 10) (pad_limit 10))
unit10-rounds order is =
    record {
      samples_len = λ bytes long. refl;
      pads_len = λ bytes long. refl;
      bytes_len = λ samples pads samples_long pads_long. is.four_len (word10 samples pads);
      whole = λ bytes long below. ap (order.bytes_of 4) (word10-again (order.number_of 4 bytes)) ∙ is.four_back bytes below long;
      samples = λ samples pads samples_long pads_long fits.
          ap samples10 (is.four_read (word10 samples pads) (word10-below samples pads samples_long pads_long fits))
          ∙ samples10-again samples pads samples_long pads_long fits;
      pads = λ samples pads samples_long pads_long fits.
          ap (λ n. n % 4 ∷ []) (is.four_read (word10 samples pads) (word10-below samples pads samples_long pads_long fits))
          ∙ pads10-again samples pads samples_long pads_long fits;
    }

-- the parts of a word of 12 bits
word12-again : (word : ℕ) → word12 (word / 16 ∷ []) (word % 16 ∷ []) ≡ word
word12-again word = omega arith

word12-below : (samples pads : List ℕ) → length samples ≡ 1 → length pads ≡ 1 → FitUnit 4096 16 samples pads
    → word12 samples pads < 65536
word12-below samples pads samples_long pads_long fits =
    let s : slice_index samples 0 < 4096 = item-below 4096 samples 0 fits.0 (omega arith) in
    let p : slice_index pads 0 < 16 = item-below 16 pads 0 fits.1 (omega arith) in
    omega arith

samples12-again : (samples pads : List ℕ) → length samples ≡ 1 → length pads ≡ 1 → FitUnit 4096 16 samples pads
    → word12 samples pads / 16 ∷ [] ≡ samples
samples12-again samples pads samples_long pads_long fits =
    let p : slice_index pads 0 < 16 = item-below 16 pads 0 fits.1 (omega arith) in
    let e : word12 samples pads / 16 ≡ slice_index samples 0 = omega arith in
    ap (λ n. n ∷ []) e ∙ sym (one-item samples samples_long)

pads12-again : (samples pads : List ℕ) → length samples ≡ 1 → length pads ≡ 1 → FitUnit 4096 16 samples pads
    → word12 samples pads % 16 ∷ [] ≡ pads
pads12-again samples pads samples_long pads_long fits =
    let p : slice_index pads 0 < 16 = item-below 16 pads 0 fits.1 (omega arith) in
    let e : word12 samples pads % 16 ≡ slice_index pads 0 = omega arith in
    ap (λ n. n ∷ []) e ∙ sym (one-item pads pads_long)

unit12-rounds : (order : Order) → IsOrder order → Rounds (unit12 order) (FitUnit (2 ^ 12) (pad_limit 12))
unit12-rounds order is =
    record {
      samples_len = λ bytes long. refl;
      pads_len = λ bytes long. refl;
      bytes_len = λ samples pads samples_long pads_long. is.two_len (word12 samples pads);
      whole = λ bytes long below. ap (order.bytes_of 2) (word12-again (order.number_of 2 bytes)) ∙ is.two_back bytes below long;
      samples = λ samples pads samples_long pads_long fits.
          ap (λ n. n / 16 ∷ []) (is.two_read (word12 samples pads) (word12-below samples pads samples_long pads_long fits))
          ∙ samples12-again samples pads samples_long pads_long fits;
      pads = λ samples pads samples_long pads_long fits.
          ap (λ n. n % 16 ∷ []) (is.two_read (word12 samples pads) (word12-below samples pads samples_long pads_long fits))
          ∙ pads12-again samples pads samples_long pads_long fits;
    }

unit16-rounds : (order : Order) → IsOrder order → Rounds (unit16 order) (FitUnit (2 ^ 16) (pad_limit 16))
unit16-rounds order is =
    record {
      samples_len = λ bytes long. refl;
      pads_len = λ bytes long. refl;
      bytes_len = λ samples pads samples_long pads_long. is.two_len (slice_index samples 0);
      whole = λ bytes long below. is.two_back bytes below long;
      samples = λ samples pads samples_long pads_long fits.
          let low : slice_index samples 0 < 65536 = item-below 65536 samples 0 fits.0 (omega arith) in
          ap (λ n. n ∷ []) (is.two_read (slice_index samples 0) low) ∙ sym (one-item samples samples_long);
      pads = λ samples pads samples_long pads_long fits. no-items pads pads_long;
    }

pub unit-rounds : (big : Bool) (bits : ℕ) → IsTrue (is_depth bits)
    → Rounds (unit_of big bits) (FitUnit (2 ^ bits) (pad_limit bits))
unit-rounds big bits depth =
    each-depth (λ n. Rounds (unit_of big n) (FitUnit (2 ^ n) (pad_limit n)))
    unit8-rounds
    (unit10-rounds (order_of big) (order-is big))
    (unit12-rounds (order_of big) (order-is big))
    (unit16-rounds (order_of big) (order-is big))
    bits depth

-- the samples and the pads of a unit are below their limits
pub record IsBelow (form : Form) (sample_limit pads_limit : ℕ) : Type 0 where
  pub samples : (bytes : List ℕ) → length bytes ≡ form.bytes → AreBelow 256 bytes → AreBelow sample_limit (form.samples_of bytes)
  pub pads : (bytes : List ℕ) → length bytes ≡ form.bytes → AreBelow 256 bytes → AreBelow pads_limit (form.pads_of bytes)

none-below : (limit : ℕ) → AreBelow limit []
none-below limit = All-nil (λ x. x < limit)

one-below : (limit a : ℕ) → a < limit → AreBelow limit (a ∷ [])
one-below limit a low = All-cons (λ n. n < limit) a [] low (none-below limit)

three-below : (limit a b c : ℕ) → a < limit → b < limit → c < limit → AreBelow limit (a ∷ b ∷ c ∷ [])
three-below limit a b c low_a low_b low_c =
    All-cons (λ n. n < limit) a (b ∷ c ∷ []) low_a (All-cons (λ n. n < limit) b (c ∷ []) low_b (one-below limit c low_c))

unit8-below : IsBelow unit8 (2 ^ 8) (pad_limit 8)
unit8-below = record { samples = λ bytes long below. below; pads = λ bytes long below. none-below 16 }

unit10-below : (order : Order) → IsOrder order → IsBelow (unit10 order) (2 ^ 10) (pad_limit 10)
unit10-below order is =
    record {
      samples = λ bytes long below.
          let word : order.number_of 4 bytes < 4294967296 = is.four_below bytes below long in
          three-below 1024 (order.number_of 4 bytes / 2 ^ 22) (order.number_of 4 bytes / 2 ^ 12 % 2 ^ 10) (order.number_of 4 bytes / 4 % 2 ^ 10) (omega arith) (omega arith) (omega arith);
      pads = λ bytes long below. one-below 4 (order.number_of 4 bytes % 4) (omega arith);
    }

unit12-below : (order : Order) → IsOrder order → IsBelow (unit12 order) (2 ^ 12) (pad_limit 12)
unit12-below order is =
    record {
      samples = λ bytes long below.
          let word : order.number_of 2 bytes < 65536 = is.two_below bytes below long in
          one-below 4096 (order.number_of 2 bytes / 16) (omega arith);
      pads = λ bytes long below. one-below 16 (order.number_of 2 bytes % 16) (omega arith);
    }

unit16-below : (order : Order) → IsOrder order → IsBelow (unit16 order) (2 ^ 16) (pad_limit 16)
unit16-below order is =
    record {
      samples = λ bytes long below. one-below 65536 (order.number_of 2 bytes) (is.two_below bytes below long);
      pads = λ bytes long below. none-below 16;
    }

pub unit-below : (big : Bool) (bits : ℕ) → IsTrue (is_depth bits)
    → IsBelow (unit_of big bits) (2 ^ bits) (pad_limit bits)
unit-below big bits depth =
    each-depth (λ n. IsBelow (unit_of big n) (2 ^ n) (pad_limit n))
    unit8-below
    (unit10-below (order_of big) (order-is big))
    (unit12-below (order_of big) (order-is big))
    (unit16-below (order_of big) (order-is big))
    bits depth
