-- A stretch is what its samples and pads make, and holds the samples and pads that it was made of:
-- of each unit, and so of lines and frames.
use Rattle.std.proofs.Common.{◌≡◌, ℕ, ◌+◌, ◌-◌, ◌<◌, List, ◌++◌, length, take, drop, ◌∙◌, ap, arith, length-append, length-drop}
use Rattle.std.proofs.lemmas.List.{take_at, drop_at, take-append-drop, length-take-le}
use Rattle.std.proofs.lemmas.List.Elements.{All-take}
use Rattle.dpx_packing.specs.Blocks.{Form, repeated, with_spare, EachFits}
use Rattle.dpx_packing.specs.Units.{AreBelow}
use Rattle.dpx_packing.proofs.BlockRounds.{length-of_blocks, length-of_pairs, of_pairs-of_blocks, of_blocks-of_pairs, of_pairs-left, of_pairs-right}

pub record Rounds (form : Form) (Fits : List ℕ → List ℕ → Type 0) : Type 0 where
  pub samples_len : (bytes : List ℕ) → length bytes ≡ form.bytes → length (form.samples_of bytes) ≡ form.samples
  pub pads_len : (bytes : List ℕ) → length bytes ≡ form.bytes → length (form.pads_of bytes) ≡ form.pads
  pub bytes_len : (samples pads : List ℕ) → length samples ≡ form.samples → length pads ≡ form.pads → length (form.bytes_of samples pads) ≡ form.bytes
  pub whole : (bytes : List ℕ) → length bytes ≡ form.bytes → AreBelow 256 bytes → form.bytes_of (form.samples_of bytes) (form.pads_of bytes) ≡ bytes
  pub samples : (samples pads : List ℕ) → length samples ≡ form.samples → length pads ≡ form.pads → Fits samples pads → form.samples_of (form.bytes_of samples pads) ≡ samples
  pub pads : (samples pads : List ℕ) → length samples ≡ form.samples → length pads ≡ form.pads → Fits samples pads → form.pads_of (form.bytes_of samples pads) ≡ pads

pub repeated-rounds : (form : Form) (Fits : List ℕ → List ℕ → Type 0) (count : ℕ) → Rounds form Fits
    → Rounds (repeated form count) (EachFits Fits form count)
repeated-rounds form Fits count each =
    record {
      samples_len = λ bytes long. length-of_blocks form.samples_of form.bytes form.samples each.samples_len count bytes long;
      pads_len = λ bytes long. length-of_blocks form.pads_of form.bytes form.pads each.pads_len count bytes long;
      bytes_len = λ samples pads samples_long pads_long. length-of_pairs form.bytes_of form.samples form.pads form.bytes each.bytes_len count samples pads samples_long pads_long;
      whole = λ bytes long below. of_pairs-of_blocks (λ b. b < 256) form.samples_of form.pads_of form.bytes_of form.samples form.pads form.bytes each.samples_len each.pads_len each.whole count bytes long below;
      samples = λ samples pads samples_long pads_long fits.
          of_blocks-of_pairs Fits form.samples_of form.bytes_of (λ x y. x) form.samples form.pads form.bytes each.bytes_len each.samples count samples pads samples_long pads_long fits
          ∙ of_pairs-left form.samples form.pads count samples pads samples_long;
      pads = λ samples pads samples_long pads_long fits.
          of_blocks-of_pairs Fits form.pads_of form.bytes_of (λ x y. y) form.samples form.pads form.bytes each.bytes_len each.pads count samples pads samples_long pads_long fits
          ∙ of_pairs-right form.samples form.pads count samples pads pads_long;
    }

-- of a list of so many items and some more
pub front-len : (n more : ℕ) (xs : List ℕ) → length xs ≡ n + more → length (take n xs) ≡ n
front-len n more xs long = length-take-le n xs (omega arith)

back-len : (n more : ℕ) (xs : List ℕ) → length xs ≡ n + more → length (drop n xs) ≡ more
back-len n more xs long =
    let e : length (drop n xs) ≡ length xs - n = length-drop n xs in
    omega arith

joined-len : (n more : ℕ) (xs ys : List ℕ) → length xs ≡ n → length ys ≡ more → length (xs ++ ys) ≡ n + more
joined-len n more xs ys long_xs long_ys =
    let e : length (xs ++ ys) ≡ length xs + length ys = length-append xs ys in
    omega arith

pub with_spare-rounds : (form : Form) (Fits : List ℕ → List ℕ → Type 0) (spare : ℕ) → Rounds form Fits
    → Rounds (with_spare form spare) (λ samples pads. Fits samples (take form.pads pads))
with_spare-rounds form Fits spare each =
    record {
      samples_len = λ bytes long. each.samples_len (take form.bytes bytes) (front-len form.bytes spare bytes long);
      pads_len = λ bytes long.
          joined-len form.pads spare (form.pads_of (take form.bytes bytes)) (drop form.bytes bytes)
          (each.pads_len (take form.bytes bytes) (front-len form.bytes spare bytes long)) (back-len form.bytes spare bytes long);
      bytes_len = λ samples pads samples_long pads_long.
          joined-len form.bytes spare (form.bytes_of samples (take form.pads pads)) (drop form.pads pads)
          (each.bytes_len samples (take form.pads pads) samples_long (front-len form.pads spare pads pads_long)) (back-len form.pads spare pads pads_long);
      whole = λ bytes long below.
          let front : List ℕ = take form.bytes bytes in
          let back : List ℕ = drop form.bytes bytes in
          let front_long : length front ≡ form.bytes = front-len form.bytes spare bytes long in
          let held : length (form.pads_of front) ≡ form.pads = each.pads_len front front_long in
          ap (λ l. form.bytes_of (form.samples_of front) l ++ drop form.pads (form.pads_of front ++ back)) (take_at (form.pads_of front) back form.pads held)
          ∙ ap (λ l. form.bytes_of (form.samples_of front) (form.pads_of front) ++ l) (drop_at (form.pads_of front) back form.pads held)
          ∙ ap (λ l. l ++ back) (each.whole front front_long (All-take (λ b. b < 256) form.bytes bytes below))
          ∙ take-append-drop form.bytes bytes;
      samples = λ samples pads samples_long pads_long fits.
          let held : List ℕ = take form.pads pads in
          let held_long : length held ≡ form.pads = front-len form.pads spare pads pads_long in
          ap form.samples_of (take_at (form.bytes_of samples held) (drop form.pads pads) form.bytes (each.bytes_len samples held samples_long held_long))
          ∙ each.samples samples held samples_long held_long fits;
      pads = λ samples pads samples_long pads_long fits.
          let held : List ℕ = take form.pads pads in
          let held_long : length held ≡ form.pads = front-len form.pads spare pads pads_long in
          let made : List ℕ = form.bytes_of samples held in
          let made_long : length made ≡ form.bytes = each.bytes_len samples held samples_long held_long in
          ap (λ l. form.pads_of l ++ drop form.bytes (made ++ drop form.pads pads)) (take_at made (drop form.pads pads) form.bytes made_long)
          ∙ ap (λ l. form.pads_of made ++ l) (drop_at made (drop form.pads pads) form.bytes made_long)
          ∙ ap (λ l. l ++ drop form.pads pads) (each.pads samples held samples_long held_long fits)
          ∙ take-append-drop form.pads pads;
    }
