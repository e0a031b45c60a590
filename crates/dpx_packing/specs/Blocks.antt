-- What a stretch of an image holds, and stretches made of shorter ones: blocks of one length, one
-- after the other.
use Rattle.std.specs.Prelude.{◌≡◌, ℕ, zero, suc, ◌+◌, ◌*◌, ◌<◌, List, [], ◌++◌, length, take, drop}

-- The bytes, samples and pads of a stretch: how many of each, the samples and the pads that its
-- bytes hold, and the bytes that hold these samples and pads.
pub record Form : Type 0 where
  pub bytes : ℕ
  pub samples : ℕ
  pub pads : ℕ
  pub samples_of : List ℕ → List ℕ
  pub pads_of : List ℕ → List ℕ
  pub bytes_of : List ℕ → List ℕ → List ℕ

-- what each of the first `count` blocks of so many items holds, one after the other
unfoldable pub of_blocks : (List ℕ → List ℕ) → ℕ → ℕ → List ℕ → List ℕ
of_blocks part size zero xs = []
of_blocks part size (suc count) xs = part (take size xs) ++ of_blocks part size count (drop size xs)

-- what the blocks of two lists hold, pair by pair
unfoldable pub of_pairs : (List ℕ → List ℕ → List ℕ) → ℕ → ℕ → ℕ → List ℕ → List ℕ → List ℕ
of_pairs whole left right zero xs ys = []
of_pairs whole left right (suc count) xs ys =
    whole (take left xs) (take right ys) ++ of_pairs whole left right count (drop left xs) (drop right ys)

-- so many stretches of a form, one after the other
abbrev pub repeated : Form → ℕ → Form
repeated form count =
    record {
      bytes = count * form.bytes;
      samples = count * form.samples;
      pads = count * form.pads;
      samples_of = λ bytes. of_blocks form.samples_of form.bytes count bytes;
      pads_of = λ bytes. of_blocks form.pads_of form.bytes count bytes;
      bytes_of = λ samples pads. of_pairs form.bytes_of form.samples form.pads count samples pads;
    }

-- a stretch with so many more bytes behind it, each of which is a pad
abbrev pub with_spare : Form → ℕ → Form
with_spare form spare =
    record {
      bytes = form.bytes + spare;
      samples = form.samples;
      pads = form.pads + spare;
      samples_of = λ bytes. form.samples_of (take form.bytes bytes);
      pads_of = λ bytes. form.pads_of (take form.bytes bytes) ++ drop form.bytes bytes;
      bytes_of = λ samples pads. form.bytes_of samples (take form.pads pads) ++ drop form.pads pads;
    }

-- the lists have the lengths of the form
pub record HaveLengths (form : Form) (bytes samples pads : List ℕ) : Type 0 where
  pub of_bytes : length bytes ≡ form.bytes
  pub of_samples : length samples ≡ form.samples
  pub of_pads : length pads ≡ form.pads

-- a fact of samples and pads that holds of each of the first `count` pairs of blocks
abbrev pub EachFits : (List ℕ → List ℕ → Type 0) → Form → ℕ → List ℕ → List ℕ → Type 0
EachFits Fits form count samples pads =
    (k : ℕ) → k < count → Fits (take form.samples (drop (k * form.samples) samples)) (take form.pads (drop (k * form.pads) pads))
