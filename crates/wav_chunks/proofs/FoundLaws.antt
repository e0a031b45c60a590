-- Laws of the answer, in the words of the shelf.
use Rattle.std.proofs.Common.{◌≡◌, ℕ, List, length, Some, Ok, Err, sym, ap, ◌∙◌, subst}
use Rattle.shelf_core.specs.Told.{Told, IsTold, content}
use Rattle.shelf_reader.specs.declared.error.ReadError.{ReadError}
use Rattle.shelf_reader.specs.declared.error.ReadError.TheVariants.{Fault, Failed, Short, NoMemory}
use Rattle.shelf_reader.specs.Readings.{Answers}
use Rattle.shelf_reader.specs.Seen.{Seen, seen, Sees, IsUnseen}
use Rattle.shelf_reader.specs.SeenLaws.{content_seen}
use Rattle.wav_chunks.specs.declared.layout.WavLayout.{WavLayout}
use Rattle.wav_chunks.specs.declared.why.WavWhy.{WavWhy}
use Rattle.wav_chunks.specs.Found.{wav_error, IsRefusal}
use Rattle.wav_chunks.specs.WaveParts.{wave_in, wave_of}

-- what is known of a file that is told, where it is as long as was said
told-known : (told : Told) (name : List ℕ) (len : ℕ) (known : Seen) → known ≡ seen told name len → IsTold told → len ≡ length (content told name) → known ≡ Some (content told name)
told-known told name len known same is_told long = same ∙ content_seen told name len is_told long

found : (known : Seen) (bytes : List ℕ) (len : ℕ) (layout : WavLayout) → known ≡ Some bytes → len ≡ length bytes → Answers {F = WavWhy} known (wave_in len) (Ok layout) → wave_of bytes ≡ Ok layout
unfolding wave_of Answers Sees
found known bytes len layout is long answer =
    let told : wave_in len bytes ≡ Ok layout = subst (λ (k : Seen). Answers {F = WavWhy} k (wave_in len) (Ok layout)) is answer in
    ap (λ (n : ℕ). wave_in n bytes) (sym long) ∙ told

pub found-known : (told : Told) (name : List ℕ) (len said : ℕ) (known : Seen) (layout : WavLayout) → known ≡ seen told name len → said ≡ len → Answers {F = WavWhy} known (wave_in said) (Ok layout) → IsTold told → len ≡ length (content told name) → wave_of (content told name) ≡ Ok layout
found-known told name len said known layout same is answer is_told long = found known (content told name) said layout (told-known told name len known same is_told long) (is ∙ long) answer

refused : (known : Seen) (bytes : List ℕ) (len : ℕ) (error : ReadError WavWhy) → known ≡ Some bytes → len ≡ length bytes → Answers known (wave_in len) (Err error) → IsRefusal (wave_of bytes) (wav_error error)
unfolding wave_of Answers Sees IsUnseen
refused known bytes len (Fault why) is long answer =
    let told : wave_in len bytes ≡ Err why = subst (λ (k : Seen). Answers k (wave_in len) (Err (Fault why))) is answer in
    ap (λ (n : ℕ). wave_in n bytes) (sym long) ∙ told
refused known bytes len (Short now) is long answer = no-end known bytes is answer
  where
    no-end : (k : Seen) (b : List ℕ) → k ≡ Some b → IsUnseen k → ⊥
    no-end k b e unseen = subst IsUnseen e unseen
refused known bytes len Failed is long answer = tt
refused known bytes len NoMemory is long answer = tt

pub found-refused : (told : Told) (name : List ℕ) (len said : ℕ) (known : Seen) (error : ReadError WavWhy) → known ≡ seen told name len → said ≡ len → Answers known (wave_in said) (Err error) → IsTold told → len ≡ length (content told name) → IsRefusal (wave_of (content told name)) (wav_error error)
found-refused told name len said known error same is answer is_told long = refused known (content told name) said error (told-known told name len known same is_told long) (is ∙ long) answer
