-- Laws of the outline, in the words of the shelf.
use Rattle.std.proofs.Common.{◌≡◌, ℕ, List, length, Some, Ok, Err, sym, ap, ◌∙◌, subst}
use Rattle.shelf_core.specs.Told.{Told, IsTold, content}
use Rattle.shelf_reader.specs.declared.error.ReadError.{ReadError}
use Rattle.shelf_reader.specs.declared.error.ReadError.TheVariants.{Fault, Failed, Short, NoMemory}
use Rattle.shelf_reader.specs.Readings.{looks, Answers}
use Rattle.shelf_reader.specs.Seen.{Seen, seen, Sees, IsUnseen}
use Rattle.shelf_reader.specs.SeenLaws.{content_seen}
use Rattle.matroska_read.specs.Answered.{outline_error, IsRefusal}
use Rattle.matroska_read.specs.Outline.{places_in, places_of}
use Rattle.matroska_read.specs.Places.{Places}
use Rattle.matroska_read.specs.declared.error.OutlineFault.{OutlineFault}
use Rattle.matroska_read.specs.declared.error.OutlineFault.TheVariants as faults

-- what is known of a file that is told, where it is as long as was said
told-known : (told : Told) (name : List ℕ) (len : ℕ) (known : Seen) → known ≡ seen told name len → IsTold told → len ≡ length (content told name) → known ≡ Some (content told name)
told-known told name len known same is_told long = same ∙ content_seen told name len is_told long

outlined : (known : Seen) (bytes : List ℕ) (len : ℕ) (places : Places) → known ≡ Some bytes → len ≡ length bytes → Answers {F = OutlineFault} known (places_in len) (Ok places) → places_of bytes ≡ Ok places
unfolding places_of looks Answers Sees
outlined known bytes len places is long answer = let told : places_in len bytes ≡ Ok places = subst (λ (k : Seen). Answers {F = OutlineFault} k (places_in len) (Ok places)) is answer in ap (λ (n : ℕ). places_in n bytes) (sym long) ∙ told

pub outline-known : (told : Told) (name : List ℕ) (len said : ℕ) (known : Seen) (places : Places) → known ≡ seen told name len → said ≡ len → Answers {F = OutlineFault} known (places_in said) (Ok places) → IsTold told → len ≡ length (content told name) → places_of (content told name) ≡ Ok places
outline-known told name len said known places same is answer is_told long = outlined known (content told name) said places (told-known told name len known same is_told long) (is ∙ long) answer

fault-known : (known : Seen) (bytes : List ℕ) (len : ℕ) (fault : OutlineFault) → known ≡ Some bytes → len ≡ length bytes → Answers known (places_in len) (Err (Fault fault)) → places_of bytes ≡ Err fault
unfolding places_of looks Answers Sees
fault-known known bytes len fault is long answer = let told : places_in len bytes ≡ Err fault = subst (λ (k : Seen). Answers k (places_in len) (Err (Fault fault))) is answer in ap (λ (n : ℕ). places_in n bytes) (sym long) ∙ told

refused : (known : Seen) (bytes : List ℕ) (len : ℕ) (error : ReadError OutlineFault) → known ≡ Some bytes → len ≡ length bytes → Answers known (places_in len) (Err error) → IsRefusal (places_of bytes) (outline_error error)
unfolding Answers IsUnseen
refused known bytes len (Fault (faults.Shape place)) is long answer = fault-known known bytes len (faults.Shape place) is long answer
refused known bytes len (Fault (faults.Encoded track)) is long answer = fault-known known bytes len (faults.Encoded track) is long answer
refused known bytes len (Fault (faults.TrackUnknown track)) is long answer = fault-known known bytes len (faults.TrackUnknown track) is long answer
refused known bytes len (Short now) is long answer = no-end known bytes is answer
  where
    no-end : (k : Seen) (b : List ℕ) → k ≡ Some b → IsUnseen k → ⊥
    no-end k b e unseen = subst IsUnseen e unseen
refused known bytes len Failed is long answer = tt
refused known bytes len NoMemory is long answer = tt

pub outline-refused : (told : Told) (name : List ℕ) (len said : ℕ) (known : Seen) (error : ReadError OutlineFault) → known ≡ seen told name len → said ≡ len → Answers known (places_in said) (Err error) → IsTold told → len ≡ length (content told name) → IsRefusal (places_of (content told name)) (outline_error error)
outline-refused told name len said known error same is answer is_told long = refused known (content told name) said error (told-known told name len known same is_told long) (is ∙ long) answer
