-- Laws of an outline by its places and by its values: what is looked up in the one stands at what is looked up in the other.
use Rattle.std.proofs.Common.{◌≡◌, ℕ, Bool, true, false, if◌then◌else◌, List, [], ◌∷◌, map, Option, Some, None, refl, sym, ap, ◌∙◌}
use Rattle.std.specs.Option.{option_map}
use Rattle.cook_bits.specs.Names.{is_same_name}
use Rattle.reversal.specs.declared.record.FileRecord.{FileRecord}
use Rattle.cook_restore.specs.Contents.{side_of, others_of, attached_as, place_or, content_place, content_found}
use Rattle.cook_restore.specs.Meaning.{side_seen, others_seen, seen_as, content_of_file, content_meant}
use Rattle.matroska_read.specs.Places.{Places, Attached, bytes_at, attached_at, outline_at}
use Rattle.matroska_read.specs.declared.files.FileAt.{FileAt}

-- ---- looked up among the files

chosen-first : (here : Bool) (bytes : List ℕ) (file : FileAt) (seen : Option Attached) (rest : Option FileAt) → seen ≡ option_map (attached_at bytes) rest → (if here then Some (attached_at bytes file) else seen) ≡ option_map (attached_at bytes) (if here then Some file else rest)
chosen-first true bytes file seen rest is = refl
chosen-first false bytes file seen rest is = is

-- the side data is seen at its place
pub side-seen : (bytes : List ℕ) (files : List FileAt) → side_seen (map (attached_at bytes) files) ≡ option_map (attached_at bytes) (side_of files)
unfolding side_seen side_of
side-seen bytes [] = refl
side-seen bytes (file ∷ files) = chosen-first file.side bytes file (side_seen (map (attached_at bytes) files)) (side_of files) (side-seen bytes files)

without-first : (here : Bool) (bytes : List ℕ) (file : FileAt) (files others : List FileAt) (seen : List Attached) → seen ≡ map (attached_at bytes) others
    → (if here then map (attached_at bytes) files else attached_at bytes file ∷ seen) ≡ map (attached_at bytes) (if here then files else file ∷ others)
without-first true bytes file files others seen is = refl
without-first false bytes file files others seen is = ap (λ (l : List Attached). attached_at bytes file ∷ l) is

-- and so are the others
pub others-seen : (bytes : List ℕ) (files : List FileAt) → others_seen (map (attached_at bytes) files) ≡ map (attached_at bytes) (others_of files)
unfolding others_seen others_of
others-seen bytes [] = refl
others-seen bytes (file ∷ files) = without-first file.side bytes file files (others_of files) (others_seen (map (attached_at bytes) files)) (others-seen bytes files)

-- and the first of a name
pub seen-as : (bytes name : List ℕ) (files : List FileAt) → seen_as name (map (attached_at bytes) files) ≡ option_map (attached_at bytes) (attached_as name files)
unfolding seen_as attached_as
seen-as bytes name [] = refl
seen-as bytes name (file ∷ files) = chosen-first (is_same_name file.name name) bytes file (seen_as name (map (attached_at bytes) files)) (attached_as name files) (seen-as bytes name files)

-- ---- contents

found-at : (said : FileRecord) (bytes : List ℕ) (o : Option FileAt) → content_found said bytes (place_or None o) ≡ content_of_file said (option_map (attached_at bytes) o)
unfolding content_found place_or content_of_file bytes_at
found-at said bytes None = refl
found-at said bytes (Some file) = refl

-- the content of a record's file is what stands at its place
pub found-is : (places : Places) (bytes : List ℕ) (said : FileRecord) → content_found said bytes (content_place places.files said) ≡ content_meant (outline_at places bytes) said
unfolding content_place content_meant
found-is places bytes said =
    found-at said bytes (attached_as said.name (others_of places.files))
    ∙ ap (content_of_file said) (sym (seen-as bytes said.name (others_of places.files)))
    ∙ ap (λ (l : List Attached). content_of_file said (seen_as said.name l)) (sym (others-seen bytes places.files))
