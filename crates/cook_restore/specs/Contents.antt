-- Where the content of each record's file stands in the package, as a restorer keeps it.
use Rattle.std.specs.Prelude.{◌≡◌, ℕ, ◌+◌, ◌≤◌, if◌then◌else◌, List, [], ◌∷◌, take, drop, map, Option, Some, None, Result, Err}
use Rattle.std.specs.BTreeMap.{BTreeMap, get_by}
use Rattle.std.specs.Cmp.Lexicographic.{slice_cmp}
use Rattle.std.specs.Ordering.{nat_cmp}
use denote.Ref.{Bor}
use Rattle.cook_bits.specs.Names.{is_same_name}
use Rattle.reversal.specs.declared.record.FileRecord.{FileRecord}
use Rattle.matroska_read.specs.declared.files.FileAt.{FileAt}
use Rattle.cook_restore.specs.declared.contents.Content.{Content}
use Rattle.cook_restore.specs.declared.error.FileWhy.{FileWhy}
use Rattle.cook_restore.specs.declared.error.FileWhy.TheVariants as file
use Rattle.cook_restore.specs.Meaning.{checked}

-- ---- what is attached, by places

-- the side data: the first file of its media type
unfoldable pub side_of : List FileAt → Option FileAt
side_of [] = None
side_of (file ∷ files) = if file.side then Some file else side_of files

-- all files but the side data
unfoldable pub others_of : List FileAt → List FileAt
others_of [] = []
others_of (file ∷ files) = if file.side then files else file ∷ others_of files

-- the first file of a name
unfoldable pub attached_as : List ℕ → List FileAt → Option FileAt
attached_as name [] = None
attached_as name (file ∷ files) = if is_same_name file.name name then Some file else attached_as name files

-- ---- the places of contents

abbrev pub place_of : FileAt → Content
place_of file = record { at = file.at; len = file.len }

-- the place of the first file of a name, and where there is none, another place
unfoldable pub place_or : Option Content → Option FileAt → Option Content
place_or other None = other
place_or other (Some file) = Some (place_of file)

-- the place that a map holds under a name
abbrev pub held_as : BTreeMap (Bor (List ℕ)) Content → List ℕ → Option Content
held_as by_name name = get_by (λ k. slice_cmp nat_cmp name k.now) by_name

-- a map holds the places of files by their names, and where no file has the name, what another holds
abbrev pub HoldsOver : (List ℕ → Option Content) → List FileAt → (List ℕ → Option Content) → Type 0
HoldsOver before files now = (name : List ℕ) → now name ≡ place_or (before name) (attached_as name files)

-- the place of the content of a record's file
unfoldable pub content_place : List FileAt → FileRecord → Option Content
content_place attached said = place_or None (attached_as said.name (others_of attached))

-- the places for all records
unfoldable pub content_places : List FileAt → List FileRecord → List (Option Content)
content_places attached records = map (content_place attached) records

-- the content ends at a place or before
abbrev pub PlaceEndsBy : ℕ → Content → Type 0
PlaceEndsBy end content = content.at + content.len ≤ end

-- a content at a place, checked against what its record says
unfoldable pub content_found : FileRecord → List ℕ → Option Content → Result (List ℕ) FileWhy
content_found said bytes None = Err file.Missing
content_found said bytes (Some content) = checked said (take content.len (drop content.at bytes))
