-- The attached files, read of what they say.
use Rattle.std.proofs.Common.{◌≡◌, ℕ, ◌+◌, ◌-◌, ◌<◌, ◌≤◌, ◌==◌, Bool, true, false, List, [], ◌∷◌, ◌++◌, length, map, Option, Some, None, Ok, refl, sym, ap, subst, ◌∙◌, arith}
use Rattle.std.proofs.lemmas.List.{map-append}
use Rattle.shelf_reader.specs.Readings.{gives, looks, thence_of, thence}
use Rattle.shelf_reader.specs.Seen.{between, is_same_text, is_text_between}
use Rattle.matroska_read.specs.declared.files.FileAt.{FileAt}
use Rattle.matroska_read.specs.declared.parts.Element.{Element}
use Rattle.matroska_read.specs.declared.parts.Fields.{Fields}
use Rattle.matroska_read.specs.declared.parts.Span.{Span}
use Rattle.matroska_read.specs.Outline.{side_media_type, no_fields, with_field, visit_field, file_at, file_of, file_read, visit_attachments}
use Rattle.matroska_read.specs.Places.{Attached, bytes_at, attached_at}
use Rattle.matroska_read.specs.Walk.{first_of}
use Rattle.matroska_read.specs.Spelled.{Says, first_content, FileSaid, no_file_said, TellsFile, tells_name, tells_media_type, tells_content, tells_no_part, TellsAttachments, tells_file, tells_no_file}
use Rattle.matroska_read.proofs.SpelledWalk.{IsSpelled, spelled}
use Rattle.matroska_read.proofs.SpelledSays.{Visited, Shows, children}
use Rattle.matroska_read.proofs.SpelledTracks.{said_at, first-said}

-- ---- an AttachedFile

abbrev file_said : List ℕ → Fields → FileSaid
file_said bytes fields = record { name = said_at bytes fields.name; media_type = said_at bytes fields.media_type; content = said_at bytes fields.content }

abbrev ShowsFile : List ℕ → Fields → FileSaid → Type 0
ShowsFile bytes fields said = file_said bytes fields ≡ said

file-shows : Shows ShowsFile visit_field TellsFile
unfolding visit_field with_field gives
file-shows bytes end place id _ rest seen _ _ is shown (tells_name said content) = record {
  state = record { name = first_of seen.name (spelled place id (length content)); media_type = seen.media_type; content = seen.content };
  shown =
      ap (λ (c : Option (List ℕ)). record (file_said bytes seen) { name = c }) (first-said bytes end place id content rest seen.name is)
      ∙ ap (λ (s : FileSaid). record s { name = first_content s.name content }) shown;
  is = refl;
}
file-shows bytes end place id _ rest seen _ _ is shown (tells_media_type said content) = record {
  state = record { name = seen.name; media_type = first_of seen.media_type (spelled place id (length content)); content = seen.content };
  shown =
      ap (λ (c : Option (List ℕ)). record (file_said bytes seen) { media_type = c }) (first-said bytes end place id content rest seen.media_type is)
      ∙ ap (λ (s : FileSaid). record s { media_type = first_content s.media_type content }) shown;
  is = refl;
}
file-shows bytes end place id _ rest seen _ _ is shown (tells_content said content) = record {
  state = record { name = seen.name; media_type = seen.media_type; content = first_of seen.content (spelled place id (length content)) };
  shown =
      ap (λ (c : Option (List ℕ)). record (file_said bytes seen) { content = c }) (first-said bytes end place id content rest seen.content is)
      ∙ ap (λ (s : FileSaid). record s { content = first_content s.content content }) shown;
  is = refl;
}
file-shows bytes end place _ _ rest seen _ _ is shown (tells_no_part said id content other) =
    record { state = seen; shown = shown; is = rw (other.name, other.media_type, other.content) refl }

-- ---- a file

-- what is read of a file shows it
record IsFile (bytes : List ℕ) (place : ℕ) (name media content : Option Span) (file : Attached) : Type 0 where
  at : FileAt
  read : file_of place name media content bytes ≡ Ok at
  shown : attached_at bytes at ≡ file

some_is : {A : Type 0} (a b : A) → Some a ≡ Some b → a ≡ b
some_is a b h = cc

found : (bytes : List ℕ) (place : ℕ) (name media content : Option Span) (named typed held : List ℕ) → said_at bytes name ≡ Some named → said_at bytes media ≡ Some typed → said_at bytes content ≡ Some held
    → IsFile bytes place name media content (record { name = named; side = is_same_text typed side_media_type; content = held })
unfolding file_of file_at is_text_between looks gives bytes_at
found bytes place None media content named typed held first second third = absurd (cc)
found bytes place (Some name) None content named typed held first second third = absurd (cc)
found bytes place (Some name) (Some media) None named typed held first second third = absurd (cc)
found bytes place (Some name) (Some media) (Some content) named typed held first second third = record {
  at = record { name = between name.start name.end bytes; side = is_same_text (between media.start media.end bytes) side_media_type; at = content.start; len = content.end - content.start };
  read = refl;
  shown = (λ i. record { name = some_is _ _ first i; side = is_same_text (some_is _ _ second i) side_media_type; content = some_is _ _ third i });
}

-- what is read of an element shows its file
record IsRead (bytes : List ℕ) (element : Element) (file : Attached) : Type 0 where
  at : FileAt
  read : file_read element bytes ≡ Ok at
  shown : attached_at bytes at ≡ file

file_read-says : (bytes : List ℕ) (end place id : ℕ) (piece rest name media content : List ℕ) → IsSpelled bytes end place id piece rest → Says TellsFile no_file_said piece (record { name = Some name; media_type = Some media; content = Some content })
    → IsRead bytes (spelled place id (length piece)) (record { name = name; side = is_same_text media side_media_type; content = content })
unfolding file_read thence thence_of
file_read-says bytes end place id piece rest name media content is says =
    let known = children ShowsFile visit_field TellsFile file-shows bytes end place id piece rest no_fields no_file_said (record { name = Some name; media_type = Some media; content = Some content }) is says refl in
    let fields = known.state in
    let here = found bytes place fields.name fields.media_type fields.content name media content (ap (λ (s : FileSaid). s.name) known.shown) (ap (λ (s : FileSaid). s.media_type) known.shown) (ap (λ (s : FileSaid). s.content) known.shown) in
    record { at = here.at; read = rw known.walk here.read; shown = here.shown }

-- ---- the Attachments

abbrev pub ShowsFiles : List ℕ → List FileAt → List Attached → Type 0
ShowsFiles bytes files said = map (attached_at bytes) files ≡ said

pub files-show : Shows ShowsFiles visit_attachments TellsAttachments
unfolding visit_attachments thence thence_of gives
files-show bytes end place id _ rest seen _ _ is shown (tells_file listed piece name media content says) =
    let read = file_read-says bytes end place id piece rest name media content is says in
    record {
      state = seen ++ read.at ∷ [];
      shown = map-append (attached_at bytes) seen (read.at ∷ []) ∙ (λ i. shown i ++ read.shown i ∷ []);
      is = rw read.read refl;
    }
files-show bytes end place _ _ rest seen _ _ is shown (tells_no_file listed id content other) =
    record { state = seen; shown = shown; is = rw other refl }
