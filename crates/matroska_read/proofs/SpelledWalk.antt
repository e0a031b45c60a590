-- A walk over elements that are spelled one after the other.
use Rattle.std.proofs.Common.{◌≡◌, ℕ, ◌+◌, ◌-◌, ◌^◌, ◌<◌, ◌≤◌, nat_le, ◌==◌, true, List, [], ◌∷◌, ◌++◌, length, take, drop, Some, Ok, refl, sym, ap, ◌∙◌, arith, append_assoc, length-append}
use Rattle.std.proofs.Math.Seq.{drop-append_seam, take-append-add, take-append_seam}
use Rattle.std.proofs.lemmas.Bool.{le-leb}
use Rattle.std.proofs.lemmas.Bool.Decides.{nat_tests}
use Rattle.std.proofs.lemmas.List.{drop-drop}
use Rattle.ebml_core.specs.Element.{IsIdentifier, head_of, element}
use Rattle.ebml_core.specs.Reading.{head_at}
use Rattle.ebml_core.specs.declared.parts.Size.TheVariants.{Known, Unknown}
use Rattle.ebml_core.specs.declared.parts.Head.{Head}
use Rattle.ebml_core.specs.Heads.{length-element, length-head_of, shortest_size-positive}
use Rattle.ebml_core.proofs.SpelledHeads.{written_head}
use Rattle.matroska_names.specs.declared.ids.TheConstants.{EBML as ebml_header, SEGMENT as segment, ATTACHMENTS as attachments, ATTACHED_FILE as attached_file}
use Rattle.ebml_core.specs.Prefixes.{head_stays}
use Rattle.matroska_read.specs.declared.parts.Element.{Element}
use Rattle.matroska_read.specs.declared.files.FileAt.{FileAt}
use Rattle.matroska_read.specs.declared.parts.SegmentSeen.{SegmentSeen}
use Rattle.matroska_read.specs.Outline.{visit_header, header_read, header_of, file_read, visit_attachments, attachments_visited, visit_segment, segment_read, places_seen, places_of, outline_of}
use Rattle.shelf_reader.specs.Readings.{gives, looks, thence_of, thence}
use Rattle.shelf_reader.specs.Walk.{GoesOn, walked}
use Rattle.shelf_reader.specs.WalkLaws.{onward}
use Rattle.shelf_reader.specs.WalkLaws as walks
use Rattle.matroska_read.specs.Outline.{no_doc_type, nothing_seen, with_files, places_in}
use Rattle.matroska_read.specs.Walk.{Visits, content_of, head_in, sized, element_of, element_in, segment_sized, segment_of, segment_in, ebml, walked_children}
use Rattle.matroska_read.specs.WalkGoesOn.{element_goes_on}
use Rattle.matroska_read.specs.Places.{outline_at}
use Rattle.matroska_read.specs.PlacesLaws.{outline-is}

pub same_id : (a b : ℕ) → a ≡ b → (a == b) ≡ true
same_id a b e = grind (arith, nat_tests)

goes : GoesOn ebml
goes end place bytes element read = element_goes_on end place bytes element read

-- a walk at the parent's end is over
pub walked-end : {State : Type 0} (visit : Visits State) (end : ℕ) (state : State) (place : ℕ) (bytes : List ℕ) → end ≤ place → walked ebml visit end state place bytes ≡ Ok state
walked-end visit end state place bytes h = walks.walked-end ebml goes visit end state place bytes h

-- at a place of the bytes stands a piece, and behind it the rest
pub record Stands (bytes : List ℕ) (place : ℕ) (piece rest : List ℕ) : Type 0 where
  pub here : drop place bytes ≡ piece ++ rest

-- what an identifier and a content spell at a place
abbrev pub spelled : ℕ → ℕ → ℕ → Element
spelled place id len = record { place = place; id = id; start = place + length (head_of id len); end = place + length (head_of id len) + len }

-- what can be read as an element inside a parent that ends at `end`
pub record IsSpelled (bytes : List ℕ) (end place id : ℕ) (content rest : List ℕ) : Type 0 where
  pub known : IsIdentifier id
  pub small : length content < 2 ^ 56 - 1
  pub stands : Stands bytes place (element id content) rest
  pub within : place + length (element id content) ≤ end

-- ---- pieces

-- behind a piece stands the rest
pub behind : (bytes : List ℕ) (place : ℕ) (piece rest : List ℕ) → Stands bytes place piece rest → drop (place + length piece) bytes ≡ rest
behind bytes place piece rest stands = sym (drop-drop (length piece) place bytes) ∙ ap (drop (length piece)) stands.here ∙ drop-append_seam piece rest

-- the first part of a piece, and its second
pub stands-first : (bytes : List ℕ) (place : ℕ) (first second rest : List ℕ) → Stands bytes place (first ++ second) rest → Stands bytes place first (second ++ rest)
stands-first bytes place first second rest stands = record { here = stands.here ∙ append_assoc first second rest }

pub stands-second : (bytes : List ℕ) (place : ℕ) (first second rest : List ℕ) → Stands bytes place (first ++ second) rest → Stands bytes (place + length first) second rest
stands-second bytes place first second rest stands = record { here = behind bytes place first (second ++ rest) (stands-first bytes place first second rest stands) }

-- the bytes of a piece
pub between-piece : (bytes : List ℕ) (place : ℕ) (piece rest : List ℕ) → Stands bytes place piece rest → take (length piece) (drop place bytes) ≡ piece
between-piece bytes place piece rest stands = ap (take (length piece)) stands.here ∙ take-append_seam piece rest

-- ---- an element

-- a head is read in a parent that has room for it
head_in-spelled : (bytes : List ℕ) (end place id : ℕ) (content rest : List ℕ) → IsSpelled bytes end place id content rest → head_in end place bytes ≡ Some (record { id = id; size = Known (length content); len = length (head_of id (length content)) })
unfolding element head_in
head_in-spelled bytes end place id content rest is =
    let head = head_of id (length content) in
    let room : end - place ≡ length head + (end - place - length head) = omega (arith, is.within, length-append head content) in
    ap (λ (l : List ℕ). head_at (take (end - place) l)) (is.stands.here ∙ append_assoc head content rest)
    ∙ ap (λ (n : ℕ). head_at (take n (head ++ (content ++ rest)))) room
    ∙ ap head_at (take-append-add head (content ++ rest) (end - place - length head))
    ∙ written_head id (length content) (take (end - place - length head) (content ++ rest)) is.known is.small

-- a spelled element is the element at its place
pub element_in-spelled : (bytes : List ℕ) (end place id : ℕ) (content rest : List ℕ) → IsSpelled bytes end place id content rest → element_in end place bytes ≡ Ok (spelled place id (length content))
unfolding element_in element_of sized looks gives
element_in-spelled bytes end place id content rest is =
    let fits : nat_le (place + length (head_of id (length content)) + length content) end ≡ true = le-leb _ _ (omega (arith, is.within, length-element id content)) in
    rw (head_in-spelled bytes end place id content rest is, fits) refl

-- its content stands behind its head
pub content-stands : (bytes : List ℕ) (end place id : ℕ) (content rest : List ℕ) → IsSpelled bytes end place id content rest → Stands bytes (place + length (head_of id (length content))) content rest
unfolding element
content-stands bytes end place id content rest is = stands-second bytes place (head_of id (length content)) content rest is.stands

pub content_of-spelled : (bytes : List ℕ) (end place id : ℕ) (content rest : List ℕ) → IsSpelled bytes end place id content rest → content_of (spelled place id (length content)) bytes ≡ content
content_of-spelled bytes end place id content rest is =
    let start = place + length (head_of id (length content)) in
    let count : start + length content - start ≡ length content = omega arith in
    ap (λ (n : ℕ). take n (drop start bytes)) count ∙ between-piece bytes start content rest (content-stands bytes end place id content rest is)

-- ---- a walk

-- it visits the element at its place, and goes on behind it
pub walked-spelled : {State : Type 0} (visit : Visits State) (bytes : List ℕ) (end place id : ℕ) (content rest : List ℕ) (state next : State) → IsSpelled bytes end place id content rest → visit state (spelled place id (length content)) bytes ≡ Ok next
    → walked ebml visit end state place bytes ≡ walked ebml visit end next (place + length (element id content)) bytes
unfolding onward thence thence_of
walked-spelled visit bytes end place id content rest state next is visited =
    let before : place < end = omega (arith, is.within, length-element id content, length-head_of id (length content), shortest_size-positive (length content)) in
    let ends : place + length (head_of id (length content)) + length content ≡ place + length (element id content) = omega (arith, length-element id content) in
    walks.walked-next ebml goes visit end state place bytes before ∙ rw (element_in-spelled bytes end place id content rest is, visited) (ap (λ (n : ℕ). walked ebml visit end next n bytes) ends)

-- ---- a Segment of unknown size

-- a head that the bytes at a place begin with
pub head_in-front : (bytes : List ℕ) (end place : ℕ) (front rest : List ℕ) (head : Head) → head_at front ≡ Some head → Stands bytes place front rest → place + length front ≤ end → head_in end place bytes ≡ Some head
unfolding head_in
head_in-front bytes end place front rest head read stands within =
    let room : end - place ≡ length front + (end - place - length front) = omega arith in
    ap (λ (l : List ℕ). head_at (take (end - place) l)) stands.here
    ∙ ap (λ (n : ℕ). head_at (take n (front ++ rest))) room
    ∙ ap head_at (take-append-add front rest (end - place - length front))
    ∙ head_stays front (take (end - place - length front) rest) head read

-- it ends with the file
pub segment_in-unknown : (bytes : List ℕ) (end place len : ℕ) (front rest : List ℕ) → head_at front ≡ Some (record { id = segment; size = Unknown; len = len }) → Stands bytes place front rest → place + length front ≤ end
    → segment_in end place bytes ≡ Ok (record { place = place; id = segment; start = place + len; end = end })
unfolding segment_in segment_of segment_sized looks gives
segment_in-unknown bytes end place len front rest read stands within = rw (head_in-front bytes end place front rest _ read stands within) refl

-- ---- the outline

-- an AttachedFile that is read is one more file
visit_attachments-file : (bytes : List ℕ) (before : List FileAt) (child : Element) (file : FileAt) → child.id ≡ attached_file → file_read child bytes ≡ Ok file → visit_attachments before child bytes ≡ Ok (before ++ file ∷ [])
unfolding visit_attachments thence thence_of gives
visit_attachments-file bytes before child file is read = rw (same_id child.id attached_file is, read) refl

pub walked-file : (bytes : List ℕ) (end place : ℕ) (content rest : List ℕ) (before : List FileAt) (file : FileAt) → IsSpelled bytes end place attached_file content rest → file_read (spelled place attached_file (length content)) bytes ≡ Ok file
    → walked ebml visit_attachments end before place bytes ≡ walked ebml visit_attachments end (before ++ file ∷ []) (place + length (element attached_file content)) bytes
walked-file bytes end place content rest before file is read =
    walked-spelled visit_attachments bytes end place attached_file content rest before (before ++ file ∷ []) is (visit_attachments-file bytes before (spelled place attached_file (length content)) file refl read)

-- the Attachments that are read are the files of the Segment
pub visit_segment-attachments : (bytes : List ℕ) (place len : ℕ) (files : List FileAt) → walked_children visit_attachments (spelled place attachments len) [] bytes ≡ Ok files → visit_segment nothing_seen (spelled place attachments len) bytes ≡ Ok (with_files nothing_seen files)
unfolding visit_segment attachments_visited thence thence_of gives
visit_segment-attachments bytes place len files read = rw read refl

-- an outline is the header, the Segment and what is read of it
places_of-read : (bytes : List ℕ) (place : ℕ) (segment : Element) (seen : SegmentSeen) → header_of (length bytes) bytes ≡ Ok place → segment_in (length bytes) place bytes ≡ Ok segment → segment.end ≡ length bytes → walked_children visit_segment segment nothing_seen bytes ≡ Ok seen
    → places_of bytes ≡ Ok (places_seen seen)
unfolding places_of places_in segment_read looks thence thence_of gives
places_of-read bytes place segment seen header at ends read = rw (header, at, read, same_id segment.end (length bytes) ends) refl

pub outline_of-read : (bytes : List ℕ) (place : ℕ) (segment : Element) (seen : SegmentSeen) → header_of (length bytes) bytes ≡ Ok place → segment_in (length bytes) place bytes ≡ Ok segment → segment.end ≡ length bytes → walked_children visit_segment segment nothing_seen bytes ≡ Ok seen
    → outline_of bytes ≡ Ok (outline_at (places_seen seen) bytes)
outline_of-read bytes place segment seen header at ends read = outline-is bytes (places_seen seen) (places_of-read bytes place segment seen header at ends read)

pub header_of-read : (bytes : List ℕ) (first : Element) → element_in (length bytes) 0 bytes ≡ Ok first → first.id ≡ ebml_header → walked_children visit_header first no_doc_type bytes ≡ Ok (record { doc_type = true }) → header_of (length bytes) bytes ≡ Ok first.end
unfolding header_of header_read thence thence_of gives
header_of-read bytes first at is read = rw (at, same_id first.id ebml_header is, read) refl
