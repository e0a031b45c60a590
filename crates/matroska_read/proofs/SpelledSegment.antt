-- A file that is spelled of values, read.
use Rattle.std.proofs.Common.{◌≡◌, ℕ, ◌+◌, ◌≤◌, nat_le, ◌==◌, true, false, List, [], ◌∷◌, ◌++◌, length, map, Option, Some, None, unwrap_or, ◌⊎◌, inl, inr, Ok, refl, sym, ap, subst, ◌∙◌, arith, append-nil, length-append}
use Rattle.std.proofs.lemmas.Bool.{le-leb}
use Rattle.std.proofs.lemmas.List.{map-append}
use Rattle.ebml_core.specs.Element.{element}
use Rattle.ebml_core.specs.Laws.{WrittenSizeIsRead}
use Rattle.ebml_core.specs.Reading.{head_at}
use Rattle.ebml_core.specs.declared.parts.Size.{Size}
use Rattle.ebml_core.specs.declared.parts.Size.TheVariants.{Known, Unknown}
use Rattle.shelf_reader.specs.Readings.{gives, looks, thence_of, thence}
use Rattle.shelf_reader.specs.Walk.{walked}
use Rattle.matroska_names.specs.declared.ids.TheConstants.{EBML as ebml_header, SEGMENT as segment}
use Rattle.matroska_read.specs.declared.files.FileAt.{FileAt}
use Rattle.matroska_read.specs.declared.parts.Element.{Element}
use Rattle.matroska_read.specs.declared.parts.SegmentSeen.{SegmentSeen}
use Rattle.matroska_read.specs.declared.tracks.Track.{Track}
use Rattle.matroska_read.specs.Outline.{no_doc_type, visit_attachments, nothing_seen, with_tracks, with_cluster, with_files, attachments_visited, visit_segment, places_seen, outline_of}
use Rattle.matroska_read.specs.Places.{Block, Attached, Outline, block_at, attached_at, outline_at}
use Rattle.matroska_read.specs.Spelled.{CanSpell, Says, TellsHeader, TellsTracks, SaysBlock, TellsAttachments, SegmentSaid, no_segment_said, TellsSegment, tells_tracks, tells_cluster, tells_attachments, tells_nothing, outline_said, IsSegmentHead, SpellsFile, spells_file}
use Rattle.matroska_read.specs.Tracks.{visit_tracks}
use Rattle.matroska_read.specs.Walk.{ebml, sized, segment_sized, segment_of, segment_in, walked_children}
use Rattle.matroska_read.proofs.SpelledWalk.{Stands, IsSpelled, spelled, behind, stands-second, head_in-front, segment_in-unknown, outline_of-read}
use Rattle.matroska_read.proofs.SpelledSays.{Visited, Shows, children, comes-whole}
use Rattle.matroska_read.proofs.SpelledHeader.{Same, header-read}
use Rattle.matroska_read.proofs.SpelledTracks.{tracks-show}
use Rattle.matroska_read.proofs.SpelledClusters.{IsCluster, cluster_read-says}
use Rattle.matroska_read.proofs.SpelledFiles.{ShowsFiles, files-show}

-- ---- the children of a Segment

abbrev files_said : List ℕ → Option (List FileAt) → Option (List Attached)
files_said bytes None = None
files_said bytes (Some files) = Some (map (attached_at bytes) files)

abbrev segment_said : List ℕ → SegmentSeen → SegmentSaid
segment_said bytes seen = record { listed = seen.listed; tracks = seen.tracks; blocks = map (block_at bytes) seen.blocks; files = files_said bytes seen.files }

abbrev ShowsSegment : List ℕ → SegmentSeen → SegmentSaid → Type 0
ShowsSegment bytes seen said = segment_said bytes seen ≡ said

none_is : (bytes : List ℕ) (files : Option (List FileAt)) → files_said bytes files ≡ None → files ≡ None
none_is bytes None h = refl
none_is bytes (Some files) h = absurd (cc)

segment-shows : WrittenSizeIsRead → Shows ShowsSegment visit_segment TellsSegment
unfolding visit_segment attachments_visited thence thence_of gives
segment-shows written bytes end place id _ rest seen _ _ is shown (tells_tracks said content listed fresh says) =
    let unlisted : seen.listed ≡ false = ap (λ (s : SegmentSaid). s.listed) shown ∙ fresh in
    let known = children Same visit_tracks TellsTracks tracks-show bytes end place id content rest [] [] listed is says refl in
    record {
      state = with_tracks seen listed;
      shown = ap (λ (s : SegmentSaid). record s { listed = true; tracks = listed }) shown;
      is = rw (unlisted, known.walk, known.shown) refl;
    }
segment-shows written bytes end place id _ rest seen _ _ is shown (tells_cluster said content block says) =
    let same : said.tracks ≡ seen.tracks = ap (λ (s : SegmentSaid). s.tracks) (sym shown) in
    let read = cluster_read-says written bytes end place id seen.tracks content block rest is (subst (λ (l : List Track). SaysBlock l content block) same says) in
    record {
      state = with_cluster seen (seen.tracks, read.at);
      shown =
          (λ i. record (segment_said bytes seen) { blocks = map-append (block_at bytes) seen.blocks (read.at ∷ []) i })
          ∙ (λ i. record (segment_said bytes seen) { blocks = map (block_at bytes) seen.blocks ++ read.shown i ∷ [] })
          ∙ ap (λ (s : SegmentSaid). record s { blocks = s.blocks ++ block ∷ [] }) shown;
      is = rw read.read refl;
    }
segment-shows written bytes end place id _ rest seen _ _ is shown (tells_attachments said content files fresh says) =
    let none : seen.files ≡ None = none_is bytes seen.files (ap (λ (s : SegmentSaid). s.files) shown ∙ fresh) in
    let known = children ShowsFiles visit_attachments TellsAttachments files-show bytes end place id content rest [] [] files is says refl in
    record {
      state = with_files seen known.state;
      shown = (λ i. record (segment_said bytes seen) { files = Some (known.shown i) }) ∙ ap (λ (s : SegmentSaid). record s { files = Some files }) shown;
      is = rw (none, known.walk) refl;
    }
segment-shows written bytes end place _ _ rest seen _ _ is shown (tells_nothing said id content other) =
    record { state = seen; shown = shown; is = rw (other.tracks, other.cluster, other.attachments) refl }

-- ---- the head of a Segment

-- a size that is known
segment_in-known : (bytes : List ℕ) (end place len : ℕ) (front rest : List ℕ) → head_at front ≡ Some (record { id = segment; size = Known len; len = length front }) → Stands bytes place front rest → place + length front + len ≡ end
    → segment_in end place bytes ≡ Ok (record { place = place; id = segment; start = place + length front; end = place + length front + len })
unfolding segment_in segment_of segment_sized sized looks gives
segment_in-known bytes end place len front rest read stands ends =
    let fits : nat_le (place + length front + len) end ≡ true = le-leb _ _ (omega arith) in
    rw (head_in-front bytes end place front rest _ read stands (omega arith), fits) refl

-- either way it ends with the file
segment_in-head : (bytes : List ℕ) (end place len : ℕ) (head rest : List ℕ) → IsSegmentHead head len → Stands bytes place head rest → place + length head + len ≡ end → segment_in end place bytes ≡ Ok (record { place = place; id = segment; start = place + length head; end = end })
segment_in-head bytes end place len head rest is stands ends = by_size is.size is.reads is.ends
  where
    by_size : (size : Size) → head_at head ≡ Some (record { id = segment; size = size; len = length head }) → (size ≡ Unknown) ⊎ (size ≡ Known len) → segment_in end place bytes ≡ Ok (record { place = place; id = segment; start = place + length head; end = end })
    by_size size reads (inl unknown) =
        segment_in-unknown bytes end place (length head) head rest (reads ∙ ap (λ (s : Size). Some (record { id = segment; size = s; len = length head })) unknown) stands (omega arith)
    by_size size reads (inr known) =
        segment_in-known bytes end place len head rest (reads ∙ ap (λ (s : Size). Some (record { id = segment; size = s; len = length head })) known) stands ends
        ∙ ap (λ (n : ℕ). Ok (record { place = place; id = segment; start = place + length head; end = n })) ends

-- ---- the file

files-said : (bytes : List ℕ) (files : Option (List FileAt)) → map (attached_at bytes) (unwrap_or files []) ≡ unwrap_or (files_said bytes files) []
files-said bytes None = refl
files-said bytes (Some files) = refl

outline-said : (bytes : List ℕ) (seen : SegmentSeen) (said : SegmentSaid) → segment_said bytes seen ≡ said → outline_at (places_seen seen) bytes ≡ outline_said said
outline-said bytes seen said shown =
    (λ i. record { tracks = seen.tracks; blocks = map (block_at bytes) seen.blocks; files = files-said bytes seen.files i }) ∙ ap outline_said shown

-- the outline of what is spelled of values is these values
pub spelled_is_outline : WrittenSizeIsRead → (bytes : List ℕ) (outline : Outline) → SpellsFile bytes outline → outline_of bytes ≡ Ok outline
spelled_is_outline written _ _ (spells_file header head content said can says_header is_head says) =
    let first = element ebml_header header in
    let bytes = first ++ (head ++ content) in
    let whole : length bytes ≡ length first + (length head + length content) = omega (arith, length-append first (head ++ content), length-append head content) in
    let at_start : Stands bytes 0 first (head ++ content) = record { here = refl } in
    let at_head : Stands bytes (0 + length first) head content = record { here = behind bytes 0 first (head ++ content) at_start } in
    let start = 0 + length first + length head in
    let at_content : Stands bytes start content [] = record { here = behind bytes (0 + length first) head content at_head ∙ sym (append-nil content) } in
    let place : length first ≡ 0 + length first = omega arith in
    let walk = comes-whole ShowsSegment visit_segment TellsSegment (segment-shows written) bytes (length bytes) start content [] nothing_seen no_segment_said said says at_content (omega arith) refl in
    let found : Element = record { place = 0 + length first; id = segment; start = start; end = length bytes } in
    outline_of-read bytes (0 + length first) found walk.0 (header-read bytes header (head ++ content) refl can says_header ∙ ap Ok place)
    (segment_in-head bytes (length bytes) (0 + length first) (length content) head content is_head at_head (omega arith)) refl walk.2
    ∙ ap Ok (outline-said bytes walk.0 said walk.1)
