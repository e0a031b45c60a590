-- The tracks, read of what they say.
use Rattle.std.proofs.Common.{◌≡◌, ℕ, ◌+◌, ◌<◌, ◌≤◌, ◌==◌, ◌||◌, Bool, true, false, List, [], ◌∷◌, ◌++◌, length, Option, Some, None, unwrap_or, Ok, refl, sym, ap, subst, ◌∙◌, arith}
use Rattle.ebml_core.specs.Element.{element}
use Rattle.shelf_reader.specs.Readings.{gives, looks, answers, thence_of, thence}
use Rattle.shelf_reader.specs.Seen.{between, is_same_text, is_text_between}
use Rattle.matroska_names.specs.declared.texts.TheConstants.{FFV1_CODEC, FLAC_CODEC}
use Rattle.matroska_read.specs.declared.parts.Element.{Element}
use Rattle.matroska_read.specs.declared.parts.Span.{Span}
use Rattle.matroska_read.specs.declared.parts.VideoSeen.{VideoSeen}
use Rattle.matroska_read.specs.declared.parts.EntrySeen.{EntrySeen}
use Rattle.matroska_read.specs.declared.tracks.Codec.{Codec}
use Rattle.matroska_read.specs.declared.tracks.Codec.TheVariants.{Ffv1, Flac}
use Rattle.matroska_read.specs.declared.tracks.Track.{Track}
use Rattle.matroska_read.specs.Numbers.{number_of}
use Rattle.matroska_read.specs.Walk.{content_of, span_of, first_of}
use Rattle.matroska_read.specs.Tracks.{first_number, first_video, no_video, visit_video, no_entry, visit_entry, has_number, codec_read, private_read, width_of, height_of, track_read, track_of, entry_read, visit_tracks}
use Rattle.matroska_read.specs.Spelled.{Says, first_content, TellsVideo, tells_width, tells_height, tells_no_size, EntrySaid, no_entry_said, TellsEntry, tells_track_number, tells_codec, tells_private, tells_encodings, tells_video, tells_no_field, codec_text, MakesTrack, TellsTracks, tells_track, tells_no_track}
use Rattle.matroska_read.proofs.SpelledWalk.{IsSpelled, spelled, content_of-spelled}
use Rattle.matroska_read.proofs.SpelledSays.{Visited, Shows, children, number-spelled}
use Rattle.matroska_read.proofs.SpelledHeader.{Same}

-- ---- the sizes of pictures

video-shows : Shows Same visit_video TellsVideo
unfolding visit_video thence thence_of gives
video-shows bytes end place id _ rest seen _ _ is shown (tells_width said content short) = record {
  state = record { width = first_number seen.width (number_of 0 content); height = seen.height };
  shown = ap (λ (v : VideoSeen). record { width = first_number v.width (number_of 0 content); height = v.height }) shown;
  is = rw (number-spelled bytes end place id content rest is short) refl;
}
video-shows bytes end place id _ rest seen _ _ is shown (tells_height said content short) = record {
  state = record { width = seen.width; height = first_number seen.height (number_of 0 content) };
  shown = ap (λ (v : VideoSeen). record { width = v.width; height = first_number v.height (number_of 0 content) }) shown;
  is = rw (number-spelled bytes end place id content rest is short) refl;
}
video-shows bytes end place _ _ rest seen _ _ is shown (tells_no_size said id content no_width no_height) =
    record { state = seen; shown = shown; is = rw (no_width, no_height) refl }

-- ---- contents at their places

-- what stands in a span, if there is one
abbrev pub said_at : List ℕ → Option Span → Option (List ℕ)
said_at bytes None = None
said_at bytes (Some span) = Some (between span.start span.end bytes)

-- an element is one more content
pub first-said : (bytes : List ℕ) (end place id : ℕ) (content rest : List ℕ) (held : Option Span) → IsSpelled bytes end place id content rest → said_at bytes (first_of held (spelled place id (length content))) ≡ first_content (said_at bytes held) content
first-said bytes end place id content rest None is = ap Some (content_of-spelled bytes end place id content rest is)
first-said bytes end place id content rest (Some span) is = refl

-- ---- a TrackEntry

abbrev entry_said : List ℕ → EntrySeen → EntrySaid
entry_said bytes seen = record { number = seen.number; codec = said_at bytes seen.codec; private = said_at bytes seen.private; video = seen.video; encoded = seen.encoded }

abbrev ShowsEntry : List ℕ → EntrySeen → EntrySaid → Type 0
ShowsEntry bytes seen said = entry_said bytes seen ≡ said

entry-shows : Shows ShowsEntry visit_entry TellsEntry
unfolding visit_entry thence thence_of gives
entry-shows bytes end place id _ rest seen _ _ is shown (tells_track_number said content short) = record {
  state = record { number = first_number seen.number (number_of 0 content); codec = seen.codec; private = seen.private; video = seen.video; encoded = seen.encoded };
  shown = ap (λ (s : EntrySaid). record s { number = first_number s.number (number_of 0 content) }) shown;
  is = rw (number-spelled bytes end place id content rest is short) refl;
}
entry-shows bytes end place id _ rest seen _ _ is shown (tells_codec said content) = record {
  state = record { number = seen.number; codec = first_of seen.codec (spelled place id (length content)); private = seen.private; video = seen.video; encoded = seen.encoded };
  shown =
      ap (λ (c : Option (List ℕ)). record (entry_said bytes seen) { codec = c }) (first-said bytes end place id content rest seen.codec is)
      ∙ ap (λ (s : EntrySaid). record s { codec = first_content s.codec content }) shown;
  is = refl;
}
entry-shows bytes end place id _ rest seen _ _ is shown (tells_private said content) = record {
  state = record { number = seen.number; codec = seen.codec; private = first_of seen.private (spelled place id (length content)); video = seen.video; encoded = seen.encoded };
  shown =
      ap (λ (c : Option (List ℕ)). record (entry_said bytes seen) { private = c }) (first-said bytes end place id content rest seen.private is)
      ∙ ap (λ (s : EntrySaid). record s { private = first_content s.private content }) shown;
  is = refl;
}
entry-shows bytes end place id _ rest seen _ _ is shown (tells_encodings said content) = record {
  state = record { number = seen.number; codec = seen.codec; private = seen.private; video = seen.video; encoded = true };
  shown = ap (λ (s : EntrySaid). record s { encoded = true }) shown;
  is = refl;
}
entry-shows bytes end place id _ rest seen _ _ is shown (tells_video said content sizes says) =
    let known = children Same visit_video TellsVideo video-shows bytes end place id content rest no_video no_video sizes is says refl in
    record {
      state = record { number = seen.number; codec = seen.codec; private = seen.private; video = first_video seen.video sizes; encoded = seen.encoded };
      shown = ap (λ (s : EntrySaid). record s { video = first_video s.video sizes }) shown;
      is = rw (known.walk, known.shown) refl;
    }
entry-shows bytes end place _ _ rest seen _ _ is shown (tells_no_field said id content other) =
    record { state = seen; shown = shown; is = rw (other.number, other.codec, other.private, other.encodings, other.video) refl }

-- ---- a track

text-between : (bytes : List ℕ) (text : List ℕ) (span : Span) (content : List ℕ) → between span.start span.end bytes ≡ content → is_text_between text span.start span.end bytes ≡ is_same_text content text
unfolding is_text_between
text-between bytes text span content is = ap (λ (l : List ℕ). is_same_text l text) is

codec_read-text : (bytes : List ℕ) (number : ℕ) (span : Span) (codec : Codec) → between span.start span.end bytes ≡ codec_text codec → codec_read number span bytes ≡ Ok codec
unfolding codec_read looks gives
codec_read-text bytes number span Ffv1 is =
    let film : is_text_between FFV1_CODEC.now span.start span.end bytes ≡ true = text-between bytes FFV1_CODEC.now span (codec_text Ffv1) is in
    rw film refl
codec_read-text bytes number span Flac is =
    let film : is_text_between FFV1_CODEC.now span.start span.end bytes ≡ false = text-between bytes FFV1_CODEC.now span (codec_text Flac) is in
    let sound : is_text_between FLAC_CODEC.now span.start span.end bytes ≡ true = text-between bytes FLAC_CODEC.now span (codec_text Flac) is in
    rw (film, sound) refl

private_read-said : (bytes : List ℕ) (held : Option Span) → private_read held bytes ≡ Ok (unwrap_or (said_at bytes held) [])
unfolding private_read answers gives
private_read-said bytes None = refl
private_read-said bytes (Some span) = refl

some_is : {A : Type 0} (a b : A) → Some a ≡ Some b → a ≡ b
some_is a b h = cc

made : (bytes : List ℕ) (listed : List Track) (place : ℕ) (seen : EntrySeen) (track : Track) (number : Option ℕ) (codec : Option Span) → MakesTrack (entry_said bytes seen) track → has_number track.number listed ≡ false
    → number ≡ Some track.number → said_at bytes codec ≡ Some (codec_text track.codec) → track_of listed place seen number codec bytes ≡ Ok track
unfolding track_of track_read thence thence_of gives
made bytes listed place seen track None codec makes new is text = absurd (cc)
made bytes listed place seen track (Some number) None makes new is text = absurd (cc)
made bytes listed place seen track (Some number) (Some span) makes new is text =
    rw (some_is number track.number is, makes.positive, new, makes.plain, codec_read-text bytes track.number span track.codec (some_is _ _ text), private_read-said bytes seen.private)
    (λ i. Ok (record { number = track.number; codec = track.codec; private = makes.private i; width = makes.width i; height = makes.height i }))

entry_read-says : (bytes : List ℕ) (end place id : ℕ) (content rest : List ℕ) (listed : List Track) (said : EntrySaid) (track : Track) → IsSpelled bytes end place id content rest → Says TellsEntry no_entry_said content said → MakesTrack said track → has_number track.number listed ≡ false
    → entry_read listed (spelled place id (length content)) bytes ≡ Ok track
unfolding entry_read thence thence_of
entry_read-says bytes end place id content rest listed said track is says makes new =
    let known = children ShowsEntry visit_entry TellsEntry entry-shows bytes end place id content rest no_entry no_entry_said said is says refl in
    let makes_it : MakesTrack (entry_said bytes known.state) track = subst (λ (s : EntrySaid). MakesTrack s track) (sym known.shown) makes in
    rw known.walk (made bytes listed place known.state track known.state.number known.state.codec makes_it new makes_it.number makes_it.codec)

pub tracks-show : Shows Same visit_tracks TellsTracks
unfolding visit_tracks thence thence_of gives
tracks-show bytes end place id _ rest seen _ _ is shown (tells_track listed content said track says makes new) =
    let same : has_number track.number seen ≡ false = ap (has_number track.number) shown ∙ new in
    record { state = seen ++ track ∷ []; shown = ap (λ (l : List Track). l ++ track ∷ []) shown; is = rw (entry_read-says bytes end place id content rest seen said track is says makes same) refl }
tracks-show bytes end place _ _ rest seen _ _ is shown (tells_no_track listed id content other) =
    record { state = seen; shown = shown; is = rw other refl }
