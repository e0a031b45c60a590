-- Lengths of what the Tracks hold, and one TrackEntry more.
use Rattle.std.proofs.Common.{◌≡◌, ℕ, suc, ◌+◌, ◌-◌, ◌*◌, ◌^◌, ◌<◌, ◌≤◌, List, [], ◌∷◌, ◌++◌, length, take, get_or, All, refl, sym, ap, ◌∙◌, subst, arith, append_assoc, append-nil, length-append, add-zero}
use Rattle.std.specs.List.{sum_by}
use Rattle.byteorder.specs.Numbers.{length-bytes_high_first}
use Rattle.std.proofs.Math.Seq.{take-length}
use Rattle.std.proofs.lemmas.List.{take_more, length-take-le}
use Rattle.std.proofs.lemmas.List.Elements.{All-get_or}
use Rattle.std.proofs.lemmas.List.Sums.{get_or-le-sum_by, sum_by-cons}
use Rattle.ebml_core.specs.Element.{element, uint_element}
use Rattle.ebml_core.specs.Rate.{double_bytes, double_bits, exponent_of}
use Rattle.ebml_core.specs.Heads.{length-element, length-head_of-le, length-uint_element-le}
use Rattle.flac_frame.specs.declared.stream_info.StreamInfo.{StreamInfo}
use Rattle.matroska_names.specs.declared.ids.TheConstants.{AUDIO, BIT_DEPTH, CHANNELS, CODEC_ID, CODEC_PRIVATE, DEFAULT_DURATION, FLAG_LACING, PIXEL_HEIGHT, PIXEL_WIDTH, SAMPLING_FREQUENCY, TRACK_ENTRY, TRACK_NUMBER, TRACK_TYPE, TRACK_UID, VIDEO}
use Rattle.matroska_write.specs.declared.track.TrackOut.{TrackOut}
use Rattle.matroska_write.specs.declared.track.TrackOut.TheVariants.{Video, Audio}
use Rattle.matroska_write.specs.Tracks.{IsTrack, type_of, codec_of, private_of, private_len, duration_of, video_content, audio_content, settings_of, entry_content, entries_from}

-- ---- lengths

length-double_bytes : (rate : ℕ) → length (double_bytes rate) ≡ 8
unfolding double_bytes
length-double_bytes rate = length-bytes_high_first 8 (double_bits (exponent_of rate) rate)

length-video_content-le : (width height : ℕ) → length (video_content width height) ≤ 40
unfolding video_content
length-video_content-le width height =
    omega (arith, length-append (uint_element PIXEL_WIDTH width) (uint_element PIXEL_HEIGHT height), length-uint_element-le PIXEL_WIDTH width (omega arith), length-uint_element-le PIXEL_HEIGHT height (omega arith))

length-audio_content-le : (info : StreamInfo) → length (audio_content info) ≤ 60
unfolding audio_content
length-audio_content-le info =
    let frequency = element SAMPLING_FREQUENCY (double_bytes info.rate) in
    let channels = uint_element CHANNELS info.channels in
    let depth = uint_element BIT_DEPTH info.bits in
    omega (
      arith,
      length-append (frequency ++ channels) depth,
      length-append frequency channels,
      length-element SAMPLING_FREQUENCY (double_bytes info.rate),
      length-double_bytes info.rate,
      length-head_of-le SAMPLING_FREQUENCY (length (double_bytes info.rate)) (omega arith),
      length-uint_element-le CHANNELS info.channels (omega arith),
      length-uint_element-le BIT_DEPTH info.bits (omega arith),
    )

pub short_video : (width height : ℕ) → length (video_content width height) < 2 ^ 56 - 1
short_video width height = omega (arith, length-video_content-le width height)

pub short_audio : (info : StreamInfo) → length (audio_content info) < 2 ^ 56 - 1
short_audio info = omega (arith, length-audio_content-le info)

length-codec_of : (track : TrackOut) → length (codec_of track) ≡ 6
length-codec_of (Video private rate width height) = refl
length-codec_of (Audio info) = refl

length-settings_of-le : (track : TrackOut) → length (settings_of track) ≤ 72
unfolding settings_of
length-settings_of-le (Video private rate width height) =
    omega (
      arith,
      length-append (uint_element DEFAULT_DURATION (duration_of rate)) (element VIDEO (video_content width height)),
      length-uint_element-le DEFAULT_DURATION (duration_of rate) (omega arith),
      length-element VIDEO (video_content width height),
      length-head_of-le VIDEO (length (video_content width height)) (omega arith),
      length-video_content-le width height,
    )
length-settings_of-le (Audio info) =
    omega (arith, length-element AUDIO (audio_content info), length-head_of-le AUDIO (length (audio_content info)) (omega arith), length-audio_content-le info)

length-entry_content-le : (number : ℕ) (track : TrackOut) → length (entry_content number track) ≤ private_len track + 182
unfolding entry_content
length-entry_content-le number track =
    let a = uint_element TRACK_NUMBER number in
    let b = uint_element TRACK_UID number in
    let c = uint_element TRACK_TYPE (type_of track) in
    let d = uint_element FLAG_LACING 0 in
    let e = element CODEC_ID (codec_of track) in
    let f = element CODEC_PRIVATE (private_of track) in
    let g = settings_of track in
    omega (
      arith,
      length-append (a ++ b ++ c ++ d ++ e ++ f) g,
      length-append (a ++ b ++ c ++ d ++ e) f,
      length-append (a ++ b ++ c ++ d) e,
      length-append (a ++ b ++ c) d,
      length-append (a ++ b) c,
      length-append a b,
      length-uint_element-le TRACK_NUMBER number (omega arith),
      length-uint_element-le TRACK_UID number (omega arith),
      length-uint_element-le TRACK_TYPE (type_of track) (omega arith),
      length-uint_element-le FLAG_LACING 0 (omega arith),
      length-element CODEC_ID (codec_of track),
      length-head_of-le CODEC_ID (length (codec_of track)) (omega arith),
      length-codec_of track,
      length-element CODEC_PRIVATE (private_of track),
      length-head_of-le CODEC_PRIVATE (length (private_of track)) (omega arith),
      length-settings_of-le track,
    )

pub short_entry : (number : ℕ) (track : TrackOut) → private_len track < 2 ^ 54 → length (entry_content number track) < 2 ^ 56 - 1
short_entry number track short = omega (arith, short, length-entry_content-le number track)

length-entry-le : (number : ℕ) (track : TrackOut) → length (element TRACK_ENTRY (entry_content number track)) ≤ private_len track + 200
length-entry-le number track =
    omega (arith, length-element TRACK_ENTRY (entry_content number track), length-head_of-le TRACK_ENTRY (length (entry_content number track)) (omega arith), length-entry_content-le number track)

length-entries_from-le : (number : ℕ) (tracks : List TrackOut) → length (entries_from number tracks) ≤ sum_by private_len tracks + 200 * length tracks
unfolding entries_from
length-entries_from-le number [] = omega arith
length-entries_from-le number (track ∷ tracks) =
    omega (
      arith,
      length-append (element TRACK_ENTRY (entry_content number track)) (entries_from (number + 1) tracks),
      length-entry-le number track,
      sum_by-cons private_len track tracks,
      length-entries_from-le (number + 1) tracks,
    )

pub short_entries : (tracks : List TrackOut) → length tracks ≤ 126 → sum_by private_len tracks < 2 ^ 54 → length (entries_from 1 tracks) < 2 ^ 56 - 1
short_entries tracks few short = omega (arith, few, short, length-entries_from-le 1 tracks)

-- ---- the tracks at their places

pub track_at : (tracks : List TrackOut) (k : ℕ) (track : TrackOut) → k < length tracks → track ≡ get_or tracks k track → All IsTrack tracks → IsTrack track
track_at tracks k track inside is all = subst IsTrack (sym is) (All-get_or IsTrack tracks k track inside all)

pub private_at : (tracks : List TrackOut) (k : ℕ) (track : TrackOut) → k < length tracks → track ≡ get_or tracks k track → sum_by private_len tracks < 2 ^ 54 → private_len track < 2 ^ 54
private_at tracks k track inside is short = omega (arith, short, get_or-le-sum_by private_len tracks k track inside, ap private_len is)

-- ---- one TrackEntry more

shifted : (number n : ℕ) → (number + 1) + n ≡ number + suc n
shifted number n = omega arith

entries_from-push : (number : ℕ) (tracks : List TrackOut) (track : TrackOut) → entries_from number (tracks ++ track ∷ []) ≡ entries_from number tracks ++ element TRACK_ENTRY (entry_content (number + length tracks) track)
unfolding entries_from
entries_from-push number [] track =
    append-nil (element TRACK_ENTRY (entry_content number track)) ∙ ap (λ (n : ℕ). element TRACK_ENTRY (entry_content n track)) (sym (add-zero number))
entries_from-push number (first ∷ tracks) track =
    let head = element TRACK_ENTRY (entry_content number first) in
    ap (λ (l : List ℕ). head ++ l) (entries_from-push (number + 1) tracks track ∙ ap (λ (n : ℕ). entries_from (number + 1) tracks ++ element TRACK_ENTRY (entry_content n track)) (shifted number (length tracks)))
    ∙ sym (append_assoc head (entries_from (number + 1) tracks) (element TRACK_ENTRY (entry_content (number + suc (length tracks)) track)))

entries_from-more : (tracks : List TrackOut) (k : ℕ) (track : TrackOut) → k < length tracks → track ≡ get_or tracks k track
    → entries_from 1 (take (k + 1) tracks) ≡ entries_from 1 (take k tracks) ++ element TRACK_ENTRY (entry_content (k + 1) track)
entries_from-more tracks k track inside is =
    ap (entries_from 1) (take_more tracks k track inside ∙ ap (λ (t : TrackOut). take k tracks ++ t ∷ []) (sym is))
    ∙ entries_from-push 1 (take k tracks) track ∙ ap (λ (n : ℕ). entries_from 1 (take k tracks) ++ element TRACK_ENTRY (entry_content n track)) numbered
  where
    numbered : 1 + length (take k tracks) ≡ k + 1
    numbered = omega (arith, length-take-le k tracks (omega arith))

-- the TrackEntry of a number is added behind those before it
pub with_entry : (tracks : List TrackOut) (k number : ℕ) (track : TrackOut) (before after content : List ℕ) → k < length tracks → track ≡ get_or tracks k track → number ≡ k + 1 → before ≡ entries_from 1 (take k tracks)
    → content ≡ entry_content number track → after ≡ before ++ element TRACK_ENTRY content → after ≡ entries_from 1 (take (k + 1) tracks)
with_entry tracks k number track before after content inside is numbered written spelled added =
    added ∙ ap (λ (l : List ℕ). l ++ element TRACK_ENTRY content) written
    ∙ ap (λ (l : List ℕ). entries_from 1 (take k tracks) ++ element TRACK_ENTRY l) (spelled ∙ ap (λ (n : ℕ). entry_content n track) numbered)
    ∙ sym (entries_from-more tracks k track inside is)

pub no_entries : entries_from 1 [] ≡ []
unfolding entries_from
no_entries = refl

pub all_entries : (tracks : List TrackOut) (k : ℕ) → k ≡ length tracks → entries_from 1 (take k tracks) ≡ entries_from 1 tracks
all_entries tracks k all = ap (λ (n : ℕ). entries_from 1 (take n tracks)) all ∙ ap (entries_from 1) (take-length tracks)

pub ruleset track_laws = (short_video, short_audio)
