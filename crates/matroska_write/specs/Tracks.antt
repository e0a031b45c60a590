-- The tracks of a package (RFC 9559, section 5.1.4): a TrackEntry each, numbered from 1.
use Rattle.std.specs.Prelude.{ℕ, ◌+◌, ◌/◌, ◌≤◌, ◌==◌, if◌then◌else◌, List, [], ◌∷◌, ◌++◌, length}
use Rattle.ebml_core.specs.Element.{element, uint_element}
use Rattle.ebml_core.specs.Rate.{double_bytes}
use Rattle.flac_frame.specs.StreamInfo.{IsWritable, info_bytes}
use Rattle.flac_frame.specs.declared.stream_info.StreamInfo.{StreamInfo}
use Rattle.matroska_names.specs.declared.ids.TheConstants.{AUDIO, BIT_DEPTH, CHANNELS, CODEC_ID, CODEC_PRIVATE, DEFAULT_DURATION, FLAG_LACING, PIXEL_HEIGHT, PIXEL_WIDTH, SAMPLING_FREQUENCY, TRACK_ENTRY, TRACK_NUMBER, TRACK_TYPE, TRACK_UID, TRACKS, VIDEO}
use Rattle.matroska_names.specs.declared.texts.TheConstants.{FFV1_CODEC, FLAC_CODEC}
use Rattle.matroska_write.specs.declared.track.TrackOut.{TrackOut}
use Rattle.matroska_write.specs.declared.track.TrackOut.TheVariants.{Video, Audio}

-- ---- what a track must be

-- a sound whose parameters can be spelled, and which has a rate
pub record IsSound (info : StreamInfo) : Type 0 where
  pub writable : IsWritable info
  pub rate : 1 ≤ info.rate

-- a track that can be listed
abbrev pub IsTrack : TrackOut → Type 0
IsTrack (Video private rate width height) = 1 ≤ rate
IsTrack (Audio info) = IsSound info

-- ---- what a TrackEntry says

-- TrackType: 1 for video, 2 for audio
abbrev pub type_of : TrackOut → ℕ
type_of (Video private rate width height) = 1
type_of (Audio info) = 2

-- CodecID
abbrev pub codec_of : TrackOut → List ℕ
codec_of (Video private rate width height) = FFV1_CODEC.now
codec_of (Audio info) = FLAC_CODEC.now

-- what a FLAC stream begins with before its STREAMINFO (RFC 9639, section 8): the letters `fLaC`, and the head of the only block of
-- metadata, which is the last one, has the kind 0 and 34 bytes
abbrev pub flac_mark : List ℕ
flac_mark = 102 ∷ 76 ∷ 97 ∷ 67 ∷ 128 ∷ 0 ∷ 0 ∷ 34 ∷ []

-- the private data of a sound: what its FLAC stream begins with
abbrev pub flac_private : StreamInfo → List ℕ
flac_private info = flac_mark ++ info_bytes info

-- CodecPrivate: the configuration record of FFV1, or what a FLAC stream begins with
unfoldable pub private_of : TrackOut → List ℕ
private_of (Video private rate width height) = private
private_of (Audio info) = flac_private info

-- its length
abbrev pub private_len : TrackOut → ℕ
private_len track = length (private_of track)

-- DefaultDuration: the nanoseconds of a frame at so many frames a second, rounded down
abbrev pub duration_of : ℕ → ℕ
duration_of rate = 1000000000 / rate

-- the content of Video
unfoldable pub video_content : ℕ → ℕ → List ℕ
video_content width height = uint_element PIXEL_WIDTH width ++ uint_element PIXEL_HEIGHT height

-- the content of Audio
unfoldable pub audio_content : StreamInfo → List ℕ
audio_content info = element SAMPLING_FREQUENCY (double_bytes info.rate) ++ uint_element CHANNELS info.channels ++ uint_element BIT_DEPTH info.bits

-- what a TrackEntry ends with: DefaultDuration and Video, or Audio
unfoldable pub settings_of : TrackOut → List ℕ
settings_of (Video private rate width height) = uint_element DEFAULT_DURATION (duration_of rate) ++ element VIDEO (video_content width height)
settings_of (Audio info) = element AUDIO (audio_content info)

-- the content of a TrackEntry with its number: TrackNumber, TrackUID, TrackType, FlagLacing, CodecID, CodecPrivate, then what is the kind's own
unfoldable pub entry_content : ℕ → TrackOut → List ℕ
entry_content number track =
    uint_element TRACK_NUMBER number ++ uint_element TRACK_UID number ++ uint_element TRACK_TYPE (type_of track) ++ uint_element FLAG_LACING 0
    ++ element CODEC_ID (codec_of track) ++ element CODEC_PRIVATE (private_of track) ++ settings_of track

-- ---- the Tracks

-- tracks one after another as TrackEntries, numbered from a first number on
unfoldable pub entries_from : ℕ → List TrackOut → List ℕ
entries_from number [] = []
entries_from number (track ∷ tracks) = element TRACK_ENTRY (entry_content number track) ++ entries_from (number + 1) tracks

-- the Tracks element: no bytes where there are no tracks
unfoldable pub tracks_of : List TrackOut → List ℕ
tracks_of tracks = if length tracks == 0 then [] else element TRACKS (entries_from 1 tracks)
