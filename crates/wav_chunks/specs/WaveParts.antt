-- Where the samples of a RIFF WAVE file lie, or the first rule that the file breaks (Multimedia Programming Interface and
-- Data Specifications 1.0, "Resource Interchange File Format" and "Waveform Audio File Format"; for the extensible tag,
-- Multiple Channel Audio Data and WAVE Files). A file is walked by its chunks, in order of place, from behind `RIFF`, a size
-- and `WAVE`; the size of `RIFF` is ignored. The first `fmt ` chunk counts. The walk ends at the first `data` chunk.
use Rattle.std.specs.Prelude.{ℕ, ◌+◌, ◌-◌, ◌*◌, ◌/◌, ◌%◌, ◌^◌, min, not, nat_le, ◌==◌, ◌&&◌, ◌||◌, Bool, if◌then◌else◌, List, [], ◌∷◌, length, take, codes, Option, Some, None, Result}
use Rattle.byteorder.specs.Endian.{little_number}
use Rattle.shelf_reader.specs.Readings.{Reading, gives, fails, looks, answers, thence}
use Rattle.shelf_reader.specs.Seen.{between, is_same_text}
use Rattle.shelf_reader.specs.Walk.{Grammar, Visit, walked}
use Rattle.wav_chunks.specs.Samples.{is_depth, block_len}
use Rattle.wav_chunks.specs.declared.layout.WavLayout.{WavLayout}
use Rattle.wav_chunks.specs.declared.why.WavWhy.{WavWhy}
use Rattle.wav_chunks.specs.declared.why.WavWhy.TheVariants as why
use Rattle.wav_chunks.specs.declared.parts.ChunkKind.{ChunkKind}
use Rattle.wav_chunks.specs.declared.parts.ChunkKind.TheVariants as kind
use Rattle.wav_chunks.specs.declared.parts.Chunk.{Chunk}
use Rattle.wav_chunks.specs.declared.parts.Fields.{Fields}
use Rattle.wav_chunks.specs.declared.parts.Format.{Format}
use Rattle.wav_chunks.specs.declared.parts.Sound.{Sound}
use Rattle.wav_chunks.specs.declared.parts.WaveSeen.{WaveSeen}

-- a reading of a wave
abbrev pub Read : Type 0 → Type 0
Read T = Reading T WavWhy

-- the number from one place up to another, the lowest byte first
abbrev pub number_between : ℕ → ℕ → List ℕ → ℕ
number_between from to bytes = little_number (to - from) (between from to bytes)

-- ---- chunks: an identifier of four bytes, the size of the content, the content, and a byte more behind an odd size

unfoldable pub kind_of : List ℕ → ChunkKind
kind_of id = if is_same_text id (codes "fmt ") then kind.Format else (if is_same_text id (codes "data") then kind.Data else kind.Other)

-- where the walk goes on behind a chunk of a file that ends at `end`: with `data` it ends
unfoldable pub behind_kind : ℕ → ChunkKind → ℕ → ℕ
behind_kind end kind.Data next = end
behind_kind end kind.Format next = min end next
behind_kind end kind.Other next = min end next

-- the chunk of a head at a place
unfoldable pub chunk_of : ℕ → ℕ → List ℕ → Chunk
chunk_of end place head =
    let size = number_between 4 8 head in
    record {
      kind = kind_of (take 4 head);
      start = place + 8;
      size = size;
      behind = behind_kind end (kind_of (take 4 head)) (place + 8 + size + size % 2);
    }

unfoldable pub chunk_in : ℕ → ℕ → List ℕ → Chunk
chunk_in end place bytes = chunk_of end place (between place (place + 8) bytes)

-- the chunk at a place of a file that ends at `end`
unfoldable pub chunk_at : ℕ → ℕ → Read Chunk
chunk_at end place = if nat_le (place + 8) end then answers (chunk_in end place) else fails why.NoData

abbrev pub behind_chunk : Chunk → ℕ
behind_chunk chunk = chunk.behind

-- chunks as the items of a walk
abbrev pub riff : Grammar Chunk WavWhy
riff = record { item_at = chunk_at; behind = behind_chunk }

-- ---- the format

-- the subformat of PCM
abbrev pub pcm_subformat : List ℕ
pcm_subformat = 1 ∷ 0 ∷ 0 ∷ 0 ∷ 0 ∷ 0 ∷ 16 ∷ 0 ∷ 128 ∷ 0 ∷ 0 ∷ 170 ∷ 0 ∷ 56 ∷ 155 ∷ 113 ∷ []

-- the tag is WAVE_FORMAT_EXTENSIBLE
abbrev pub is_extensible : List ℕ → Bool
is_extensible content = number_between 0 2 content == 65534

unfoldable pub has_pcm_subformat : List ℕ → Bool
has_pcm_subformat content = is_same_text (between 24 40 content) pcm_subformat

-- the content is as long as the extensible tag asks
abbrev pub is_whole : List ℕ → Bool
is_whole content = nat_le 40 (length content)

-- the fields of the content of `fmt `
unfoldable pub fields_of : List ℕ → Fields
fields_of content =
    record {
      is_short = is_extensible content && not (is_whole content);
      is_pcm = number_between 0 2 content == 1 || (is_extensible content && (is_whole content && has_pcm_subformat content));
      channels = number_between 2 4 content;
      rate = number_between 4 8 content;
      align = number_between 12 14 content;
      bits = number_between 14 16 content;
    }

-- each rule with what is told where it is broken
abbrev pub rules : Fields → List (Bool × WavWhy)
rules fields =
    (not fields.is_short, why.FormatShort)
    ∷ (fields.is_pcm, why.Tag)
    ∷ (nat_le 1 fields.channels && nat_le fields.channels 8, why.Channels)
    ∷ (nat_le 1 fields.rate && nat_le fields.rate 1048575, why.Rate)
    ∷ (is_depth fields.bits, why.Bits)
    ∷ (fields.align == fields.channels * fields.bits / 8, why.Align)
    ∷ []

-- the first that is broken
abbrev pub first_broken : List (Bool × WavWhy) → Option WavWhy
first_broken [] = None
first_broken (rule ∷ others) = if rule.0 then first_broken others else Some rule.1

unfoldable pub format_by : Option WavWhy → Fields → Read Format
format_by None fields = gives (record { channels = fields.channels; bits = fields.bits; rate = fields.rate })
format_by (Some broken) fields = fails broken

-- the fields of a chunk: at most 40 bytes of its content tell them
unfoldable pub fields_in : Chunk → List ℕ → Fields
fields_in chunk bytes = fields_of (between chunk.start (chunk.start + min chunk.size 40) bytes)

unfoldable pub format_read : Chunk → Read Format
format_read chunk = looks (fields_in chunk) (λ fields. format_by (first_broken (rules fields)) fields)

-- the format of a `fmt ` chunk of a file of so many bytes
unfoldable pub format_in : ℕ → Chunk → Read Format
format_in len chunk = if nat_le 16 chunk.size && nat_le (chunk.start + chunk.size) len then format_read chunk else fails why.FormatShort

-- ---- the walk

abbrev pub nothing_seen : WaveSeen
nothing_seen = record { format = None; sound = None }

abbrev pub with_format : WaveSeen → Format → WaveSeen
with_format seen format = record { format = Some format; sound = seen.sound }

abbrev pub with_sound : WaveSeen → Format → Chunk → WaveSeen
with_sound seen format chunk = record { format = seen.format; sound = Some (record { format = format; start = chunk.start; size = chunk.size }) }

unfoldable pub visit_format : ℕ → Option Format → WaveSeen → Chunk → Read WaveSeen
visit_format len (Some format) seen chunk = gives seen
visit_format len None seen chunk = thence (format_in len chunk) (λ format. gives (with_format seen format))

unfoldable pub visit_data : Option Format → WaveSeen → Chunk → Read WaveSeen
visit_data (Some format) seen chunk = gives (with_sound seen format chunk)
visit_data None seen chunk = fails why.NoFormat

unfoldable pub visit_kind : ℕ → ChunkKind → WaveSeen → Chunk → Read WaveSeen
visit_kind len kind.Format seen chunk = visit_format len seen.format seen chunk
visit_kind len kind.Data seen chunk = visit_data seen.format seen chunk
visit_kind len kind.Other seen chunk = gives seen

-- what is known with one chunk more
abbrev pub visit_chunk : ℕ → Visit WaveSeen Chunk WavWhy
visit_chunk len seen chunk = visit_kind len chunk.kind seen chunk

-- ---- the layout

-- whole blocks: of the data's bytes, or of those up to the file's end where there are fewer
abbrev pub blocks_in : ℕ → Sound → ℕ
blocks_in len sound = min sound.size (len - sound.start) / block_len sound.format.bits sound.format.channels

abbrev pub layout_from : ℕ → Sound → WavLayout
layout_from len sound =
    record { head_len = sound.start; channels = sound.format.channels; bits = sound.format.bits; rate = sound.format.rate; blocks = blocks_in len sound }

unfoldable pub layout_of : ℕ → Option Sound → Read WavLayout
layout_of len None = fails why.NoData
layout_of len (Some sound) = if nat_le (2 ^ 36) (blocks_in len sound) then fails why.TooLong else gives (layout_from len sound)

unfoldable pub is_riff : List ℕ → Bool
is_riff bytes = is_same_text (between 0 4 bytes) (codes "RIFF") && is_same_text (between 8 12 bytes) (codes "WAVE")

unfoldable pub wave_walked : ℕ → Read WaveSeen
wave_walked len = walked riff (visit_chunk len) len nothing_seen 12

unfoldable pub wave_chunks : ℕ → Read WavLayout
wave_chunks len = thence (wave_walked len) (λ seen. layout_of len seen.sound)

-- the parts of a file of so many bytes
unfoldable pub wave_in : ℕ → Read WavLayout
wave_in len = if nat_le 12 len then looks is_riff (λ riff. if riff then wave_chunks len else fails why.Magic) else fails why.Short

-- the layout of a file, or the first rule that it breaks
unfoldable pub wave_of : List ℕ → Result WavLayout WavWhy
wave_of file = wave_in (length file) file
