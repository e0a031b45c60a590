-- Laws of the format that a `fmt ` chunk tells.
use Rattle.std.proofs.Common.{◌≡◌, ℕ, ◌+◌, min, List, Some, None, Ok, Err, sym, ◌∙◌, ap}
use Rattle.shelf_reader.specs.declared.error.ReadError.TheVariants.{Fault}
use Rattle.shelf_reader.specs.Readings.{answers, Answers}
use Rattle.shelf_reader.specs.Seen.{Seen, Sees, between}
use Rattle.shelf_reader.specs.ReadingLaws.{gives-is, fails-is, answers-is}
use Rattle.shelf_reader.specs.SeenLaws.{Sees-so}
use Rattle.wav_chunks.specs.declared.why.WavWhy.{WavWhy}
use Rattle.wav_chunks.specs.declared.parts.Chunk.{Chunk}
use Rattle.wav_chunks.specs.declared.parts.Fields.{Fields}
use Rattle.wav_chunks.specs.declared.parts.Format.{Format}
use Rattle.wav_chunks.specs.WaveParts.{fields_of, fields_in, rules, first_broken, format_by}

-- fields that keep the rules tell a format
pub format-kept : (known : Seen) (fields : Fields) (format : Format) → first_broken (rules fields) ≡ None
    → format ≡ record { channels = fields.channels; bits = fields.bits; rate = fields.rate }
    → Answers {F = WavWhy} known (format_by (first_broken (rules fields)) fields) (Ok format)
unfolding format_by
format-kept known fields format kept is = rw (kept, is) (gives-is WavWhy known (record { channels = fields.channels; bits = fields.bits; rate = fields.rate }))

-- and others their first fault
pub format-broken : (known : Seen) (fields : Fields) (why : WavWhy) → first_broken (rules fields) ≡ Some why
    → Answers {T = Format} known (format_by (first_broken (rules fields)) fields) (Err (Fault why))
unfolding format_by
format-broken known fields why broken = rw broken (fails-is Format known why)

pub ruleset format_laws = (format-kept, format-broken)

-- the fields that were seen
pub fields-seen : (F : Type 0) (known : Seen) (chunk : Chunk) (to : ℕ) (part : List ℕ) (fields : Fields) → to ≡ chunk.start + min chunk.size 40
    → Sees known (between chunk.start to) part → fields ≡ fields_of part → Answers {F = F} known (answers (fields_in chunk)) (Ok fields)
unfolding fields_in
fields-seen F known chunk to part fields end sees is =
    answers-is F known (fields_in chunk) fields
    (Sees-so known (between chunk.start to) part (fields_in chunk) fields sees
    (λ bytes e. ap (λ (n : ℕ). fields_of (between chunk.start n bytes)) (sym end) ∙ ap fields_of e ∙ sym is))

pub ruleset fields_laws = (fields-seen)
