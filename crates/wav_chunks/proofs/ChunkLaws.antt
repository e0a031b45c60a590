-- Laws of chunks and of the walk over them.
use Rattle.std.proofs.Common.{◌≡◌, ℕ, ◌+◌, ◌<◌, ◌≤◌, nat_le, Bool, true, false, cond, List, Result, Ok, refl, sym, ◌∙◌, ap, subst, arith}
use Rattle.std.proofs.lemmas.Bool.{leb-true}
use Rattle.shelf_reader.specs.Readings.{answers, fails, Answers}
use Rattle.shelf_reader.specs.Seen.{Seen, Sees, between}
use Rattle.shelf_reader.specs.ReadingLaws.{answers-is}
use Rattle.shelf_reader.specs.SeenLaws.{Sees-so}
use Rattle.shelf_reader.specs.declared.error.ReadError.{ReadError}
use Rattle.wav_chunks.specs.declared.why.WavWhy.{WavWhy}
use Rattle.wav_chunks.specs.declared.why.WavWhy.TheVariants as why
use Rattle.wav_chunks.specs.declared.parts.ChunkKind.{ChunkKind}
use Rattle.wav_chunks.specs.declared.parts.ChunkKind.TheVariants as kind
use Rattle.wav_chunks.specs.declared.parts.Chunk.{Chunk}
use Rattle.wav_chunks.specs.declared.parts.WaveSeen.{WaveSeen}
use Rattle.wav_chunks.specs.WaveParts.{behind_kind, chunk_of, chunk_in, chunk_at, visit_chunk}

-- the chunk that was seen
pub chunk-seen : (F : Type 0) (known : Seen) (end place to : ℕ) (part : List ℕ) (chunk : Chunk) → to ≡ place + 8
    → Sees known (between place to) part → chunk ≡ chunk_of end place part → Answers {F = F} known (answers (chunk_in end place)) (Ok chunk)
unfolding chunk_in
chunk-seen F known end place to part chunk here sees is =
    answers-is F known (chunk_in end place) chunk
    (Sees-so known (between place to) part (chunk_in end place) chunk sees
    (λ bytes e. ap (λ (n : ℕ). chunk_of end place (between place n bytes)) (sym here) ∙ ap (chunk_of end place) e ∙ sym is))

pub ruleset chunk_laws = (chunk-seen)

-- ---- each chunk ends behind its place, where the file does or before

behind-on : (end place next : ℕ) (which : ChunkKind) → place < end → place < next → (place < behind_kind end which next) × (behind_kind end which next ≤ end)
unfolding behind_kind
behind-on end place next kind.Data before on = (before, omega arith)
behind-on end place next kind.Format before on = (omega (arith, before, on), omega arith)
behind-on end place next kind.Other before on = (omega (arith, before, on), omega arith)

chunk-on : (end place : ℕ) (head : List ℕ) → place + 8 ≤ end → (place < (chunk_of end place head).behind) × ((chunk_of end place head).behind ≤ end)
unfolding chunk_of
chunk-on end place head room = behind-on end place _ _ (omega (arith, room)) (omega arith)

ok_is : (a b : Chunk) (r : Result Chunk WavWhy) → r ≡ Ok a → r ≡ Ok b → a ≡ b
ok_is a b r h k = cc

pub riff_goes_on : (end place : ℕ) (bytes : List ℕ) (chunk : Chunk) → chunk_at end place bytes ≡ Ok chunk → (place < chunk.behind) × (chunk.behind ≤ end)
unfolding chunk_at answers fails chunk_in
riff_goes_on end place bytes chunk h = by_test (nat_le (place + 8) end) refl h
  where
    by_test : (t : Bool) → nat_le (place + 8) end ≡ t → cond t (answers {F = WavWhy} (chunk_in end place)) (fails why.NoData) bytes ≡ Ok chunk → (place < chunk.behind) × (chunk.behind ≤ end)
    by_test true e is =
        let room : place + 8 ≤ end = leb-true _ _ e in
        let same : chunk_of end place (between place (place + 8) bytes) ≡ chunk = ok_is _ chunk _ refl is in
        let on = chunk-on end place (between place (place + 8) bytes) room in
        let behind : (chunk_of end place (between place (place + 8) bytes)).behind ≡ chunk.behind = ap (λ (c : Chunk). c.behind) same in
        (omega (arith, on.0, behind), omega (arith, on.1, behind))
    by_test false e is = let no : ⊥ = cc in absurd no

pub ruleset riff_laws = (riff_goes_on)

-- ---- a reading that another state of the reader tells

pub chunk-told : (first known : Seen) (end len place : ℕ) (result : Result Chunk (ReadError WavWhy)) → first ≡ known → end ≡ len
    → Answers first (chunk_at end place) result → Answers known (chunk_at len place) result
chunk-told first known end len place result same long answer =
    subst (λ (n : ℕ). Answers known (chunk_at n place) result) long (subst (λ (k : Seen). Answers k (chunk_at end place) result) same answer)

pub visit-told : (first known : Seen) (end len : ℕ) (seen : WaveSeen) (chunk : Chunk) (result : Result WaveSeen (ReadError WavWhy)) → first ≡ known → end ≡ len
    → Answers first (visit_chunk end seen chunk) result → Answers known (visit_chunk len seen chunk) result
visit-told first known end len seen chunk result same long answer =
    subst (λ (n : ℕ). Answers known (visit_chunk n seen chunk) result) long (subst (λ (k : Seen). Answers k (visit_chunk end seen chunk) result) same answer)
