-- Laws of layouts and of how a wave begins.
use Rattle.std.proofs.Common.{◌≡◌, ℕ, ◌-◌, ◌*◌, ◌/◌, ◌^◌, ◌<◌, ◌≤◌, min, Bool, false, ◌&&◌, List, codes, Ok, sym, ◌∙◌, ap, arith}
use Rattle.std.proofs.Math.Nat.{div-mul-le_self}
use Rattle.shelf_reader.specs.Readings.{answers, Answers}
use Rattle.shelf_reader.specs.Seen.{Seen, Sees, between, is_same_text}
use Rattle.shelf_reader.specs.ReadingLaws.{answers-is}
use Rattle.shelf_reader.specs.SeenLaws.{Sees-so, Sees-both}
use Rattle.wav_chunks.specs.declared.layout.WavLayout.{WavLayout}
use Rattle.wav_chunks.specs.declared.parts.Sound.{Sound}
use Rattle.wav_chunks.specs.Samples.{block_len}
use Rattle.wav_chunks.specs.Formed.{IsSound, IsLayoutIn}
use Rattle.wav_chunks.specs.WaveParts.{blocks_in, layout_from, is_riff}

-- the blocks of a sound end inside the file
blocks_end : (count block : ℕ) → count / block * block ≤ count
blocks_end count block = div-mul-le_self count block

pub layout-in : (len : ℕ) (sound : Sound) (layout : WavLayout) → IsSound len sound → layout ≡ layout_from len sound → blocks_in len sound < 2 ^ 36 → IsLayoutIn len layout
layout-in len sound layout is same few =
    let fits : blocks_in len sound * block_len sound.format.bits sound.format.channels ≤ min sound.size (len - sound.start) = blocks_end (min sound.size (len - sound.start)) (block_len sound.format.bits sound.format.channels) in
    let start = is.start in
    rw same
    (record {
      formed = record { some = is.format.some; few = is.format.few; depth = is.format.depth; rate_low = is.format.rate_low; rate_high = is.format.rate_high; blocks = few };
      within = omega (arith, fits, start);
    })

pub ruleset layout_laws = (layout-in)

-- how a wave begins
pub riff-seen : (F : Type 0) (known : Seen) (first last : List ℕ) (same : Bool) → Sees known (between 0 4) first → Sees known (between 8 12) last
    → same ≡ (is_same_text first (codes "RIFF") && is_same_text last (codes "WAVE")) → Answers {F = F} known (answers is_riff) (Ok same)
unfolding is_riff
riff-seen F known first last same one two is =
    answers-is F known is_riff same
    (Sees-both known (between 0 4) first (between 8 12) last is_riff same one two
    (λ bytes e f. ap (λ xs. is_same_text xs (codes "RIFF") && is_same_text (between 8 12 bytes) (codes "WAVE")) e
    ∙ ap (λ xs. is_same_text first (codes "RIFF") && is_same_text xs (codes "WAVE")) f ∙ sym is))

-- a file that begins otherwise
pub riff-other : (F : Type 0) (known : Seen) (first : List ℕ) (same : Bool) → Sees known (between 0 4) first → same ≡ is_same_text first (codes "RIFF") → same ≡ false
    → Answers {F = F} known (answers is_riff) (Ok same)
unfolding is_riff
riff-other F known first same sees is other =
    answers-is F known is_riff same
    (Sees-so known (between 0 4) first is_riff same sees
    (λ bytes e. ap (λ xs. is_same_text xs (codes "RIFF") && is_same_text (between 8 12 bytes) (codes "WAVE")) e
    ∙ ap (λ begins. begins && is_same_text (between 8 12 bytes) (codes "WAVE")) (sym is ∙ other)
    ∙ sym other))

pub ruleset riff_laws = (riff-seen)
