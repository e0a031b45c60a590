-- Numbers that are inside their bits, seen one by one.
use Rattle.std.proofs.Common.{◌≡◌, ℕ, ◌-◌, ◌^◌, ◌<◌, ◌≤◌, ℤ, pos, List, length, inl, inr, arith}
use Rattle.std.proofs.lemmas.Bool.{cases_lt}
use Rattle.std.proofs.lemmas.Int.{ints}
use Rattle.std.proofs.lemmas.List.{get_or_past}
use Rattle.std.proofs.lemmas.Nat.{pow_pos}
use Rattle.flac_predict.specs.Samples.{sample_at, IsInside, AreInside}
use Rattle.wav_chunks.specs.Samples as waves

-- 0 is inside any bits
nothing_is_inside : (bits : ℕ) → IsInside bits (pos 0)
nothing_is_inside bits =
    let h : 0 < 2 ^ (bits - 1) = pow_pos (bits - 1) in
    record { low = omega (arith, ints, h); high = omega (arith, ints, h) }

-- numbers whose places were all looked at
pub all_are_inside : (bits place : ℕ) (numbers : List ℤ) → length numbers ≤ place → ((k : ℕ) → k < place → IsInside bits (sample_at numbers k)) → AreInside bits numbers
all_are_inside bits place numbers end each = record {
  each = λ k. elim (cases_lt k place) as (λ _. IsInside bits (sample_at numbers k)) [
    | inl l ↦ each k l
    | inr l ↦ let p : sample_at numbers k ≡ pos 0 = get_or_past numbers k (pos 0) (omega (arith, end, l)) in rw p (nothing_is_inside bits)
  ];
}

-- a codec's samples inside their bits are a wave's
pub inside-wave : (bits : ℕ) (samples : List ℤ) → AreInside bits samples → waves.AreInside bits samples
inside-wave bits samples are = record { each = λ k. record { low = (are.each k).low; high = (are.each k).high } }

pub ruleset inside_laws = (inside-wave)
