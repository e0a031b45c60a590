use Rattle.std.proofs.Common.{◌≡◌, ℕ, ◌/◌, ◌<◌, take, drop}
use Rattle.wav_chunks.specs.Samples.{IsInside, sample_at, sample_of, of_stretches}
use Rattle.wav_chunks.proofs.samples.take_channel.Given as goal

-- the samples so far are taken
abbrev pub invariant-loop-i : goal.invariant-loop-i
invariant-loop-i g l = record {
  samples : take l.i l.out ≡ of_stretches (λ block. sample_of g.C.Coding.bits (take (g.C.Coding.bits / 8) (drop l.place block))) l.size l.i l.bytes;
  inside : (k : ℕ) → k < l.i → IsInside g.C.Coding.bits (sample_at l.out k);
}
