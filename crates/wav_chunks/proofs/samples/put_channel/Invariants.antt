use Rattle.std.proofs.Common.{◌≡◌, ◌*◌, take, drop}
use Rattle.wav_chunks.specs.Samples.{put_in_each}
use Rattle.wav_chunks.proofs.samples.put_channel.Given as goal

-- the samples so far are put, and the bytes behind their blocks are as they were
abbrev pub invariant-loop-i : goal.invariant-loop-i
invariant-loop-i g l = record {
  put : take (l.i * l.size) l.bytes ≡ put_in_each g.C.Coding.bits l.place l.size l.i l.samples l.fn.bytes;
  rest : drop (l.i * l.size) l.bytes ≡ drop (l.i * l.size) l.fn.bytes;
}
