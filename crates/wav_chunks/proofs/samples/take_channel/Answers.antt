use Rattle.std.proofs.Common.{◌≡◌, ◌<◌, length, refl, sym, ◌∙◌, subst, arith, rules, to_z, of_z, w32}
use Rattle.wav_chunks.specs.Samples.{IsInside, of_stretches}
use Rattle.wav_chunks.proofs.Loops.{taken-next, taken-is, inside-next, all_are_inside}
use Rattle.wav_chunks.proofs.samples.take_channel.Goals as goal

pub loop-i-init : goal.loop-i-init
unfolding of_stretches
loop-i-init g c = record { samples = refl; inside = λ k low. absurd (omega (arith, low)) }

pub loop-i-preserved : goal.loop-i-preserved
loop-i-preserved g c =
    let same : to_z w32 (of_z w32 c.read.result) ≡ c.read.result = search rules in
    let low : c.loop-i.i < length c.loop-i.out = omega (arith, c.loop-i-test.true, c.loop-i.auto.out) in
    record {
      samples =
          taken-next _ c.args.size c.loop-i.i c.args.bytes.now c.loop-i.out _ c.loop-i.invariant.samples low
          (same ∙ taken-is g.C.Coding.bits c.args.place c.args.size c.loop-i.i c.width-width.result c.args.bytes.now c.read.result c.read.ensures.sample c.width-width.ensures c.requires.within);
      inside =
          inside-next g.C.Coding.bits c.loop-i.i c.loop-i.out _ low (subst (IsInside g.C.Coding.bits) (sym same) c.read.ensures.inside) c.loop-i.invariant.inside;
    }

pub returns-clause-inside : goal.returns-clause-inside
returns-clause-inside g c =
    all_are_inside g.C.Coding.bits c.loop-i.i c.loop-i.out (omega (arith, c.loop-i-test.false, c.loop-i.auto.out)) c.loop-i.invariant.inside
