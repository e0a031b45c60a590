use Rattle.std.proofs.Common.{◌≡◌, ℕ, ◌+◌, ◌-◌, ◌*◌, ◌/◌, ◌≤◌, length, take, drop, refl, ◌∙◌, ap, arith, rules, length-drop}
use Rattle.std.proofs.lemmas.List.{length-take-le}
use Rattle.wav_chunks.specs.Samples.{sample_bytes}
use Rattle.wav_chunks.proofs.Loops.{put-none, put-next, rest-next}
use Rattle.wav_chunks.proofs.Rows.{block_end}
use Rattle.wav_chunks.proofs.samples.put_channel.Goals as goal

pub loop-i-init : goal.loop-i-init
loop-i-init g c = record { put = put-none g.C.Coding.bits c.args.place c.args.size c.args.samples.now c.args.bytes.now; rest = refl }

pub loop-i-preserved : goal.loop-i-preserved
loop-i-preserved g c =
    let bits : ℕ = g.C.Coding.bits in
    let at : ℕ = c.loop-i.i * c.args.size + c.args.place in
    let within = c.requires.within in
    let behind : c.loop-i.i * c.args.size + c.args.size ≤ length c.args.samples.now * c.args.size = block_end c.args.size (length c.args.samples.now) c.loop-i.i c.loop-i-test.true in
    let room : c.loop-i.i * c.args.size + c.args.size ≤ length c.loop-i.bytes = omega (arith, behind, c.requires.blocks, c.loop-i.auto.bytes) in
    let span : at + c.width-width.result - at ≡ bits / 8 = omega (arith, c.width-width.ensures) in
    let left : length (drop at c.loop-i.bytes) ≡ length c.loop-i.bytes - at = length-drop at c.loop-i.bytes in
    let part : length (take (at + c.width-width.result - at) (drop at c.loop-i.bytes)) ≡ at + c.width-width.result - at = length-take-le _ (drop at c.loop-i.bytes) (omega (arith, span, left, room, within)) in
    let long : length c.write.new.bytes ≡ bits / 8 = c.write.auto.bytes ∙ part ∙ span in
    record {
      put =
          put-next bits c.args.place c.args.size c.loop-i.i (bits / 8) _ c.args.samples.now c.args.bytes.now c.loop-i.bytes c.write.new.bytes c.loop-i.invariant.put c.loop-i.invariant.rest within room long span
          (c.write.ensures ∙ ap (sample_bytes bits) (search rules));
      rest = rest-next c.args.place c.args.size c.loop-i.i _ c.args.bytes.now c.loop-i.bytes c.write.new.bytes c.loop-i.invariant.rest (omega (arith, span, within)) room (c.write.auto.bytes ∙ part);
    }
