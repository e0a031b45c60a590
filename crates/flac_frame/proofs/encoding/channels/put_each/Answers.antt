use Rattle.std.proofs.Common.{◌≡◌, ◌<◌, ◌++◌, sym, ap, subst, ◌∙◌, add-one, arith}
use Rattle.flac_predict.specs.Samples.{AreInside}
use Rattle.flac_frame.specs.Samples.{channel_of, channels_of, stretches}
use Rattle.flac_frame.specs.Writing.{each_bits, best_subframe}
use Rattle.flac_frame.proofs.WritingLaws.{no_rows_yet, row_on, all_wide}
use Rattle.flac_frame.proofs.encoding.channels.put_each.Goals as goal

pub loop-k-init : goal.loop-k-init
unfolding stretches
loop-k-init c = no_rows_yet c.args.bits c.args.writer.now

pub put_channel-requires-clause-wide : goal.put_channel-requires-clause-wide
put_channel-requires-clause-wide c =
    let at = c.loop-k in
    let lt : at.k < c.args.block.now.channels = omega (arith, c.loop-k-test.true, c.channels-k-end.ensures) in
    subst (AreInside 25) (sym c.channel.ensures.samples) (all_wide c.args.bits (channel_of c.args.block.now at.k) (omega (arith, c.requires.high)) (c.requires.samples.each at.k lt))

pub loop-k-preserved : goal.loop-k-preserved
unfolding stretches channel_of
loop-k-preserved c =
    let at = c.loop-k in
    let row = channel_of c.args.block.now at.k in
    let e : c.put_channel.new.writer ≡ at.writer ++ best_subframe c.args.bits row = c.in_ok-put_channel.ensures ∙ ap (λ xs. at.writer ++ best_subframe c.args.bits xs) c.channel.ensures.samples in
    rw add-one (row_on c.args.bits c.args.writer.now at.writer c.put_channel.new.writer (stretches c.args.block.now.capacity c.args.block.now.len c.args.block.now.samples at.k) row at.invariant e)

pub returns : goal.returns
unfolding channels_of
returns c =
    let at = c.loop-k in
    let end : at.k ≡ c.args.block.now.channels = omega (arith, at.auto.k-end, c.loop-k-test.false, c.channels-k-end.ensures) in
    at.invariant ∙ ap (λ n. c.args.writer.now ++ each_bits c.args.bits (stretches c.args.block.now.capacity c.args.block.now.len c.args.block.now.samples n)) end
