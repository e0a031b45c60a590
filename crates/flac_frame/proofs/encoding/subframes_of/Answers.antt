use Rattle.std.proofs.Common.{◌≡◌, ◌≢◌, arith}
use Rattle.std.proofs.lemmas.Result.{IfOk-weaker}
use Rattle.flac_frame.specs.Samples.{channels_of}
use Rattle.flac_frame.proofs.EncodeLaws.{AreSubframes, each_ok, pair_ok}
use Rattle.flac_frame.proofs.encoding.subframes_of.Goals as goal

pub returns-then-channels-ne2-clause-code : goal.returns-then-channels-ne2-clause-code
returns-then-channels-ne2-clause-code c =
    let apart : c.args.block.now.channels ≢ 2 = omega (arith, c.channels.ensures) in
    IfOk-weaker c.each.result (AreSubframes c.args.bits (channels_of c.args.block.now)) _ (λ all are. are.code)
    (each_ok c.each.result c.args.bits c.args.block.now c.requires.channels c.requires.eight apart c.each.ensures.code c.each.ensures.bytes)

pub returns-then-channels-ne2-clause-bytes : goal.returns-then-channels-ne2-clause-bytes
returns-then-channels-ne2-clause-bytes c =
    let apart : c.args.block.now.channels ≢ 2 = omega (arith, c.channels.ensures) in
    IfOk-weaker c.each.result (AreSubframes c.args.bits (channels_of c.args.block.now)) _ (λ all are. are.bytes)
    (each_ok c.each.result c.args.bits c.args.block.now c.requires.channels c.requires.eight apart c.each.ensures.code c.each.ensures.bytes)

pub returns-clause-code : goal.returns-clause-code
returns-clause-code c =
    let two : c.args.block.now.channels ≡ 2 = omega (arith, c.channels.ensures) in
    IfOk-weaker c.pair.result (AreSubframes c.args.bits (channels_of c.args.block.now)) _ (λ all are. are.code)
    (pair_ok c.pair.result c.args.bits c.args.block.now c.channel.result.now c.channel-2.result.now two c.channel.ensures.samples c.channel-2.ensures.samples c.pair.ensures.code c.pair.ensures.bytes)

pub returns-clause-bytes : goal.returns-clause-bytes
returns-clause-bytes c =
    let two : c.args.block.now.channels ≡ 2 = omega (arith, c.channels.ensures) in
    IfOk-weaker c.pair.result (AreSubframes c.args.bits (channels_of c.args.block.now)) _ (λ all are. are.bytes)
    (pair_ok c.pair.result c.args.bits c.args.block.now c.channel.result.now c.channel-2.result.now two c.channel.ensures.samples c.channel-2.ensures.samples c.pair.ensures.code c.pair.ensures.bytes)

pub returns-clause-fits : goal.returns-clause-fits
returns-clause-fits c =
    let two : c.args.block.now.channels ≡ 2 = omega (arith, c.channels.ensures) in
    IfOk-weaker c.pair.result (AreSubframes c.args.bits (channels_of c.args.block.now)) _ (λ all are. are.fits)
    (pair_ok c.pair.result c.args.bits c.args.block.now c.channel.result.now c.channel-2.result.now two c.channel.ensures.samples c.channel-2.ensures.samples c.pair.ensures.code c.pair.ensures.bytes)
