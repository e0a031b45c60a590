use Rattle.std.proofs.Common.{◌≡◌, arith}
use Rattle.wav_chunks.proofs.ChannelLaws.{with_channel-is}
use Rattle.wav_chunks.proofs.CodingLaws.{depth24}
use Rattle.wav_chunks.proofs.samples.to_bytes.Goals as goal

pub returns-in-8 : goal.returns-in-8
returns-in-8 c = with_channel-is 8 c.args.layout.now.bits c.args.layout.now.channels c.args.channel c.args.samples.now c.args.bytes.now _ c.in-8.is c.put_channel.ensures

pub returns-in-16 : goal.returns-in-16
returns-in-16 c = with_channel-is 16 c.args.layout.now.bits c.args.layout.now.channels c.args.channel c.args.samples.now c.args.bytes.now _ c.in-16.is c.put_channel-in-16.ensures

pub returns-in_default : goal.returns-in_default
returns-in_default c =
    let is : c.args.layout.now.bits ≡ 24 = depth24 c.args.layout.now.bits c.requires.depth (λ e. absurd (omega (arith, e))) (λ e. absurd (omega (arith, e))) in
    with_channel-is 24 c.args.layout.now.bits c.args.layout.now.channels c.args.channel c.args.samples.now c.args.bytes.now _ is c.put_channel-in_default.ensures
