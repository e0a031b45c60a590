use Rattle.std.proofs.Common.{◌≡◌, length, arith}
use Rattle.wav_chunks.proofs.ChannelLaws.{channel_of-is}
use Rattle.wav_chunks.proofs.CodingLaws.{depth24}
use Rattle.wav_chunks.proofs.samples.to_samples.Goals as goal

pub returns-in-8-clause-samples : goal.returns-in-8-clause-samples
returns-in-8-clause-samples c =
    channel_of-is 8 c.args.layout.now.bits c.args.layout.now.channels c.args.channel (length c.args.out.now) c.args.bytes.now _ c.in-8.is c.requires.channel c.take_channel.ensures.samples

pub returns-in-16-clause-samples : goal.returns-in-16-clause-samples
returns-in-16-clause-samples c =
    channel_of-is 16 c.args.layout.now.bits c.args.layout.now.channels c.args.channel (length c.args.out.now) c.args.bytes.now _ c.in-16.is c.requires.channel c.take_channel-in-16.ensures.samples

pub returns-in_default-clause-samples : goal.returns-in_default-clause-samples
returns-in_default-clause-samples c =
    let is : c.args.layout.now.bits ≡ 24 = depth24 c.args.layout.now.bits c.requires.depth (λ e. absurd (omega (arith, e))) (λ e. absurd (omega (arith, e))) in
    channel_of-is 24 c.args.layout.now.bits c.args.layout.now.channels c.args.channel (length c.args.out.now) c.args.bytes.now _ is c.requires.channel c.take_channel-in_default.ensures.samples
