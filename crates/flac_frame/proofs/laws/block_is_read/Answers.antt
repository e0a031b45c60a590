use Rattle.std.proofs.Common.{◌≡◌, ◌≤◌, arith}
use Rattle.flac_frame.specs.Samples.{channels_of}
use Rattle.flac_frame.specs.Writing.{size_of}
use Rattle.flac_frame.proofs.EncodeLaws.{size_is, are_channels}
use Rattle.flac_frame.proofs.laws.block_is_read.Goals as goal

pub returns : goal.returns
returns c = λ info block number room r is same some few within inside numbered enough.
    let one : 1 ≤ block.channels = omega (arith, r.writable.some_channels) in
    let size : size_of (channels_of block) ≡ block.len = size_is block is one in
    c.n7.ensures.frame info (channels_of block) number room r (are_channels info block number is same one some few within inside numbered) (omega arith)
