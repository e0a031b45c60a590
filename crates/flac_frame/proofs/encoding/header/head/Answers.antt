use Rattle.std.proofs.Common.{◌≡◌, ◌%◌, ◌++◌, length, ap, ◌∙◌}
use Rattle.flac_frame.specs.Writing.{header_bits}
use Rattle.flac_frame.proofs.FrameBack.{header_len}
use Rattle.flac_frame.proofs.encoding.header.head.Goals as goal

pub finish-head-requires : goal.finish-head-requires
finish-head-requires c =
    let all : c.put_header.new.writer ≡ header_bits c.args.bits c.args.code c.args.size c.args.number = c.in_ok-put_header.ensures ∙ ap (λ old. old ++ header_bits c.args.bits c.args.code c.args.size c.args.number) c.new-writer.ensures in
    ap (λ bits. length bits % 8) all ∙ header_len c.args.bits c.args.code c.args.size c.args.number
