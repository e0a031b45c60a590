use Rattle.dpx_header.proofs.Bounds.{bounds}
use Rattle.dpx_header.proofs.lengths.pad_len.Goals as goal

pub returns-clause-few : goal.returns-clause-few
returns-clause-few c =
    let b = bounds c.args.layout.now c.requires in
    rw (c.pads_in_line.ensures.exact, c.line_len-line.ensures.exact) b.pads
