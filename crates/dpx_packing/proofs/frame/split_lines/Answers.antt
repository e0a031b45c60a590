use Rattle.std.proofs.Common.{◌∙◌, sym, subst, arith}
use Rattle.dpx_packing.specs.FrameParts.{SamplesFit, PadsFit}
use Rattle.dpx_packing.proofs.FrameRounds.{samples-fit, pads-fit}
use Rattle.dpx_packing.proofs.Numbers.{lengths-are, samples-are, pads-are}
use Rattle.dpx_packing.proofs.frame.split_lines.Goals as goal

pub split_blocks-requires-clause-lengths : goal.split_blocks-requires-clause-lengths
split_blocks-requires-clause-lengths g c =
    lengths-are c.layouts_are_bounded.ensures c.args.layout.now _ _ _ _ c.line_of-line.ensures.form c.requires.well_formed c.requires.image_len c.requires.sample_len c.requires.pad_len

pub returns-clause-samples : goal.returns-clause-samples
returns-clause-samples g c = c.split_blocks.ensures.samples ∙ samples-are c.args.layout.now _ _ c.line_of-line.ensures.form

pub returns-clause-pads : goal.returns-clause-pads
returns-clause-pads g c = c.split_blocks.ensures.pads ∙ pads-are c.args.layout.now _ _ c.line_of-line.ensures.form

pub returns-clause-samples_fit : goal.returns-clause-samples_fit
returns-clause-samples_fit g c =
    subst (SamplesFit c.args.layout.now) (sym (returns-clause-samples g c))
    (samples-fit c.layouts_are_bounded.ensures c.args.layout.now c.args.image.now c.requires.well_formed c.requires.image_len (λ i. omega (arith, c.type_inv.image i)))

pub returns-clause-pads_fit : goal.returns-clause-pads_fit
returns-clause-pads_fit g c =
    subst (PadsFit c.args.layout.now) (sym (returns-clause-pads g c))
    (pads-fit c.layouts_are_bounded.ensures c.args.layout.now c.args.image.now c.requires.well_formed c.requires.image_len (λ i. omega (arith, c.type_inv.image i)))
