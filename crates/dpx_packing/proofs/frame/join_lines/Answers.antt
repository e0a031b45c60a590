use Rattle.std.proofs.Common.{ℕ, List, ◌^◌, ◌∙◌, ap, sym, subst}
use Rattle.dpx_packing.specs.Blocks.{Form}
use Rattle.dpx_packing.specs.Units.{FitUnit, pad_limit}
use Rattle.dpx_packing.specs.FrameParts.{SamplesFit, PadsFit}
use Rattle.dpx_packing.proofs.Fitting.{each-line-fits}
use Rattle.dpx_packing.proofs.Numbers.{lengths-are, line-numbers, image-is}
use Rattle.dpx_packing.proofs.frame.join_lines.Goals as goal

pub join_blocks-requires-clause-lengths : goal.join_blocks-requires-clause-lengths
join_blocks-requires-clause-lengths g c =
    lengths-are c.layouts_are_bounded.ensures c.args.layout.now _ _ _ _ c.line_of-line.ensures.form c.requires.well_formed c.requires.image_len c.requires.sample_len c.requires.pad_len

pub join_blocks-requires-clause-fits : goal.join_blocks-requires-clause-fits
unfolding SamplesFit PadsFit
join_blocks-requires-clause-fits g c =
    each-line-fits _ (g.U.Block.form c.line_of-line.result.unit.now) _ _ _ _ _ _ _ _ _ (subst (λ unit. (samples pads : List ℕ) → FitUnit (2 ^ c.args.layout.now.bits) (pad_limit c.args.layout.now.bits) samples pads → g.U.Block.Fits unit samples pads) (sym c.line_of-line.ensures.unit) c.requires.fits)
    c.line_of-line.ensures.pads
    (ap (λ (form : Form). form.pads) c.line_of-line.ensures.form ∙ (line-numbers c.layouts_are_bounded.ensures c.args.layout.now c.requires.well_formed).pads)
    c.requires.samples_fit c.requires.pads_fit

pub returns : goal.returns
returns g c = c.join_blocks.ensures ∙ image-is c.args.layout.now _ _ _ c.line_of-line.ensures.form
