use Rattle.std.proofs.Common.{◌*◌, ◌∙◌, ap}
use Rattle.dpx_packing.specs.Blocks.{Form}
use Rattle.dpx_packing.specs.Units.{units_in_line}
use Rattle.dpx_packing.proofs.Numbers.{line-is, units-fill}
use Rattle.dpx_packing.proofs.frame.line_of.Goals as goal

pub returns-clause-form : goal.returns-clause-form
returns-clause-form g c = line-is c.args.layout.now _ _ _ c.requires.form c.unit_count.ensures c.spare_len.ensures

pub returns-clause-pads : goal.returns-clause-pads
returns-clause-pads g c =
    let layout = c.args.layout.now in
    ap (λ n. n * (g.U.Block.form c.args.unit.now).pads) c.unit_count.ensures
    ∙ ap (λ (form : Form). units_in_line layout.bits layout.width * form.pads) c.requires.form
    ∙ (units-fill layout.big layout.width layout.bits c.requires.well_formed.depth).pads
