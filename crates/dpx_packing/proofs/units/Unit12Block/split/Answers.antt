use Rattle.std.proofs.Common.{◌%◌, ap, ◌∙◌}
use Rattle.dpx_packing.proofs.Masks.{and_15}
use Rattle.dpx_packing.proofs.Written.{set_one}
use Rattle.dpx_packing.proofs.units.Unit12Block.split.Goals as goal

pub returns-clause-pads : goal.returns-clause-pads
returns-clause-pads g c =
    set_one _ _ _ c.requires.lengths.of_pads (and_15 _ ∙ ap (λ n. n % 16) c.read_u16-word.ensures)
