use Rattle.std.proofs.Common.{◌%◌, ap, ◌∙◌}
use Rattle.dpx_packing.proofs.Masks.{and_3}
use Rattle.dpx_packing.proofs.Written.{set_one, samples10-set}
use Rattle.dpx_packing.proofs.units.Unit10Block.split.Goals as goal

pub returns-clause-samples : goal.returns-clause-samples
returns-clause-samples g c = samples10-set _ _ _ c.requires.lengths.of_samples c.read_u32-word.ensures

pub returns-clause-pads : goal.returns-clause-pads
returns-clause-pads g c =
    set_one _ _ _ c.requires.lengths.of_pads (and_3 _ ∙ ap (λ n. n % 4) c.read_u32-word.ensures)
