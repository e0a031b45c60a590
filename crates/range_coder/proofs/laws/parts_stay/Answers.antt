use Rattle.range_coder.proofs.Parting.{part_now, part_before, part_behind, part_turned, part_moved}
use Rattle.range_coder.proofs.laws.parts_stay.Goals as goal

pub returns : goal.returns
returns c =
    record { now = part_now; followed = part_before; preceded = part_behind; turned = part_turned; placed = part_moved }
