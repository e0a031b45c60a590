use Rattle.dpx_packing.proofs.PadFilling.{Filled}
use Rattle.dpx_packing.proofs.pad_filling.fill_each.Given as goal

abbrev pub invariant-loop-i : goal.invariant-loop-i
invariant-loop-i l = Filled l.runs l.out l.i l.at
