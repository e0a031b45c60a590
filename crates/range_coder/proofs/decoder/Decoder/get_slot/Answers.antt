use Rattle.std.proofs.Common.{refl}
use Rattle.range_coder.proofs.Slots.{gets_one}
use Rattle.range_coder.proofs.decoder.Decoder.get_slot.Goals as goal

pub returns-clause-gets : goal.returns-clause-gets
returns-clause-gets c =
    gets_one _ _ _ _ _ _ _ c.get.new.state c.get.ensures.reads c.get.ensures.next refl
