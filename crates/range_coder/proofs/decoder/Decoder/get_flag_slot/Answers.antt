use Rattle.std.proofs.Common.{refl}
use Rattle.range_coder.proofs.Slots.{gets_one}
use Rattle.range_coder.proofs.decoder.Decoder.get_flag_slot.Goals as goal

pub returns-clause-gets : goal.returns-clause-gets
returns-clause-gets c =
    gets_one _ _ _ _ _ _ _ c.get_flag.new.state c.get_flag.ensures.reads c.get_flag.ensures.next refl
