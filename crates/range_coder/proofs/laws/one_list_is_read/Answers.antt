use Rattle.range_coder.proofs.ChoiceLaws.{parted_are_not_both_read}
use Rattle.range_coder.proofs.laws.one_list_is_read.Goals as goal

pub returns : goal.returns
returns c = parted_are_not_both_read
