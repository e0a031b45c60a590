use Rattle.range_coder.proofs.PlacedNumbers.{placed_numbers_are_one}
use Rattle.range_coder.proofs.laws.one_list_of_numbers_is_read.Goals as goal

pub returns : goal.returns
returns c = placed_numbers_are_one
