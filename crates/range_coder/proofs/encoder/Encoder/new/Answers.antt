use Rattle.range_coder.proofs.Windows.{new_window, new_interval}
use Rattle.range_coder.proofs.encoder.Encoder.new.Goals as goal

pub invariant_of-result : goal.invariant_of-result
invariant_of-result c = new_window _ c.new.ensures.items

pub returns : goal.returns
returns c = new_interval _ c.new.ensures.items
