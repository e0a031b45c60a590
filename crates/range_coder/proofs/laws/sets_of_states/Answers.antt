use Rattle.range_coder.proofs.Among.{live_append, puts_mid, gets_mid}
use Rattle.range_coder.proofs.ChoiceLaws.{slots_left, slots_right}
use Rattle.range_coder.proofs.Sets.{many_live, uses_none, uses_one, uses_both, uses_moved, uses_line}
use Rattle.range_coder.proofs.laws.sets_of_states.Goals as goal

pub returns : goal.returns
returns c = record {
  fresh = many_live;
  live = live_append;
  none = uses_none;
  one = uses_one;
  both = uses_both;
  front = slots_left;
  rest = slots_right;
  placed = uses_moved;
  line = uses_line;
  put_on = puts_mid;
  got_on = gets_mid;
}
