use Rattle.range_coder.proofs.Codings.{puts_nil, puts_more, puts_then_front, front_of_more, gets_nil, gets_more}
use Rattle.range_coder.proofs.Sets.{all_put, all_got}
use Rattle.range_coder.proofs.laws.codings_are_joined.Goals as goal

pub returns : goal.returns
returns c = record {
  put_none = puts_nil;
  put = puts_more;
  refused = puts_then_front;
  refused_before = front_of_more;
  got_none = gets_nil;
  got = gets_more;
  all_put = all_put;
  all_got = all_got;
}
