use Rattle.std.proofs.Common.{IsTrue, subst, rules, arith}
use Rattle.conformance.proofs.flac.is_writable.Goals as goal

pub returns : goal.returns
returns c = λ t. record {
  min_block = search rules;
  max_block = search rules;
  min_frame = omega arith;
  max_frame = omega arith;
  rate = omega arith;
  some_channels = omega arith;
  channels = omega arith;
  depth = subst IsTrue c.is_depth.ensures t;
  total = omega arith;
  md5 = search rules;
}
