use Rattle.range_coder.proofs.Lengths.{length-coded, length-decided, length-moved, length-symbol, length-difference, length-overlong, length-line}
use Rattle.range_coder.proofs.laws.code_lengths.Goals as goal

pub returns : goal.returns
returns c = record {
  coded = length-coded;
  decided = length-decided;
  moved = length-moved;
  number = length-symbol;
  difference = length-difference;
  overlong = length-overlong;
  line = length-line;
}
