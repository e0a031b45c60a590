use Rattle.std.proofs.Common.{◌∙◌, arith}
use Rattle.sequence_scan.proofs.LastFrames.{last_none, runs_none, runs_all}
use Rattle.sequence_scan.proofs.scan.runs.Goals as goal

pub loop-place-init : goal.loop-place-init
loop-place-init c = record {
  runs = c.new-runs.ensures.items ∙ runs_none c.args.names.now;
  last = last_none c.args.names.now c.new-last.result c.new-last.ensures.empty;
}

pub returns : goal.returns
returns c = c.loop-place.invariant.runs ∙ runs_all c.args.names.now c.loop-place.place (omega arith)
