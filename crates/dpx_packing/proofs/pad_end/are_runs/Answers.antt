use Rattle.std.proofs.Common.{sym}
use Rattle.dpx_packing.proofs.PadEnds.{each_none, each_more, each_zero}
use Rattle.dpx_packing.proofs.pad_end.are_runs.Goals as goal

pub loop-i-init : goal.loop-i-init
loop-i-init c = each_none c.args.runs.now

pub returns-then-run_at-eq0 : goal.returns-then-run_at-eq0
returns-then-run_at-eq0 c = sym (each_zero c.args.runs.now c.loop-i.i c.args.count c.run_at.result.0 c.loop-i.invariant c.loop-i-test.true c.run_at.ensures.times c.if-run_at-eq0.true)

pub loop-i-preserved : goal.loop-i-preserved
loop-i-preserved c = each_more c.args.runs.now c.loop-i.i c.run_at.result.0 c.loop-i.invariant c.run_at.ensures.times c.if-run_at-eq0.false
