use Rattle.std.proofs.Common.{arith}
use Rattle.range_coder.proofs.Slots.{on_err}
use Rattle.range_coder.proofs.Lines.{line_begun, line_more, line_refused, line_put}
use Rattle.range_coder.proofs.putting.put_line.Goals as goal

pub loop-symbol-init : goal.loop-symbol-init
loop-symbol-init c = (line_begun _ _ _ c.args.signed c.args.symbols.now c.requires.live, c.requires.window)

pub loop-symbol-preserved : goal.loop-symbol-preserved
loop-symbol-preserved c =
    (line_more _ _ _ _ _ _ _ _ _ _ _ c.loop-symbol-test.true c.loop-symbol.invariant.0 c.in_ok-put_placed.ensures.ok c.put_placed.ensures.live, c.put_placed.ensures.window)

pub returns-in_err-put_placed-clause-err : goal.returns-in_err-put_placed-clause-err
returns-in_err-put_placed-clause-err c =
    on_err _ (line_refused _ _ _ _ _ _ _ _ _ _ _ c.loop-symbol-test.true c.loop-symbol.invariant.0 c.in_err-put_placed.ensures.err)

pub returns-clause-ok : goal.returns-clause-ok
returns-clause-ok c = line_put _ _ _ _ _ _ _ _ (omega arith) c.loop-symbol.invariant.0
