use Rattle.std.proofs.Common.{arith}
use Rattle.std.proofs.lemmas.Result.{err_from_is_err_and}
use Rattle.ffv1_params.specs.QuantTables.{TellsContexts}
use Rattle.ffv1_params.specs.Reading.{table_set}
use Rattle.ffv1_params.proofs.RepeatLaws.{repeating_none, repeating_more, repeating_fails, repeating_done}
use Rattle.ffv1_params.proofs.sets.sets_of.Goals as goal

pub loop-init : goal.loop-init
loop-init c = rw c.new-sets.ensures.items (repeating_none c.args.fields.now table_set TellsContexts c.args.count)

pub loop-preserved : goal.loop-preserved
loop-preserved c = repeating_more c.args.fields.now c.loop.fields c.read_set.new.fields table_set TellsContexts c.in_ok-read_set.field-0 c.loop.sets.items c.push.new.self.items c.args.count c.loop.counter c.in_ok-push.ensures.items (omega arith) c.loop.invariant c.in_ok-read_set.ensures.answers c.in_ok-read_set.ensures.tell

pub returns-in_err-read_set-clause-answers : goal.returns-in_err-read_set-clause-answers
returns-in_err-read_set-clause-answers c =
    let p = err_from_is_err_and c.from_residual.result c.from_residual.ensures.1 in
    rw (p.1, p.2) (repeating_fails c.args.fields.now c.loop.fields table_set TellsContexts c.loop.sets.items c.args.count c.loop.counter c.in_err-read_set.field-0.0 (omega arith) c.loop.invariant c.in_err-read_set.ensures.answers)

pub returns-clause-answers : goal.returns-clause-answers
returns-clause-answers c = repeating_done c.args.fields.now c.loop.fields table_set TellsContexts c.loop.sets.items c.args.count c.loop.counter (omega arith) c.loop.invariant
