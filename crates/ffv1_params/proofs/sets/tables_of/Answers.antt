use Rattle.std.proofs.Common.{arith}
use Rattle.std.proofs.lemmas.Result.{err_from_is_err_and}
use Rattle.ffv1_params.specs.QuantTables.{IsTable}
use Rattle.ffv1_params.specs.Reading.{table}
use Rattle.ffv1_params.proofs.RepeatLaws.{repeating_none, repeating_more, repeating_fails, repeating_done}
use Rattle.ffv1_params.proofs.sets.tables_of.Goals as goal

pub loop-init : goal.loop-init
loop-init c = rw c.new-tables.ensures.items (repeating_none c.args.fields.now table IsTable 5)

pub loop-preserved : goal.loop-preserved
loop-preserved c = repeating_more c.args.fields.now c.loop.fields c.table.new.self table IsTable c.in_ok-table.field-0 c.loop.tables.items c.push.new.self.items 5 c.loop.counter c.in_ok-push.ensures.items (omega arith) c.loop.invariant c.in_ok-table.ensures.answers c.in_ok-table.ensures.table

pub returns-in_err-table-clause-answers : goal.returns-in_err-table-clause-answers
returns-in_err-table-clause-answers c =
    let p = err_from_is_err_and c.from_residual.result c.from_residual.ensures.1 in
    rw (p.1, p.2) (repeating_fails c.args.fields.now c.loop.fields table IsTable c.loop.tables.items 5 c.loop.counter c.in_err-table.field-0.0 (omega arith) c.loop.invariant c.in_err-table.ensures.answers)

pub returns-clause-answers : goal.returns-clause-answers
returns-clause-answers c = repeating_done c.args.fields.now c.loop.fields table IsTable c.loop.tables.items 5 c.loop.counter (omega arith) c.loop.invariant
