use Rattle.std.proofs.Common.{◌+◌, ◌-◌, List, ℕ, sym, subst, arith}
use Rattle.range_coder.specs.Table.{AreLive}
use Rattle.ffv1_params.specs.declared.error.ParamsWhy.TheVariants.{Tables}
use Rattle.ffv1_params.specs.Walk.{reader_at}
use Rattle.ffv1_params.proofs.RunReadLaws.{RunsRead, runs_more, runs_too_long, table_fails}
use Rattle.ffv1_params.proofs.runs.runs_of.Goals as goal

pub loop-left-preserved : goal.loop-left-preserved
loop-left-preserved c =
    let a = reader_at c.args.decoder.now c.fresh-states.result in
    let b = reader_at c.loop-left.decoder c.loop-left.states in
    let after = reader_at c.symbol_of.new.decoder c.symbol_of.new.states in
    let less = c.in_ok-run.field-0 in
    let P : List ℕ → Type 0 = λ runs. RunsRead a after runs (c.loop-left.left - (less + 1)) in
    (subst P (sym c.in_ok-push.ensures.items) (runs_more a b after c.loop-left.runs.items c.loop-left.left less c.loop-left.invariant.0 c.if-run-left.false c.in_ok-run.ensures.answers), c.in_ok-run.ensures.live)

pub returns-then-run-left-clause-answers : goal.returns-then-run-left-clause-answers
returns-then-run-left-clause-answers c = λ shared.
    let a = reader_at c.args.decoder.now c.fresh-states.result in
    let b = reader_at c.loop-left.decoder c.loop-left.states in
    let after = reader_at c.symbol_of.new.decoder c.symbol_of.new.states in
    let live = subst (λ (next : List ℕ). AreLive next c.fresh-states.result) c.requires.default (c.fresh-states.ensures.live c.args.table.now c.requires.fresh) in
    table_fails c.args.decoder.now c.fresh-states.result Tables c.fresh-states.ensures.states live c.fresh-states.ensures.count
    (runs_too_long a b after c.loop-left.runs.items c.loop-left.left c.in_ok-run.field-0 c.loop-left.invariant.0 (omega arith) c.if-run-left.true c.in_ok-run.ensures.answers) shared
