use Rattle.std.proofs.Common.{◌≡◌, sym, ap, subst, ◌∙◌, arith}
use Rattle.ffv1_params.specs.declared.error.ParamsWhy.TheVariants.{Contexts}
use Rattle.ffv1_params.specs.QuantTables.{QuantSet, set_of, context_count}
use Rattle.ffv1_params.specs.Reading.{give, table_set}
use Rattle.ffv1_params.specs.Walk.{Leads}
use Rattle.ffv1_params.proofs.ValueLaws.{set_refused, set_given}
use Rattle.ffv1_params.proofs.WalkLaws.{fails}
use Rattle.ffv1_params.proofs.sets.read_set.Goals as goal

pub returns-then-contexts_of-gt-MOST_CONTEXTS-clause-answers : goal.returns-then-contexts_of-gt-MOST_CONTEXTS-clause-answers
returns-then-contexts_of-gt-MOST_CONTEXTS-clause-answers c =
    let count = c.contexts_of.ensures ∙ ap context_count c.as_slice.ensures.value in
    fails c.args.fields.now table_set Contexts (set_refused c.args.fields.now c.tables_of.new.fields c.in_ok-tables.tables.items c.in_ok-tables.ensures.answers (omega (arith, count, c.if-contexts_of-gt-MOST_CONTEXTS.true)))

pub returns-clause-answers : goal.returns-clause-answers
returns-clause-answers c =
    let count = c.contexts_of.ensures ∙ ap context_count c.as_slice.ensures.value in
    let same : c.in_ok-of_runs.field-0 ≡ set_of c.in_ok-tables.tables.items = c.in_ok-of_runs.ensures ∙ ap set_of c.as_slice-2.ensures.value in
    let P : QuantSet → Type 0 = λ set. Leads c.args.fields.now c.tables_of.new.fields table_set (give set) in
    subst P (sym same) (set_given c.args.fields.now c.tables_of.new.fields c.in_ok-tables.tables.items c.in_ok-tables.ensures.answers (omega (arith, count, c.if-contexts_of-gt-MOST_CONTEXTS.false)))
