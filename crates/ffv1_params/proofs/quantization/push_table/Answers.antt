use Rattle.std.proofs.Common.{◌≡◌, ◌*◌, ◌≤◌, length, get_or, List, ℕ, sym, ◌∙◌, ap, subst, ◌++◌, map, OnOk}
use Rattle.std.specs.List.{range_with_len}
use Rattle.ffv1_params.specs.QuantTables.{entry, table_of}
use Rattle.ffv1_params.proofs.TableLaws.{length-steps, few_steps}
use Rattle.ffv1_params.proofs.quantization.push_table.Goals as goal

pub push_entries-requires-clause-long : goal.push_entries-requires-clause-long
push_entries-requires-clause-long c = ap length (c.as_slice.ensures.value ∙ c.in_ok-steps.ensures) ∙ length-steps 0 c.args.runs.now ∙ c.requires.table.whole

pub push_entries-requires-clause-few : goal.push_entries-requires-clause-few
push_entries-requires-clause-few c = λ k within.
    let P : List ℕ → Type 0 = λ steps. get_or steps k 0 * c.args.scale ≤ 32767 in
    subst P (sym (c.as_slice.ensures.value ∙ c.in_ok-steps.ensures)) (few_steps c.args.runs.now c.args.scale k c.requires.few)

pub returns : goal.returns
unfolding table_of
returns c =
    let P : List ℕ → Type 0 = λ steps. OnOk c.push_entries.result (c.push_entries.new.values.items ≡ c.args.values.now.items ++ map (entry c.args.scale steps) (range_with_len 0 256)) in
    subst P (c.as_slice.ensures.value ∙ c.in_ok-steps.ensures) c.push_entries.ensures
