use Rattle.std.proofs.Common.{List, ◌++◌, ap, append-nil, eqb-true, sym, ◌∙◌}
use Rattle.std.specs.List.{flat_map}
use Rattle.dpx_packing.specs.PadForms.{Run, run_bytes}
use Rattle.dpx_packing.proofs.PadRuns.{none_of_none}
use Rattle.dpx_packing.proofs.pad_form.write_runs.Goals as goal

pub returns : goal.returns
returns c =
    let none = none_of_none c.loop-rest.rest.now (eqb-true _ 0 (sym c.is_empty.ensures ∙ c.loop-rest-test.false)) in
    c.from_vec.ensures ∙ sym (append-nil c.loop-rest.form.items) ∙ ap (λ (runs : List Run). c.loop-rest.form.items ++ flat_map run_bytes runs) (sym none) ∙ c.loop-rest.invariant.spelled
