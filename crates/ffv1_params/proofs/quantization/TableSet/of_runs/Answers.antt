use Rattle.std.proofs.Common.{◌≡◌, ◌≤◌, Fits, w32, ◌∙◌, List, ℕ, ℤ, sym, ap, subst, length, get_or, arith}
use Rattle.std.proofs.lemmas.List.Elements.{recursion_from_All}
use Rattle.ffv1_params.specs.QuantTables.{IsTable, TellsContexts}
use Rattle.ffv1_params.proofs.SetLaws.{none_so_far, one_more, few_so_far, all_so_far, record_of, set_tells}
use Rattle.ffv1_params.proofs.quantization.TableSet.of_runs.Goals as goal

fits_in_32 : (n : ℕ) → n ≤ 65536 → Fits w32 n
fits_in_32 n le = omega arith

pub loop-runs-init : goal.loop-runs-init
loop-runs-init c = none_so_far c.in_ok-filled.filled.items c.args.tables.now c.in_ok-filled.ensures.items

pub push_table-requires-clause-few : goal.push_table-requires-clause-few
push_table-requires-clause-few c =
    let at : c.as_slice-runs.result.now ≡ get_or c.args.tables.now c.loop-runs.runs-index c.as_slice-runs.result.now = cc in
    (few_so_far c.loop-runs.filled.items c.loop-runs.scale c.args.tables.now c.loop-runs.runs-index c.as_slice-runs.result.now (omega arith) at c.requires.tables c.requires.few c.loop-runs.invariant).0

pub overflow_mul-scale-in-loop-runs : goal.overflow_mul-scale-in-loop-runs
overflow_mul-scale-in-loop-runs c =
    let at : c.as_slice-runs.result.now ≡ get_or c.args.tables.now c.loop-runs.runs-index c.as_slice-runs.result.now = cc in
    fits_in_32 _ (few_so_far c.loop-runs.filled.items c.loop-runs.scale c.args.tables.now c.loop-runs.runs-index c.as_slice-runs.result.now (omega arith) at c.requires.tables c.requires.few c.loop-runs.invariant).1

pub loop-runs-preserved : goal.loop-runs-preserved
loop-runs-preserved c =
    let at : c.as_slice-runs.result.now ≡ get_or c.args.tables.now c.loop-runs.runs-index c.as_slice-runs.result.now = cc in
    one_more c.loop-runs.filled.items c.push_table.new.values.items c.loop-runs.scale c.args.tables.now c.loop-runs.runs-index c.as_slice-runs.result.now (omega arith) at c.loop-runs.invariant c.in_ok-push_table.ensures

pub copy_from_slice-requires : goal.copy_from_slice-requires
copy_from_slice-requires c =
    let all = all_so_far c.loop-runs.filled.items c.loop-runs.scale c.args.tables.now c.loop-runs.runs-index (omega arith) c.loop-runs.invariant in
    let tells = set_tells c.args.tables.now c.requires.five (recursion_from_All IsTable c.args.tables.now c.requires.tables) c.requires.few in
    omega (arith, (subst TellsContexts (sym all) tells).long, ap length c.as_slice.ensures.value)

pub invariant_of-result : goal.invariant_of-result
invariant_of-result c =
    let all = all_so_far c.loop-runs.filled.items c.loop-runs.scale c.args.tables.now c.loop-runs.runs-index (omega arith) c.loop-runs.invariant in
    let tells = set_tells c.args.tables.now c.requires.five (recursion_from_All IsTable c.args.tables.now c.requires.tables) c.requires.few in
    let P : List ℤ → Type 0 = λ values. TellsContexts (record_of values c.loop-runs.scale) in
    record {
      tells = subst P (sym (c.copy_from_slice.ensures.after ∙ c.as_slice.ensures.value)) (subst TellsContexts (sym all) tells);
      shown = c.are_flat-flat.ensures;
    }

pub returns : goal.returns
returns c =
    let all = all_so_far c.loop-runs.filled.items c.loop-runs.scale c.args.tables.now c.loop-runs.runs-index (omega arith) c.loop-runs.invariant in
    ap (λ (values : List ℤ). record_of values c.loop-runs.scale) (c.copy_from_slice.ensures.after ∙ c.as_slice.ensures.value) ∙ all
