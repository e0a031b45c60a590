use Rattle.std.proofs.Common.{◌≡◌, ◌≤◌, Fits, w64, get_or, ℕ, arith}
use Rattle.ffv1_params.proofs.SetLaws.{scale_none, scale_step, step_small, end_small}
use Rattle.ffv1_params.proofs.sets.contexts_of.Goals as goal

fits_in_64 : (n : ℕ) → n ≤ 1078203909375 → Fits w64 n
fits_in_64 n le = omega arith

pub loop-runs-init : goal.loop-runs-init
loop-runs-init c = scale_none c.args.tables.now

pub overflow_mul-scale-in-loop-runs : goal.overflow_mul-scale-in-loop-runs
overflow_mul-scale-in-loop-runs c =
    let at : c.as_slice-runs.result.now ≡ get_or c.args.tables.now c.loop-runs.runs-index c.as_slice-runs.result.now = cc in
    fits_in_64 _ (step_small c.loop-runs.scale c.args.tables.now c.loop-runs.runs-index c.as_slice-runs.result.now (omega arith) at c.requires.five c.requires.tables c.loop-runs.invariant)

pub loop-runs-preserved : goal.loop-runs-preserved
loop-runs-preserved c =
    let at : c.as_slice-runs.result.now ≡ get_or c.args.tables.now c.loop-runs.runs-index c.as_slice-runs.result.now = cc in
    scale_step c.loop-runs.scale c.args.tables.now c.loop-runs.runs-index c.as_slice-runs.result.now (omega arith) at c.loop-runs.invariant

pub overflow_add-result : goal.overflow_add-result
overflow_add-result c =
    let small = end_small c.loop-runs.scale c.args.tables.now c.loop-runs.runs-index c.requires.five c.requires.tables c.loop-runs.invariant in
    omega arith
