-- Contexts where the last two tables have no value but 0.
use Rattle.std.proofs.Common.{◌≡◌, ℕ, ◌+◌, ◌-◌, ◌*◌, ◌%◌, ◌<◌, List, arith}
use Rattle.std.specs.Prelude.{ℤ, pos, ◌+ℤ◌}
use Rattle.std.proofs.lemmas.Int.{ints}
use Rattle.std.proofs.Math.Nat.{mod-lt}
use Rattle.ffv1_params.specs.QuantTables.{AreFlat}
use Rattle.ffv1_slice.specs.declared.around.Around.{Around}
use Rattle.ffv1_slice.specs.Plane.{context, step, value_at}

step_below : (p q : ℕ) → step p q < 256
step_below p q = mod-lt (p + (256 - q % 256)) {m = 256} (omega arith)

pub flat_context : (values : List ℤ) (a : Around) (sum : ℤ) → AreFlat values → sum ≡ value_at values 0 (step a.left a.above_left) +ℤ value_at values 1 (step a.above_left a.above) +ℤ value_at values 2 (step a.above a.above_right) → sum ≡ context values a
unfolding context
flat_context values a sum flat is =
    let b3 : step a.left_left a.left < 256 = step_below a.left_left a.left in
    let b4 : step a.above_above a.above < 256 = step_below a.above_above a.above in
    let z3 : value_at values 3 (step a.left_left a.left) ≡ pos 0 = flat.zeros (256 * 3 + step a.left_left a.left) (omega arith) (omega arith) in
    let z4 : value_at values 4 (step a.above_above a.above) ≡ pos 0 = flat.zeros (256 * 4 + step a.above_above a.above) (omega arith) (omega arith) in
    omega (arith, ints)

pub ruleset flat = (flat_context)
