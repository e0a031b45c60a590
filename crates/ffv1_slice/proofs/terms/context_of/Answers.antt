use Rattle.std.proofs.Common.{◌≡◌, ◌∙◌, ◌+ℤ◌, arith, rules, to_z, of_z, w32, SFits}
use Rattle.std.proofs.lemmas.Int.{ints, to_z-of_z}
use Rattle.ffv1_slice.specs.Plane.{step, value_at}
use Rattle.ffv1_slice.proofs.Flat.{flat_context}
use Rattle.ffv1_slice.proofs.terms.context_of.Goals as goal

pub returns-then-flat-clause-context : goal.returns-then-flat-clause-context
returns-then-flat-clause-context c =
    let f0 : SFits w32 c.value_of-sum.result = search rules in
    let z0 : to_z w32 (of_z w32 c.value_of-sum.result) ≡ c.value_of-sum.result = to_z-of_z w32 c.value_of-sum.result f0 in
    let f1 : SFits w32 c.value_of.result = search rules in
    let z1 : to_z w32 (of_z w32 c.value_of.result) ≡ c.value_of.result = to_z-of_z w32 c.value_of.result f1 in
    let f2 : SFits w32 c.value_of-2.result = search rules in
    let z2 : to_z w32 (of_z w32 c.value_of-2.result) ≡ c.value_of-2.result = to_z-of_z w32 c.value_of-2.result f2 in
    let f3 : SFits w32 c.added-sum.result = search rules in
    let z3 : to_z w32 (of_z w32 c.added-sum.result) ≡ c.added-sum.result = to_z-of_z w32 c.added-sum.result f3 in
    let f4 : SFits w32 c.added-sum-2.result = search rules in
    let z4 : to_z w32 (of_z w32 c.added-sum-2.result) ≡ c.added-sum-2.result = to_z-of_z w32 c.added-sum-2.result f4 in
    let first : c.added-sum.result ≡ c.value_of-sum.result +ℤ c.value_of.result = omega (arith, ints) in
    let both : c.added-sum-2.result ≡ c.value_of-sum.result +ℤ c.value_of.result +ℤ c.value_of-2.result = omega (arith, ints) in
    let terms : c.added-sum-2.result ≡ value_at c.args.values.now 0 (step c.args.around.left c.args.around.above_left) +ℤ value_at c.args.values.now 1 (step c.args.around.above_left c.args.around.above) +ℤ value_at c.args.values.now 2 (step c.args.around.above c.args.around.above_right) = omega (arith, ints) in
    z4 ∙ flat_context c.args.values.now c.args.around c.added-sum-2.result (c.requires.flat c.if-flat.true) terms
