use Rattle.std.proofs.Common.{arith, ◌≡◌, ◌∙◌, to_z, of_z, w32}
use Rattle.std.proofs.lemmas.Int.{to_z-of_z}
use Rattle.flac_predict.proofs.SmallLaws.{residuals_from_places, place_written}
use Rattle.flac_predict.proofs.differences.differences_into.Goals as goal

pub loop-place-preserved : goal.loop-place-preserved
loop-place-preserved g c =
    let v : to_z w32 (of_z w32 c.at.result) ≡ c.at.result = to_z-of_z w32 c.at.result (record { sfits = c.at.type_inv }) in
    place_written g.D.Difference.order c.args.samples.now c.loop-place.out c.loop-place.place _ (omega arith) c.loop-place.invariant (v ∙ c.at.ensures.residual)

pub returns : goal.returns
returns g c = residuals_from_places g.D.Difference.order c.args.samples.now c.loop-place.out (omega arith) (λ k h. c.loop-place.invariant k (omega arith))
