use Rattle.std.proofs.Common.{◌≡◌, ◌/◌, ◌^◌, ℕ, pos, ap, ◌∙◌, arith, rules, w32, FitsSigned}
use Rattle.std.proofs.lemmas.Int.{to_z-of_z}
use Rattle.std.proofs.lemmas.Nat.{shr_le}
use Rattle.std.proofs.lemmas.List.Sums.{sum_by_more}
use Rattle.flac_predict.specs.Samples.{sample_at}
use Rattle.flac_predict.specs.Rice.{zigzag, quotient}
use Rattle.flac_predict.proofs.rice.shifted_sum.Goals as goal

pub loop-residual-preserved : goal.loop-residual-preserved
loop-residual-preserved c =
    let i = c.loop-residual.residual-index in
    let f : FitsSigned w32 (sample_at c.args.residuals.now i) = search rules in
    let z : c.zigzag_of.result ≡ zigzag (sample_at c.args.residuals.now i) = c.zigzag_of.ensures ∙ ap zigzag (to_z-of_z w32 _ f) in
    let q : c.zigzag_of.result / 2 ^ c.args.parameter ≡ quotient c.args.parameter (sample_at c.args.residuals.now i) = ap (λ (n : ℕ). n / 2 ^ c.args.parameter) z in
    let s = sum_by_more (quotient c.args.parameter) c.args.residuals.now i (pos 0) c.loop-residual-test.true in
    let l = shr_le c.zigzag_of.result c.args.parameter in
    record {
      sum = omega (arith, s, q, c.loop-residual.invariant.sum);
      low = omega (arith, c.loop-residual.invariant.low);
      high = omega (arith, l, c.loop-residual.invariant.high, c.zigzag_of.type_inv);
    }
