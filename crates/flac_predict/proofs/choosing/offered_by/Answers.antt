use Rattle.std.proofs.Common.{◌≡◌, length, refl, sym, subst, arith}
use Rattle.std.specs.List.{sum_by}
use Rattle.flac_predict.specs.Samples.{AreInside}
use Rattle.flac_predict.specs.Bank.{bank_set}
use Rattle.flac_predict.specs.Linear.{linear_residuals}
use Rattle.flac_predict.specs.Rice.{quotient}
use Rattle.flac_predict.proofs.BankLaws.{linear_is_small}
use Rattle.flac_predict.proofs.ChoiceCode.{are_codable}
use Rattle.flac_predict.proofs.LinearLaws.{length-linear_residuals}
use Rattle.flac_predict.proofs.PartLaws.{takes_of}
use Rattle.flac_predict.proofs.choosing.offered_by.Goals as goal

pub returns-in_err-sum : goal.returns-in_err-sum
returns-in_err-sum c =
    let set = bank_set c.args.number in
    let residuals = linear_residuals set c.args.samples.now in
    let w = length-linear_residuals set c.args.samples.now in
    let count : length c.args.out.now ≡ length residuals = omega (arith, w, c.requires.order, c.requires.room) in
    let takes = takes_of residuals (length c.args.out.now) c.saturating_sub.result count (λ k l. c.sum_reaching-most.ensures (sum_by (quotient 0) residuals) k c.in_err-sum.ensures.sum l) in
    rw c.from_residual.ensures (omega (arith, takes, c.saturating_sub.ensures))

pub rice_near-parameter-requires-clause-codable : goal.rice_near-parameter-requires-clause-codable
rice_near-parameter-requires-clause-codable c =
    let set = bank_set c.args.number in
    let small = linear_is_small set c.args.samples.now (record { number = c.args.number; low = c.requires.low; high = c.requires.number; is = refl }) c.requires.samples in
    are_codable _ (subst (AreInside 29) (sym c.in_ok-sum.ensures.residuals) small)
