use Rattle.std.proofs.Common.{◌+ℤ◌}
use Rattle.flac_predict.proofs.StepLaws.{next_of_four, fits_of_four, four_next}
use Rattle.flac_predict.proofs.sums.FourSumsSums.next.Goals as goal

pub returns-clause-following : goal.returns-clause-following
returns-clause-following c =
    let s = c.args.self.now in
    let n = four_next s.sample s.first s.second s.third c.args.residual c.requires c.ranges.residual in
    λ more. next_of_four s.sample s.first s.second s.third c.args.residual _ _ _ _ _ more n.third n.second n.first n.sample n.result_is

pub returns-clause-fits : goal.returns-clause-fits
returns-clause-fits c =
    let s = c.args.self.now in
    let n = four_next s.sample s.first s.second s.third c.args.residual c.requires c.ranges.residual in
    λ h. fits_of_four s.sample s.first s.second s.third (s.third +ℤ c.args.residual) _ _ _ _ _ c.requires n.third n.second n.first n.sample n.result_is h

pub overflow_add-self-3 : goal.overflow_add-self-3
overflow_add-self-3 c =
    let s = c.args.self.now in
    (four_next s.sample s.first s.second s.third c.args.residual c.requires c.ranges.residual).fits_first

pub overflow_add-self-4 : goal.overflow_add-self-4
overflow_add-self-4 c =
    let s = c.args.self.now in
    (four_next s.sample s.first s.second s.third c.args.residual c.requires c.ranges.residual).fits
