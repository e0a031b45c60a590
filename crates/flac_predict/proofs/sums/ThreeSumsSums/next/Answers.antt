use Rattle.std.proofs.Common.{◌+ℤ◌}
use Rattle.flac_predict.proofs.StepLaws.{next_of_three, fits_of_three, three_next}
use Rattle.flac_predict.proofs.sums.ThreeSumsSums.next.Goals as goal

pub returns-clause-following : goal.returns-clause-following
returns-clause-following c =
    let s = c.args.self.now in
    let n = three_next s.sample s.first s.second c.args.residual c.requires c.ranges.residual in
    λ more. next_of_three s.sample s.first s.second c.args.residual _ _ _ _ more n.second n.first n.sample n.result_is

pub returns-clause-fits : goal.returns-clause-fits
returns-clause-fits c =
    let s = c.args.self.now in
    let n = three_next s.sample s.first s.second c.args.residual c.requires c.ranges.residual in
    λ h. fits_of_three s.sample s.first s.second (s.second +ℤ c.args.residual) _ _ _ _ c.requires n.second n.first n.sample n.result_is h

pub overflow_add-self-3 : goal.overflow_add-self-3
overflow_add-self-3 c =
    let s = c.args.self.now in
    (three_next s.sample s.first s.second c.args.residual c.requires c.ranges.residual).fits
