use Rattle.std.proofs.Common.{lit≤}
use Rattle.flac_predict.proofs.SmallLaws.{small_from, zero_order}
use Rattle.flac_predict.proofs.fixed.residual_fixed.Goals as goal

pub returns-in-0-clause-residuals : goal.returns-in-0-clause-residuals
returns-in-0-clause-residuals c =
    zero_order c.args.order c.args.samples.now _ c.in-0.is c.copy_from_slice.ensures.after

pub returns-in-1-clause-inside : goal.returns-in-1-clause-inside
returns-in-1-clause-inside c =
    small_from 1 c.args.samples.now _ (lit≤ tt) c.requires.samples c.differences_into.ensures

pub returns-in-2-clause-inside : goal.returns-in-2-clause-inside
returns-in-2-clause-inside c =
    small_from 2 c.args.samples.now _ (lit≤ tt) c.requires.samples c.differences_into-in-2.ensures

pub returns-in-3-clause-inside : goal.returns-in-3-clause-inside
returns-in-3-clause-inside c =
    small_from 3 c.args.samples.now _ (lit≤ tt) c.requires.samples c.differences_into-in-3.ensures

pub returns-in_default-clause-inside : goal.returns-in_default-clause-inside
returns-in_default-clause-inside c =
    small_from 4 c.args.samples.now _ (lit≤ tt) c.requires.samples c.differences_into-in_default.ensures
