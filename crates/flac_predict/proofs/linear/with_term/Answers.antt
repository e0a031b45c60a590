use Rattle.flac_predict.proofs.LinearCode.{with_term_is, with_term_fits}
use Rattle.flac_predict.proofs.linear.with_term.Goals as goal

pub returns : goal.returns
returns c =
    with_term_is c.args.sum c.args.coefficient c.args.sample c.requires c.ranges.coefficient c.ranges.sample

pub overflow_add-result : goal.overflow_add-result
overflow_add-result c =
    with_term_fits c.args.sum c.args.coefficient c.args.sample c.requires c.ranges.coefficient c.ranges.sample
