use Rattle.matroska_write.proofs.ClusterLaws.{before-is, before-short}
use Rattle.matroska_write.proofs.blocks.before_body.Goals as goal

pub returns-clause-spelled : goal.returns-clause-spelled
returns-clause-spelled c = before-is _ _ _ _ c.args.track c.args.time c.args.len c.new-out.ensures c.in_ok-put_uint.ensures.ok c.in_ok-put_head.ensures.ok c.in_ok-append.ensures.ok

pub returns-clause-short : goal.returns-clause-short
returns-clause-short c = before-short _ _ _ _ c.args.track c.args.time c.args.len c.new-out.ensures c.in_ok-put_uint.ensures.ok c.in_ok-put_head.ensures.ok c.in_ok-append.ensures.ok
