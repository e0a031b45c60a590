use Rattle.std.proofs.Common.{◌≡◌, length, rules, refl}
use Rattle.matroska_write.specs.Cluster.{timed_head}
use Rattle.matroska_write.proofs.ClusterLaws.{cluster-is}
use Rattle.matroska_write.proofs.blocks.cluster.Goals as goal

pub returns : goal.returns
returns c =
    let before : c.as_slice-before.result.now ≡ timed_head c.args.track c.args.time (length c.args.body.now) = search rules in
    cluster-is _ _ _ _ _ _ _ _ c.args.track c.args.time _ before c.crc_of_both-crc.ensures refl c.new-out.ensures c.in_ok-put_head.ensures.ok c.in_ok-put_bytes.ensures.ok c.in_ok-append.ensures.ok c.in_ok-append-2.ensures.ok
