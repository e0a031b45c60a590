use Rattle.matroska_write.specs.HeaderLaws.{segment_head-is}
use Rattle.matroska_write.proofs.front.put_segment_head.Goals as goal

pub returns : goal.returns
returns c = segment_head-is _ _ _ _ c.to_be_bytes.ensures c.in_ok-append.ensures.ok c.in_ok-append-2.ensures.ok
