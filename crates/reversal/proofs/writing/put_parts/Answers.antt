use Rattle.reversal.proofs.Written.{frame_put}
use Rattle.reversal.proofs.writing.put_parts.Goals as goal

pub returns-in_ok-put_block-in-Frame-2 : goal.returns-in_ok-put_block-in-Frame-2
returns-in_ok-put_block-in-Frame-2 c =
    frame_put _ _ _ _ _ _ _ _ _ _ _ _ _ _ c.in-Frame.is c.in_ok-append-in-Frame.ensures.ok c.to_be_bytes.ensures c.in_ok-append-in-Frame-2.ensures.ok c.in_ok-put_block-in-Frame.ensures c.as_slice.ensures c.in_ok-append-in-Frame-3.ensures.ok c.in_ok-put_block-in-Frame-2.ensures
