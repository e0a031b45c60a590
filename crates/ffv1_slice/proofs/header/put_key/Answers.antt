use Rattle.ffv1_slice.proofs.Headers.{no_key_put}
use Rattle.ffv1_slice.proofs.header.put_key.Goals as goal

pub returns-else-first-clause-ok : goal.returns-else-first-clause-ok
returns-else-first-clause-ok c = no_key_put _ _ _ _ c.if-first.false
