use Rattle.range_coder.proofs.Symbols.{no_sign_put}
use Rattle.range_coder.proofs.putting.put_sign.Goals as goal

pub returns-else-signed-clause-ok : goal.returns-else-signed-clause-ok
returns-else-signed-clause-ok c = no_sign_put _ _ _ _ _ _ c.if-signed.false
