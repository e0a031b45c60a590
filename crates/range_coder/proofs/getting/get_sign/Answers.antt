use Rattle.range_coder.proofs.Symbols.{no_sign_got}
use Rattle.range_coder.proofs.getting.get_sign.Goals as goal

pub returns-else-signed-clause-gets : goal.returns-else-signed-clause-gets
returns-else-signed-clause-gets c = no_sign_got _ _ _ _ _ _ c.if-signed.false
