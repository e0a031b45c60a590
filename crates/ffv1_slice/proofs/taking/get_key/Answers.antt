use Rattle.ffv1_slice.proofs.Fronts.{no_key_got}
use Rattle.ffv1_slice.proofs.taking.get_key.Goals as goal

pub returns-else-first-clause-gets : goal.returns-else-first-clause-gets
returns-else-first-clause-gets c = no_key_got _ _ _ _ _ c.if-first.false
