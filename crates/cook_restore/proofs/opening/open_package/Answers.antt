use Rattle.std.proofs.Common.{subst, sym}
use Rattle.matroska_read.specs.Inside.{KeepsWithin}
use Rattle.cook_restore.proofs.opening.open_package.Goals as goal

pub invariant_of-result-2-clause-within : goal.invariant_of-result-2-clause-within
invariant_of-result-2-clause-within g c = (subst (KeepsWithin c.in_ok-len.len) (sym c.outline.view_is) c.in_ok-outline.ensures.within).files
