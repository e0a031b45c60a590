-- The file that was found among those of the vector.
use Rattle.std.proofs.Common.{subst}
use Rattle.cook_cli.specs.Writing.{IsWriting}
use Rattle.cook_cli.proofs.unsealed.seal.Goals as goal

pub returns : goal.returns
returns c = record { ours = subst (λ files. IsWriting files c.args.name.now) c.as_slice.ensures.value c.in_ok-place.ensures.named }
