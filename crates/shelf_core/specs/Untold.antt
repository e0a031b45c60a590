-- A shelf that tells no files has nothing to show for a name.
use Rattle.std.specs.Prelude.{ℕ, List, None}
use Rattle.std.proofs.Common.{arith}
use Rattle.shelf_core.specs.Told.{HasFile, HoldsBytes, content}

pub has_file : (name : List ℕ) → HasFile None name
unfolding HasFile
has_file name = tt

-- and no content
pub no_content : HoldsBytes None
unfolding content
no_content name i = omega arith
