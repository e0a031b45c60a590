-- Where nothing is told, a refused call left a front of its bytes: none of them.
use Rattle.std.proofs.Common.{ℕ, List, None, refl, arith}
use Rattle.shelf_core.specs.Told.{GrewPartly, with_file}
use Rattle.shelf_core.specs.Report.{WrittenPartly, with_text}

pub grew : (name bytes : List ℕ) → GrewPartly None name bytes None
unfolding with_file
grew name bytes = record { count = 0; within = omega arith; is = refl }

pub wrote : (bytes : List ℕ) → WrittenPartly None bytes None
unfolding with_text
wrote bytes = record { count = 0; within = omega arith; is = refl }
