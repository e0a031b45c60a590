use Rattle.ebml_core.specs.Element.{byte_count, fits_bytes}
use Rattle.ebml_core.proofs.Lengths.{Sought}
use Rattle.ebml_core.proofs.spell.byte_count.Given as goal

-- the search has come to this length
abbrev pub invariant-loop-len : goal.invariant-loop-len
invariant-loop-len l = Sought (fits_bytes l.value) (byte_count l.value) l.len
