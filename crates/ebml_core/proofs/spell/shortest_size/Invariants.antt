use Rattle.ebml_core.specs.Element.{shortest_size, fits_size}
use Rattle.ebml_core.proofs.Lengths.{Sought}
use Rattle.ebml_core.proofs.spell.shortest_size.Given as goal

-- the search has come to this length
abbrev pub invariant-loop-len : goal.invariant-loop-len
invariant-loop-len l = Sought (fits_size l.size) (shortest_size l.size) l.len
