-- Segments of a name as they are read from left to right, beside the definition of relative names.
use Rattle.std.specs.Prelude.{ℕ, Bool, true, false, List, [], ◌∷◌, ◌&&◌, ◌==◌, if◌then◌else◌}
use Rattle.cook_bits.specs.declared.names.Seen.{Seen}
use Rattle.cook_bits.specs.declared.names.Seen.TheVariants.{Nothing, OneDot, TwoDots, Named}

abbrev pub is_named : Seen → Bool
is_named Nothing = false
is_named OneDot = false
is_named TwoDots = false
is_named Named = true

abbrev pub more_dots : Seen → Seen
more_dots Nothing = OneDot
more_dots OneDot = TwoDots
more_dots TwoDots = Named
more_dots Named = Named

abbrev pub seen_more : Seen → ℕ → Seen
seen_more seen byte = if byte == 46 then more_dots seen else Named

-- the rest of a name has no byte zero, and each segment, the first with what was seen of it, is plain
unfoldable pub are_plain : Seen → List ℕ → Bool
are_plain seen [] = is_named seen
are_plain seen (byte ∷ rest) = if byte == 0 then false else if byte == 47 then is_named seen && are_plain Nothing rest else are_plain (seen_more seen byte) rest
