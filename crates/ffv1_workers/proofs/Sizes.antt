-- The samples of a part's tile.
use Rattle.std.proofs.Common.{◌≡◌, ℕ, ◌*◌, ◌<◌, List, length, get_or, sym, ap, ◌∙◌, arith}
use Rattle.std.proofs.lemmas.List.{get_or_default}
use Rattle.dpx_packing.specs.declared.tile.Tile.{Tile}
use Rattle.dpx_packing.specs.Tiles.{tile_size}
use Rattle.ffv1_frame.specs.declared.cells.Grid.{Grid}
use Rattle.ffv1_frame.specs.declared.part.Part.{Part}
use Rattle.ffv1_frame.specs.Grid.{tile_of}

-- as many as a decoder asks for
pub part-size : (grid : Grid) (parts : List Part) (number : ℕ) (d e : Part) (size : Tile) (n : ℕ) → number < length parts
    → n ≡ tile_size (tile_of grid (get_or parts number d).head) → size ≡ tile_of grid (get_or parts number e).head → n ≡ 3 * (size.width * size.height)
part-size grid parts number d e size n listed is size_is =
    let same : tile_of grid (get_or parts number d).head ≡ tile_of grid (get_or parts number e).head = ap (λ (p : Part). tile_of grid p.head) (get_or_default parts number d e listed) in
    let all : n ≡ tile_size size = is ∙ ap (λ (t : Tile). tile_size t) (same ∙ sym size_is) in
    omega (arith, all)
