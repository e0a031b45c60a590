-- The colours of a picture that a frame means.
use Rattle.std.proofs.Common.{◌≡◌, ℕ, zero, suc, ◌+◌, ◌-◌, ◌*◌, ◌^◌, ◌<◌, ◌≤◌, min, List, [], ◌∷◌, ◌++◌, length, map, take, drop, get_or, All, refl, sym, ◌∙◌, ap, ap₂, subst, arith}
use Rattle.std.proofs.lemmas.List.{drop-map, get_or-map, length-map, map-append, take-map}
use Rattle.std.proofs.lemmas.List.Elements.{All-head, All-map, All-tail, All-weaker}
use Rattle.std.proofs.lemmas.Nat.{pow_pos}
use Rattle.dpx_packing.specs.declared.tile.Tile.{Tile}
use Rattle.dpx_packing.specs.TileLaws.{TilesTellThePicture}
use Rattle.dpx_packing.specs.Tiles.{CoverOnce, lines_joined, place_of, tile_at, tile_line, tile_samples}
use Rattle.ffv1_params.specs.Parameters.{Parameters}
use Rattle.ffv1_slice.specs.declared.head.SliceHead.{SliceHead}
use Rattle.ffv1_frame.specs.declared.cells.Grid.{Grid}
use Rattle.ffv1_frame.specs.Grid.{IsGridOf, cells_of, tile_of}
use Rattle.ffv1_frame.specs.Parts.{no_head}
use Rattle.ffv1_frame.specs.Picture.{head_at, IsPictureOf}
use Rattle.ffv1_frame.specs.Written.{IsPictureIn}
use Rattle.ffv1_frame.proofs.CellCover.{cells-cover}
use Rattle.ffv1_frame.proofs.OneLaws.{after-same, pixels-of_heads}

-- ---- a picture whose colours are cut off at a limit

abbrev cut_off : ℕ → ℕ → ℕ
cut_off limit sample = min sample (limit - 1)

below-stay : (limit : ℕ) (samples : List ℕ) → All (λ sample. sample < limit) samples → map (cut_off limit) samples ≡ samples
below-stay limit [] below = refl
below-stay limit (sample ∷ samples) below =
    let first : sample < limit = All-head (λ s. s < limit) sample samples below in
    let same : cut_off limit sample ≡ sample = omega arith in
    ap₂ (λ (x : ℕ) (xs : List ℕ). x ∷ xs) same (below-stay limit samples (All-tail (λ s. s < limit) sample samples below))

line-map : (f : ℕ → ℕ) (across : ℕ) (samples : List ℕ) (tile : Tile) (row : ℕ) → tile_line across (map f samples) tile row ≡ map f (tile_line across samples tile row)
line-map f across samples tile row =
    ap (take (3 * tile.width)) (drop-map f (place_of across tile.x (tile.y + row) 0) samples)
    ∙ take-map f (3 * tile.width) (drop (place_of across tile.x (tile.y + row) 0) samples)

lines-map : (f : ℕ → ℕ) (across : ℕ) (samples : List ℕ) (tile : Tile) (rows : ℕ)
    → lines_joined (tile_line across (map f samples) tile) rows ≡ map f (lines_joined (tile_line across samples tile) rows)
unfolding lines_joined
lines-map f across samples tile zero = refl
lines-map f across samples tile (suc rows) =
    ap₂ (λ (a b : List ℕ). a ++ b) (lines-map f across samples tile rows) (line-map f across samples tile rows)
    ∙ sym (map-append f (lines_joined (tile_line across samples tile) rows) (tile_line across samples tile rows))

tile-map : (f : ℕ → ℕ) (across : ℕ) (samples : List ℕ) (tile : Tile) → tile_samples across (map f samples) tile ≡ map f (tile_samples across samples tile)
unfolding tile_samples
tile-map f across samples tile = lines-map f across samples tile tile.height

-- ---- it is the picture

picture-below : TilesTellThePicture → (limit across down : ℕ) (tiles : List Tile) (picture : List ℕ) → 0 < limit → CoverOnce across down tiles → length picture ≡ 3 * across * down
    → ((k : ℕ) → k < length tiles → All (λ sample. sample < limit) (tile_samples across picture (tile_at tiles k)))
    → All (λ sample. sample < limit) picture
picture-below tell limit across down tiles picture some cover long below =
    let same : map (cut_off limit) picture ≡ picture =
    tell across down tiles (map (cut_off limit) picture) picture cover (length-map picture (cut_off limit) ∙ long) long
    (after-same across tiles (map (cut_off limit) picture) picture (λ k low.
    tile-map (cut_off limit) across picture (tile_at tiles k) ∙ below-stay limit (tile_samples across picture (tile_at tiles k)) (below k low))) in
    let each : (sample : ℕ) → cut_off limit sample < limit = λ sample. omega arith in
    subst (All (λ sample. sample < limit)) same
    (All-map (λ sample. sample < limit) (cut_off limit) picture (λ k d low. each (get_or picture k d)))

pub picture-fits : TilesTellThePicture → (params : Parameters) (grid : Grid) (bytes picture : List ℕ) → IsGridOf params grid → IsPictureOf params grid bytes picture
    → IsPictureIn params.bits grid.width grid.height picture
picture-fits tell params grid bytes picture of is =
    let count : length is.heads ≡ length is.slices = is.cut.heads_are.count in
    let many : length (map (tile_of grid) is.heads) ≡ length is.heads = length-map is.heads (tile_of grid) in
    let cover : CoverOnce grid.width grid.height (map (tile_of grid) is.heads) =
    subst (CoverOnce grid.width grid.height) (pixels-of_heads grid is.heads) (cells-cover grid (map cells_of is.heads) of.is is.cut.cover) in
    record {
      size = of.is.picture;
      long = is.long;
      within =
          picture-below tell (2 ^ params.bits) grid.width grid.height (map (tile_of grid) is.heads) picture (pow_pos params.bits) cover is.long (λ k low.
          let at : tile_at (map (tile_of grid) is.heads) k ≡ tile_of grid (head_at is.heads k) = get_or-map (tile_of grid) is.heads k no_head (record { x = 0; y = 0; width = 0; height = 0 }) (omega (arith, many, low)) in
          let P : Tile → Type 0 = λ t. All (λ sample. sample < 2 ^ params.bits) (tile_samples grid.width picture t) in
          subst P (sym at) (is.each k (omega (arith, many, count, low))).is_tile.within);
    }
