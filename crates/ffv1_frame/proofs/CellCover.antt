-- Boxes of cells that cover the grid once are tiles that cover the picture once.
use Rattle.std.proofs.Common.{◌≡◌, ℕ, ◌+◌, ◌-◌, ◌<◌, ◌≤◌, Bool, cond, ◌&&◌, List, [], ◌∷◌, map, All, refl, sym, ◌∙◌, ap, ap₂, arith}
use Rattle.std.specs.Prelude.{nat_le, nat_lt}
use Rattle.std.specs.List.{count_by}
use Rattle.std.proofs.lemmas.Bool.Decides.{nat_tests}
use Rattle.std.proofs.lemmas.List.Elements.{All-head, All-tail, All-nil, All-cons}
use Rattle.std.proofs.lemmas.List.Sums.{sum_by-cons}
use Rattle.dpx_packing.specs.declared.tile.Tile.{Tile}
use Rattle.dpx_packing.specs.Tiles.{has_place, CoverOnce, IsInside}
use Rattle.ffv1_frame.specs.declared.cells.Grid.{Grid}
use Rattle.ffv1_frame.specs.Grid.{edge, IsGrid, pixels_of}
use Rattle.ffv1_frame.proofs.EdgeLaws.{cell_of, edge-low, edge-low_back, edges-ascend, edge-last, cell-low}

le-same : (a b c d : ℕ) → (a ≤ b → c ≤ d) → (c ≤ d → a ≤ b) → nat_le a b ≡ nat_le c d
le-same a b c d there back = grind (arith, nat_tests)

lt-same : (a b c d : ℕ) → (b ≤ a → d ≤ c) → (d ≤ c → b ≤ a) → nat_lt a b ≡ nat_lt c d
lt-same a b c d there back = grind (arith, nat_tests)

-- a pixel is between the edges of cells exactly where its cell is among them
in_span : ℕ → ℕ → ℕ → Bool
in_span from size i = nat_le from i && nat_lt i (from + size)

span-same : (cells size from wide p : ℕ) → 0 < cells → 0 < size
    → in_span (edge cells size from) (edge cells size (from + wide) - edge cells size from) p ≡ in_span from wide (cell_of cells size p)
unfolding in_span
span-same cells size from wide p some some_size =
    let up : edge cells size from ≤ edge cells size (from + wide) = edges-ascend cells size from (from + wide) some (omega arith) in
    let end : edge cells size from + (edge cells size (from + wide) - edge cells size from) ≡ edge cells size (from + wide) = omega arith in
    ap₂ (λ (a b : Bool). a && b)
    (le-same (edge cells size from) p from (cell_of cells size p) (edge-low_back cells size from p some some_size) (edge-low cells size from p some some_size))
    (ap (λ e. nat_lt p e) end
    ∙ lt-same p (edge cells size (from + wide)) (cell_of cells size p) (from + wide) (edge-low_back cells size (from + wide) p some some_size) (edge-low cells size (from + wide) p some some_size))

has-same : (grid : Grid) (x y : ℕ) (cells : Tile) → IsGrid grid
    → has_place x y (pixels_of grid cells) ≡ has_place (cell_of grid.columns grid.width x) (cell_of grid.rows grid.height y) cells
unfolding in_span
has-same grid x y cells is =
    let columns : 0 < grid.columns = is.columns_some in
    let rows : 0 < grid.rows = is.rows_some in
    let width : 0 < grid.width = is.picture.width_some in
    let height : 0 < grid.height = is.picture.height_some in
    ap₂ (λ (a b : Bool). a && b)
    (span-same grid.columns grid.width cells.x cells.width x columns width)
    (span-same grid.rows grid.height cells.y cells.height y rows height)

counts-same : (grid : Grid) (x y : ℕ) (cells : List Tile) → IsGrid grid
    → count_by (λ t. has_place x y t) (map (pixels_of grid) cells)
    ≡ count_by (λ t. has_place (cell_of grid.columns grid.width x) (cell_of grid.rows grid.height y) t) cells
counts-same grid x y [] is = refl
counts-same grid x y (first ∷ cells) is =
    sum_by-cons (λ t. cond {A = ℕ} (has_place x y t) 1 0) (pixels_of grid first) (map (pixels_of grid) cells)
    ∙ ap₂ (λ (a : Bool) (b : ℕ). cond {A = ℕ} a 1 0 + b) (has-same grid x y first is) (counts-same grid x y cells is)
    ∙ sym (sum_by-cons (λ t. cond {A = ℕ} (has_place (cell_of grid.columns grid.width x) (cell_of grid.rows grid.height y) t) 1 0) first cells)

-- the pixels of cells in the grid are in the picture
pub pixels-inside : (grid : Grid) (cells : Tile) → IsGrid grid → IsInside grid.columns grid.rows cells → IsInside grid.width grid.height (pixels_of grid cells)
pixels-inside grid cells is inside =
    let columns : 0 < grid.columns = is.columns_some in
    let rows : 0 < grid.rows = is.rows_some in
    let right : edge grid.columns grid.width (cells.x + cells.width) ≤ edge grid.columns grid.width grid.columns =
    edges-ascend grid.columns grid.width (cells.x + cells.width) grid.columns columns inside.across_high in
    let across : edge grid.columns grid.width grid.columns ≡ grid.width = edge-last grid.columns grid.width columns in
    let left : edge grid.columns grid.width cells.x ≤ edge grid.columns grid.width (cells.x + cells.width) =
    edges-ascend grid.columns grid.width cells.x (cells.x + cells.width) columns (omega arith) in
    let bottom : edge grid.rows grid.height (cells.y + cells.height) ≤ edge grid.rows grid.height grid.rows =
    edges-ascend grid.rows grid.height (cells.y + cells.height) grid.rows rows inside.down_high in
    let down : edge grid.rows grid.height grid.rows ≡ grid.height = edge-last grid.rows grid.height rows in
    let top : edge grid.rows grid.height cells.y ≤ edge grid.rows grid.height (cells.y + cells.height) =
    edges-ascend grid.rows grid.height cells.y (cells.y + cells.height) rows (omega arith) in
    record { across_high = omega arith; down_high = omega arith }

all-inside : (grid : Grid) (cells : List Tile) → IsGrid grid → All (λ t. IsInside grid.columns grid.rows t) cells
    → All (λ t. IsInside grid.width grid.height t) (map (pixels_of grid) cells)
all-inside grid [] is inside = All-nil (λ t. IsInside grid.width grid.height t)
all-inside grid (first ∷ cells) is inside =
    All-cons (λ t. IsInside grid.width grid.height t) (pixels_of grid first) (map (pixels_of grid) cells)
    (pixels-inside grid first is (All-head (λ t. IsInside grid.columns grid.rows t) first cells inside))
    (all-inside grid cells is (All-tail (λ t. IsInside grid.columns grid.rows t) first cells inside))

pub cells-cover : (grid : Grid) (cells : List Tile) → IsGrid grid → CoverOnce grid.columns grid.rows cells
    → CoverOnce grid.width grid.height (map (pixels_of grid) cells)
cells-cover grid cells is cover =
    record {
      inside = all-inside grid cells is cover.inside;
      once = λ x y x_low y_low.
          counts-same grid x y cells is
          ∙ cover.once (cell_of grid.columns grid.width x) (cell_of grid.rows grid.height y)
          (cell-low grid.columns grid.width x is.columns_some is.picture.width_some x_low)
          (cell-low grid.rows grid.height y is.rows_some is.picture.height_some y_low);
    }
