-- The grid of cells over a picture, and the pixels of boxes of cells (RFC 9043, section 4.6, "Slice Header").
use Rattle.std.specs.Prelude.{◌≡◌, ℕ, ◌+◌, ◌-◌, ◌*◌, ◌/◌, ◌≤◌}
use Rattle.dpx_packing.specs.declared.tile.Tile.{Tile}
use Rattle.ffv1_params.specs.Parameters.{Parameters, IsPicture}
use Rattle.ffv1_slice.specs.declared.head.SliceHead.{SliceHead}
use Rattle.ffv1_frame.specs.declared.cells.Grid.{Grid}

-- the pixels before a column or a row of cells, of so many cells over so many pixels
unfoldable pub edge : ℕ → ℕ → ℕ → ℕ
edge cells size i = i * size / cells

-- a picture has the grid of the parameters
pub record HasGrid (params : Parameters) (width height : ℕ) : Type 0 where
  pub picture : IsPicture width height
  pub columns : params.columns ≤ width
  pub rows : params.rows ≤ height

-- each cell is at least a pixel wide and high
pub record IsGrid (grid : Grid) : Type 0 where
  pub picture : IsPicture grid.width grid.height
  pub columns_some : 1 ≤ grid.columns
  pub rows_some : 1 ≤ grid.rows
  pub cells : grid.columns * grid.rows ≤ 1024
  pub columns_most : grid.columns ≤ grid.width
  pub rows_most : grid.rows ≤ grid.height

-- a grid of these parameters
pub record IsGridOf (params : Parameters) (grid : Grid) : Type 0 where
  pub is : IsGrid grid
  pub columns : grid.columns ≡ params.columns
  pub rows : grid.rows ≡ params.rows

-- the cells of a head are in the grid
pub record IsHeadIn (grid : Grid) (head : SliceHead) : Type 0 where
  pub columns_some : 1 ≤ head.columns
  pub rows_some : 1 ≤ head.rows
  pub across : head.x + head.columns ≤ grid.columns
  pub down : head.y + head.rows ≤ grid.rows

-- the cells of a head as a box
abbrev pub cells_of : SliceHead → Tile
cells_of head = record { x = head.x; y = head.y; width = head.columns; height = head.rows }

-- the pixels of a box of cells
abbrev pub pixels_of : Grid → Tile → Tile
pixels_of grid cells =
    record {
      x = edge grid.columns grid.width cells.x;
      y = edge grid.rows grid.height cells.y;
      width = edge grid.columns grid.width (cells.x + cells.width) - edge grid.columns grid.width cells.x;
      height = edge grid.rows grid.height (cells.y + cells.height) - edge grid.rows grid.height cells.y;
    }

abbrev pub tile_of : Grid → SliceHead → Tile
tile_of grid head = pixels_of grid (cells_of head)
