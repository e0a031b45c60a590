use Rattle.std.proofs.Common.{◌≡◌, ◌+◌, ◌-◌, ◌<◌, ◌≤◌, ℕ, arith}
use Rattle.dpx_packing.specs.declared.tile.Tile.{Tile}
use Rattle.dpx_packing.specs.Tiles.{IsInside}
use Rattle.ffv1_frame.specs.Grid.{cells_of}
use Rattle.ffv1_frame.proofs.EdgeLaws.{edges-apart}
use Rattle.ffv1_frame.proofs.CellCover.{pixels-inside}
use Rattle.ffv1_frame.proofs.cells.Grid.tile.Goals as goal

across : (left right a b : ℕ) → left ≡ a → right ≡ b → a < b → left < right
across left right a b l r up = omega arith

pub overflow_sub-result : goal.overflow_sub-result
overflow_sub-result c =
    let g = c.args.self.now in
    let up : c.edge-x.result < c.edge-right.result = across _ _ _ _ c.edge-x.ensures c.edge-right.ensures
    (edges-apart g.columns g.width c.args.head.now.x (c.args.head.now.x + c.args.head.now.columns) c.requires.grid.columns_some c.requires.grid.columns_most (omega arith)) in
    omega arith

pub overflow_sub-result-2 : goal.overflow_sub-result-2
overflow_sub-result-2 c =
    let g = c.args.self.now in
    let up : c.edge-y.result < c.edge-bottom.result = across _ _ _ _ c.edge-y.ensures c.edge-bottom.ensures
    (edges-apart g.rows g.height c.args.head.now.y (c.args.head.now.y + c.args.head.now.rows) c.requires.grid.rows_some c.requires.grid.rows_most (omega arith)) in
    omega arith

inside_at : (width height x y right bottom a b c d : ℕ) → x ≡ a → y ≡ b → right ≡ c → bottom ≡ d
    → IsInside width height (record { x = a; y = b; width = c - a; height = d - b }) → IsInside width height (record { x = x; y = y; width = right - x; height = bottom - y })
inside_at width height x y right bottom a b c d p q r s inside =
    let across_high : a + (c - a) ≤ width = inside.across_high in
    let down_high : b + (d - b) ≤ height = inside.down_high in
    record { across_high = omega arith; down_high = omega arith }

pub returns-clause-inside : goal.returns-clause-inside
returns-clause-inside c =
    let g = c.args.self.now in
    let cells : Tile = cells_of c.args.head.now in
    inside_at g.width g.height _ _ _ _ _ _ _ _ c.edge-x.ensures c.edge-y.ensures c.edge-right.ensures c.edge-bottom.ensures
    (pixels-inside g (cells_of c.args.head.now) c.requires.grid (record { across_high = c.requires.head.across; down_high = c.requires.head.down }))

pub returns-clause-wide : goal.returns-clause-wide
returns-clause-wide c =
    let g = c.args.self.now in
    let up : c.edge-x.result < c.edge-right.result = across _ _ _ _ c.edge-x.ensures c.edge-right.ensures
    (edges-apart g.columns g.width c.args.head.now.x (c.args.head.now.x + c.args.head.now.columns) c.requires.grid.columns_some c.requires.grid.columns_most (omega arith)) in
    omega arith

pub returns-clause-high : goal.returns-clause-high
returns-clause-high c =
    let g = c.args.self.now in
    let up : c.edge-y.result < c.edge-bottom.result = across _ _ _ _ c.edge-y.ensures c.edge-bottom.ensures
    (edges-apart g.rows g.height c.args.head.now.y (c.args.head.now.y + c.args.head.now.rows) c.requires.grid.rows_some c.requires.grid.rows_most (omega arith)) in
    omega arith
