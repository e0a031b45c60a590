-- Columns and rows of cells over pixels: where they begin, and the cell of a pixel.
use Rattle.std.proofs.Common.{◌≡◌, ℕ, ◌+◌, ◌-◌, ◌*◌, ◌/◌, ◌<◌, ◌≤◌, inl, inr, ap, ◌∙◌, arith}
use Rattle.std.proofs.Math.Nat.{div-mul-le_self, mul-le-mul_right}
use Rattle.std.proofs.lemmas.Nat.{div_below, le-div, div-mul-add}
use Rattle.std.proofs.lemmas.Bool.{cases_lt}
use Rattle.ffv1_frame.specs.Grid.{edge}

-- the cell of a pixel
abbrev pub cell_of : ℕ → ℕ → ℕ → ℕ
cell_of cells size p = ((p + 1) * cells - 1) / size

-- a pixel is at or behind an edge exactly where its cell is
pub edge-low : (cells size i p : ℕ) → 0 < cells → 0 < size → i ≤ cell_of cells size p → edge cells size i ≤ p
unfolding edge
edge-low cells size i p some wide low =
    let down : ((p + 1) * cells - 1) / size * size ≤ (p + 1) * cells - 1 = div-mul-le_self ((p + 1) * cells - 1) size in
    let up : i * size ≤ ((p + 1) * cells - 1) / size * size = mul-le-mul_right size low in
    let room : 1 * cells ≤ (p + 1) * cells = mul-le-mul_right cells (omega arith) in
    let below : i * size / cells < p + 1 = div_below (i * size) cells (p + 1) some (omega arith) in
    omega arith

pub edge-low_back : (cells size i p : ℕ) → 0 < cells → 0 < size → edge cells size i ≤ p → i ≤ cell_of cells size p
unfolding edge
edge-low_back cells size i p some wide low =
    elim (cases_lt (i * size) ((p + 1) * cells)) [
      | inl below ↦ le-div i ((p + 1) * cells - 1) size wide (omega arith)
      | inr over ↦
          let above : p + 1 ≤ i * size / cells = le-div (p + 1) (i * size) cells some over in
          absurd (omega arith)
    ]

-- the cell of a pixel of the picture is in the grid
pub cell-low : (cells size p : ℕ) → 0 < cells → 0 < size → p < size → cell_of cells size p < cells
cell-low cells size p some wide low =
    let most : (p + 1) * cells ≤ size * cells = mul-le-mul_right cells (omega arith) in
    let room : 1 * cells ≤ (p + 1) * cells = mul-le-mul_right cells (omega arith) in
    div_below ((p + 1) * cells - 1) size cells wide (omega arith)

-- the last edge is the picture's
pub edge-last : (cells size : ℕ) → 0 < cells → edge cells size cells ≡ size
unfolding edge
edge-last cells size some =
    let e : cells * size ≡ size * cells + 0 = omega arith in
    ap (λ n. n / cells) e ∙ div-mul-add size cells 0 some

pub edge-first : (cells size : ℕ) → 0 < cells → edge cells size 0 ≡ 0
unfolding edge
edge-first cells size some =
    let e : 0 * size ≡ 0 * cells + 0 = omega arith in
    ap (λ n. n / cells) e ∙ div-mul-add 0 cells 0 some

-- no edge stands before the one before it, and with pixels enough each is behind it
pub edges-ascend : (cells size i j : ℕ) → 0 < cells → i ≤ j → edge cells size i ≤ edge cells size j
unfolding edge
edges-ascend cells size i j some up =
    let down : i * size / cells * cells ≤ i * size = div-mul-le_self (i * size) cells in
    let more : i * size ≤ j * size = mul-le-mul_right size up in
    le-div (i * size / cells) (j * size) cells some (omega arith)

pub edges-apart : (cells size i j : ℕ) → 0 < cells → cells ≤ size → i < j → edge cells size i < edge cells size j
unfolding edge
edges-apart cells size i j some wide up =
    let down : i * size / cells * cells ≤ i * size = div-mul-le_self (i * size) cells in
    let more : (i + 1) * size ≤ j * size = mul-le-mul_right size (omega arith) in
    let next : i * size / cells + 1 ≤ j * size / cells = le-div (i * size / cells + 1) (j * size) cells some (omega arith) in
    omega arith
