-- What holds of slices.
use Rattle.std.specs.Prelude.{◌≡◌, ℕ, ◌+◌, ◌*◌, ◌<◌, ◌≤◌, Bool, List, length, slice_index}
use Rattle.cook_bits.specs.Bits.{AreBytes}
use Rattle.range_coder.specs.Interval.{coded}
use Rattle.ffv1_params.specs.Parameters.{Parameters, AreSound}
use Rattle.ffv1_slice.specs.declared.head.SliceHead.{SliceHead}
use Rattle.ffv1_slice.specs.Slice.{slice_decisions, IsTile, Codes, CodesHead}

-- a head inside the grid of the parameters, with sets that they have
pub record IsInside (params : Parameters) (head : SliceHead) : Type 0 where
  pub columns_some : 1 ≤ head.columns
  pub rows_some : 1 ≤ head.rows
  pub across : head.x + head.columns ≤ params.columns
  pub down : head.y + head.rows ≤ params.rows
  pub luma_index : slice_index head.indices 0 < length params.sets
  pub difference_index : slice_index head.indices 1 < length params.sets
  pub count : length head.indices ≡ 2

-- the coded bytes of a head and a tile code them
abbrev pub CodedIsCode : Type 0
CodedIsCode =
    (params : Parameters) (head : SliceHead) (width height : ℕ) (first : Bool) (tile : List ℕ) → AreSound params → IsInside params head → 1 ≤ width → IsTile params.bits width height tile → Codes params first width height (coded (slice_decisions params head width height first tile)) head tile

-- and bytes code one head and one tile of a size
abbrev pub CodedIsOne : Type 0
CodedIsOne =
    (params : Parameters) (first : Bool) (width height : ℕ) (bytes : List ℕ) (head head' : SliceHead) (tile tile' : List ℕ) → AreSound params → AreBytes bytes → 1 ≤ width → Codes params first width height bytes head tile → Codes params first width height bytes head' tile' → (head ≡ head') × (tile ≡ tile')

-- bytes that code a head and a tile begin as a slice with this head
abbrev pub CodesTellHead : Type 0
CodesTellHead =
    (params : Parameters) (first : Bool) (width height : ℕ) (bytes : List ℕ) (head : SliceHead) (tile : List ℕ) → AreSound params → AreBytes bytes → Codes params first width height bytes head tile → CodesHead params first bytes head

-- and so do the coded bytes of a head and a tile
abbrev pub CodedIsHead : Type 0
CodedIsHead =
    (params : Parameters) (head : SliceHead) (width height : ℕ) (first : Bool) (tile : List ℕ) → AreSound params → IsInside params head → 1 ≤ width → IsTile params.bits width height tile → CodesHead params first (coded (slice_decisions params head width height first tile)) head

-- they are at least one, and few where the tile has few samples
abbrev pub CodedIsSome : Type 0
CodedIsSome =
    (params : Parameters) (head : SliceHead) (width height : ℕ) (first : Bool) (tile : List ℕ) → AreSound params → IsInside params head → 1 ≤ width → IsTile params.bits width height tile → 1 ≤ length (coded (slice_decisions params head width height first tile))

abbrev pub CodedIsFew : Type 0
CodedIsFew =
    (params : Parameters) (head : SliceHead) (width height : ℕ) (first : Bool) (tile : List ℕ) → AreSound params → IsInside params head → 105 * (width * height) ≤ 16000000 → length (coded (slice_decisions params head width height first tile)) ≤ 16001000

-- and bytes begin as a slice with one head
abbrev pub HeadIsOne : Type 0
HeadIsOne =
    (params : Parameters) (first : Bool) (bytes : List ℕ) (head head' : SliceHead) → AreSound params → AreBytes bytes → CodesHead params first bytes head → CodesHead params first bytes head' → head ≡ head'
