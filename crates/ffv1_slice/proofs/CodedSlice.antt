-- The coded bytes of a head and a tile code them.
use Rattle.std.proofs.Common.{◌≡◌, ℕ, zero, suc, ◌+◌, ◌-◌, ◌*◌, ◌^◌, ◌<◌, ◌≤◌, min, List, [], ◌∷◌, Bool, true, false, length, get_or, refl, arith, inl, inr}
use Rattle.std.proofs.lemmas.Bool.{cases_lt}
use Rattle.std.proofs.lemmas.List.{get_or_past, ext_get_or}
use Rattle.std.proofs.Math.Nat.{mul-le-mul_left}
use Rattle.std.specs.Prelude.{ℤ, slice_index, unsigned_abs}
use Rattle.std.specs.Int.{is_negative}
use Rattle.range_coder.specs.Choices.{UseSlots}
use Rattle.range_coder.specs.Facts.{SetsOfStates}
use Rattle.range_coder.specs.Interval.{coded}
use Rattle.range_coder.specs.Laws.{SymbolSlots, CodedIsRead, ChoicesAreOnStates}
use Rattle.range_coder.specs.Table.{IsClosed, AreLive}
use Rattle.ffv1_params.specs.Parameters.{Parameters, AreSound}
use Rattle.ffv1_slice.specs.declared.around.Around.{Around}
use Rattle.ffv1_slice.specs.declared.head.SliceHead.{SliceHead}
use Rattle.ffv1_slice.specs.Below.{IsHalf}
use Rattle.ffv1_slice.specs.Colour.{Pixel, pixel_in, plane_sample, samples_of, from_green}
use Rattle.ffv1_slice.specs.Laws.{IsInside}
use Rattle.ffv1_slice.specs.Plane.{cell, around_at, context, prediction, difference, sample_choices, IsSample}
use Rattle.ffv1_slice.specs.Pixels.{IsPixel}
use Rattle.ffv1_slice.specs.Slice.{slice_states, slice_choices, slice_decisions, written_numbers, first_slot, plane_values, line_choices, row_choices, rows_choices, IsTile, TellHead, IsLine, IsRow, AreRows, Codes}
use Rattle.ffv1_slice.proofs.Depths.{depth_half}
use Rattle.ffv1_slice.proofs.Joining.{joins_joined}
use Rattle.ffv1_slice.proofs.OneTile.{slice_slots}
use Rattle.ffv1_slice.proofs.Placing.{difference_small}
use Rattle.ffv1_slice.proofs.Restoring.{restored_back}

-- the colours of a tile, and 0 past its end
sample_within : (bits width height : ℕ) (tile : List ℕ) (i : ℕ) → 0 < 2 ^ bits → IsTile bits width height tile → slice_index tile i < 2 ^ bits
sample_within bits width height tile i some t = elim (cases_lt i (length tile)) as (λ _. slice_index tile i < 2 ^ bits) [
  | inl inside ↦ t.within i 0 inside
  | inr past ↦ (let e : slice_index tile i ≡ 0 = get_or_past tile i 0 past in omega arith)
]

pub pixel_within : (bits width height : ℕ) (tile : List ℕ) (i : ℕ) → 0 < 2 ^ bits → IsTile bits width height tile → IsPixel (2 ^ bits) (pixel_in tile i)
pixel_within bits width height tile i some t = record {
  red = sample_within bits width height tile (3 * i) some t;
  green = sample_within bits width height tile (3 * i + 1) some t;
  blue = sample_within bits width height tile (3 * i + 2) some t;
}

pub plane_small : (half : ℕ) (green : Bool) (p : Pixel) (plane : ℕ) → IsPixel half p → plane_sample half green p plane < 2 * half
unfolding plane_sample
plane_small half true p zero i = let r : p.red < half = i.red in let g : p.green < half = i.green in let b : p.blue < half = i.blue in omega arith
plane_small half true p (suc zero) i = let r : p.red < half = i.red in let g : p.green < half = i.green in let b : p.blue < half = i.blue in omega arith
plane_small half true p (suc (suc n)) i = let r : p.red < half = i.red in let g : p.green < half = i.green in let b : p.blue < half = i.blue in omega arith
plane_small half false p zero i = let r : p.red < half = i.red in let g : p.green < half = i.green in let b : p.blue < half = i.blue in omega arith
plane_small half false p (suc zero) i = let r : p.red < half = i.red in let g : p.green < half = i.green in let b : p.blue < half = i.blue in omega arith
plane_small half false p (suc (suc n)) i = let r : p.red < half = i.red in let g : p.green < half = i.green in let b : p.blue < half = i.blue in omega arith

pub cell_small : (width most : ℕ) (plane : ℕ → ℕ → ℕ) (line place : ℕ) → 0 < most → ((y x : ℕ) → plane y x < most) → cell width plane line place < most
unfolding cell
cell_small width most plane zero place some each = some
cell_small width most plane (suc zero) place some each = some
cell_small width most plane (suc (suc y)) zero some each = some
cell_small width most plane (suc (suc zero)) (suc zero) some each = some
cell_small width most plane (suc (suc (suc y))) (suc zero) some each = each y 0
cell_small width most plane (suc (suc y)) (suc (suc x)) some each = each y (min x (width - 1))

prediction_small : (a : Around) (most : ℕ) → a.left < most → a.above < most → prediction a < most
unfolding prediction
prediction_small a most l t = omega arith

-- the choices of a sample are read as it
sample_coded : (half : ℕ) (values : List ℤ) (first width : ℕ) (plane : ℕ → ℕ → ℕ) (y x : ℕ) → IsHalf half → ((y x : ℕ) → plane y x < 2 * half) → IsSample half values first (around_at width plane y x) (plane y x) (sample_choices half values first (around_at width plane y x) (plane y x))
sample_coded half values first width plane y x h each =
    let a : Around = around_at width plane y x in
    let least : 256 ≤ half = h.least in
    let left : cell width plane (y + 2) (x + 1) < 2 * half = cell_small width (2 * half) plane (y + 2) (x + 1) (omega arith) each in
    let above : cell width plane (y + 1) (x + 2) < 2 * half = cell_small width (2 * half) plane (y + 1) (x + 2) (omega arith) each in
    let small : prediction (around_at width plane y x) < 2 * half = prediction_small (around_at width plane y x) (2 * half) left above in
    let few : unsigned_abs (difference half (is_negative (context values a)) (prediction a) (plane y x)) ≤ 65536 = difference_small half (is_negative (context values a)) (prediction a) (plane y x) h in
    record {
      value = difference half (is_negative (context values a)) (prediction a) (plane y x);
      codable = omega arith;
      is = refl;
      restores = restored_back half (is_negative (context values a)) (prediction a) (plane y x) h small (each y x);
    }

pub rows_coded : (params : Parameters) (head : SliceHead) (width height : ℕ) (s : ℕ → ℕ → ℕ → ℕ) → IsHalf (2 ^ params.bits) → ((plane y x : ℕ) → s plane y x < 2 * 2 ^ params.bits) → AreRows params head width s height (rows_choices params head width s height)
rows_coded params head width height s h each =
    joins_joined height (IsRow params head width s) (row_choices params head width s)
    (λ y b. joins_joined 3 (IsLine params head width s y) (line_choices params head width s y)
    (λ plane b'. joins_joined width
    (λ x. IsSample (2 ^ params.bits) (plane_values params head plane) (first_slot params plane) (around_at width (s plane) y x) (s plane y x))
    (λ x. sample_choices (2 ^ params.bits) (plane_values params head plane) (first_slot params plane) (around_at width (s plane) y x) (s plane y x))
    (λ x b''. sample_coded (2 ^ params.bits) (plane_values params head plane) (first_slot params plane) width (s plane) y x h (each plane))))

-- the numbers that are written tell the head
abbrev IsSmall : ℕ → Type 0
IsSmall n = n < 2 ^ 31

two_at : (xs : List ℕ) (i : ℕ) → i < 2 → get_or xs i 0 ≡ get_or (slice_index xs 0 ∷ slice_index xs 1 ∷ []) i 0
two_at xs zero b = refl
two_at xs (suc zero) b = refl
two_at xs (suc (suc i)) b = absurd (omega arith)

two : (xs : List ℕ) → length xs ≡ 2 → xs ≡ slice_index xs 0 ∷ slice_index xs 1 ∷ []
two xs len = ext_get_or 0 xs (slice_index xs 0 ∷ slice_index xs 1 ∷ []) len (λ i b. two_at xs i (omega arith))

factor_small : (a b : ℕ) → a * b ≤ 1024 → 1 ≤ b → a ≤ 1024
factor_small a b most some =
    let less : a * 1 ≤ a * b = mul-le-mul_left a some in
    omega arith

swapped : (a b : ℕ) → a * b ≤ 1024 → b * a ≤ 1024
swapped a b h = omega arith

pub written_small : (head : SliceHead) (k d : ℕ) → k < 9 → head.x < 2 ^ 31 → head.y < 2 ^ 31 → head.columns - 1 < 2 ^ 31 → head.rows - 1 < 2 ^ 31 → slice_index head.indices 0 < 2 ^ 31 → slice_index head.indices 1 < 2 ^ 31 → get_or (written_numbers head) k d < 2 ^ 31
written_small head zero d b x y c r i j = x
written_small head (suc zero) d b x y c r i j = y
written_small head (suc (suc zero)) d b x y c r i j = c
written_small head (suc (suc (suc zero))) d b x y c r i j = r
written_small head (suc (suc (suc (suc zero)))) d b x y c r i j = i
written_small head (suc (suc (suc (suc (suc zero))))) d b x y c r i j = j
written_small head (suc (suc (suc (suc (suc (suc zero)))))) d b x y c r i j = omega arith
written_small head (suc (suc (suc (suc (suc (suc (suc zero))))))) d b x y c r i j = omega arith
written_small head (suc (suc (suc (suc (suc (suc (suc (suc zero)))))))) d b x y c r i j = omega arith
written_small head (suc (suc (suc (suc (suc (suc (suc (suc (suc k))))))))) d b x y c r i j = absurd (omega arith)

pub written_tell : (params : Parameters) (head : SliceHead) → AreSound params → IsInside params head → TellHead params (written_numbers head) head
written_tell params head sound inside =
    let across : head.x + head.columns ≤ params.columns = inside.across in
    let down : head.y + head.rows ≤ params.rows = inside.down in
    let some : 1 ≤ head.columns = inside.columns_some in
    let some' : 1 ≤ head.rows = inside.rows_some in
    let columns : 1 ≤ params.columns = sound.columns in
    let rows : 1 ≤ params.rows = sound.rows in
    let slices : params.columns * params.rows ≤ 1024 = sound.slices in
    let sets : length params.sets ≤ 8 = sound.most in
    let i0 : slice_index head.indices 0 < length params.sets = inside.luma_index in
    let i1 : slice_index head.indices 1 < length params.sets = inside.difference_index in
    let few_columns : params.columns ≤ 1024 = factor_small params.columns params.rows slices rows in
    let few_rows : params.rows ≤ 1024 = factor_small params.rows params.columns (swapped params.columns params.rows slices) columns in
    record {
      count = refl;
      taken = record {
        codable = λ k d b. written_small head k d b (omega arith) (omega arith) (omega arith) (omega arith) (omega arith) (omega arith);
        cells = λ _. record { across = omega arith; down = omega arith };
        luma_index = λ _. i0;
        difference_index = λ _. i1;
      };
      x = refl;
      y = refl;
      columns = omega arith;
      rows = omega arith;
      indices = two head.indices inside.count;
    }

-- so the bytes code the head and the tile
pub coded_slice : SymbolSlots → SetsOfStates → CodedIsRead → ChoicesAreOnStates → (params : Parameters) (head : SliceHead) (width height : ℕ) (first : Bool) (tile : List ℕ) → IsClosed params.table → AreLive params.table (slice_states params) → AreSound params → IsInside params head → 1 ≤ width → IsTile params.bits width height tile → Codes params first width height (coded (slice_decisions params head width height first tile)) head tile
unfolding slice_decisions
coded_slice symbols sets read on params head width height first tile closed live sound inside some t =
    let h = depth_half params.bits sound.depth in
    let least : 256 ≤ 2 ^ params.bits = h.least in
    let s : ℕ → ℕ → ℕ → ℕ = samples_of params.bits width tile in
    let each : (plane y x : ℕ) → samples_of params.bits width tile plane y x < 2 * 2 ^ params.bits = λ plane y x. plane_small (2 ^ params.bits) (from_green params.bits) (pixel_in tile (y * width + x)) plane (pixel_within params.bits width height tile (y * width + x) (omega arith) t) in
    let tell : TellHead params (written_numbers head) head = written_tell params head sound inside in
    let rows : AreRows params head width (samples_of params.bits width tile) height (rows_choices params head width (samples_of params.bits width tile) height) = rows_coded params head width height (samples_of params.bits width tile) h each in
    let uses : UseSlots (length (slice_states params)) (slice_choices params head width height first tile) = slice_slots symbols sets params head first width height (written_numbers head) (samples_of params.bits width tile) (rows_choices params head width (samples_of params.bits width tile) height) sound tell rows in
    record {
      numbers = written_numbers head;
      choices = rows_choices params head width (samples_of params.bits width tile) height;
      tell = tell;
      rows = rows;
      is_tile = t;
      reads = read (slice_decisions params head width height first tile) (on params.table (slice_states params) (slice_choices params head width height first tile) closed live uses);
    }
