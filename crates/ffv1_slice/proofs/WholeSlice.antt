-- A slice that was read: its head and its tile.
use Rattle.std.proofs.Common.{◌≡◌, ℕ, zero, suc, ◌+◌, ◌*◌, ◌/◌, ◌%◌, ◌^◌, ◌<◌, ◌≤◌, List, ◌++◌, Bool, length, get_or, replicate, Result, Ok, Err, IfErr, refl, sym, ap, ◌∙◌, subst, arith, inl, inr}
use Rattle.std.proofs.lemmas.List.{get_or_default}
use Rattle.std.proofs.lemmas.Nat.{div_below}
use Rattle.std.proofs.Math.Nat.{mod-lt}
use Rattle.range_coder.specs.Choices.{Choice}
use Rattle.range_coder.specs.Coding.{Gets}
use Rattle.range_coder.specs.Facts.{CodingsAreJoined, SetsOfStates}
use Rattle.range_coder.specs.Interval.{Reads}
use Rattle.range_coder.specs.Laws.{SymbolSlots, OverlongSlots}
use Rattle.range_coder.specs.Reading.{Reader, Begins}
use Rattle.range_coder.specs.Table.{IsLive, AreLive}
use Rattle.ffv1_params.specs.QuantTables.{most_contexts}
use Rattle.ffv1_params.specs.Parameters.{Parameters}
use Rattle.ffv1_slice.specs.declared.error.SliceWhy.{SliceWhy}
use Rattle.ffv1_slice.specs.declared.error.SliceWhy.TheVariants as why
use Rattle.ffv1_slice.specs.declared.head.SliceHead.{SliceHead}
use Rattle.ffv1_slice.specs.declared.lines.Planes.{Planes}
use Rattle.ffv1_slice.specs.Colour.{Pixel, pixel_in, plane_sample, samples_of, from_green}
use Rattle.ffv1_slice.specs.Faults.{HeadFault, SliceFault}
use Rattle.ffv1_slice.specs.Pixels.{IsPixel}
use Rattle.ffv1_slice.specs.Reached.{RowsStored, RowsRead, RowsFail, SliceRead, RowsAreBad, SliceFails}
use Rattle.ffv1_slice.specs.Slice.{front_choices, slots_of, fresh_slots, slice_states, decided_in, IsTile, Codes}
use Rattle.ffv1_slice.specs.Storing.{HasSamples}
use Rattle.ffv1_slice.specs.Taking.{FrontRead, FrontFails}
use Rattle.ffv1_slice.proofs.Codings.{gets_more}
use Rattle.ffv1_slice.proofs.HeadsRead.{all_states, head_fails}
use Rattle.ffv1_slice.proofs.OneSlice.{SameRow}
use Rattle.ffv1_slice.proofs.RowFaults.{long_sample, leaves_range}
use Rattle.ffv1_slice.proofs.RowsRead.{rows_agree}

-- a plane of a pixel that has these samples
sample_had : (half : ℕ) (green : Bool) (p : Pixel) (s : ℕ → ℕ) (plane : ℕ) → plane < 3 → HasSamples half green (s 0) (s 1) (s 2) p → s plane ≡ plane_sample half green p plane
sample_had half green p s zero few h = sym h.luma
sample_had half green p s (suc zero) few h = sym h.blue
sample_had half green p s (suc (suc zero)) few h = sym h.red
sample_had half green p s (suc (suc (suc n))) few h = absurd (omega arith)

tile_has : (params : Parameters) (width rows : ℕ) (s : ℕ → ℕ → ℕ → ℕ) (tile : List ℕ) → RowsStored params (2 ^ params.bits) width s tile rows → (y : ℕ) → y < rows → SameRow width s (samples_of params.bits width tile) y
tile_has params width rows s tile h y below plane few x within =
    sample_had (2 ^ params.bits) (from_green params.bits) (pixel_in tile (y * width + x)) (λ p. s p y x) plane few (h.each y x below within)

-- each pixel of the tile is in range
pixel_stored : (params : Parameters) (width height : ℕ) (s : ℕ → ℕ → ℕ → ℕ) (tile : List ℕ) (j : ℕ) → 1 ≤ width → RowsStored params (2 ^ params.bits) width s tile height → j < width * height → IsPixel (2 ^ params.bits) (pixel_in tile j)
pixel_stored params width height s tile j some h below =
    let row : j / width < height = div_below j width height (omega arith) (omega arith) in
    let place : j % width < width = mod-lt j {m = width} (omega arith) in
    let split : j / width * width + j % width ≡ j = omega arith in
    subst (λ (n : ℕ). IsPixel (2 ^ params.bits) (pixel_in tile n)) split (h.each (j / width) (j % width) row place).is_pixel

third_within : (most : ℕ) (tile : List ℕ) (i j c : ℕ) → i ≡ 3 * j + c → c < 3 → IsPixel most (pixel_in tile j) → get_or tile i 0 < most
third_within most tile i j zero is small p = let e : i ≡ 3 * j = omega arith in subst (λ (n : ℕ). get_or tile n 0 < most) (sym e) p.red
third_within most tile i j (suc zero) is small p = let e : i ≡ 3 * j + 1 = omega arith in subst (λ (n : ℕ). get_or tile n 0 < most) (sym e) p.green
third_within most tile i j (suc (suc zero)) is small p = let e : i ≡ 3 * j + 2 = omega arith in subst (λ (n : ℕ). get_or tile n 0 < most) (sym e) p.blue
third_within most tile i j (suc (suc (suc c))) is small p = absurd (omega arith)

tile_is : (params : Parameters) (width height : ℕ) (s : ℕ → ℕ → ℕ → ℕ) (tile : List ℕ) → 1 ≤ width → length tile ≡ 3 * (width * height) → RowsStored params (2 ^ params.bits) width s tile height → IsTile params.bits width height tile
tile_is params width height s tile some long h = record {
  long = long;
  within = λ i d below.
      (let inside : i / 3 < width * height = omega arith in
      let small : get_or tile i 0 < 2 ^ params.bits = third_within (2 ^ params.bits) tile i (i / 3) (i % 3) (omega arith) (mod-lt i {m = 3} (omega arith)) (pixel_stored params width height s tile (i / 3) some h inside) in
      subst (λ (n : ℕ). n < 2 ^ params.bits) (get_or_default tile i 0 d below) small);
}

-- all that was got, the bytes say
reads_all : CodingsAreJoined → (params : Parameters) (bytes : List ℕ) (before : Reader) (after : Reader) (left : List ℕ) (cs : List Choice) → Begins before bytes → Gets params.table before (slice_states params) after left cs → Reads bytes (decided_in params cs)
reads_all law params bytes before after left cs begins g = law.all_got params.table before (slice_states params) after left cs bytes begins g

pub slice_read : CodingsAreJoined → (params : Parameters) (first : Bool) (width height : ℕ) (bytes : List ℕ) (before : Reader) (head : SliceHead) (tile : List ℕ) → 1 ≤ width → length tile ≡ 3 * (width * height) → Begins before bytes → SliceRead params first width height before head tile → Codes params first width height bytes head tile
slice_read law params first width height bytes before head tile some long begins h = record {
  numbers = h.front.numbers;
  choices = h.rows.choices;
  tell = h.front.tell;
  rows = rows_agree params head width height h.rows.samples (samples_of params.bits width tile) h.rows.choices some (tile_has params width height h.rows.samples tile h.rows.stored) h.rows.are_rows;
  is_tile = tile_is params width height h.rows.samples tile some long h.rows.stored;
  reads = reads_all law params bytes before h.after h.left (front_choices first h.front.numbers ++ h.rows.choices) begins
      (gets_more params.table before (slice_states params) h.between h.held h.after h.left (front_choices first h.front.numbers) h.rows.choices h.front.gets h.rows.gets);
}

-- a fault of a header is one of the slice
head_of_slice : (params : Parameters) (first : Bool) (width height : ℕ) (bytes : List ℕ) (fault : SliceWhy) → HeadFault params first bytes fault → SliceFault params first width height bytes fault
head_of_slice params first width height bytes why.BadStart h = h
head_of_slice params first width height bytes why.NotKey h = h
head_of_slice params first width height bytes why.BadSymbol h = inl h
head_of_slice params first width height bytes why.SliceHeader h = h
head_of_slice params first width height bytes why.SampleRange h = absurd h

-- the fault of the rows
rows_fail : CodingsAreJoined → (params : Parameters) (first : Bool) (width height : ℕ) (bytes : List ℕ) (before : Reader) (fault : SliceWhy) → 1 ≤ width → Begins before bytes → RowsAreBad params first width height before fault → SliceFault params first width height bytes fault
rows_fail law params first width height bytes before why.BadStart some begins h = absurd h.rows
rows_fail law params first width height bytes before why.NotKey some begins h = absurd h.rows
rows_fail law params first width height bytes before why.BadSymbol some begins h = inr (long_sample law params h.head first width height bytes before h.between h.held some begins h.front h.rows)
rows_fail law params first width height bytes before why.SliceHeader some begins h = absurd h.rows
rows_fail law params first width height bytes before why.SampleRange some begins h = leaves_range law params h.head first width height bytes before h.between h.held some begins h.front h.rows

pub slice_fails : CodingsAreJoined → SetsOfStates → SymbolSlots → OverlongSlots → (params : Parameters) (first : Bool) (width height : ℕ) (bytes : List ℕ) (before : Reader) (fault : SliceWhy) → 1 ≤ width → Begins before bytes → SliceFails params first width height before fault → SliceFault params first width height bytes fault
slice_fails law sets slots overlong params first width height bytes before fault some begins h = elim h as (λ _. SliceFault params first width height bytes fault) [
  | inl front ↦ head_of_slice params first width height bytes fault (head_fails law sets slots overlong params first bytes before (slice_states params) front.after front.left fault (all_states params (slice_states params) refl) begins front.front)
  | inr rows ↦ rows_fail law params first width height bytes before fault some begins rows
]

-- the states at the start
pub states_fresh : (params : Parameters) (states old : List ℕ) → states ≡ replicate (length old) 128 → length old ≡ slots_of (most_contexts params.sets) → states ≡ slice_states params
unfolding fresh_slots
states_fresh params states old is len = is ∙ ap (λ (n : ℕ). replicate n 128) len

pub states_live : SetsOfStates → (params : Parameters) (states old : List ℕ) → states ≡ replicate (length old) 128 → IsLive params.table 128 → AreLive params.table states
states_live sets params states old is live = subst (AreLive params.table) (sym is) (sets.fresh params.table (length old) live)

-- what the two parts of a slice make of it
pub front_refused : (params : Parameters) (first : Bool) (width height : ℕ) (before : Reader) (states : List ℕ) (after : Reader) (left : List ℕ) (fault : SliceWhy) → states ≡ slice_states params → FrontFails params first before states after left fault → SliceFails params first width height before fault
front_refused params first width height before states after left fault is h =
    inl (record { after = after; left = left; front = subst (λ (xs : List ℕ). FrontFails params first before xs after left fault) is h })

pub rows_refused : (params : Parameters) (first : Bool) (width height : ℕ) (before : Reader) (states : List ℕ) (between : Reader) (held : List ℕ) (head : SliceHead) (fault : SliceWhy) → states ≡ slice_states params → FrontRead params first before states between held head → RowsFail params head (2 ^ params.bits) width height between held fault → SliceFails params first width height before fault
rows_refused params first width height before states between held head fault is f h =
    inr (record { head = head; between = between; held = held; front = subst (λ (xs : List ℕ). FrontRead params first before xs between held head) is f; rows = h })

pub slice_got : (params : Parameters) (first : Bool) (width height : ℕ) (before : Reader) (states : List ℕ) (between : Reader) (held : List ℕ) (after : Reader) (left : List ℕ) (planes : Planes) (head : SliceHead) (tile : List ℕ) → states ≡ slice_states params → FrontRead params first before states between held head → RowsRead params head (2 ^ params.bits) width between held after left planes tile height → SliceRead params first width height before head tile
slice_got params first width height before states between held after left planes head tile is f h =
    record { between = between; held = held; after = after; left = left; planes = planes; front = subst (λ (xs : List ℕ). FrontRead params first before xs between held head) is f; rows = h }

-- what follows of an Err
pub if_err : {T E : Type 0} (r : Result T E) (P Q : E → Type 0) → ((e : E) → P e → Q e) → IfErr r P → IfErr r Q
if_err (Ok v) P Q f p = tt
if_err (Err e) P Q f p = f e p
