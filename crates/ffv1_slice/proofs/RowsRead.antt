-- Rows of samples, read one after another.
use Rattle.std.proofs.Common.{◌≡◌, ◌≢◌, ℕ, zero, suc, ◌+◌, ◌*◌, ◌^◌, ◌<◌, ◌≤◌, List, [], ◌++◌, Bool, true, false, eqb, cond, refl, sym, ap, ◌∙◌, subst, arith, inl, inr}
use Rattle.std.proofs.lemmas.Bool.{cases_eq, eq-eqb, ne_eqb}
use Rattle.std.proofs.Math.Nat.{mul-le-mul_left}
use Rattle.std.specs.Prelude.{ℤ, slice_index}
use Rattle.range_coder.specs.Choices.{Choice}
use Rattle.range_coder.specs.Coding.{Gets}
use Rattle.range_coder.specs.Reading.{Reader}
use Rattle.range_coder.specs.Table.{AreLive}
use Rattle.ffv1_params.specs.Parameters.{Parameters}
use Rattle.ffv1_slice.specs.declared.around.Around.{Around}
use Rattle.ffv1_slice.specs.declared.head.SliceHead.{SliceHead}
use Rattle.ffv1_slice.specs.declared.lines.Lines.{Lines}
use Rattle.ffv1_slice.specs.declared.lines.Planes.{Planes}
use Rattle.ffv1_slice.specs.Colour.{Pixel, pixel_in, from_green}
use Rattle.ffv1_slice.specs.Got.{GetsPlane, RowGot, RowFails}
use Rattle.ffv1_slice.specs.Plane.{cell, around_at, IsSample, Joins}
use Rattle.ffv1_slice.specs.Planes.{AreBlank, HoldsAbove}
use Rattle.ffv1_slice.specs.Reached.{RowsRead, RowIsLong, RowIsWide}
use Rattle.ffv1_slice.specs.Room.{KeepsRoom}
use Rattle.ffv1_slice.specs.Slice.{first_slot, plane_values, IsLine, IsRow, AreRows}
use Rattle.ffv1_slice.specs.Storing.{HasSamples, RowStored, RowLeaves}
use Rattle.ffv1_slice.specs.Work.{HoldsLine, around_lines, IsLineRead}
use Rattle.ffv1_slice.proofs.Cells.{SameAbove, cell_above, around_same}
use Rattle.ffv1_slice.proofs.Codings.{gets_nil, gets_more}
use Rattle.ffv1_slice.proofs.Joining.{joins_none, joins_more, joins_same}
use Rattle.ffv1_slice.proofs.OneSlice.{SameRow}
use Rattle.ffv1_slice.proofs.Rooms.{planes_stay, rooms_joined}
use Rattle.ffv1_slice.proofs.Rows.{cell_at, cell_first, cell_zero, loaded_at, nothing_above, blank_ready}

-- the samples with a row replaced by three lines
abbrev pub picked : List ℕ → List ℕ → List ℕ → ℕ → List ℕ
picked l0 l1 l2 zero = l0
picked l0 l1 l2 (suc zero) = l1
picked l0 l1 l2 (suc (suc p)) = l2

pub with_row : (ℕ → ℕ → ℕ → ℕ) → ℕ → List ℕ → List ℕ → List ℕ → ℕ → ℕ → ℕ → ℕ
with_row s y l0 l1 l2 plane r x = cond (eqb r y) (slice_index (picked l0 l1 l2 plane) (x + 2)) (s plane r x)

pub at_row : (s : ℕ → ℕ → ℕ → ℕ) (y : ℕ) (l0 l1 l2 : List ℕ) (plane x : ℕ) → with_row s y l0 l1 l2 plane y x ≡ slice_index (picked l0 l1 l2 plane) (x + 2)
unfolding with_row
at_row s y l0 l1 l2 plane x = let e : eqb y y ≡ true = eq-eqb y y refl in ap (λ (b : Bool). cond b (slice_index (picked l0 l1 l2 plane) (x + 2)) (s plane y x)) e

pub above_row : (s : ℕ → ℕ → ℕ → ℕ) (y : ℕ) (l0 l1 l2 : List ℕ) (plane r x : ℕ) → r < y → s plane r x ≡ with_row s y l0 l1 l2 plane r x
unfolding with_row
above_row s y l0 l1 l2 plane r x below =
    let ne : r ≢ y = omega arith in
    let e : eqb r y ≡ false = ne_eqb r y ne in
    sym (ap (λ (b : Bool). cond b (slice_index (picked l0 l1 l2 plane) (x + 2)) (s plane r x)) e)

-- rows are read as other samples that are the same
line_agrees : (params : Parameters) (head : SliceHead) (width : ℕ) (s t : ℕ → ℕ → ℕ → ℕ) (y plane : ℕ) (cs : List Choice) → 1 ≤ width → SameAbove width (s plane) (t plane) y → ((x : ℕ) → x < width → s plane y x ≡ t plane y x) → IsLine params head width s y plane cs → IsLine params head width t y plane cs
line_agrees params head width s t y plane cs some above here read =
    joins_same width
    (λ x. IsSample (2 ^ params.bits) (plane_values params head plane) (first_slot params plane) (around_at width (s plane) y x) (s plane y x))
    (λ x. IsSample (2 ^ params.bits) (plane_values params head plane) (first_slot params plane) (around_at width (t plane) y x) (t plane y x)) cs
    (λ x c within p.
    let a : around_at width (s plane) y x ≡ around_at width (t plane) y x = around_same width (s plane) (t plane) y x some above (λ x' b. here x' (omega arith)) in
    subst (λ (a' : Around). IsSample (2 ^ params.bits) (plane_values params head plane) (first_slot params plane) a' (t plane y x) c) a
    (subst (λ (n : ℕ). IsSample (2 ^ params.bits) (plane_values params head plane) (first_slot params plane) (around_at width (s plane) y x) n c) (here x within) p))
    read

pub rows_agree : (params : Parameters) (head : SliceHead) (width height : ℕ) (s t : ℕ → ℕ → ℕ → ℕ) (cs : List Choice) → 1 ≤ width → ((y : ℕ) → y < height → SameRow width s t y) → AreRows params head width s height cs → AreRows params head width t height cs
rows_agree params head width height s t cs some same read =
    joins_same height (IsRow params head width s) (IsRow params head width t) cs
    (λ y c b row. joins_same 3 (IsLine params head width s y) (IsLine params head width t y) c
    (λ plane c' b' line. line_agrees params head width s t y plane c' some (λ y' x' by bx. same y' (omega arith) plane b' x' bx) (same y b plane b') line) row) read

-- a line that is held but for its right border
pub record HoldsTo (width : ℕ) (plane : ℕ → ℕ → ℕ) (y : ℕ) (line : List ℕ) : Type 0 where
  pub each : (place : ℕ) → place < width + 2 → slice_index line place ≡ cell width plane (y + 2) place

held_at : (width : ℕ) (plane : ℕ → ℕ → ℕ) (y : ℕ) (above line : List ℕ) (place : ℕ) → 1 ≤ width → slice_index line 0 ≡ 0 → slice_index line 1 ≡ slice_index above 2 → ((x : ℕ) → slice_index line (x + 2) ≡ plane y x) → slice_index above 2 ≡ cell width plane (y + 1) 2 → place < width + 2 → slice_index line place ≡ cell width plane (y + 2) place
held_at width plane y above line zero some l2 l1 s a within = l2 ∙ sym (cell_zero width plane y)
held_at width plane y above line (suc zero) some l2 l1 s a within = l1 ∙ a ∙ sym (cell_first width plane y)
held_at width plane y above line (suc (suc x)) some l2 l1 s a within =
    let e : suc (suc x) ≡ x + 2 = omega arith in
    subst (λ (n : ℕ). slice_index line n ≡ cell width plane (y + 2) n) (sym e) (s x ∙ sym (cell_at width plane y x (omega arith)))

pub holds_to : (width : ℕ) (plane : ℕ → ℕ → ℕ) (y : ℕ) (above line : List ℕ) → 1 ≤ width → slice_index line 0 ≡ 0 → slice_index line 1 ≡ slice_index above 2 → ((x : ℕ) → slice_index line (x + 2) ≡ plane y x) → HoldsLine width plane (y + 1) above → HoldsTo width plane y line
holds_to width plane y above line some l2 l1 s h = record { each = λ place within. held_at width plane y above line place some l2 l1 s (h.each 2 (omega arith)) within }

pub around_to : (width : ℕ) (plane : ℕ → ℕ → ℕ) (y x : ℕ) (above2 above line : List ℕ) → HoldsLine width plane y above2 → HoldsLine width plane (y + 1) above → HoldsTo width plane y line → x < width → around_lines above2 above line x ≡ around_at width plane y x
around_to width plane y x above2 above line h2 h1 h0 within =
    let aa : slice_index above2 (x + 2) ≡ cell width plane y (x + 2) = h2.each (x + 2) (omega arith) in
    let al : slice_index above (x + 1) ≡ cell width plane (y + 1) (x + 1) = h1.each (x + 1) (omega arith) in
    let ab : slice_index above (x + 2) ≡ cell width plane (y + 1) (x + 2) = h1.each (x + 2) (omega arith) in
    let ar : slice_index above (x + 3) ≡ cell width plane (y + 1) (x + 3) = h1.each (x + 3) (omega arith) in
    let le : slice_index line (x + 1) ≡ cell width plane (y + 2) (x + 1) = h0.each (x + 1) (omega arith) in
    let ll : slice_index line x ≡ cell width plane (y + 2) x = h0.each x (omega arith) in
    rw (aa, al, ab, ar, le, ll) refl

-- the lines above, held for other samples that are the same there
pub held_above : (width : ℕ) (p q : ℕ → ℕ → ℕ) (y line : ℕ) (list : List ℕ) → 1 ≤ width → SameAbove width p q y → line < y + 2 → HoldsLine width p line list → HoldsLine width q line list
held_above width p q y line list some same below h = record { each = λ place within. h.each place within ∙ cell_above width p q y line place some same below }

-- what was read of a line, by the samples of a plane
pub samples_read : (half : ℕ) (values : List ℤ) (first width : ℕ) (plane : ℕ → ℕ → ℕ) (y count : ℕ) (above2 above line : List ℕ) (cs : List Choice) → count ≤ width → HoldsLine width plane y above2 → HoldsLine width plane (y + 1) above → HoldsTo width plane y line → ((x : ℕ) → slice_index line (x + 2) ≡ plane y x) → IsLineRead half values first above2 above line count cs → Joins count (λ x. IsSample half values first (around_at width plane y x) (plane y x)) cs
samples_read half values first width plane y count above2 above line cs few h2 h1 h0 s read =
    joins_same count
    (λ x. IsSample half values first (around_lines above2 above line x) (slice_index line (x + 2)))
    (λ x. IsSample half values first (around_at width plane y x) (plane y x)) cs
    (λ x c within p.
    let a : around_lines above2 above line x ≡ around_at width plane y x = around_to width plane y x above2 above line h2 h1 h0 (omega arith) in
    subst (λ (a' : Around). IsSample half values first a' (plane y x) c) a (subst (λ (n : ℕ). IsSample half values first (around_lines above2 above line x) n c) (s x) p))
    read

-- one plane of a row
pub plane_read : (params : Parameters) (head : SliceHead) (half width : ℕ) (s t : ℕ → ℕ → ℕ → ℕ) (y plane : ℕ) (r : Reader) (states : List ℕ) (r' : Reader) (states' : List ℕ) (old new : Lines) → 1 ≤ width → half ≡ 2 ^ params.bits → SameAbove width (s plane) (t plane) y → ((x : ℕ) → slice_index new.line.items (x + 2) ≡ t plane y x) → HoldsAbove width (s plane) y old → (g : GetsPlane params head half width plane r states r' states' old new) → IsLine params head width t y plane g.line.samples.choices × HoldsAbove width (t plane) (y + 1) new
plane_read params head half width s t y plane r states r' states' old new some power same at h g =
    let h2 : HoldsLine width (t plane) y old.above.items = held_above width (s plane) (t plane) y y old.above.items some same (omega arith) h.above in
    let h1 : HoldsLine width (t plane) (y + 1) old.line.items = held_above width (s plane) (t plane) y (y + 1) old.line.items some same (omega arith) h.line in
    let h0 : HoldsTo width (t plane) y new.line.items = holds_to width (t plane) y old.line.items new.line.items some g.line.samples.left_left g.line.samples.left_border at h1 in
    let read : Joins width (λ x. IsSample half (plane_values params head plane) (first_slot params plane) (around_at width (t plane) y x) (t plane y x)) g.line.samples.choices =
    samples_read half (plane_values params head plane) (first_slot params plane) width (t plane) y width old.above.items old.line.items new.line.items g.line.samples.choices (omega arith) h2 h1 h0 at g.line.samples.read in
    let read' : IsLine params head width t y plane g.line.samples.choices = subst (λ (n : ℕ). Joins width (λ x. IsSample n (plane_values params head plane) (first_slot params plane) (around_at width (t plane) y x) (t plane y x)) g.line.samples.choices) power read in
    let last : HoldsLine width (t plane) (y + 2) new.line.items = record { each = λ place within. loaded_at width (t plane) y new.line.items old.line.items place some g.line.samples.left_left g.line.samples.left_border g.line.right (λ x b. at x) (h1.each 2 (omega arith)) within } in
    let e : y + 1 + 1 ≡ y + 2 = omega arith in
    let holds : HoldsAbove width (t plane) (y + 1) new = record { above = subst (HoldsLine width (t plane) (y + 1)) (sym g.above) h1; line = rw e last } in
    (read', holds)

pub three : (P : ℕ → List Choice → Type 0) (a b c : List Choice) → P 0 a → P 1 b → P 2 c → Joins 3 P (a ++ b ++ c)
three P a b c p q r =
    joins_more 2 P (a ++ b) c (joins_more 1 P a b (joins_more 0 P [] a (joins_none P) p) q) r

has_at : (half : ℕ) (green : Bool) (p : Pixel) (y cb cr y' cb' cr' : ℕ) → y ≡ y' → cb ≡ cb' → cr ≡ cr' → HasSamples half green y cb cr p → HasSamples half green y' cb' cr' p
has_at half green p y cb cr y' cb' cr' a b c h =
    subst (λ (n : ℕ). HasSamples half green n cb' cr' p) a (subst (λ (n : ℕ). HasSamples half green y n cr' p) b (subst (λ (n : ℕ). HasSamples half green y cb n p) c h))

before_row : (r y x width : ℕ) → r < y → x < width → r * width + x < y * width
before_row r y x width below within =
    let e : r + 1 ≤ y = omega arith in
    let m : width * (r + 1) ≤ width * y = mul-le-mul_left width e in
    omega arith

-- a row more was read, and stored
pub row_read : (params : Parameters) (head : SliceHead) (half width : ℕ) (before : Reader) (states : List ℕ) (between : Reader) (held : List ℕ) (after : Reader) (left : List ℕ) (old new : Planes) (tile tile' : List ℕ) (y : ℕ) → 1 ≤ width → half ≡ 2 ^ params.bits → RowsRead params head half width before states between held old tile y → RowGot params head half width between held after left old new → ((i : ℕ) → i < y * width → pixel_in tile' i ≡ pixel_in tile i) → ((x : ℕ) → x < width → HasSamples half (from_green params.bits) (slice_index new.luma.line.items (x + 2)) (slice_index new.blue.line.items (x + 2)) (slice_index new.red.line.items (x + 2)) (pixel_in tile' (y * width + x))) → RowsRead params head half width before states after left new tile' (y + 1)
row_read params head half width before states between held after left old new tile tile' y some power h g kept stored =
    let s : ℕ → ℕ → ℕ → ℕ = h.samples in
    let t : ℕ → ℕ → ℕ → ℕ = with_row h.samples y new.luma.line.items new.blue.line.items new.red.line.items in
    let same : (r : ℕ) → r < y → SameRow width s t r = λ r b plane b' x b''. above_row h.samples y new.luma.line.items new.blue.line.items new.red.line.items plane r x b in
    let above : (plane : ℕ) → SameAbove width (s plane) (t plane) y = λ plane r x b b'. above_row h.samples y new.luma.line.items new.blue.line.items new.red.line.items plane r x b in
    let p0 = plane_read params head half width s t y 0 between held g.luma_reader g.luma_states old.luma new.luma some power (above 0) (λ x. sym (at_row h.samples y new.luma.line.items new.blue.line.items new.red.line.items 0 x)) h.come.luma g.luma in
    let p1 = plane_read params head half width s t y 1 g.luma_reader g.luma_states g.blue_reader g.blue_states old.blue new.blue some power (above 1) (λ x. sym (at_row h.samples y new.luma.line.items new.blue.line.items new.red.line.items 1 x)) h.come.blue g.blue in
    let p2 = plane_read params head half width s t y 2 g.blue_reader g.blue_states after left old.red new.red some power (above 2) (λ x. sym (at_row h.samples y new.luma.line.items new.blue.line.items new.red.line.items 2 x)) h.come.red g.red in
    let c0 : List Choice = g.luma.line.samples.choices in
    let c1 : List Choice = g.blue.line.samples.choices in
    let c2 : List Choice = g.red.line.samples.choices in
    let row : IsRow params head width t y (g.luma.line.samples.choices ++ g.blue.line.samples.choices ++ g.red.line.samples.choices) = three (IsLine params head width t y) c0 c1 c2 p0.0 p1.0 p2.0 in
    let got : Gets params.table between held after left (g.luma.line.samples.choices ++ g.blue.line.samples.choices ++ g.red.line.samples.choices) =
    gets_more params.table between held g.blue_reader g.blue_states after left (g.luma.line.samples.choices ++ g.blue.line.samples.choices) c2
    (gets_more params.table between held g.luma_reader g.luma_states g.blue_reader g.blue_states c0 c1 g.luma.line.samples.gets g.blue.line.samples.gets) g.red.line.samples.gets in
    let rows : AreRows params head width t y h.choices = rows_agree params head width y s t h.choices some same h.are_rows in
    record {
      samples = t;
      choices = h.choices ++ (g.luma.line.samples.choices ++ g.blue.line.samples.choices ++ g.red.line.samples.choices);
      are_rows = joins_more y (IsRow params head width t) h.choices (g.luma.line.samples.choices ++ g.blue.line.samples.choices ++ g.red.line.samples.choices) rows row;
      gets = gets_more params.table before states between held after left h.choices (g.luma.line.samples.choices ++ g.blue.line.samples.choices ++ g.red.line.samples.choices) h.gets got;
      live = g.live;
      come = record { luma = p0.1; blue = p1.1; red = p2.1; luma_ready = g.luma.ready; blue_ready = g.blue.ready; red_ready = g.red.ready };
      stored = record {
        each = λ r x b b'. elim (cases_eq r y) as (λ _. HasSamples half (from_green params.bits) (t 0 r x) (t 1 r x) (t 2 r x) (pixel_in tile' (r * width + x))) [
          | inl is ↦ subst (λ (n : ℕ). HasSamples half (from_green params.bits) (t 0 n x) (t 1 n x) (t 2 n x) (pixel_in tile' (n * width + x))) (sym is)
              (has_at half (from_green params.bits) (pixel_in tile' (y * width + x)) _ _ _ (t 0 y x) (t 1 y x) (t 2 y x)
              (sym (at_row h.samples y new.luma.line.items new.blue.line.items new.red.line.items 0 x)) (sym (at_row h.samples y new.luma.line.items new.blue.line.items new.red.line.items 1 x)) (sym (at_row h.samples y new.luma.line.items new.blue.line.items new.red.line.items 2 x)) (stored x b'))
          | inr ne ↦
              let earlier : r < y = omega arith in
              has_at half (from_green params.bits) (pixel_in tile' (r * width + x)) (s 0 r x) (s 1 r x) (s 2 r x) (t 0 r x) (t 1 r x) (t 2 r x)
              (above 0 r x earlier b') (above 1 r x earlier b') (above 2 r x earlier b')
              (subst (HasSamples half (from_green params.bits) (s 0 r x) (s 1 r x) (s 2 r x)) (sym (kept (r * width + x) (before_row r y x width earlier b'))) (h.stored.each r x earlier b'))
        ];
      };
    }

-- what the loop over the rows keeps
pub record RowsHeld (params : Parameters) (head : SliceHead) (half width : ℕ) (before : Reader) (states : List ℕ) (after : Reader) (left : List ℕ) (start planes : Planes) (tile : List ℕ) (rows : ℕ) : Type 0 where
  pub power : half ≡ 2 ^ params.bits
  pub read : RowsRead params head half width before states after left planes tile rows
  pub room : KeepsRoom start planes

-- above the first row
pub no_rows_read : (params : Parameters) (head : SliceHead) (half width : ℕ) (reader : Reader) (states : List ℕ) (planes : Planes) (tile : List ℕ) → half ≡ 2 ^ params.bits → 0 < half → AreLive params.table states → AreBlank width planes → RowsHeld params head half width reader states reader states planes planes tile 0
no_rows_read params head half width reader states planes tile power some live b = record {
  power = power;
  read = record {
    samples = λ p y x. 0;
    choices = [];
    are_rows = joins_none (IsRow params head width (λ p y x. 0));
    gets = gets_nil params.table reader states;
    live = live;
    come = record {
      luma = nothing_above width (λ y x. 0) b.len planes.luma b.luma b.long;
      blue = nothing_above width (λ y x. 0) b.len planes.blue b.blue b.long;
      red = nothing_above width (λ y x. 0) b.len planes.red b.red b.long;
      luma_ready = blank_ready width (2 * half) b.len planes.luma (omega arith) b.luma b.long;
      blue_ready = blank_ready width (2 * half) b.len planes.blue (omega arith) b.blue b.long;
      red_ready = blank_ready width (2 * half) b.len planes.red (omega arith) b.red b.long;
    };
    stored = record { each = λ y x below within. absurd (omega arith) };
  };
  room = planes_stay planes;
}

-- a row more
pub row_stored : (params : Parameters) (head : SliceHead) (half width : ℕ) (before : Reader) (states : List ℕ) (between : Reader) (held : List ℕ) (after : Reader) (left : List ℕ) (start old new : Planes) (tile tile' luma blue red : List ℕ) (green : Bool) (y at : ℕ) → 1 ≤ width → RowsHeld params head half width before states between held start old tile y → RowGot params head half width between held after left old new → KeepsRoom old new → green ≡ from_green params.bits → at ≡ y * width → luma ≡ new.luma.line.items → blue ≡ new.blue.line.items → red ≡ new.red.line.items → RowStored half green luma blue red tile tile' at width → RowsHeld params head half width before states after left start new tile' (y + 1)
row_stored params head half width before states between held after left start old new tile tile' luma blue red green y at some h g room is place l b r stored =
    let s0 : RowStored half (from_green params.bits) luma blue red tile tile' at width = subst (λ (c : Bool). RowStored half c luma blue red tile tile' at width) is stored in
    let s1 : RowStored half (from_green params.bits) new.luma.line.items blue red tile tile' at width = subst (λ (xs : List ℕ). RowStored half (from_green params.bits) xs blue red tile tile' at width) l s0 in
    let s2 : RowStored half (from_green params.bits) new.luma.line.items new.blue.line.items red tile tile' at width = subst (λ (xs : List ℕ). RowStored half (from_green params.bits) new.luma.line.items xs red tile tile' at width) b s1 in
    let s3 : RowStored half (from_green params.bits) new.luma.line.items new.blue.line.items new.red.line.items tile tile' at width = subst (λ (xs : List ℕ). RowStored half (from_green params.bits) new.luma.line.items new.blue.line.items xs tile tile' at width) r s2 in
    let s : RowStored half (from_green params.bits) new.luma.line.items new.blue.line.items new.red.line.items tile tile' (y * width) width = subst (λ (n : ℕ). RowStored half (from_green params.bits) new.luma.line.items new.blue.line.items new.red.line.items tile tile' n width) place s3 in
    record {
      power = h.power;
      read = row_read params head half width before states between held after left old new tile tile' y some h.power h.read g s.kept s.each;
      room = rooms_joined start old new h.room room;
    }

-- a row with a symbol that is too long
pub row_is_long : (params : Parameters) (head : SliceHead) (half width height : ℕ) (before : Reader) (states : List ℕ) (between : Reader) (held : List ℕ) (after : Reader) (left : List ℕ) (start planes : Planes) (tile : List ℕ) (y : ℕ) → y < height → RowsHeld params head half width before states between held start planes tile y → RowFails params head half width between held after left planes → RowIsLong params head (2 ^ params.bits) width height before states
row_is_long params head half width height before states between held after left start planes tile y within h f =
    subst (λ (n : ℕ). RowIsLong params head n width height before states) h.power
    (record { between = between; held = held; after = after; left = left; planes = planes; tile = tile; y = y; within = within; read = h.read; fails = f })

-- a row with a colour out of its range
pub row_is_wide : (params : Parameters) (head : SliceHead) (half width height : ℕ) (before : Reader) (states : List ℕ) (between : Reader) (held : List ℕ) (after : Reader) (left : List ℕ) (start planes new : Planes) (tile luma blue red : List ℕ) (y : ℕ) → y < height → RowsHeld params head half width before states between held start planes tile y → RowGot params head half width between held after left planes new → luma ≡ new.luma.line.items → blue ≡ new.blue.line.items → red ≡ new.red.line.items → RowLeaves half luma blue red width → RowIsWide params head (2 ^ params.bits) width height before states
row_is_wide params head half width height before states between held after left start planes new tile luma blue red y within h g l b r leaves =
    let l0 : RowLeaves half new.luma.line.items blue red width = subst (λ (xs : List ℕ). RowLeaves half xs blue red width) l leaves in
    let l1 : RowLeaves half new.luma.line.items new.blue.line.items red width = subst (λ (xs : List ℕ). RowLeaves half new.luma.line.items xs red width) b l0 in
    let l2 : RowLeaves half new.luma.line.items new.blue.line.items new.red.line.items width = subst (λ (xs : List ℕ). RowLeaves half new.luma.line.items new.blue.line.items xs width) r l1 in
    subst (λ (n : ℕ). RowIsWide params head n width height before states) h.power
    (record { between = between; held = held; after = after; left = left; planes = planes; new = new; tile = tile; y = y; within = within; read = h.read; got = g; leaves = l2 })

-- all rows
pub all_rows_read : (params : Parameters) (head : SliceHead) (half width height : ℕ) (before : Reader) (states : List ℕ) (after : Reader) (left : List ℕ) (start planes : Planes) (tile : List ℕ) (y : ℕ) → y ≡ height → RowsHeld params head half width before states after left start planes tile y → RowsRead params head (2 ^ params.bits) width before states after left planes tile height
all_rows_read params head half width height before states after left start planes tile y is h =
    subst (λ (n : ℕ). RowsRead params head (2 ^ params.bits) width before states after left planes tile n) is
    (subst (λ (n : ℕ). RowsRead params head n width before states after left planes tile y) h.power h.read)
