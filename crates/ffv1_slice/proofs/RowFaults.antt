-- Rows that can't be read to their end.
use Rattle.std.proofs.Common.{◌≡◌, ℕ, ◌+◌, ◌^◌, ◌<◌, ◌≤◌, List, [], ◌++◌, Bool, refl, sym, subst, arith}
use Rattle.std.specs.Prelude.{slice_index}
use Rattle.range_coder.specs.Choices.{Choice, moved}
use Rattle.range_coder.specs.Coding.{Gets}
use Rattle.range_coder.specs.Facts.{CodingsAreJoined}
use Rattle.range_coder.specs.Reading.{Reader, Begins}
use Rattle.range_coder.specs.Symbol.{overlong_choices}
use Rattle.ffv1_params.specs.Parameters.{Parameters}
use Rattle.ffv1_slice.specs.declared.around.Around.{Around}
use Rattle.ffv1_slice.specs.declared.head.SliceHead.{SliceHead}
use Rattle.ffv1_slice.specs.declared.lines.Lines.{Lines}
use Rattle.ffv1_slice.specs.declared.lines.Planes.{Planes}
use Rattle.ffv1_slice.specs.Colour.{AreColours}
use Rattle.ffv1_slice.specs.Faults.{AreInRange, Comes, HasLongSample, LeavesRange}
use Rattle.ffv1_slice.specs.Got.{FailsPlane, RowGot}
use Rattle.ffv1_slice.specs.Got.RowFails.{in_luma, in_blue, in_red}
use Rattle.ffv1_slice.specs.Plane.{around_at, context, slot_in, IsSample, Joins}
use Rattle.ffv1_slice.specs.Planes.{HoldsAbove}
use Rattle.ffv1_slice.specs.Reached.{RowsStored, RowsRead, RowIsLong, RowIsWide}
use Rattle.ffv1_slice.specs.Slice.{first_slot, front_choices, plane_values, slice_states, IsLine}
use Rattle.ffv1_slice.specs.Taking.{FrontRead}
use Rattle.ffv1_slice.specs.Work.{HoldsLine, around_lines}
use Rattle.ffv1_slice.proofs.Cells.{SameAbove}
use Rattle.ffv1_slice.proofs.Codings.{gets_more}
use Rattle.ffv1_slice.proofs.Joining.{joins_none, joins_more}
use Rattle.ffv1_slice.proofs.OneSlice.{SameRow}
use Rattle.ffv1_slice.proofs.RowsRead.{HoldsTo, with_row, at_row, above_row, rows_agree, holds_to, around_to, held_above, samples_read, plane_read, three}

-- ---- the rows before

colours_as : (half a b c a' b' c' : ℕ) → a ≡ a' → b ≡ b' → c ≡ c' → AreColours half a b c → AreColours half a' b' c'
colours_as half a b c a' b' c' e f g h =
    subst (λ (n : ℕ). AreColours half n b' c') e (subst (λ (n : ℕ). AreColours half a n c') f (subst (λ (n : ℕ). AreColours half a b n) g h))

in_range : (params : Parameters) (width y : ℕ) (s t : ℕ → ℕ → ℕ → ℕ) (tile : List ℕ) → RowsStored params (2 ^ params.bits) width s tile y → ((r : ℕ) → r < y → SameRow width s t r) → AreInRange (2 ^ params.bits) width t y
in_range params width y s t tile h same = record {
  each = λ r x below within.
      colours_as (2 ^ params.bits) (s 0 r x) (s 1 r x) (s 2 r x) (t 0 r x) (t 1 r x) (t 2 r x)
      (same r below 0 (omega arith) x within) (same r below 1 (omega arith) x within) (same r below 2 (omega arith) x within) (h.each r x below within).are_colours;
}

-- the rows before line y, by samples that are the same there
comes_to : (params : Parameters) (head : SliceHead) (first : Bool) (width : ℕ) (before between : Reader) (held : List ℕ) (after : Reader) (left : List ℕ) (planes : Planes) (tile : List ℕ) (y : ℕ) (t : ℕ → ℕ → ℕ → ℕ) → 1 ≤ width → (f : FrontRead params first before (slice_states params) between held head) → (h : RowsRead params head (2 ^ params.bits) width between held after left planes tile y) → ((r : ℕ) → r < y → SameRow width h.samples t r) → Comes params first width y head t (front_choices first f.numbers ++ h.choices)
comes_to params head first width before between held after left planes tile y t some f h same = record {
  numbers = f.numbers;
  behind = h.choices;
  tell = f.tell;
  are_rows = rows_agree params head width y h.samples t h.choices some same h.are_rows;
  in_range = in_range params width y h.samples t tile h.stored same;
  is = refl;
}

-- and the choices that were got up to there
got_to : (params : Parameters) (head : SliceHead) (first : Bool) (width : ℕ) (before between : Reader) (held : List ℕ) (after : Reader) (left : List ℕ) (planes : Planes) (tile : List ℕ) (y : ℕ) → (f : FrontRead params first before (slice_states params) between held head) → (h : RowsRead params head (2 ^ params.bits) width between held after left planes tile y) → Gets params.table before (slice_states params) after left (front_choices first f.numbers ++ h.choices)
got_to params head first width before between held after left planes tile y f h =
    gets_more params.table before (slice_states params) between held after left (front_choices first f.numbers) h.choices f.gets h.gets

-- ---- the line that fails

-- what was read of it, and where it stops
pub record StopsAt (params : Parameters) (head : SliceHead) (width : ℕ) (t : ℕ → ℕ → ℕ → ℕ) (y plane : ℕ) (before : Reader) (states : List ℕ) (after : Reader) (left : List ℕ) : Type 0 where
  pub x : ℕ
  pub line : List Choice
  pub within : x < width
  pub line_is : Joins x (λ x. IsSample (2 ^ params.bits) (plane_values params head plane) (first_slot params plane) (around_at width (t plane) y x) (t plane y x)) line
  pub gets : Gets params.table before states after left (line ++ moved (slot_in (first_slot params plane) (context (plane_values params head plane) (around_at width (t plane) y x))) overlong_choices)

line_stops : (params : Parameters) (head : SliceHead) (width : ℕ) (s t : ℕ → ℕ → ℕ → ℕ) (y plane : ℕ) (r : Reader) (states : List ℕ) (r' : Reader) (states' : List ℕ) (old : Lines) → 1 ≤ width → SameAbove width (s plane) (t plane) y → (f : FailsPlane params head (2 ^ params.bits) width plane r states r' states' old) → ((x : ℕ) → slice_index f.line (x + 2) ≡ t plane y x) → HoldsAbove width (s plane) y old → StopsAt params head width t y plane r states r' states'
line_stops params head width s t y plane r states r' states' old some same f at h =
    let h2 : HoldsLine width (t plane) y old.above.items = held_above width (s plane) (t plane) y y old.above.items some same (omega arith) h.above in
    let h1 : HoldsLine width (t plane) (y + 1) old.line.items = held_above width (s plane) (t plane) y (y + 1) old.line.items some same (omega arith) h.line in
    let h0 : HoldsTo width (t plane) y f.line = holds_to width (t plane) y old.line.items f.line some f.fails.left_left f.fails.left_border at h1 in
    let inside : f.fails.x < width = f.fails.within in
    let a : around_lines old.above.items old.line.items f.line f.fails.x ≡ around_at width (t plane) y f.fails.x = around_to width (t plane) y f.fails.x old.above.items old.line.items f.line h2 h1 h0 inside in
    record {
      x = f.fails.x;
      line = f.fails.choices;
      within = inside;
      line_is = samples_read (2 ^ params.bits) (plane_values params head plane) (first_slot params plane) width (t plane) y f.fails.x old.above.items old.line.items f.line f.fails.choices (omega arith) h2 h1 h0 at f.fails.read;
      gets = subst (λ (b : Around). Gets params.table r states r' states' (f.fails.choices ++ moved (slot_in (first_slot params plane) (context (plane_values params head plane) b)) overlong_choices)) a f.fails.gets;
    }

-- the fault, by the lines of the row that were read before
long_at : CodingsAreJoined → (params : Parameters) (head : SliceHead) (first : Bool) (width height : ℕ) (bytes : List ℕ) (start r0 : Reader) (s0 : List ℕ) (r1 : Reader) (s1 : List ℕ) (r2 : Reader) (s2 : List ℕ) (t : ℕ → ℕ → ℕ → ℕ) (y plane : ℕ) (before lines : List Choice) → Begins start bytes → y < height → plane < 3 → Comes params first width y head t before → Gets params.table start (slice_states params) r0 s0 before → Joins plane (IsLine params head width t y) lines → Gets params.table r0 s0 r1 s1 lines → StopsAt params head width t y plane r1 s1 r2 s2 → HasLongSample params first width height bytes
long_at law params head first width height bytes start r0 s0 r1 s1 r2 s2 t y plane before lines begins below few comes got lines_are got_lines stops = record {
  head = head;
  samples = t;
  y = y;
  plane = plane;
  x = stops.x;
  before = before;
  lines = lines;
  line = stops.line;
  y_within = below;
  plane_within = few;
  x_within = stops.within;
  comes = comes;
  lines_are = lines_are;
  line_is = stops.line_is;
  reads = law.all_got params.table start (slice_states params) r2 s2 _ bytes begins
      (gets_more params.table start (slice_states params) r0 s0 r2 s2 before _ got (gets_more params.table r0 s0 r1 s1 r2 s2 lines _ got_lines stops.gets));
}

-- ---- the cases

one : (P : ℕ → List Choice → Type 0) (a : List Choice) → P 0 a → Joins 1 P a
one P a p = joins_more 0 P [] a (joins_none P) p

two : (P : ℕ → List Choice → Type 0) (a b : List Choice) → P 0 a → P 1 b → Joins 2 P (a ++ b)
two P a b p q = joins_more 1 P a b (one P a p) q

pub long_sample : CodingsAreJoined → (params : Parameters) (head : SliceHead) (first : Bool) (width height : ℕ) (bytes : List ℕ) (start between : Reader) (held : List ℕ) → 1 ≤ width → Begins start bytes → FrontRead params first start (slice_states params) between held head → RowIsLong params head (2 ^ params.bits) width height between held → HasLongSample params first width height bytes
long_sample law params head first width height bytes start between held some begins f h = elim h.fails as (λ _. HasLongSample params first width height bytes) [
  | in_luma g ↦
      let same : (r : ℕ) → r < h.y → SameRow width h.read.samples (with_row h.read.samples h.y g.line [] []) r = λ r b p b' x b''. above_row h.read.samples h.y g.line [] [] p r x b in
      let above : (p : ℕ) → SameAbove width (h.read.samples p) (with_row h.read.samples h.y g.line [] [] p) h.y = λ p r x b b'. above_row h.read.samples h.y g.line [] [] p r x b in
      long_at law params head first width height bytes start h.between h.held h.between h.held h.after h.left (with_row h.read.samples h.y g.line [] []) h.y 0 (front_choices first f.numbers ++ h.read.choices) [] begins h.within (omega arith)
      (comes_to params head first width start between held h.between h.held h.planes h.tile h.y (with_row h.read.samples h.y g.line [] []) some f h.read same)
      (got_to params head first width start between held h.between h.held h.planes h.tile h.y f h.read)
      (joins_none (IsLine params head width (with_row h.read.samples h.y g.line [] []) h.y))
      (law.got_none params.table h.between h.held)
      (line_stops params head width h.read.samples (with_row h.read.samples h.y g.line [] []) h.y 0 h.between h.held h.after h.left h.planes.luma some (above 0) g (λ x. sym (at_row h.read.samples h.y g.line [] [] 0 x)) h.read.come.luma)
  | in_blue r s new g0 g ↦
      let same : (r : ℕ) → r < h.y → SameRow width h.read.samples (with_row h.read.samples h.y new.line.items g.line []) r = λ r b p b' x b''. above_row h.read.samples h.y new.line.items g.line [] p r x b in
      let above : (p : ℕ) → SameAbove width (h.read.samples p) (with_row h.read.samples h.y new.line.items g.line [] p) h.y = λ p r x b b'. above_row h.read.samples h.y new.line.items g.line [] p r x b in
      let p0 = plane_read params head (2 ^ params.bits) width h.read.samples (with_row h.read.samples h.y new.line.items g.line []) h.y 0 h.between h.held r s h.planes.luma new some refl (above 0) (λ x. sym (at_row h.read.samples h.y new.line.items g.line [] 0 x)) h.read.come.luma g0 in
      long_at law params head first width height bytes start h.between h.held r s h.after h.left (with_row h.read.samples h.y new.line.items g.line []) h.y 1 (front_choices first f.numbers ++ h.read.choices) g0.line.samples.choices begins h.within (omega arith)
      (comes_to params head first width start between held h.between h.held h.planes h.tile h.y (with_row h.read.samples h.y new.line.items g.line []) some f h.read same)
      (got_to params head first width start between held h.between h.held h.planes h.tile h.y f h.read)
      (one (IsLine params head width (with_row h.read.samples h.y new.line.items g.line []) h.y) g0.line.samples.choices p0.0)
      g0.line.samples.gets
      (line_stops params head width h.read.samples (with_row h.read.samples h.y new.line.items g.line []) h.y 1 r s h.after h.left h.planes.blue some (above 1) g (λ x. sym (at_row h.read.samples h.y new.line.items g.line [] 1 x)) h.read.come.blue)
  | in_red r s new r' s' new' g0 g1 g ↦
      let same : (r : ℕ) → r < h.y → SameRow width h.read.samples (with_row h.read.samples h.y new.line.items new'.line.items g.line) r = λ r b p b' x b''. above_row h.read.samples h.y new.line.items new'.line.items g.line p r x b in
      let above : (p : ℕ) → SameAbove width (h.read.samples p) (with_row h.read.samples h.y new.line.items new'.line.items g.line p) h.y = λ p r x b b'. above_row h.read.samples h.y new.line.items new'.line.items g.line p r x b in
      let p0 = plane_read params head (2 ^ params.bits) width h.read.samples (with_row h.read.samples h.y new.line.items new'.line.items g.line) h.y 0 h.between h.held r s h.planes.luma new some refl (above 0) (λ x. sym (at_row h.read.samples h.y new.line.items new'.line.items g.line 0 x)) h.read.come.luma g0 in
      let p1 = plane_read params head (2 ^ params.bits) width h.read.samples (with_row h.read.samples h.y new.line.items new'.line.items g.line) h.y 1 r s r' s' h.planes.blue new' some refl (above 1) (λ x. sym (at_row h.read.samples h.y new.line.items new'.line.items g.line 1 x)) h.read.come.blue g1 in
      long_at law params head first width height bytes start h.between h.held r' s' h.after h.left (with_row h.read.samples h.y new.line.items new'.line.items g.line) h.y 2 (front_choices first f.numbers ++ h.read.choices) (g0.line.samples.choices ++ g1.line.samples.choices) begins h.within (omega arith)
      (comes_to params head first width start between held h.between h.held h.planes h.tile h.y (with_row h.read.samples h.y new.line.items new'.line.items g.line) some f h.read same)
      (got_to params head first width start between held h.between h.held h.planes h.tile h.y f h.read)
      (two (IsLine params head width (with_row h.read.samples h.y new.line.items new'.line.items g.line) h.y) g0.line.samples.choices g1.line.samples.choices p0.0 p1.0)
      (gets_more params.table h.between h.held r s r' s' g0.line.samples.choices g1.line.samples.choices g0.line.samples.gets g1.line.samples.gets)
      (line_stops params head width h.read.samples (with_row h.read.samples h.y new.line.items new'.line.items g.line) h.y 2 r' s' h.after h.left h.planes.red some (above 2) g (λ x. sym (at_row h.read.samples h.y new.line.items new'.line.items g.line 2 x)) h.read.come.red)
]

pub leaves_range : CodingsAreJoined → (params : Parameters) (head : SliceHead) (first : Bool) (width height : ℕ) (bytes : List ℕ) (start between : Reader) (held : List ℕ) → 1 ≤ width → Begins start bytes → FrontRead params first start (slice_states params) between held head → RowIsWide params head (2 ^ params.bits) width height between held → LeavesRange params first width height bytes
leaves_range law params head first width height bytes start between held some begins f h =
    let g : RowGot params head (2 ^ params.bits) width h.between h.held h.after h.left h.planes h.new = h.got in
    let same : (r : ℕ) → r < h.y → SameRow width h.read.samples (with_row h.read.samples h.y h.new.luma.line.items h.new.blue.line.items h.new.red.line.items) r = λ r b p b' x b''. above_row h.read.samples h.y h.new.luma.line.items h.new.blue.line.items h.new.red.line.items p r x b in
    let above : (p : ℕ) → SameAbove width (h.read.samples p) (with_row h.read.samples h.y h.new.luma.line.items h.new.blue.line.items h.new.red.line.items p) h.y = λ p r x b b'. above_row h.read.samples h.y h.new.luma.line.items h.new.blue.line.items h.new.red.line.items p r x b in
    let p0 = plane_read params head (2 ^ params.bits) width h.read.samples (with_row h.read.samples h.y h.new.luma.line.items h.new.blue.line.items h.new.red.line.items) h.y 0 h.between h.held g.luma_reader g.luma_states h.planes.luma h.new.luma some refl (above 0) (λ x. sym (at_row h.read.samples h.y h.new.luma.line.items h.new.blue.line.items h.new.red.line.items 0 x)) h.read.come.luma g.luma in
    let p1 = plane_read params head (2 ^ params.bits) width h.read.samples (with_row h.read.samples h.y h.new.luma.line.items h.new.blue.line.items h.new.red.line.items) h.y 1 g.luma_reader g.luma_states g.blue_reader g.blue_states h.planes.blue h.new.blue some refl (above 1) (λ x. sym (at_row h.read.samples h.y h.new.luma.line.items h.new.blue.line.items h.new.red.line.items 1 x)) h.read.come.blue g.blue in
    let p2 = plane_read params head (2 ^ params.bits) width h.read.samples (with_row h.read.samples h.y h.new.luma.line.items h.new.blue.line.items h.new.red.line.items) h.y 2 g.blue_reader g.blue_states h.after h.left h.planes.red h.new.red some refl (above 2) (λ x. sym (at_row h.read.samples h.y h.new.luma.line.items h.new.blue.line.items h.new.red.line.items 2 x)) h.read.come.red g.red in
    record {
      head = head;
      samples = with_row h.read.samples h.y h.new.luma.line.items h.new.blue.line.items h.new.red.line.items;
      y = h.y;
      x = h.leaves.x;
      before = front_choices first f.numbers ++ h.read.choices;
      row = g.luma.line.samples.choices ++ g.blue.line.samples.choices ++ g.red.line.samples.choices;
      y_within = h.within;
      x_within = h.leaves.within;
      comes = comes_to params head first width start between held h.between h.held h.planes h.tile h.y (with_row h.read.samples h.y h.new.luma.line.items h.new.blue.line.items h.new.red.line.items) some f h.read same;
      row_is = three (IsLine params head width (with_row h.read.samples h.y h.new.luma.line.items h.new.blue.line.items h.new.red.line.items) h.y) g.luma.line.samples.choices g.blue.line.samples.choices g.red.line.samples.choices p0.0 p1.0 p2.0;
      leaves = λ are. h.leaves.leaves (colours_as (2 ^ params.bits) _ _ _ _ _ _
          (at_row h.read.samples h.y h.new.luma.line.items h.new.blue.line.items h.new.red.line.items 0 h.leaves.x)
          (at_row h.read.samples h.y h.new.luma.line.items h.new.blue.line.items h.new.red.line.items 1 h.leaves.x)
          (at_row h.read.samples h.y h.new.luma.line.items h.new.blue.line.items h.new.red.line.items 2 h.leaves.x) are);
      reads = law.all_got params.table start (slice_states params) h.after h.left _ bytes begins
          (gets_more params.table start (slice_states params) h.between h.held h.after h.left (front_choices first f.numbers ++ h.read.choices) _ (got_to params head first width start between held h.between h.held h.planes h.tile h.y f h.read)
          (gets_more params.table h.between h.held g.blue_reader g.blue_states h.after h.left (g.luma.line.samples.choices ++ g.blue.line.samples.choices) g.red.line.samples.choices
          (gets_more params.table h.between h.held g.luma_reader g.luma_states g.blue_reader g.blue_states g.luma.line.samples.choices g.blue.line.samples.choices g.luma.line.samples.gets g.blue.line.samples.gets) g.red.line.samples.gets));
    }
