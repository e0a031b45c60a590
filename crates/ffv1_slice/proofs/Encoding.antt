-- The lines of a row put one after another, and the rows.
use Rattle.std.proofs.Common.{◌≡◌, ℕ, ◌+◌, ◌*◌, ◌^◌, ◌<◌, ◌≤◌, List, ◌++◌, Bool, length, Result, Ok, Err, OnOk, IfOk, sym, ap, ◌∙◌, subst, arith}
use Rattle.std.specs.Prelude.{ℤ}
use Rattle.range_coder.specs.Choices.{Choice}
use Rattle.range_coder.specs.Coding.{Puts}
use Rattle.range_coder.specs.Encoding.{Encoding}
use Rattle.range_coder.specs.Table.{AreLive}
use Rattle.ffv1_params.specs.QuantTables.{most_contexts}
use Rattle.ffv1_params.specs.Parameters.{Parameters, AreSound}
use Rattle.ffv1_slice.specs.declared.head.SliceHead.{SliceHead}
use Rattle.ffv1_slice.specs.declared.lines.Lines.{Lines}
use Rattle.ffv1_slice.specs.declared.lines.Planes.{Planes}
use Rattle.ffv1_slice.specs.Blank.{IsBlank}
use Rattle.ffv1_slice.specs.Colour.{Pixel, pixel_in, plane_sample, samples_of, from_green}
use Rattle.ffv1_slice.specs.Planes.{IsLoaded, HoldsLines, ComeTo, choices_of_plane, choices_of_planes}
use Rattle.ffv1_slice.specs.Slice.{slots_of, index_of, first_slot, plane_values, row_choices, rows_choices}
use Rattle.ffv1_slice.specs.Work.{AreSlots, choices_of_line}
use Rattle.ffv1_slice.proofs.Codings.{puts_nil, puts_more}
use Rattle.ffv1_slice.proofs.Joining.{joined_more, joined_none}
use Rattle.ffv1_slice.proofs.SlotsOfSlices.{plane_slots}
use Rattle.ffv1_slice.proofs.Rows.{row_held, lines_loaded, lines_left, nothing_above, blank_ready}

-- what the loop over the rows keeps
pub record RowsPut (params : Parameters) (head : SliceHead) (width : ℕ) (s : ℕ → ℕ → ℕ → ℕ) (before : Encoding) (states : List ℕ) (after : Encoding) (left : List ℕ) (planes : Planes) (half y : ℕ) : Type 0 where
  pub puts : Puts params.table before states after left (rows_choices params head width s y)
  pub live : AreLive params.table left
  pub come : ComeTo half width s y planes

pub no_rows_put : (params : Parameters) (head : SliceHead) (width : ℕ) (s : ℕ → ℕ → ℕ → ℕ) (before : Encoding) (states : List ℕ) (planes : Planes) (half : ℕ) → 0 < half → AreLive params.table states → IsBlank (width + 3) planes.luma → IsBlank (width + 3) planes.blue → IsBlank (width + 3) planes.red → RowsPut params head width s before states before states planes half 0
no_rows_put params head width s before states planes half some live l b r = record {
  puts = subst (λ (cs : List Choice). Puts params.table before states before states cs) (sym (joined_none (row_choices params head width s))) (puts_nil params.table before states);
  live = live;
  come = record {
    luma = nothing_above width (s 0) (width + 3) planes.luma l (omega arith);
    blue = nothing_above width (s 1) (width + 3) planes.blue b (omega arith);
    red = nothing_above width (s 2) (width + 3) planes.red r (omega arith);
    luma_ready = blank_ready width (2 * half) (width + 3) planes.luma (omega arith) l (omega arith);
    blue_ready = blank_ready width (2 * half) (width + 3) planes.blue (omega arith) b (omega arith);
    red_ready = blank_ready width (2 * half) (width + 3) planes.red (omega arith) r (omega arith);
  };
}

-- a row more
pub row_put : (params : Parameters) (head : SliceHead) (width : ℕ) (tile pixels : List ℕ) (before : Encoding) (states : List ℕ) (between : Encoding) (held : List ℕ) (after : Encoding) (left : List ℕ) (old new : Planes) (half y : ℕ) → 1 ≤ width → half ≡ 2 ^ params.bits → RowsPut params head width (samples_of params.bits width tile) before states between held old half y → ((x : ℕ) → x < width → pixel_in pixels x ≡ pixel_in tile (y * width + x)) → IsLoaded half (from_green params.bits) pixels 0 width old.luma new.luma → IsLoaded half (from_green params.bits) pixels 1 width old.blue new.blue → IsLoaded half (from_green params.bits) pixels 2 width old.red new.red → Puts params.table between held after left (choices_of_planes params head new width) → AreLive params.table left → RowsPut params head width (samples_of params.bits width tile) before states after left new half (y + 1)
row_put params head width tile pixels before states between held after left old new half y some power h same l b r q live =
    let s : ℕ → ℕ → ℕ → ℕ = samples_of params.bits width tile in
    let at : (p x : ℕ) → x < width → samples_of params.bits width tile p y x ≡ plane_sample half (from_green params.bits) (pixel_in pixels x) p = λ p x within.
    ap (λ (n : ℕ). plane_sample n (from_green params.bits) (pixel_in tile (y * width + x)) p) (sym power) ∙ ap (λ (px : Pixel). plane_sample half (from_green params.bits) px p) (sym (same x within)) in
    let hl : HoldsLines width (samples_of params.bits width tile 0) y new.luma = lines_loaded half (from_green params.bits) pixels 0 width (samples_of params.bits width tile 0) y old.luma new.luma some l (at 0) h.come.luma in
    let hb : HoldsLines width (samples_of params.bits width tile 1) y new.blue = lines_loaded half (from_green params.bits) pixels 1 width (samples_of params.bits width tile 1) y old.blue new.blue some b (at 1) h.come.blue in
    let hr : HoldsLines width (samples_of params.bits width tile 2) y new.red = lines_loaded half (from_green params.bits) pixels 2 width (samples_of params.bits width tile 2) y old.red new.red some r (at 2) h.come.red in
    let row : choices_of_planes params head new width ≡ row_choices params head width (samples_of params.bits width tile) y = row_held params head width (samples_of params.bits width tile) y new hl hb hr in
    let q' : Puts params.table between held after left (row_choices params head width (samples_of params.bits width tile) y) = subst (λ (cs : List Choice). Puts params.table between held after left cs) row q in
    let more : Puts params.table before states after left (rows_choices params head width (samples_of params.bits width tile) y ++ row_choices params head width (samples_of params.bits width tile) y) = puts_more params.table before states between held after left (rows_choices params head width (samples_of params.bits width tile) y) (row_choices params head width (samples_of params.bits width tile) y) h.puts q' in
    record {
      puts = subst (λ (cs : List Choice). Puts params.table before states after left cs) (sym (joined_more y (row_choices params head width (samples_of params.bits width tile)))) more;
      live = live;
      come = record {
        luma = lines_left width (samples_of params.bits width tile 0) y new.luma hl;
        blue = lines_left width (samples_of params.bits width tile 1) y new.blue hb;
        red = lines_left width (samples_of params.bits width tile 2) y new.red hr;
        luma_ready = l.ready;
        blue_ready = b.ready;
        red_ready = r.ready;
      };
    }

-- a line of a plane, by what the code has of the plane
pub plane_put : (params : Parameters) (head : SliceHead) (plane : ℕ) (table : List ℕ) (half : ℕ) (values : List ℤ) (first w width : ℕ) (lines : Lines) (e : Encoding) (s : List ℕ) (e' : Encoding) (s' : List ℕ) → table ≡ params.table → half ≡ 2 ^ params.bits → values ≡ plane_values params head plane → first ≡ first_slot params plane → w ≡ width → Puts table e s e' s' (choices_of_line half values first lines.above2.items lines.above.items lines.line.items w) → Puts params.table e s e' s' (choices_of_plane params head plane lines width)
plane_put params head plane table half values first w width lines e s e' s' t h v f n p =
    subst (λ (k : ℕ). Puts params.table e s e' s' (choices_of_plane params head plane lines k)) n
    (subst (λ (xs : List ℕ). Puts xs e s e' s' (choices_of_plane params head plane lines w)) t
    (subst (λ (n : ℕ). Puts table e s e' s' (choices_of_line n (plane_values params head plane) (first_slot params plane) lines.above2.items lines.above.items lines.line.items w)) h
    (subst (λ (vs : List ℤ). Puts table e s e' s' (choices_of_line half vs (first_slot params plane) lines.above2.items lines.above.items lines.line.items w)) v
    (subst (λ (n : ℕ). Puts table e s e' s' (choices_of_line half values n lines.above2.items lines.above.items lines.line.items w)) f p))))

-- lines of as many symbols
pub planes_as_wide : (params : Parameters) (head : SliceHead) (planes : Planes) (w width : ℕ) (table : List ℕ) (e : Encoding) (s : List ℕ) (e' : Encoding) (s' : List ℕ) → w ≡ width → Puts table e s e' s' (choices_of_planes params head planes w) → Puts table e s e' s' (choices_of_planes params head planes width)
planes_as_wide params head planes w width table e s e' s' n p = subst (λ (k : ℕ). Puts table e s e' s' (choices_of_planes params head planes k)) n p

-- the states of a plane are there
pub slots_given : (params : Parameters) (head : SliceHead) (plane : ℕ) (values : List ℤ) (first slots : ℕ) → AreSound params → index_of head plane < length params.sets → values ≡ plane_values params head plane → first ≡ first_slot params plane → slots ≡ slots_of (most_contexts params.sets) → AreSlots values first slots
slots_given params head plane values first slots sound within v f n =
    subst (λ (k : ℕ). AreSlots values first k) (sym n)
    (subst (λ (k : ℕ). AreSlots values k (slots_of (most_contexts params.sets))) (sym f)
    (subst (λ (vs : List ℤ). AreSlots vs (first_slot params plane) (slots_of (most_contexts params.sets))) (sym v) (plane_slots params head plane sound within)))

-- the three lines of a row
pub lines_put : (params : Parameters) (head : SliceHead) (width : ℕ) (planes : Planes) (e0 : Encoding) (s0 : List ℕ) (e1 : Encoding) (s1 : List ℕ) (e2 : Encoding) (s2 : List ℕ) (e3 : Encoding) (s3 : List ℕ) → Puts params.table e0 s0 e1 s1 (choices_of_plane params head 0 planes.luma width) → Puts params.table e1 s1 e2 s2 (choices_of_plane params head 1 planes.blue width) → Puts params.table e2 s2 e3 s3 (choices_of_plane params head 2 planes.red width) → Puts params.table e0 s0 e3 s3 (choices_of_planes params head planes width)
lines_put params head width planes e0 s0 e1 s1 e2 s2 e3 s3 a b c =
    puts_more params.table e0 s0 e2 s2 e3 s3 (choices_of_plane params head 0 planes.luma width ++ choices_of_plane params head 1 planes.blue width) (choices_of_plane params head 2 planes.red width)
    (puts_more params.table e0 s0 e1 s1 e2 s2 (choices_of_plane params head 0 planes.luma width) (choices_of_plane params head 1 planes.blue width) a b) c

pub row_put_as : (params : Parameters) (head : SliceHead) (width : ℕ) (tile pixels : List ℕ) (before : Encoding) (states : List ℕ) (between : Encoding) (held : List ℕ) (after : Encoding) (left : List ℕ) (old new : Planes) (half y : ℕ) (green : Bool) → 1 ≤ width → half ≡ 2 ^ params.bits → green ≡ from_green params.bits → RowsPut params head width (samples_of params.bits width tile) before states between held old half y → ((x : ℕ) → x < width → pixel_in pixels x ≡ pixel_in tile (y * width + x)) → IsLoaded half green pixels 0 width old.luma new.luma → IsLoaded half green pixels 1 width old.blue new.blue → IsLoaded half green pixels 2 width old.red new.red → Puts params.table between held after left (choices_of_planes params head new width) → AreLive params.table left → RowsPut params head width (samples_of params.bits width tile) before states after left new half (y + 1)
row_put_as params head width tile pixels before states between held after left old new half y green some power is h same l b r q live =
    row_put params head width tile pixels before states between held after left old new half y some power h same
    (subst (λ (g : Bool). IsLoaded half g pixels 0 width old.luma new.luma) is l) (subst (λ (g : Bool). IsLoaded half g pixels 1 width old.blue new.blue) is b) (subst (λ (g : Bool). IsLoaded half g pixels 2 width old.red new.red) is r) q live

-- what follows of an Ok
pub on_ok : {T E : Type 0} (r : Result T E) (P Q : Type 0) → (P → Q) → OnOk r P → OnOk r Q
on_ok (Ok v) P Q f p = f p
on_ok (Err e) P Q f p = tt

pub if_ok : {T E : Type 0} (r : Result T E) (P Q : T → Type 0) → ((v : T) → P v → Q v) → IfOk r P → IfOk r Q
if_ok (Ok v) P Q f p = f v p
if_ok (Err e) P Q f p = tt
