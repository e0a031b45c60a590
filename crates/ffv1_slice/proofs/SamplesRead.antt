-- Samples of a line, read one after another.
use Rattle.std.proofs.Common.{◌≡◌, ◌≢◌, ℕ, ◌+◌, ◌*◌, ◌<◌, ◌≤◌, List, [], ◌++◌, Bool, true, length, get_or, set, get_or-set_same, get_or-set_other, length-set, Result, Ok, Err, OnOk, OnErr, refl, sym, ap, ◌∙◌, subst, arith}
use Rattle.std.specs.Prelude.{ℤ, slice_index}
use Rattle.std.specs.Int.{is_negative}
use Rattle.range_coder.specs.Choices.{Choice, moved}
use Rattle.range_coder.specs.Coding.{Gets}
use Rattle.range_coder.specs.Reading.{Reader}
use Rattle.range_coder.specs.Symbol.{IsCodable, symbol_choices, overlong_choices}
use Rattle.range_coder.specs.Table.{AreLive}
use Rattle.ffv1_slice.specs.declared.around.Around.{Around}
use Rattle.ffv1_slice.specs.declared.lines.Lines.{Lines}
use Rattle.ffv1_slice.specs.Below.{AreBelow}
use Rattle.ffv1_slice.specs.Got.{GetsSamples, GetsLine, LineFails, PlaneGot, PlaneFails}
use Rattle.ffv1_slice.specs.Planes.{AreReady}
use Rattle.ffv1_slice.specs.Plane.{context, prediction, restored, slot_in, IsSample}
use Rattle.ffv1_slice.specs.Work.{around_lines, IsLineRead}
use Rattle.ffv1_slice.proofs.Codings.{gets_nil, gets_more}
use Rattle.ffv1_slice.proofs.Joining.{joins_none, joins_more, joins_same}
use Rattle.ffv1_slice.proofs.Loading.{below_set}

-- a place further right changes nothing of what a sample is read from
around_set : (above2 above line : List ℕ) (x place v : ℕ) → x + 2 ≤ place → around_lines above2 above (set line place v) x ≡ around_lines above2 above line x
around_set above2 above line x place v behind =
    let n0 : x ≢ place = omega arith in
    let n1 : x + 1 ≢ place = omega arith in
    let e0 : get_or (set line place v) x 0 ≡ get_or line x 0 = get_or-set_other line place x v 0 n0 in
    let e1 : get_or (set line place v) (x + 1) 0 ≡ get_or line (x + 1) 0 = get_or-set_other line place (x + 1) v 0 n1 in
    rw (e0, e1) refl

line_set : (half : ℕ) (values : List ℤ) (first : ℕ) (above2 above line : List ℕ) (count place v : ℕ) (cs : List Choice) → count + 2 ≤ place → IsLineRead half values first above2 above line count cs → IsLineRead half values first above2 above (set line place v) count cs
line_set half values first above2 above line count place v cs behind read =
    joins_same count
    (λ x. IsSample half values first (around_lines above2 above line x) (slice_index line (x + 2)))
    (λ x. IsSample half values first (around_lines above2 above (set line place v) x) (slice_index (set line place v) (x + 2))) cs
    (λ x c below p.
    let a : around_lines above2 above (set line place v) x ≡ around_lines above2 above line x = around_set above2 above line x place v (omega arith) in
    let ne : x + 2 ≢ place = omega arith in
    let s : slice_index (set line place v) (x + 2) ≡ slice_index line (x + 2) = get_or-set_other line place (x + 2) v 0 ne in
    subst (λ (a' : Around). IsSample half values first a' (slice_index (set line place v) (x + 2)) c) (sym a) (subst (λ (n : ℕ). IsSample half values first (around_lines above2 above line x) n c) (sym s) p))
    read

-- before the first sample
pub no_samples_got : (table : List ℕ) (reader : Reader) (states : List ℕ) (half : ℕ) (values : List ℤ) (first : ℕ) (above2 above old : List ℕ) → 2 ≤ length old → 0 < half → AreBelow (2 * half) above → AreBelow (2 * half) old → AreLive table states → GetsSamples table reader states reader states half values first above2 above (set (set old 0 0) 1 (slice_index above 2)) 0
no_samples_got table reader states half values first above2 above old long some a o live =
    let l0 : 0 < length old = omega arith in
    let l1 : 1 < length (set old 0 0) = let e : length (set old 0 0) ≡ length old = length-set old 0 0 in omega arith in
    let one : ◌≢◌ {A = ℕ} 0 1 = omega arith in
    record {
      choices = [];
      read = joins_none (λ x. IsSample half values first (around_lines above2 above (set (set old 0 0) 1 (slice_index above 2)) x) (slice_index (set (set old 0 0) 1 (slice_index above 2)) (x + 2)));
      gets = gets_nil table reader states;
      left_left = get_or-set_other (set old 0 0) 1 0 (slice_index above 2) 0 one ∙ get_or-set_same old 0 0 0 l0;
      left_border = get_or-set_same (set old 0 0) 1 (slice_index above 2) 0 l1;
      below = below_set (2 * half) (set old 0 0) 1 (slice_index above 2) (below_set (2 * half) old 0 0 o (omega arith) l0) (a.each 2) l1;
      live = live;
    }

-- one more
pub sample_got : (table : List ℕ) (before : Reader) (states : List ℕ) (between : Reader) (held : List ℕ) (after : Reader) (left : List ℕ) (half : ℕ) (values : List ℤ) (first : ℕ) (above2 above line : List ℕ) (x : ℕ) (value : ℤ) (slot s : ℕ) → GetsSamples table before states between held half values first above2 above line x → slot ≡ slot_in first (context values (around_lines above2 above line x)) → Gets table between held after left (moved slot (symbol_choices value true)) → IsCodable value true → s ≡ restored half (is_negative (context values (around_lines above2 above line x))) (prediction (around_lines above2 above line x)) value → s < 2 * half → x + 2 < length line → AreLive table left → GetsSamples table before states after left half values first above2 above (set line (x + 2) s) (x + 1)
sample_got table before states between held after left half values first above2 above line x value slot s h is g codable restores small within live =
    let g' : Gets table between held after left (moved (slot_in first (context values (around_lines above2 above line x))) (symbol_choices value true)) = subst (λ (n : ℕ). Gets table between held after left (moved n (symbol_choices value true))) is g in
    let a : around_lines above2 above (set line (x + 2) s) x ≡ around_lines above2 above line x = around_set above2 above line x (x + 2) s (omega arith) in
    let at : slice_index (set line (x + 2) s) (x + 2) ≡ s = get_or-set_same line (x + 2) s 0 within in
    let here : IsSample half values first (around_lines above2 above line x) s (moved (slot_in first (context values (around_lines above2 above line x))) (symbol_choices value true)) = record { value = value; codable = codable; is = refl; restores = restores } in
    let here' : IsSample half values first (around_lines above2 above (set line (x + 2) s) x) (slice_index (set line (x + 2) s) (x + 2)) (moved (slot_in first (context values (around_lines above2 above line x))) (symbol_choices value true)) =
    subst (λ (b : Around). IsSample half values first b (slice_index (set line (x + 2) s) (x + 2)) (moved (slot_in first (context values (around_lines above2 above line x))) (symbol_choices value true))) (sym a)
    (subst (λ (n : ℕ). IsSample half values first (around_lines above2 above line x) n (moved (slot_in first (context values (around_lines above2 above line x))) (symbol_choices value true))) (sym at) here) in
    let n0 : 0 ≢ x + 2 = omega arith in
    let n1 : 1 ≢ x + 2 = omega arith in
    record {
      choices = h.choices ++ moved (slot_in first (context values (around_lines above2 above line x))) (symbol_choices value true);
      read = joins_more x (λ k. IsSample half values first (around_lines above2 above (set line (x + 2) s) k) (slice_index (set line (x + 2) s) (k + 2))) h.choices (moved (slot_in first (context values (around_lines above2 above line x))) (symbol_choices value true)) (line_set half values first above2 above line x (x + 2) s h.choices (omega arith) h.read) here';
      gets = gets_more table before states between held after left h.choices (moved (slot_in first (context values (around_lines above2 above line x))) (symbol_choices value true)) h.gets g';
      left_left = get_or-set_other line (x + 2) 0 s 0 n0 ∙ h.left_left;
      left_border = get_or-set_other line (x + 2) 1 s 0 n1 ∙ h.left_border;
      below = below_set (2 * half) line (x + 2) s h.below small within;
      live = live;
    }

-- a symbol that is too long
pub sample_fails : (table : List ℕ) (before : Reader) (states : List ℕ) (between : Reader) (held : List ℕ) (after : Reader) (left : List ℕ) (half : ℕ) (values : List ℤ) (first : ℕ) (above2 above line : List ℕ) (x width slot : ℕ) → GetsSamples table before states between held half values first above2 above line x → x < width → slot ≡ slot_in first (context values (around_lines above2 above line x)) → Gets table between held after left (moved slot overlong_choices) → LineFails table before states after left half values first above2 above line width
sample_fails table before states between held after left half values first above2 above line x width slot h within is g =
    let g' : Gets table between held after left (moved (slot_in first (context values (around_lines above2 above line x))) overlong_choices) = subst (λ (n : ℕ). Gets table between held after left (moved n overlong_choices)) is g in
    record {
      x = x;
      choices = h.choices;
      within = within;
      left_left = h.left_left;
      left_border = h.left_border;
      read = h.read;
      gets = gets_more table before states between held after left h.choices (moved (slot_in first (context values (around_lines above2 above line x))) overlong_choices) h.gets g';
    }

-- and the right border
pub line_got : (table : List ℕ) (before : Reader) (states : List ℕ) (after : Reader) (left : List ℕ) (half : ℕ) (values : List ℤ) (first : ℕ) (above2 above line : List ℕ) (width : ℕ) → GetsSamples table before states after left half values first above2 above line width → 1 ≤ width → width + 2 < length line → GetsLine table before states after left half values first above2 above (set line (width + 2) (slice_index line (width + 1))) width
line_got table before states after left half values first above2 above line width h some within =
    let n0 : 0 ≢ width + 2 = omega arith in
    let n1 : 1 ≢ width + 2 = omega arith in
    let n2 : width + 1 ≢ width + 2 = omega arith in
    record {
      samples = record {
        choices = h.choices;
        read = line_set half values first above2 above line width (width + 2) (slice_index line (width + 1)) h.choices (omega arith) h.read;
        gets = h.gets;
        left_left = get_or-set_other line (width + 2) 0 (slice_index line (width + 1)) 0 n0 ∙ h.left_left;
        left_border = get_or-set_other line (width + 2) 1 (slice_index line (width + 1)) 0 n1 ∙ h.left_border;
        below = below_set (2 * half) line (width + 2) (slice_index line (width + 1)) h.below (h.below.each (width + 1)) within;
        live = h.live;
      };
      right = get_or-set_same line (width + 2) (slice_index line (width + 1)) 0 within ∙ sym (get_or-set_other line (width + 2) (width + 1) (slice_index line (width + 1)) 0 n2);
    }

pub line_got_at : (table : List ℕ) (before : Reader) (states : List ℕ) (after : Reader) (left : List ℕ) (half : ℕ) (values : List ℤ) (first : ℕ) (above2 above line : List ℕ) (x width : ℕ) → x ≡ width → GetsSamples table before states after left half values first above2 above line x → 1 ≤ width → width + 2 < length line → GetsLine table before states after left half values first above2 above (set line (width + 2) (slice_index line (width + 1))) width
line_got_at table before states after left half values first above2 above line x width is h some within =
    line_got table before states after left half values first above2 above line width (subst (λ (n : ℕ). GetsSamples table before states after left half values first above2 above line n) is h) some within

pub restored_as : (half : ℕ) (b b' : Bool) (p p' : ℕ) (v v' : ℤ) → b ≡ b' → p ≡ p' → v ≡ v' → restored half b p v ≡ restored half b' p' v'
restored_as half b b' p p' v v' e f g =
    ap (λ (x : Bool). restored half x p v) e ∙ ap (λ (x : ℕ). restored half b' x v) f ∙ ap (λ (x : ℤ). restored half b' p' x) g

-- a plane went down, and its line was read
pub plane_got : (table : List ℕ) (before : Reader) (states : List ℕ) (after : Reader) (left : List ℕ) (half : ℕ) (values : List ℤ) (first width : ℕ) (old new : Lines) (above2 above line : List ℕ) → AreReady width (2 * half) old → GetsLine table before states after left half values first above2 above line width → above2 ≡ old.above.items → above ≡ old.line.items → length line ≡ length old.above2.items → new.above2.items ≡ old.above.items → new.above.items ≡ old.line.items → new.line.items ≡ line → PlaneGot table before states after left half values first width old new
plane_got table before states after left half values first width old new above2 above line ready g e2 e1 len n2 n1 n0 =
    let g' : GetsLine table before states after left half values first old.above.items old.line.items new.line.items width =
    subst (λ (xs : List ℕ). GetsLine table before states after left half values first old.above.items old.line.items xs width) (sym n0)
    (subst (λ (xs : List ℕ). GetsLine table before states after left half values first old.above.items xs line width) e1
    (subst (λ (xs : List ℕ). GetsLine table before states after left half values first xs above line width) e2 g)) in
    let l2 : length new.above2.items ≡ length old.above.items = ap length n2 in
    let l1 : length new.above.items ≡ length old.line.items = ap length n1 in
    let l0 : length new.line.items ≡ length line = ap length n0 in
    let long2 : width + 3 ≤ length old.above2.items = ready.above2_long in
    let long1 : width + 3 ≤ length old.above.items = ready.above_long in
    let long0 : width + 3 ≤ length old.line.items = ready.line_long in
    record {
      above2 = n2;
      above = n1;
      line = g';
      ready = record {
        above2 = subst (AreBelow (2 * half)) (sym n2) ready.above;
        above = subst (AreBelow (2 * half)) (sym n1) ready.line;
        line = g'.samples.below;
        above2_long = omega arith;
        above_long = omega arith;
        line_long = omega arith;
      };
    }

pub plane_fails : (table : List ℕ) (before : Reader) (states : List ℕ) (after : Reader) (left : List ℕ) (half : ℕ) (values : List ℤ) (first width : ℕ) (old : Lines) (above2 above line : List ℕ) → LineFails table before states after left half values first above2 above line width → above2 ≡ old.above.items → above ≡ old.line.items → PlaneFails table before states after left half values first width old
plane_fails table before states after left half values first width old above2 above line f e2 e1 = record {
  line = line;
  fails = subst (λ (xs : List ℕ). LineFails table before states after left half values first old.above.items xs line width) e1
      (subst (λ (xs : List ℕ). LineFails table before states after left half values first xs above line width) e2 f);
}

-- what stands at Ok, and at Err
pub at_ok : {T E : Type 0} (r : Result T E) (P Q : Type 0) → (P → Q) → OnOk r P → OnOk r Q
at_ok (Ok v) P Q f p = f p
at_ok (Err e) P Q f p = tt

pub at_err : {T E : Type 0} (r : Result T E) (P Q : Type 0) → (P → Q) → OnErr r P → OnErr r Q
at_err (Ok v) P Q f p = tt
at_err (Err e) P Q f p = f p

pub on_err : {T E : Type 0} (r : Result T E) (P : Type 0) → P → OnErr r P
on_err (Ok v) P p = tt
on_err (Err e) P p = p

pub ruleset reading = (no_samples_got, sample_got, sample_fails, line_got)
