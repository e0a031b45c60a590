-- Marks for the cells of a grid: what each step adds, and when each cell is covered once.
use Rattle.std.proofs.Common.{◌≡◌, ℕ, ◌+◌, ◌-◌, ◌*◌, ◌/◌, ◌%◌, ◌<◌, ◌≤◌, inl, inr, Bool, true, false, cond, ◌&&◌, List, length, map, take, get_or, set, replicate, All, refl, sym, ◌∙◌, ap, ap₂, subst, arith, get_or-set_same, get_or-set_other, ◌≢◌}
use Rattle.std.specs.Prelude.{nat_le, nat_lt, IsTrue, ◌↔◌, EachIndex}
use Rattle.std.specs.Bool.{OnTrue, OnFalse}
use Rattle.std.specs.List.{count_by}
use Rattle.std.proofs.Math.Nat.{mul-le-mul_right}
use Rattle.std.proofs.lemmas.Bool.{cases_lt, false≢true}
use Rattle.std.proofs.lemmas.Bool.Decides.{nat_tests}
use Rattle.std.proofs.lemmas.List.{get_or_past, get_or-replicate, length-replicate, length-map, get_or-map, take_all}
use Rattle.std.proofs.lemmas.List.Elements.{All-get_or, All-map, All-weaker}
use Rattle.std.proofs.lemmas.List.Sums.{count_by_more_yes, count_by_more_no, sum_by-take-le}
use Rattle.std.proofs.lemmas.Nat.{div_below}
use Rattle.dpx_packing.specs.declared.tile.Tile.{Tile}
use Rattle.dpx_packing.specs.Tiles.{has_place, CoverOnce, IsInside}
use Rattle.ffv1_frame.specs.declared.cells.Grid.{Grid}
use Rattle.ffv1_frame.specs.declared.part.Part.{Part}
use Rattle.ffv1_frame.specs.Grid.{IsHeadIn}
use Rattle.ffv1_frame.specs.Parts.{cells_of_part}
use Rattle.ffv1_frame.specs.Marks.{MarksSpan, HasMark, MarksBox, HasMarked, Counts}

-- ---- tests as numbers

in_span : ℕ → ℕ → ℕ → ℕ
in_span from to k = cond {A = ℕ} (nat_le from k && nat_lt k to) 1 0

span-in : (from to k : ℕ) → from ≤ k → k < to → in_span from to k ≡ 1
unfolding in_span
span-in from to k low high = grind (arith, nat_tests)

span-before : (from to k : ℕ) → k < from → in_span from to k ≡ 0
unfolding in_span
span-before from to k low = grind (arith, nat_tests)

span-behind : (from to k : ℕ) → to ≤ k → in_span from to k ≡ 0
unfolding in_span
span-behind from to k high = grind (arith, nat_tests)

-- a cell of a box, whose lines are the first so many
of_lines : ℕ → ℕ → Tile → ℕ → ℕ
of_lines x y box rows = cond {A = ℕ} (has_place x y (record { x = box.x; y = box.y; width = box.width; height = rows })) 1 0

lines-in : (x y : ℕ) (box : Tile) (rows : ℕ) → box.x ≤ x → x < box.x + box.width → box.y ≤ y → y < box.y + rows → of_lines x y box rows ≡ 1
unfolding of_lines
lines-in x y box rows left right top bottom = grind (arith, nat_tests)

lines-out_left : (x y : ℕ) (box : Tile) (rows : ℕ) → x < box.x → of_lines x y box rows ≡ 0
unfolding of_lines
lines-out_left x y box rows out = grind (arith, nat_tests)

lines-out_right : (x y : ℕ) (box : Tile) (rows : ℕ) → box.x + box.width ≤ x → of_lines x y box rows ≡ 0
unfolding of_lines
lines-out_right x y box rows out = grind (arith, nat_tests)

lines-out_top : (x y : ℕ) (box : Tile) (rows : ℕ) → y < box.y → of_lines x y box rows ≡ 0
unfolding of_lines
lines-out_top x y box rows out = grind (arith, nat_tests)

lines-out_bottom : (x y : ℕ) (box : Tile) (rows : ℕ) → box.y + rows ≤ y → of_lines x y box rows ≡ 0
unfolding of_lines
lines-out_bottom x y box rows out = grind (arith, nat_tests)

has-at : (x y : ℕ) (box : Tile) → box.x ≤ x → x < box.x + box.width → box.y ≤ y → y < box.y + box.height → has_place x y box ≡ true
has-at x y box left right top bottom = grind (arith, nat_tests)

has-low : (x y columns rows : ℕ) (box : Tile) → IsInside columns rows box → has_place x y box ≡ true → y < rows
has-low x y columns rows box inside has =
    let down : box.y + box.height ≤ rows = inside.down_high in
    let under : y < box.y + box.height = grind (arith, nat_tests) in
    omega arith

-- ---- a span

pub span-none : (from : ℕ) (marks : List ℕ) → MarksSpan from from marks marks
unfolding in_span
span-none from marks = record {
  each = λ k.
      let out : in_span from from k ≡ 0 = elim (cases_lt k from) [ inl low ↦ span-before from from k low | inr high ↦ span-behind from from k high ] in
      omega (arith, out);
}

pub span-more : (from k : ℕ) (old now : List ℕ) → from ≤ k → k < length now → get_or now k 0 ≡ 0 → MarksSpan from k old now → MarksSpan from (k + 1) old (set now k 1)
unfolding in_span
span-more from k old now order listed free so_far = record {
  each = λ j.
      let before : get_or now j 0 ≡ get_or old j 0 + in_span from k j = so_far.each j in
      elim (cases_lt j k) [
        | inl low ↦
            let ne : j ≢ k = omega arith in
            let kept : get_or (set now k 1) j 0 ≡ get_or now j 0 = get_or-set_other now k j 1 0 ne in
            let same : in_span from k j ≡ in_span from (k + 1) j = elim (cases_lt j from) [
              | inl out ↦ span-before from k j out ∙ sym (span-before from (k + 1) j out)
              | inr at ↦ span-in from k j at low ∙ sym (span-in from (k + 1) j at (omega arith))
            ] in
            omega (arith, kept, same, before)
        | inr high ↦ elim (cases_lt k j) [
          | inl above ↦
              let ne : j ≢ k = omega arith in
              let kept : get_or (set now k 1) j 0 ≡ get_or now j 0 = get_or-set_other now k j 1 0 ne in
              let was : in_span from k j ≡ 0 = span-behind from k j (omega arith) in
              let is : in_span from (k + 1) j ≡ 0 = span-behind from (k + 1) j (omega arith) in
              omega (arith, kept, was, is, before)
          | inr at ↦
              let same : j ≡ k = omega arith in
              let now_one : get_or (set now k 1) j 0 ≡ 1 = ap (λ i. get_or (set now k 1) i 0) same ∙ get_or-set_same now k 1 0 listed in
              let was_none : get_or now j 0 ≡ 0 = ap (λ i. get_or now i 0) same ∙ free in
              let was : in_span from k j ≡ 0 = span-behind from k j (omega arith) in
              let is : in_span from (k + 1) j ≡ 1 = span-in from (k + 1) j (omega arith) (omega arith) in
              omega (arith, now_one, was_none, was, is, before)
        ]
      ];
}

pub span-taken : (from k to : ℕ) (old now : List ℕ) → from ≤ k → k < to → 1 ≤ get_or now k 0 → MarksSpan from k old now → HasMark from to old
unfolding in_span
span-taken from k to old now order high marked so_far = record {
  place = k;
  low = order;
  high = high;
  marked =
      let before : get_or now k 0 ≡ get_or old k 0 + in_span from k k = so_far.each k in
      let none : in_span from k k ≡ 0 = span-behind from k k (omega arith) in
      omega (arith, before, none);
}

-- a line of a box ends in the grid
pub row-high : (columns rows x y wide row : ℕ) → x + wide ≤ columns → y + row + 1 ≤ rows → (y + row) * columns + x + wide ≤ columns * rows
row-high columns rows x y wide row across down =
    let lines : (y + row + 1) * columns ≤ rows * columns = mul-le-mul_right columns down in
    omega arith

-- ---- a box, its first lines

pub record MarksLines (columns : ℕ) (box : Tile) (rows : ℕ) (old new : List ℕ) : Type 0 where
  pub each : MarksBox columns (record { x = box.x; y = box.y; width = box.width; height = rows }) old new

pub box-none : (columns : ℕ) (box : Tile) (marks : List ℕ) → MarksLines columns box 0 marks marks
unfolding of_lines
box-none columns box marks = record {
  each = record {
    each = λ x y low.
        let out : of_lines x y box 0 ≡ 0 = elim (cases_lt y box.y) [ inl top ↦ lines-out_top x y box 0 top | inr under ↦ lines-out_bottom x y box 0 (omega arith) ] in
        omega (arith, out);
  };
}

sum-of : (a b c d e f g : ℕ) → a ≡ b + c → d ≡ a + e → e ≡ f → f + c ≡ g → d ≡ b + g
sum-of a b c d e f g p q r t = omega arith

-- a span in a line of cells, and the same span counted from the first cell on
line-adds : (columns x y : ℕ) (box : Tile) (rows : ℕ) → x < columns → box.x + box.width ≤ columns
    → in_span ((box.y + rows) * columns + box.x) ((box.y + rows) * columns + box.x + box.width) (y * columns + x) + of_lines x y box rows
    ≡ of_lines x y box (rows + 1)
line-adds columns x y box rows low inside =
    elim (cases_lt y (box.y + rows)) [
      | inl above ↦
          let lines : (y + 1) * columns ≤ (box.y + rows) * columns = mul-le-mul_right columns (omega arith) in
          let out : in_span ((box.y + rows) * columns + box.x) ((box.y + rows) * columns + box.x + box.width) (y * columns + x) ≡ 0 =
          span-before ((box.y + rows) * columns + box.x) ((box.y + rows) * columns + box.x + box.width) (y * columns + x) (omega arith) in
          let same : of_lines x y box rows ≡ of_lines x y box (rows + 1) = elim (cases_lt y box.y) [
            | inl top ↦ lines-out_top x y box rows top ∙ sym (lines-out_top x y box (rows + 1) top)
            | inr under ↦ elim (cases_lt x box.x) [
              | inl left ↦ lines-out_left x y box rows left ∙ sym (lines-out_left x y box (rows + 1) left)
              | inr right ↦ elim (cases_lt x (box.x + box.width)) [
                | inl at ↦ lines-in x y box rows right at under above ∙ sym (lines-in x y box (rows + 1) right at under (omega arith))
                | inr past ↦ lines-out_right x y box rows past ∙ sym (lines-out_right x y box (rows + 1) past)
              ]
            ]
          ] in
          omega (arith, out, same)
      | inr under ↦
          let was : of_lines x y box rows ≡ 0 = lines-out_bottom x y box rows under in
          elim (cases_lt (box.y + rows) y) [
            | inl below ↦
                let lines : (box.y + rows + 1) * columns ≤ y * columns = mul-le-mul_right columns (omega arith) in
                let out : in_span ((box.y + rows) * columns + box.x) ((box.y + rows) * columns + box.x + box.width) (y * columns + x) ≡ 0 =
                span-behind ((box.y + rows) * columns + box.x) ((box.y + rows) * columns + box.x + box.width) (y * columns + x) (omega arith) in
                let is : of_lines x y box (rows + 1) ≡ 0 = lines-out_bottom x y box (rows + 1) (omega arith) in
                omega (arith, out, was, is)
            | inr over ↦
                let same : y ≡ box.y + rows = omega arith in
                let lines : y * columns ≡ (box.y + rows) * columns = ap (λ n. n * columns) same in
                elim (cases_lt x box.x) [
                  | inl left ↦
                      let out : in_span ((box.y + rows) * columns + box.x) ((box.y + rows) * columns + box.x + box.width) (y * columns + x) ≡ 0 =
                      span-before ((box.y + rows) * columns + box.x) ((box.y + rows) * columns + box.x + box.width) (y * columns + x) (omega arith) in
                      let is : of_lines x y box (rows + 1) ≡ 0 = lines-out_left x y box (rows + 1) left in
                      omega (arith, out, was, is)
                  | inr right ↦ elim (cases_lt x (box.x + box.width)) [
                    | inl at ↦
                        let on : in_span ((box.y + rows) * columns + box.x) ((box.y + rows) * columns + box.x + box.width) (y * columns + x) ≡ 1 =
                        span-in ((box.y + rows) * columns + box.x) ((box.y + rows) * columns + box.x + box.width) (y * columns + x) (omega arith) (omega arith) in
                        let is : of_lines x y box (rows + 1) ≡ 1 = lines-in x y box (rows + 1) right at (omega arith) (omega arith) in
                        omega (arith, on, was, is)
                    | inr past ↦
                        let out : in_span ((box.y + rows) * columns + box.x) ((box.y + rows) * columns + box.x + box.width) (y * columns + x) ≡ 0 =
                        span-behind ((box.y + rows) * columns + box.x) ((box.y + rows) * columns + box.x + box.width) (y * columns + x) (omega arith) in
                        let is : of_lines x y box (rows + 1) ≡ 0 = lines-out_right x y box (rows + 1) past in
                        omega (arith, out, was, is)
                  ]
                ]
          ]
    ]

pub box-more : (columns rows from to : ℕ) (box : Tile) (old now new : List ℕ) → box.x + box.width ≤ columns → MarksLines columns box rows old now
    → from ≡ (box.y + rows) * columns + box.x → to ≡ (box.y + rows) * columns + box.x + box.width → MarksSpan from to now new → MarksLines columns box (rows + 1) old new
unfolding in_span of_lines
box-more columns rows from to box old now new inside so_far from_is to_is line = record {
  each = record {
    each = λ x y low.
        let before : get_or now (y * columns + x) 0 ≡ get_or old (y * columns + x) 0 + of_lines x y box rows = so_far.each.each x y low in
        let added : get_or new (y * columns + x) 0 ≡ get_or now (y * columns + x) 0 + in_span from to (y * columns + x) = line.each (y * columns + x) in
        let span : in_span from to (y * columns + x) ≡ in_span ((box.y + rows) * columns + box.x) ((box.y + rows) * columns + box.x + box.width) (y * columns + x) =
        ap₂ (λ (a b : ℕ). in_span a b (y * columns + x)) from_is to_is in
        let both : in_span ((box.y + rows) * columns + box.x) ((box.y + rows) * columns + box.x + box.width) (y * columns + x) + of_lines x y box rows ≡ of_lines x y box (rows + 1) =
        line-adds columns x y box rows low inside in
        sum-of _ _ _ _ _ _ _ before added span both;
  };
}

taken-at : (columns rows x : ℕ) (box : Tile) (old now : List ℕ) → x < columns → box.x ≤ x → x < box.x + box.width → rows < box.height → MarksLines columns box rows old now
    → 1 ≤ get_or now ((box.y + rows) * columns + x) 0 → HasMarked columns box old
unfolding of_lines
taken-at columns rows x box old now low left right few so_far marked =
    let before : get_or now ((box.y + rows) * columns + x) 0 ≡ get_or old ((box.y + rows) * columns + x) 0 + of_lines x (box.y + rows) box rows = so_far.each.each x (box.y + rows) low in
    let none : of_lines x (box.y + rows) box rows ≡ 0 = lines-out_bottom x (box.y + rows) box rows (omega arith) in
    record {
      x = x;
      y = box.y + rows;
      low = low;
      has = has-at x (box.y + rows) box left right (omega arith) (omega arith);
      marked = omega (arith, before, none, marked);
    }

pub box-taken : (columns rows from to : ℕ) (box : Tile) (old now : List ℕ) → box.x + box.width ≤ columns → rows < box.height → MarksLines columns box rows old now
    → from ≡ (box.y + rows) * columns + box.x → to ≡ (box.y + rows) * columns + box.x + box.width → HasMark from to now → HasMarked columns box old
unfolding of_lines
box-taken columns rows from to box old now inside few so_far from_is to_is mark =
    let x : ℕ = mark.place - (box.y + rows) * columns in
    let low : from ≤ mark.place = mark.low in
    let high : mark.place < to = mark.high in
    let place : (box.y + rows) * columns + (mark.place - (box.y + rows) * columns) ≡ mark.place = omega arith in
    let x_low : mark.place - (box.y + rows) * columns < columns = omega arith in
    let left : box.x ≤ mark.place - (box.y + rows) * columns = omega arith in
    let right : mark.place - (box.y + rows) * columns < box.x + box.width = omega arith in
    taken-at columns rows (mark.place - (box.y + rows) * columns) box old now x_low left right few so_far
    (let P : ℕ → Type 0 = λ k. 1 ≤ get_or now k 0 in subst P (sym place) mark.marked)

pub box-all : (columns : ℕ) (box : Tile) (rows : ℕ) (old new : List ℕ) → rows ≡ box.height → MarksLines columns box rows old new → MarksBox columns box old new
box-all columns box rows old new all so_far = record {
  each = λ x y low. so_far.each.each x y low ∙ ap (λ n. get_or old (y * columns + x) 0 + cond {A = ℕ} (has_place x y (record { x = box.x; y = box.y; width = box.width; height = n })) 1 0) all;
}

-- ---- all boxes

abbrev zeros : ℕ → List ℕ
zeros n = replicate n 0

none-of : (n k : ℕ) → get_or (zeros n) k 0 ≡ 0
none-of n k =
    elim (cases_lt k n) [
      | inl low ↦ let z : ℕ = 0 in get_or-replicate n k z z low
      | inr past ↦ get_or_past (zeros n) k 0 (let e : length (zeros n) ≡ n = length-replicate {A = ℕ} n 0 in omega arith)
    ]

pub counts-none : (columns n : ℕ) (marks : List ℕ) (boxes : List Tile) → marks ≡ zeros n → Counts columns marks (take 0 boxes)
counts-none columns n marks boxes none = record { each = λ x y low. ap (λ (m : List ℕ). get_or m (y * columns + x) 0) none ∙ none-of n (y * columns + x) }

one_more : (p : Tile → Bool) (boxes : List Tile) (i : ℕ) (d : Tile) → i < length boxes
    → count_by p (take (i + 1) boxes) ≡ count_by p (take i boxes) + cond {A = ℕ} (p (get_or boxes i d)) 1 0
one_more p boxes i d listed =
    elim (p (get_or boxes i d)) as (λ b. p (get_or boxes i d) ≡ b → count_by p (take (i + 1) boxes) ≡ count_by p (take i boxes) + cond {A = ℕ} b 1 0) [
      | true ↦ λ is. count_by_more_yes p boxes i d listed is
      | false ↦ λ is. let e : count_by p (take (i + 1) boxes) ≡ count_by p (take i boxes) = count_by_more_no p boxes i d listed is in omega arith
    ] refl

pub counts-more : (columns i : ℕ) (boxes : List Tile) (d : Tile) (old new : List ℕ) → i < length boxes → Counts columns old (take i boxes)
    → MarksBox columns (get_or boxes i d) old new → Counts columns new (take (i + 1) boxes)
counts-more columns i boxes d old new listed so_far box = record {
  each = λ x y low.
      box.each x y low
      ∙ ap (λ n. n + cond {A = ℕ} (has_place x y (get_or boxes i d)) 1 0) (so_far.each x y low)
      ∙ sym (one_more (λ t. has_place x y t) boxes i d listed);
}

-- a marked cell of the next box is covered twice
pub covered-twice : (columns rows i : ℕ) (boxes : List Tile) (d : Tile) (marks : List ℕ) → i < length boxes → Counts columns marks (take i boxes)
    → HasMarked columns (get_or boxes i d) marks → CoverOnce columns rows boxes → ⊥
covered-twice columns rows i boxes d marks listed so_far mark cover =
    let counted : get_or marks (mark.y * columns + mark.x) 0 ≡ count_by (λ t. has_place mark.x mark.y t) (take i boxes) = so_far.each mark.x mark.y mark.low in
    let more : count_by (λ t. has_place mark.x mark.y t) (take (i + 1) boxes) ≡ count_by (λ t. has_place mark.x mark.y t) (take i boxes) + 1 =
    count_by_more_yes (λ t. has_place mark.x mark.y t) boxes i d listed mark.has in
    let all : count_by (λ t. has_place mark.x mark.y t) (take (i + 1) boxes) ≤ count_by (λ t. has_place mark.x mark.y t) boxes =
    sum_by-take-le (λ t. cond {A = ℕ} (has_place mark.x mark.y t) 1 0) boxes (i + 1) in
    let inside : IsInside columns rows (get_or boxes i d) = All-get_or (λ t. IsInside columns rows t) boxes i d listed cover.inside in
    let under : mark.y < rows = has-low mark.x mark.y columns rows (get_or boxes i d) inside mark.has in
    let one : count_by (λ t. has_place mark.x mark.y t) boxes ≡ 1 = cover.once mark.x mark.y mark.low under in
    let marked : 1 ≤ get_or marks (mark.y * columns + mark.x) 0 = mark.marked in
    omega (arith, counted, more, all, one, marked)

-- the same over parts
pub counts-more_part : (columns i : ℕ) (parts : List Part) (d : Part) (old new : List ℕ) → i < length parts → Counts columns old (take i (map cells_of_part parts))
    → MarksBox columns (cells_of_part (get_or parts i d)) old new → Counts columns new (take (i + 1) (map cells_of_part parts))
counts-more_part columns i parts d old new listed so_far box =
    let size : length (map cells_of_part parts) ≡ length parts = length-map parts cells_of_part in
    let P : Tile → Type 0 = λ t. MarksBox columns t old new in
    counts-more columns i (map cells_of_part parts) (cells_of_part d) old new (omega arith) so_far
    (subst P (sym (get_or-map cells_of_part parts i d (cells_of_part d) listed)) box)

pub covered-twice_part : (columns rows i : ℕ) (parts : List Part) (d : Part) (marks : List ℕ) → i < length parts → Counts columns marks (take i (map cells_of_part parts))
    → HasMarked columns (cells_of_part (get_or parts i d)) marks → CoverOnce columns rows (map cells_of_part parts) → ⊥
covered-twice_part columns rows i parts d marks listed so_far mark =
    let size : length (map cells_of_part parts) ≡ length parts = length-map parts cells_of_part in
    let P : Tile → Type 0 = λ t. HasMarked columns t marks in
    covered-twice columns rows i (map cells_of_part parts) (cells_of_part d) marks (omega arith) so_far
    (subst P (sym (get_or-map cells_of_part parts i d (cells_of_part d) listed)) mark)

pub counts-all_parts : (columns i : ℕ) (parts : List Part) (marks : List ℕ) → length parts ≤ i → Counts columns marks (take i (map cells_of_part parts)) → Counts columns marks (map cells_of_part parts)
counts-all_parts columns i parts marks all so_far =
    let size : length (map cells_of_part parts) ≡ length parts = length-map parts cells_of_part in
    let P : List Tile → Type 0 = λ ts. Counts columns marks ts in
    subst P (take_all i (map cells_of_part parts) (omega arith)) so_far

-- marks of one are cells that are covered once
pub marked-once : (columns rows : ℕ) (boxes : List Tile) (marks : List ℕ) → All (λ t. IsInside columns rows t) boxes → length marks ≡ columns * rows
    → Counts columns marks boxes → ((k : ℕ) → k < length marks → get_or marks k 0 ≡ 1) → CoverOnce columns rows boxes
marked-once columns rows boxes marks inside size counts ones = record {
  inside = inside;
  once = λ x y x_low y_low.
      let lines : (y + 1) * columns ≤ rows * columns = mul-le-mul_right columns (omega arith) in
      sym (counts.each x y x_low) ∙ ones (y * columns + x) (omega arith);
}

pub once-marked : (columns rows : ℕ) (boxes : List Tile) (marks : List ℕ) → 1 ≤ columns → length marks ≡ columns * rows
    → Counts columns marks boxes → CoverOnce columns rows boxes → (k : ℕ) → k < length marks → get_or marks k 0 ≡ 1
once-marked columns rows boxes marks some size counts cover k low =
    let parts : columns * (k / columns) + k % columns ≡ k = omega arith in
    let x_low : k % columns < columns = omega arith in
    let y_low : k / columns < rows = div_below k columns rows some (omega arith) in
    let place : k / columns * columns + k % columns ≡ k = omega arith in
    sym (ap (λ n. get_or marks n 0) place)
    ∙ counts.each (k % columns) (k / columns) x_low
    ∙ cover.once (k % columns) (k / columns) x_low y_low

-- the answer of the last test
pub all-once : (columns rows : ℕ) (boxes : List Tile) (marks : List ℕ) (result : Bool) → All (λ t. IsInside columns rows t) boxes → length marks ≡ columns * rows
    → Counts columns marks boxes → (IsTrue result ↔ EachIndex marks (λ k. get_or marks k 0 ≡ 1)) → OnTrue result (CoverOnce columns rows boxes)
all-once columns rows boxes marks true inside size counts marked = marked-once columns rows boxes marks inside size counts (marked.0 refl)
all-once columns rows boxes marks false inside size counts marked = tt

pub not-all-once : (columns rows : ℕ) (boxes : List Tile) (marks : List ℕ) (result : Bool) → 1 ≤ columns → length marks ≡ columns * rows
    → Counts columns marks boxes → (IsTrue result ↔ EachIndex marks (λ k. get_or marks k 0 ≡ 1)) → OnFalse result (CoverOnce columns rows boxes → ⊥)
not-all-once columns rows boxes marks true some size counts marked = tt
not-all-once columns rows boxes marks false some size counts marked = λ cover.
    let is : IsTrue false = marked.1 (once-marked columns rows boxes marks some size counts cover) in
    absurd (false≢true is)

pub boxes-inside : (grid : Grid) (parts : List Part) → All (λ (p : Part). IsHeadIn grid p.head) parts → All (λ t. IsInside grid.columns grid.rows t) (map cells_of_part parts)
boxes-inside grid parts inside =
    All-map (λ t. IsInside grid.columns grid.rows t) cells_of_part parts
    (All-weaker (λ (p : Part). IsHeadIn grid p.head) (λ (p : Part). IsInside grid.columns grid.rows (cells_of_part p)) (λ p h. record { across_high = h.across; down_high = h.down }) parts inside)

pub ruleset marking = (span-none, span-more, span-taken, box-none, box-more, box-taken, box-all)
