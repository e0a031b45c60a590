-- What a header that breaks no rule says of its layout.
use Rattle.std.proofs.Common.{◌≡◌, ℕ, ◌+◌, ◌*◌, ◌≤◌, Bool, true, false, cond, List, [], ◌∷◌, ◌++◌, Option, Some, None, Ok, refl, ◌∙◌, arith, ◌&&◌}
use Rattle.std.specs.Prelude.{nat_le}
use Rattle.std.proofs.lemmas.Bool.{and_parts, leb-true}
use Rattle.std.proofs.lemmas.Bool.Decides.{nat_tests}
use Rattle.dpx_header.specs.declared.layout_type.Layout.{Layout}
use Rattle.dpx_header.specs.declared.why.DpxWhy.{DpxWhy}
use Rattle.dpx_header.specs.declared.header.Header.{Header}
use Rattle.dpx_header.specs.Header.{header_of}
use Rattle.dpx_header.specs.Layout.{line_len, aligned, is_size, is_depth, is_stride, IsWellFormed, fits, file_rules, image_rules, sample_rules, rules, first_broken, layout_from, unless_broken, layout_of}
use Rattle.dpx_header.specs.Laws.{InFile}

-- of two tables of which the first is kept, the first broken rule is that of the second
first_broken-append : (kept others : List (Bool × DpxWhy)) → first_broken kept ≡ None → first_broken (kept ++ others) ≡ first_broken others
first_broken-append [] others e = refl
first_broken-append (rule ∷ kept) others e =
    elim rule.0 as (λ (b : Bool). cond b (first_broken kept) (Some rule.1) ≡ None → cond b (first_broken (kept ++ others)) (Some rule.1) ≡ first_broken others) [
      | true ↦ λ e. first_broken-append kept others e
      | false ↦ λ e. absurd (cc)
    ] e

-- a header that keeps all of them has a layout
pub layout_of-kept : (head : List ℕ) (len : ℕ) (h : Header) → h ≡ header_of head → first_broken (file_rules head len) ≡ None → first_broken (image_rules h len) ≡ None → first_broken (sample_rules h len) ≡ None → layout_of head len ≡ Ok (layout_from h len)
unfolding layout_of
layout_of-kept head len h is file image sample =
    let first = first_broken-append (file_rules head len) (image_rules h len) file in
    let all = first_broken-append (file_rules head len ++ image_rules h len) (sample_rules h len) (first ∙ image) in
    rw (← is, all, sample) refl

-- all of the rules are kept
abbrev AreKept : List (Bool × DpxWhy) → Type 0
AreKept [] = Unit {0}
AreKept (rule ∷ others) = (rule.0 ≡ true) × AreKept others

first_broken-none : (table : List (Bool × DpxWhy)) → first_broken table ≡ None → AreKept table
first_broken-none [] e = tt
first_broken-none (rule ∷ others) e =
    elim rule.0 as (λ (b : Bool). cond b (first_broken others) (Some rule.1) ≡ None → (b ≡ true) × AreKept others) [
      | true ↦ λ e. (refl, first_broken-none others e)
      | false ↦ λ e. absurd (cc)
    ] e

-- the rules that a layout rests on
record Holds (h : Header) (len : ℕ) : Type 0 where
  pub offset : (nat_le 1664 h.offset && nat_le h.offset len) ≡ true
  pub size : is_size h.width h.height ≡ true
  pub depth : is_depth h.depth ≡ true
  pub room : fits (line_len h.depth h.width) h len ≡ true

record Found (head : List ℕ) (len : ℕ) (layout : Layout) : Type 0 where
  pub holds : Holds (header_of head) len
  pub is : layout ≡ layout_from (header_of head) len

holds : (head : List ℕ) (h : Header) (len : ℕ) → AreKept (rules head h len) → Holds h len
holds head h len k = record { offset = k.1.1.0; size = k.1.1.1.1.0; depth = k.1.1.1.1.1.1.0; room = k.1.1.1.1.1.1.1.1.1.1.0 }

found : (head : List ℕ) (len : ℕ) (layout : Layout) → layout_of head len ≡ Ok layout → Found head len layout
unfolding layout_of
found head len layout e =
    elim (first_broken (rules head (header_of head) len)) as (λ (b : Option DpxWhy). (first_broken (rules head (header_of head) len) ≡ b) → unless_broken (layout_from (header_of head) len) b ≡ Ok layout → Found head len layout) [
      | None ↦ λ kept e. record { holds = holds head (header_of head) len (first_broken-none (rules head (header_of head) len) kept); is = cc }
      | Some broken ↦ λ kept e. absurd (cc)
    ] refl e

tight-is : (line : ℕ) → is_stride line line ≡ true
tight-is line = grind (arith, nat_tests)

aligned-is : (line : ℕ) → is_stride line (aligned line) ≡ true
aligned-is line = grind (arith, nat_tests)

-- whichever stride is taken fits the line
stride-is : (test : Bool) (line : ℕ) → is_stride line (cond test (aligned line) line) ≡ true
stride-is true line = aligned-is line
stride-is false line = tight-is line

-- and the image lies in the file
image-within : (test : Bool) (line : ℕ) (h : Header) (len : ℕ) → fits (aligned line) h len ≡ test → fits line h len ≡ true → h.offset + cond test (aligned line) line * h.height ≤ len
image-within true line h len e room = leb-true _ _ e
image-within false line h len e room = leb-true _ _ room

record IsSize (width height : ℕ) : Type 0 where
  pub width_low : 1 ≤ width
  pub width_high : width ≤ 16384
  pub height_low : 1 ≤ height
  pub height_high : height ≤ 16384
  pub pixels : width * height ≤ 67108864

size_of : (width height : ℕ) → is_size width height ≡ true → IsSize width height
size_of width height e4 =
    let e3 = (and_parts _ _ e4).0 in
    let e2 = (and_parts _ _ e3).0 in
    let e1 = (and_parts _ _ e2).0 in
    record {
      width_low = leb-true _ _ (and_parts _ _ e1).0;
      width_high = leb-true _ _ (and_parts _ _ e1).1;
      height_low = leb-true _ _ (and_parts _ _ e2).1;
      height_high = leb-true _ _ (and_parts _ _ e3).1;
      pixels = leb-true _ _ (and_parts _ _ e4).1;
    }

formed_from : (h : Header) (len : ℕ) → Holds h len → IsWellFormed (layout_from h len)
formed_from h len k =
    let size = size_of h.width h.height k.size in
    record {
      width_low = size.width_low;
      width_high = size.width_high;
      height_low = size.height_low;
      height_high = size.height_high;
      pixels = size.pixels;
      depth = k.depth;
      stride = stride-is (fits (aligned (line_len h.depth h.width)) h len) (line_len h.depth h.width);
    }

pub well_formed : (head : List ℕ) (len : ℕ) (layout : Layout) → layout_of head len ≡ Ok layout → IsWellFormed layout
well_formed head len layout e =
    let f = found head len layout e in
    rw f.is (formed_from (header_of head) len f.holds)

pub in_file : (head : List ℕ) (len : ℕ) (layout : Layout) → layout_of head len ≡ Ok layout → InFile len layout
in_file head len layout e =
    let f = found head len layout e in
    let h : Header = header_of head in
    rw f.is (record {
      after_header = leb-true _ _ (and_parts _ _ f.holds.offset).0;
      whole = image-within (fits (aligned (line_len (header_of head).depth (header_of head).width)) (header_of head) len) (line_len (header_of head).depth (header_of head).width) (header_of head) len refl f.holds.room;
    })

pub ruleset layouts = (layout_of-kept, well_formed, in_file)
