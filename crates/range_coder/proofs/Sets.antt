-- Many sets of states one behind another, and the slots that choices use.
use Rattle.std.proofs.Common.{◌≡◌, ℕ, ◌+◌, ◌<◌, ◌≤◌, Bool, List, [], ◌∷◌, ◌++◌, replicate, sym, ap, ◌∙◌, subst, arith}
use Rattle.std.proofs.lemmas.List.{get_or-replicate, length-replicate}
use Rattle.std.proofs.lemmas.List.Elements.{All-append, All-head, All-tail, All-cons, All-nil}
use Rattle.range_coder.specs.declared.symbol.Placed.{Placed}
use Rattle.range_coder.specs.Table.{IsLive, AreLive}
use Rattle.range_coder.specs.Interval.{Interval, whole, narrowed, first_bytes, Inside, Reads, ending, coded}
use Rattle.range_coder.specs.Reading.{Reader, HasRead, Begins}
use Rattle.range_coder.specs.Encoding.{Encoding}
use Rattle.range_coder.specs.Choices.{Choice, decided, moved, UseSlots}
use Rattle.range_coder.specs.Coding.{Puts, Gets}
use Rattle.range_coder.specs.Symbol.{choice, symbol_choices}
use Rattle.range_coder.specs.Placing.{IsPlaced, ArePlaced, placed_symbol, placed_symbols}
use Rattle.range_coder.proofs.ChoiceLaws.{HasSlot, slot_head, slot_tail}
use Rattle.range_coder.proofs.SlotsOfSymbols.{symbol_slots}

pub many_live : (table : List ℕ) (count : ℕ) → IsLive table 128 → AreLive table (replicate count 128)
many_live table count l = record {
  each = λ slot below.
      let same : slot < count = subst (λ (n : ℕ). slot < n) (length-replicate count 128) below in
      subst (λ (n : ℕ). IsLive table n) (sym (get_or-replicate count slot 128 0 same)) l;
}

pub uses_none : (slots : ℕ) → UseSlots slots []
uses_none slots = record { each = All-nil (HasSlot slots) }

pub uses_one : (slots slot : ℕ) (bit : Bool) → slot < slots → UseSlots slots (choice slot bit ∷ [])
uses_one slots slot bit below = record { each = All-cons (HasSlot slots) (choice slot bit) [] below (All-nil (HasSlot slots)) }

pub uses_both : (slots : ℕ) (left right : List Choice) → UseSlots slots left → UseSlots slots right → UseSlots slots (left ++ right)
uses_both slots left right l r = record { each = All-append (HasSlot slots) left right l.each r.each }

pub uses_moved : (first few slots : ℕ) (choices : List Choice) → first + few ≤ slots → UseSlots few choices → UseSlots slots (moved first choices)
uses_moved first few slots [] within uses = uses_none slots
uses_moved first few slots (c ∷ more) within uses =
    let below : c.slot < few = slot_head few c more uses in
    let rest = uses_moved first few slots more within (slot_tail few c more uses) in
    record { each = All-cons (HasSlot slots) (record { slot = first + c.slot; bit = c.bit }) (moved first more) (omega arith) rest.each }

pub uses_line : (slots : ℕ) (signed : Bool) (symbols : List Placed) → ArePlaced slots signed symbols → UseSlots slots (placed_symbols signed symbols)
uses_line slots signed [] are = uses_none slots
uses_line slots signed (p ∷ more) are =
    let is : IsPlaced slots signed p = All-head (IsPlaced slots signed) p more are.each in
    uses_both slots (placed_symbol signed p) (placed_symbols signed more)
    (uses_moved p.first 32 slots (symbol_choices p.value signed) is.within (symbol_slots p.value signed))
    (uses_line slots signed more (record { each = All-tail (IsPlaced slots signed) p more are.each }))

-- from the first choice to the last
pub all_put : (table : List ℕ) (before : Encoding) (states : List ℕ) (after : Encoding) (left : List ℕ) (choices : List Choice) → before.interval ≡ whole → Puts table before states after left choices → ending after.interval ≡ coded (decided table states choices)
unfolding coded
all_put table before states after left choices start p =
    ap ending (p.interval ∙ ap (λ (i : Interval). narrowed i (decided table states choices)) start)

inside_of : (reader : Reader) (bytes : List ℕ) (i : Interval) → HasRead reader bytes i → Inside bytes i
inside_of reader bytes i h =
    let number : i.low + reader.offset ≡ first_bytes (i.shifts + 2) bytes = h.number in
    let same : reader.range ≡ i.range = h.range in
    let inside : reader.offset < reader.range = h.inside in
    record { above = omega arith; below = omega arith }

pub all_got : (table : List ℕ) (before : Reader) (states : List ℕ) (after : Reader) (left : List ℕ) (choices : List Choice) (bytes : List ℕ) → Begins before bytes → Gets table before states after left choices → Reads bytes (decided table states choices)
all_got table before states after left choices bytes b g = record {
  inside = inside_of after bytes (narrowed whole (decided table states choices)) (g.reads.reads bytes whole b.has_read);
}
