-- Headers, as they are put.
use Rattle.std.proofs.Common.{◌≡◌, ℕ, ◌^◌, ◌<◌, ◌≤◌, List, [], ◌∷◌, All, Bool, true, false, map, Result, Ok, Err, OnOk, sym, ap, ◌∙◌, subst, arith, rules}
use Rattle.std.proofs.lemmas.List.Elements.{All-cons, All-nil, All-head, All-tail}
use Rattle.std.proofs.lemmas.List.Folds.{flat_map-map}
use Rattle.std.specs.Prelude.{pos}
use Rattle.range_coder.specs.declared.symbol.Placed.{Placed}
use Rattle.range_coder.specs.Choices.{Choice}
use Rattle.range_coder.specs.Coding.{Puts}
use Rattle.range_coder.specs.Encoding.{Encoding}
use Rattle.range_coder.specs.Placing.{placed_symbol, placed_symbols, IsPlaced, ArePlaced}
use Rattle.range_coder.specs.Symbol.{choice, IsCodable}
use Rattle.ffv1_slice.specs.declared.head.SliceHead.{SliceHead}
use Rattle.ffv1_slice.specs.Headers.{placed_number, AreSmall}
use Rattle.ffv1_slice.specs.Slice.{header_choices, key_choices, front_choices, written_numbers}
use Rattle.ffv1_slice.proofs.CodedSlice.{written_small}
use Rattle.ffv1_slice.proofs.Codings.{puts_nil, puts_more}

abbrev IsSmall : ℕ → Type 0
IsSmall n = n < 2 ^ 31

numbers_choices : (ns : List ℕ) → placed_symbols false (map placed_number ns) ≡ header_choices ns
unfolding header_choices
numbers_choices ns = flat_map-map (placed_symbol false) placed_number ns

numbers_placed : (slots : ℕ) (ns : List ℕ) → 33 ≤ slots → All IsSmall ns → All (IsPlaced slots false) (map placed_number ns)
numbers_placed slots [] most all = All-nil (IsPlaced slots false)
numbers_placed slots (n ∷ ns) most all =
    let small : IsSmall n = All-head IsSmall n ns all in
    let codable : IsCodable (pos n) false = (search rules, small) in
    let here : IsPlaced slots false (placed_number n) = record { within = omega arith; codable = codable } in
    All-cons (IsPlaced slots false) (placed_number n) (map placed_number ns) here (numbers_placed slots ns most (All-tail IsSmall n ns all))

pub head_placed : (slots : ℕ) (head : SliceHead) (symbols : List Placed) → 33 ≤ slots → AreSmall head → symbols ≡ map placed_number (written_numbers head) → ArePlaced slots false symbols
head_placed slots head symbols most small is =
    let all : All IsSmall (written_numbers head) = λ k d b. written_small head k d b small.x small.y small.columns small.rows small.luma_index small.difference_index in
    record { each = subst (All (IsPlaced slots false)) (sym is) (numbers_placed slots (written_numbers head) most all) }

pub front_put : (table : List ℕ) (before : Encoding) (states : List ℕ) (between : Encoding) (held : List ℕ) (after : Encoding) (left : List ℕ) (first : Bool) (head : SliceHead) (symbols : List Placed) → symbols ≡ map placed_number (written_numbers head) → Puts table before states between held (key_choices first true) → Puts table between held after left (placed_symbols false symbols) → Puts table before states after left (front_choices first (written_numbers head))
front_put table before states between held after left first head symbols is p q =
    let e : placed_symbols false symbols ≡ header_choices (written_numbers head) = ap (placed_symbols false) is ∙ numbers_choices (written_numbers head) in
    let q' : Puts table between held after left (header_choices (written_numbers head)) = subst (λ (cs : List Choice). Puts table between held after left cs) e q in
    puts_more table before states between held after left (key_choices first true) (header_choices (written_numbers head)) p q'

pub key_put : (table : List ℕ) (before : Encoding) (states : List ℕ) (after : Encoding) (left : List ℕ) (first : Bool) → first ≡ true → Puts table before states after left (choice 0 true ∷ []) → Puts table before states after left (key_choices first true)
key_put table before states after left first is p = subst (λ (b : Bool). Puts table before states after left (key_choices b true)) (sym is) p

pub no_key_put : (table : List ℕ) (before : Encoding) (states : List ℕ) (first : Bool) → first ≡ false → Puts table before states before states (key_choices first true)
no_key_put table before states first is = subst (λ (b : Bool). Puts table before states before states (key_choices b true)) (sym is) (puts_nil table before states)

pub ruleset headers = (head_placed, front_put, key_put, no_key_put)

-- what follows at Ok
pub on_ok : {T E : Type 0} (r : Result T E) (P Q : Type 0) → (P → Q) → OnOk r P → OnOk r Q
on_ok (Ok v) P Q f p = f p
on_ok (Err e) P Q f p = tt
