-- What bytes are read as next.
use Rattle.std.proofs.Common.{◌≡◌, ◌≢◌, ℕ, zero, suc, ◌+◌, ◌^◌, ◌<◌, Bool, true, false, ◌&&◌, cond, nat_lt, nat_le, slice_index, List, [], ◌∷◌, ◌++◌, length, Option, Some, None, Ok, refl, sym, ap, subst, ◌∙◌, append_assoc, arith, inl, inr, ℤ, pos, negsuc, unsigned_abs, nat_abs}
use mir.Syntax.{w32}
use mir.Val.{SFits, to_z, of_z}
use Rattle.std.proofs.lemmas.Bool.{cases_lt, le-leb, lt-ltb, ltb-true, leb-true}
use Rattle.std.proofs.lemmas.List.{append-nil}
use Rattle.std.proofs.lemmas.List.Elements.{All-append, All-head, All-tail, All-cons}
use Rattle.cook_bits.specs.Bits.{AreBytes}
use Rattle.range_coder.specs.Interval.{Decision, whole, narrowed, first_bytes, Inside, Reads}
use Rattle.range_coder.specs.Choices.{Choice, adapted, decided, states_after, moved, UseSlots, Part}
use Rattle.range_coder.specs.Symbol.{symbol_choices, overlong_choices, choice, IsCodable}
use Rattle.range_coder.specs.Table.{IsState, IsClosed, AreLive}
use Rattle.range_coder.specs.Reading.{Reader, HasRead}
use Rattle.range_coder.specs.Coding.{Gets}
use Rattle.range_coder.specs.DefaultTable.{default_one_states}
use Rattle.range_coder.specs.Laws.{OnStates, OneMoreIsRead, FrontIsRead, ReadIsInside, NarrowedIsJoined, DecidedIsJoined, StatesAreJoined, ChoicesStayLive, ChoicesAreOnStates, ChoicesKeepCount, SymbolsPart, OverlongParts, SymbolSlots, OverlongSlots}
use Rattle.std.proofs.lemmas.Int.{ints, to_z-of_z}
use Rattle.ffv1_params.specs.declared.error.ParamsWhy.TheVariants.{Symbol}
use Rattle.ffv1_params.specs.Record.{unsigned_choices, bit_choices}
use Rattle.ffv1_params.specs.Reading.{is_read, Place, after, first_below, found_or, number_at, bit_at, symbol, bit, taken, give}
use Rattle.ffv1_params.specs.Walk.{ReaderAt, reader_at, IsAt, Leads, Refuses}

-- what the range coder promises of decisions, choices and symbols
pub record Promises : Type 0 where
  pub one : OneMoreIsRead
  pub front : FrontIsRead
  pub inside : ReadIsInside
  pub narrows : NarrowedIsJoined
  pub decides : DecidedIsJoined
  pub adapts : StatesAreJoined
  pub live : ChoicesStayLive
  pub on_states : ChoicesAreOnStates
  pub count : ChoicesKeepCount

pub record SymbolPromises : Type 0 where
  pub parts : SymbolsPart
  pub overlong : OverlongParts
  pub slots : SymbolSlots
  pub overlong_slots : OverlongSlots

-- ---- the test of what is read

both : (a b : Bool) → a ≡ true → b ≡ true → (a && b) ≡ true
both a b p q = rw (p, q) refl

left_of : (a b : Bool) → (a && b) ≡ true → a ≡ true
left_of true b e = refl
left_of false b e = absurd (cc)

right_of : (a b : Bool) → (a && b) ≡ true → b ≡ true
right_of true b e = e
right_of false b e = absurd (cc)

reads_passes : (bytes : List ℕ) (decisions : List Decision) → Inside bytes (narrowed whole decisions) → is_read bytes decisions ≡ true
unfolding is_read
reads_passes bytes decisions inside = both _ _ (le-leb _ _ inside.above) (lt-ltb _ _ inside.below)

passes_reads : (bytes : List ℕ) (decisions : List Decision) → is_read bytes decisions ≡ true → Reads bytes decisions
unfolding is_read
passes_reads bytes decisions passes =
    let i = narrowed whole decisions in
    let n = first_bytes (i.shifts + 2) bytes in
    record { inside = record { above = leb-true i.low n (left_of (nat_le i.low n) (nat_lt n (i.low + i.range)) passes); below = ltb-true n (i.low + i.range) (right_of (nat_le i.low n) (nat_lt n (i.low + i.range)) passes) } }

-- ---- decisions on states

pub on-append : (left right : List Decision) → OnStates left → OnStates right → OnStates (left ++ right)
on-append left right l r = record { each = All-append (λ d. IsState d.state) left right l.each r.each }

on-right : (left right : List Decision) → OnStates (left ++ right) → OnStates right
on-right [] right on = on
on-right (d ∷ left) right on = on-right left right (record { each = All-tail (λ d. IsState d.state) d (left ++ right) on.each })

on-left : (left right : List Decision) → OnStates (left ++ right) → OnStates left
on-left [] right on = record { each = λ k d lt. absurd (omega arith) }
on-left (d ∷ left) right on =
    let rest = on-left left right (record { each = All-tail (λ d. IsState d.state) d (left ++ right) on.each }) in
    record { each = All-cons (λ d. IsState d.state) d left (All-head (λ d. IsState d.state) d (left ++ right) on.each) rest.each }

-- ---- choices that part

abbrev decision : ℕ → Bool → Decision
decision state b = record { state = state; bit = b }

-- the decisions of a list of choices, split at one of them
split_decided : DecidedIsJoined → (next states : List ℕ) (common : List Choice) (c : Choice) (rest : List Choice)
    → decided next states (common ++ c ∷ rest) ≡ decided next states common ++ record { state = slice_index (states_after next states common) c.slot; bit = c.bit } ∷ decided next (adapted next (states_after next states common) c) rest
unfolding decided
split_decided joined next states common c rest = joined next states common (c ∷ rest)

-- of two lists of choices that part, behind the same decisions, not both are read
not_both : Promises → (bytes : List ℕ) (before : List Decision) (next states : List ℕ) (left right : List Choice) → AreBytes bytes → OnStates before → IsClosed next → AreLive next states
    → UseSlots (length states) left → UseSlots (length states) right → Part left right → Reads bytes (before ++ decided next states left) → Reads bytes (before ++ decided next states right) → ⊥
not_both promises bytes before next states left right are_bytes on closed live slots_left slots_right part reads_left reads_right =
    let common = decided next states part.common in
    let state = slice_index (states_after next states part.common) part.slot in
    let one = λ (b : Bool). decision state b in
    let rest = λ (b : Bool) (more : List Choice). decided next (adapted next (states_after next states part.common) (choice part.slot b)) more in
    let left_is : decided next states left ≡ common ++ one part.left_bit ∷ rest part.left_bit part.left_rest = ap (decided next states) part.left_is ∙ split_decided promises.decides next states part.common (choice part.slot part.left_bit) part.left_rest in
    let right_is : decided next states right ≡ common ++ one part.right_bit ∷ rest part.right_bit part.right_rest = ap (decided next states) part.right_is ∙ split_decided promises.decides next states part.common (choice part.slot part.right_bit) part.right_rest in
    let on_left : OnStates (common ++ one part.left_bit ∷ rest part.left_bit part.left_rest) = subst OnStates left_is (promises.on_states next states left closed live slots_left) in
    let on_right : OnStates (common ++ one part.right_bit ∷ rest part.right_bit part.right_rest) = subst OnStates right_is (promises.on_states next states right closed live slots_right) in
    let on_common = on-left common (one part.left_bit ∷ rest part.left_bit part.left_rest) on_left in
    let behind_left = on-right common (one part.left_bit ∷ rest part.left_bit part.left_rest) on_left in
    let behind_right = on-right common (one part.right_bit ∷ rest part.right_bit part.right_rest) on_right in
    let is_state : IsState state = All-head (λ d. IsState d.state) (one part.left_bit) (rest part.left_bit part.left_rest) behind_left.each in
    let front_of = front_read promises bytes before common are_bytes in
    let l = front_of (one part.left_bit) (rest part.left_bit part.left_rest) behind_left (subst (λ (ds : List Decision). Reads bytes (before ++ ds)) left_is reads_left) in
    let r = front_of (one part.right_bit) (rest part.right_bit part.right_rest) behind_right (subst (λ (ds : List Decision). Reads bytes (before ++ ds)) right_is reads_right) in
    let only_one = promises.one bytes (before ++ common) state are_bytes (on-append before common on on_common) is_state (promises.front bytes (before ++ common) (one part.left_bit ∷ []) are_bytes (record { each = All-cons (λ d. IsState d.state) (one part.left_bit) [] is_state (λ k d lt. absurd (omega arith)) }) l) in
    part.differ (only_one.only part.left_bit l ∙ sym (only_one.only part.right_bit r))
  where
    front_read : Promises → (bytes : List ℕ) (before common : List Decision) → AreBytes bytes → (d : Decision) (rest : List Decision) → OnStates (d ∷ rest) → Reads bytes (before ++ (common ++ d ∷ rest)) → Reads bytes ((before ++ common) ++ d ∷ [])
    front_read promises bytes before common are_bytes d rest on reads =
        let regrouped : before ++ (common ++ d ∷ rest) ≡ ((before ++ common) ++ d ∷ []) ++ rest = sym (append_assoc before common (d ∷ rest)) ∙ sym (append_assoc (before ++ common) (d ∷ []) rest) in
        promises.front bytes ((before ++ common) ++ d ∷ []) rest are_bytes (record { each = All-tail (λ d. IsState d.state) d rest on.each }) (subst (Reads bytes) regrouped reads)

-- ---- the first that passes

is_false : (b : Bool) → (b ≡ true → ⊥) → b ≡ false
is_false true wrong = absurd (wrong refl)
is_false false wrong = refl

not_found : (end : ℕ) (passes : ℕ → Bool) → ((m : ℕ) → m < end → passes m ≡ false) → first_below end passes ≡ None
unfolding first_below
not_found zero passes none = refl
not_found (suc last) passes none = rw (not_found last passes (λ m lt. none m (omega arith)), none last (omega arith)) refl

found : (end n : ℕ) (passes : ℕ → Bool) → n < end → passes n ≡ true → ((m : ℕ) → m < end → passes m ≡ true → m ≡ n) → first_below end passes ≡ Some n
unfolding first_below
found zero n passes lt here only = absurd (omega arith)
found (suc last) n passes lt here only =
    elim (cases_lt n last) [ inl under ↦ ap (λ (o : Option ℕ). found_or o (cond (passes last) (Some last) None)) (found last n passes under here (λ m lm is. only m (omega arith) is)) | inr over ↦ found_last last n passes (omega arith) here only ]
  where
    found_last : (last n : ℕ) (passes : ℕ → Bool) → n ≡ last → passes n ≡ true → ((m : ℕ) → m < suc last → passes m ≡ true → m ≡ n) → found_or (first_below last passes) (cond (passes last) (Some last) None) ≡ Some n
    found_last last n passes same here only =
        let none = not_found last passes (λ m lm. is_false (passes m) (λ is. absurd (omega (arith, only m (omega arith) is)))) in
        let at : passes last ≡ true = subst (λ (k : ℕ). passes k ≡ true) same here in
        rw (none, at) (ap (λ (k : ℕ). Some k) (sym same))

-- ---- walks

-- the walk after more choices is at the place after them
come : Promises → (before after_ : Reader) (states left : List ℕ) (choices : List Choice) (bytes : List ℕ) (place : Place) → IsClosed default_one_states → UseSlots 32 choices → Gets default_one_states before states after_ left choices → IsAt (reader_at before states) bytes place → IsAt (reader_at after_ left) bytes (after place choices)
unfolding after
come promises before after_ states left choices bytes place closed slots gets is_at =
    let T = default_one_states in
    let same : states ≡ place.states = is_at.states in
    let in_slots : UseSlots (length place.states) choices = subst (λ (n : ℕ). UseSlots n choices) (sym is_at.count) slots in
    let read : HasRead after_ bytes (narrowed (narrowed whole place.decisions) (decided T place.states choices)) = subst (λ (s : List ℕ). HasRead after_ bytes (narrowed (narrowed whole place.decisions) (decided T s choices))) same (gets.reads.reads bytes (narrowed whole place.decisions) is_at.has_read) in
    record {
      has_read = subst (HasRead after_ bytes) (sym (promises.narrows whole place.decisions (decided T place.states choices))) read;
      states = gets.adapts ∙ ap (λ (s : List ℕ). states_after T s choices) same;
      are_bytes = is_at.are_bytes;
      on_states = on-append place.decisions (decided T place.states choices) is_at.on_states (promises.on_states T place.states choices closed is_at.live in_slots);
      live = promises.live T place.states choices closed is_at.live in_slots;
      count = promises.count T place.states choices ∙ is_at.count;
    }

-- ---- places

-- bytes, and decisions and states from which more choices may be read
pub record Stands (bytes : List ℕ) (place : Place) : Type 0 where
  pub are_bytes : AreBytes bytes
  pub on_states : OnStates place.decisions
  pub live : AreLive default_one_states place.states
  pub count : length place.states ≡ 32

stands_of : (walk : ReaderAt) (bytes : List ℕ) (place : Place) → IsAt walk bytes place → Stands bytes place
stands_of walk bytes place is_at = record { are_bytes = is_at.are_bytes; on_states = is_at.on_states; live = is_at.live; count = is_at.count }

come_reads : Promises → (walk : ReaderAt) (bytes : List ℕ) (place : Place) → IsAt walk bytes place → Reads bytes place.decisions
come_reads promises walk bytes place is_at = record { inside = promises.inside walk.reader bytes (narrowed whole place.decisions) is_at.has_read }

-- what parts from what is read doesn't pass
parts_fails : Promises → (bytes : List ℕ) (place : Place) (choices other : List Choice) → IsClosed default_one_states → UseSlots 32 choices → UseSlots 32 other → Stands bytes place → Reads bytes (after place choices).decisions → Part other choices → is_read bytes (after place other).decisions ≡ true → ⊥
unfolding after
parts_fails promises bytes place choices other closed slots other_slots stands reads part passes =
    let T = default_one_states in
    let in_slots = λ (cs : List Choice) (uses : UseSlots 32 cs). subst (λ (n : ℕ). UseSlots n cs) (sym stands.count) uses in
    not_both promises bytes place.decisions T place.states other choices stands.are_bytes stands.on_states closed stands.live (in_slots other other_slots) (in_slots choices slots) part
    (passes_reads bytes (place.decisions ++ decided T place.states other) passes) reads

-- ---- numbers

moved_none : (choices : List Choice) → moved 0 choices ≡ choices
moved_none [] = refl
moved_none (c ∷ more) =
    let e : 0 + c.slot ≡ c.slot = omega arith in
    λ i. record { slot = e i; bit = c.bit } ∷ moved_none more i

alone : (choices : List Choice) → [] ++ (moved 0 choices ++ []) ≡ choices
alone choices = append-nil (moved 0 choices) ∙ moved_none choices

numbers_part : SymbolPromises → (m n : ℕ) → m < 2 ^ 31 → n < 2 ^ 31 → m ≢ n → Part (unsigned_choices m) (unsigned_choices n)
numbers_part promises m n lm ln differ =
    let part = promises.parts 0 false (pos m) (pos n) [] [] [] (codable m lm) (codable n ln) (λ e. differ (pos_same m n e)) in
    subst (λ (cs : List Choice). Part cs (unsigned_choices n)) (alone (unsigned_choices m)) (subst (λ (cs : List Choice). Part ([] ++ (moved 0 (unsigned_choices m) ++ [])) cs) (alone (unsigned_choices n)) part)
  where
    codable : (k : ℕ) → k < 2 ^ 31 → IsCodable (pos k) false
    codable k lt = (omega (arith, ints), lt)

    pos_same : (a b : ℕ) → pos a ≡ pos b → a ≡ b
    pos_same a b e = cc

overlong_part : SymbolPromises → (m : ℕ) → m < 2 ^ 31 → Part (unsigned_choices m) overlong_choices
overlong_part promises m lm =
    let part = promises.overlong 0 false (pos m) [] [] [] (omega (arith, ints), lm) in
    subst (λ (cs : List Choice). Part cs overlong_choices) (alone (unsigned_choices m)) (subst (λ (cs : List Choice). Part ([] ++ (moved 0 (unsigned_choices m) ++ [])) cs) (alone overlong_choices) part)

eq_or_not : (m n : ℕ) → ((m ≢ n) → ⊥) → m ≡ n
eq_or_not m n wrong = elim (cases_lt m n) [ inl lt ↦ absurd (wrong (λ e. absurd (omega arith))) | inr le ↦ elim (cases_lt n m) [ inl lt ↦ absurd (wrong (λ e. absurd (omega arith))) | inr ge ↦ omega arith ] ]

-- the number that is read next
pub number_next : Promises → SymbolPromises → (bytes : List ℕ) (place : Place) (n : ℕ) → IsClosed default_one_states → n < 2 ^ 31 → Stands bytes place → Reads bytes (after place (unsigned_choices n)).decisions → symbol bytes place ≡ Ok (n, after place (unsigned_choices n))
unfolding symbol number_at
number_next promises symbols bytes place n closed lt stands reads =
    let slots = symbols.slots (pos n) false in
    let here = reads_passes bytes (after place (unsigned_choices n)).decisions reads.inside in
    let only = λ (m : ℕ) (lm : m < 2 ^ 31) (passes : is_read bytes (after place (unsigned_choices m)).decisions ≡ true). eq_or_not m n (λ differ. parts_fails promises bytes place (unsigned_choices n) (unsigned_choices m) closed slots (symbols.slots (pos m) false) stands reads (numbers_part symbols m n lm lt differ) passes) in
    ap (taken place) (found (2 ^ 31) n (λ m. is_read bytes (after place (unsigned_choices m)).decisions) lt here only)

pub symbol_read : Promises → SymbolPromises → (before after_ : Reader) (states left : List ℕ) (n : ℕ) → IsClosed default_one_states → n < 2 ^ 31 → Gets default_one_states before states after_ left (unsigned_choices n) → Leads (reader_at before states) (reader_at after_ left) symbol (give n)
unfolding give
symbol_read promises symbols before after_ states left n closed lt gets = record {
  leads = λ bytes place is_at.
      let came = come promises before after_ states left (unsigned_choices n) bytes place closed (symbols.slots (pos n) false) gets is_at in
      record { place = after place (unsigned_choices n); is_at = came; same = number_next promises symbols bytes place n closed lt (stands_of (reader_at before states) bytes place is_at) (come_reads promises (reader_at after_ left) bytes (after place (unsigned_choices n)) came) };
}

pub overlong_read : Promises → SymbolPromises → (before after_ : Reader) (states left : List ℕ) → IsClosed default_one_states → Gets default_one_states before states after_ left overlong_choices → Refuses (reader_at before states) symbol Symbol
unfolding symbol number_at
overlong_read promises symbols before after_ states left closed gets = record {
  refuses = λ bytes place is_at.
      let came = come promises before after_ states left overlong_choices bytes place closed symbols.overlong_slots gets is_at in
      let reads = come_reads promises (reader_at after_ left) bytes (after place overlong_choices) came in
      let none = λ (m : ℕ) (lm : m < 2 ^ 31). is_false (is_read bytes (after place (unsigned_choices m)).decisions) (λ passes. parts_fails promises bytes place overlong_choices (unsigned_choices m) closed symbols.overlong_slots (symbols.slots (pos m) false) (stands_of (reader_at before states) bytes place is_at) reads (overlong_part symbols m lm) passes) in
      ap (taken place) (not_found (2 ^ 31) (λ m. is_read bytes (after place (unsigned_choices m)).decisions) none);
}

-- ---- bits

bits_part : Part (bit_choices true) (bit_choices false)
bits_part = record { common = []; slot = 0; left_bit = true; right_bit = false; left_rest = []; right_rest = []; left_is = refl; right_is = refl; differ = λ e. absurd (cc) }

pub one_slot : (b : Bool) → UseSlots 32 (bit_choices b)
one_slot b = record { each = All-cons (λ c. c.slot < 32) (choice 0 b) [] (omega arith) (λ k d lt. absurd (omega arith)) }

-- the bit that is read next
pub bit_next : Promises → (bytes : List ℕ) (place : Place) (b : Bool) → IsClosed default_one_states → Stands bytes place → Reads bytes (after place (bit_choices b)).decisions → bit_at bytes place ≡ b
unfolding bit_at
bit_next promises bytes place true closed stands reads = reads_passes bytes (after place (bit_choices true)).decisions reads.inside
bit_next promises bytes place false closed stands reads = is_false (is_read bytes (after place (bit_choices true)).decisions) (λ passes. parts_fails promises bytes place (bit_choices false) (bit_choices true) closed (one_slot false) (one_slot true) stands reads bits_part passes)

pub bit_read : Promises → (before after_ : Reader) (states left : List ℕ) (b : Bool) → IsClosed default_one_states → Gets default_one_states before states after_ left (bit_choices b) → Leads (reader_at before states) (reader_at after_ left) bit (give b)
unfolding bit give
bit_read promises before after_ states left b closed gets = record {
  leads = λ bytes place is_at.
      let came = come promises before after_ states left (bit_choices b) bytes place closed (one_slot b) gets is_at in
      let reads = come_reads promises (reader_at after_ left) bytes (after place (bit_choices b)) came in
      record { place = after place (bit_choices b); is_at = came; same = ap (λ (x : Bool). Ok (x, after place (bit_choices x))) (bit_next promises bytes place b closed (stands_of (reader_at before states) bytes place is_at) reads) };
}

-- ---- for the calls of the range coder

number_is : (z : ℤ) → IsCodable z false → z ≡ pos (nat_abs (to_z w32 (of_z w32 z)))
number_is (pos n) codable =
    let fits : SFits w32 (pos n) = record { sfits = codable.1 } in
    rw (to_z-of_z w32 (pos n) fits) refl
number_is (negsuc n) codable =
    let low = codable.0 in
    absurd (omega (arith, ints))

pub number_answered : Promises → SymbolPromises → (next : List ℕ) (before after_ : Reader) (states left : List ℕ) (z : ℤ) → next ≡ default_one_states → IsClosed next → IsCodable z false → Gets next before states after_ left (symbol_choices z false) → Leads (reader_at before states) (reader_at after_ left) symbol (give (nat_abs (to_z w32 (of_z w32 z))))
number_answered promises symbols next before after_ states left z is closed codable gets =
    let n = nat_abs (to_z w32 (of_z w32 z)) in
    let same = number_is z codable in
    let small : n < 2 ^ 31 = omega (arith, ap unsigned_abs same, codable.1) in
    symbol_read promises symbols before after_ states left n (subst IsClosed is closed) small
    (subst (λ (v : ℤ). Gets default_one_states before states after_ left (symbol_choices v false)) same (subst (λ (t : List ℕ). Gets t before states after_ left (symbol_choices z false)) is gets))

pub number_refused : Promises → SymbolPromises → (next : List ℕ) (before after_ : Reader) (states left : List ℕ) → next ≡ default_one_states → IsClosed next → Gets next before states after_ left overlong_choices → Refuses (reader_at before states) symbol Symbol
number_refused promises symbols next before after_ states left is closed gets = overlong_read promises symbols before after_ states left (subst IsClosed is closed) (subst (λ (t : List ℕ). Gets t before states after_ left overlong_choices) is gets)

pub bit_answered : Promises → (next : List ℕ) (before after_ : Reader) (states left : List ℕ) (b : Bool) → next ≡ default_one_states → IsClosed next → Gets next before states after_ left (bit_choices b) → Leads (reader_at before states) (reader_at after_ left) bit (give b)
bit_answered promises next before after_ states left b is closed gets = bit_read promises before after_ states left b (subst IsClosed is closed) (subst (λ (t : List ℕ). Gets t before states after_ left (bit_choices b)) is gets)
