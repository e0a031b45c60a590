-- The slots of a slice: each choice has one.
use Rattle.std.proofs.Common.{ℕ, zero, suc, ◌+◌, ◌-◌, ◌*◌, ◌%◌, ◌^◌, ◌<◌, ◌≤◌, max, List, [], ◌∷◌, All, Bool, true, false, length, get_or, sym, subst, arith}
use Rattle.std.proofs.Math.Nat.{mod-lt}
use Rattle.std.proofs.lemmas.List.Elements.{All-head, All-tail}
use Rattle.std.specs.Prelude.{ℤ, pos, unsigned_abs}
use Rattle.range_coder.specs.Choices.{Choice, UseSlots}
use Rattle.range_coder.specs.Facts.{SetsOfStates}
use Rattle.range_coder.specs.Laws.{SymbolSlots}
use Rattle.range_coder.specs.Symbol.{symbol_choices}
use Rattle.ffv1_params.specs.QuantTables.{QuantSet, TellsContexts, most_contexts}
use Rattle.ffv1_params.specs.Parameters.{Parameters, AreSound, set_at, no_set}
use Rattle.ffv1_slice.specs.declared.around.Around.{Around}
use Rattle.ffv1_slice.specs.declared.head.SliceHead.{SliceHead}
use Rattle.ffv1_slice.specs.Plane.{around_at, context, step, slot_in, IsSample, Split, Joins}
use Rattle.ffv1_slice.specs.Slice.{slots_of, number_choices, header_choices, key_choices, front_choices, first_slot, index_of, plane_values, IsLine, IsRow, AreRows}
use Rattle.ffv1_slice.specs.Work.{AreSlots}

-- no set has more contexts than the most
most_at : (sets : List QuantSet) (i : ℕ) → i < length sets → (get_or sets i no_set).contexts ≤ most_contexts sets
unfolding most_contexts
most_at [] i within = absurd (omega arith)
most_at (set ∷ more) zero within = let e : set.contexts ≤ max set.contexts (most_contexts more) = omega arith in e
most_at (set ∷ more) (suc i) within =
    let rest : (get_or more i no_set).contexts ≤ most_contexts more = most_at more i (omega arith) in
    omega arith

most_within : (sets : List QuantSet) → All TellsContexts sets → most_contexts sets ≤ 32768
unfolding most_contexts
most_within [] all = omega arith
most_within (set ∷ more) all =
    let here : TellsContexts set = All-head TellsContexts set more all in
    let few : set.contexts ≤ 32768 = here.most in
    let rest : most_contexts more ≤ 32768 = most_within more (All-tail TellsContexts set more all) in
    omega arith

pub step_small : (p q : ℕ) → step p q < 256
step_small p q = mod-lt (p + (256 - q % 256)) {m = 256} (omega arith)

-- the context of a set
context_small : (set : QuantSet) (a : Around) → TellsContexts set → unsigned_abs (context set.values a) < set.contexts
unfolding context
context_small set a tell =
    tell.within (step a.left a.above_left) (step a.above_left a.above) (step a.above a.above_right) (step a.left_left a.left) (step a.above_above a.above)
    (step_small a.left a.above_left) (step_small a.above_left a.above) (step_small a.above a.above_right) (step_small a.left_left a.left) (step_small a.above_above a.above)

slots_within : (params : Parameters) (plane c : ℕ) → c < most_contexts params.sets → first_slot params plane + 32 * c + 32 ≤ slots_of (most_contexts params.sets)
slots_within params zero c below = omega arith
slots_within params (suc plane) c below = omega arith

-- the slots of a plane
pub plane_slots : (params : Parameters) (head : SliceHead) (plane : ℕ) → AreSound params → index_of head plane < length params.sets → AreSlots (plane_values params head plane) (first_slot params plane) (slots_of (most_contexts params.sets))
plane_slots params head plane sound within =
    let set : QuantSet = set_at params (index_of head plane) in
    let tell : TellsContexts (set_at params (index_of head plane)) = sound.tell (index_of head plane) no_set within in
    let most : (set_at params (index_of head plane)).contexts ≤ most_contexts params.sets = most_at params.sets (index_of head plane) within in
    let few : most_contexts params.sets ≤ 32768 = most_within params.sets sound.tell in
    record {
      long = tell.long;
      within = λ a.
          let small : unsigned_abs (context (set_at params (index_of head plane)).values a) < (set_at params (index_of head plane)).contexts = context_small (set_at params (index_of head plane)) a tell in
          slots_within params plane (unsigned_abs (context (set_at params (index_of head plane)).values a)) (omega arith);
      few = omega arith;
    }

-- choices of many parts
joins_slots : SetsOfStates → (slots n : ℕ) (P : ℕ → List Choice → Type 0) (cs : List Choice) → ((x : ℕ) (c : List Choice) → x < n → P x c → UseSlots slots c) → Joins n P cs → UseSlots slots cs
unfolding Joins
joins_slots law slots zero P cs each p = subst (UseSlots slots) (sym p) (law.none slots)
joins_slots law slots (suc n) P cs each p =
    let s : Split (Joins n P) (P n) cs = p in
    let l : UseSlots slots s.left = joins_slots law slots n P s.left (λ x c b. each x c (omega arith)) s.left_is in
    let r : UseSlots slots s.right = each n s.right (omega arith) s.right_is in
    subst (UseSlots slots) (sym s.is) (law.both slots s.left s.right l r)

sample_slots : SetsOfStates → SymbolSlots → (slots half : ℕ) (values : List ℤ) (first : ℕ) (a : Around) (s : ℕ) (c : List Choice) → AreSlots values first slots → IsSample half values first a s c → UseSlots slots c
sample_slots law symbols slots half values first a s c are p =
    subst (UseSlots slots) (sym p.is) (law.placed (slot_in first (context values a)) 32 slots (symbol_choices p.value true) (are.within a) (symbols p.value true))

pub rows_slots : SetsOfStates → SymbolSlots → (params : Parameters) (head : SliceHead) (width height : ℕ) (s : ℕ → ℕ → ℕ → ℕ) (cs : List Choice) (slots : ℕ) → ((plane : ℕ) → AreSlots (plane_values params head plane) (first_slot params plane) slots) → AreRows params head width s height cs → UseSlots slots cs
rows_slots law symbols params head width height s cs slots are p =
    joins_slots law slots height (IsRow params head width s) cs
    (λ y c b row. joins_slots law slots 3 (IsLine params head width s y) c
    (λ plane c' b' line. joins_slots law slots width (λ x. IsSample (2 ^ params.bits) (plane_values params head plane) (first_slot params plane) (around_at width (s plane) y x) (s plane y x)) c'
    (λ x c'' b'' sample. sample_slots law symbols slots (2 ^ params.bits) (plane_values params head plane) (first_slot params plane) (around_at width (s plane) y x) (s plane y x) c'' (are plane) sample) line) row) p

header_slots : SetsOfStates → SymbolSlots → (slots : ℕ) (numbers : List ℕ) → 33 ≤ slots → UseSlots slots (header_choices numbers)
unfolding header_choices
header_slots law symbols slots [] most = law.none slots
header_slots law symbols slots (n ∷ more) most =
    law.both slots (number_choices n) (header_choices more) (law.placed 1 32 slots (symbol_choices (pos n) false) most (symbols (pos n) false)) (header_slots law symbols slots more most)

key_slots : SetsOfStates → (slots : ℕ) (first key : Bool) → 33 ≤ slots → UseSlots slots (key_choices first key)
key_slots law slots true key most = law.one slots 0 key (omega arith)
key_slots law slots false key most = law.none slots

pub front_slots : SetsOfStates → SymbolSlots → (slots : ℕ) (first : Bool) (numbers : List ℕ) → 33 ≤ slots → UseSlots slots (front_choices first numbers)
front_slots law symbols slots first numbers most =
    law.both slots (key_choices first true) (header_choices numbers) (key_slots law slots first true most) (header_slots law symbols slots numbers most)
