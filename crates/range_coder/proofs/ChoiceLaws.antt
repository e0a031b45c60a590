-- Lists of choices: one after another, on live states, in a set among others, and two that part.
use Rattle.std.proofs.Common.{◌≡◌, ℕ, ◌+◌, ◌-◌, ◌<◌, List, [], ◌∷◌, ◌++◌, length, Bool, slice_index, slice_set, refl, sym, ap, ◌∙◌, subst, arith, append_assoc}
use Rattle.std.proofs.lemmas.List.{length-set, get_or_append_left, get_or-append-add, set-append_left, set-append_right}
use Rattle.std.proofs.lemmas.List.Elements.{All-head, All-tail}
use Rattle.range_coder.specs.Interval.{Decision, Interval, whole, narrow, narrowed, Inside, Reads}
use Rattle.range_coder.specs.Table.{IsLive, IsClosed, AreLive, next_state}
use Rattle.cook_bits.specs.Bits.{AreBytes}
use Rattle.range_coder.specs.Choices.{Choice, adapted, states_after, decided, moved, UseSlots, Part}
use Rattle.range_coder.specs.Laws.{OnStates}
use Rattle.range_coder.proofs.CodedLaws.{all_left, all_right, states_cons, states_nil, narrowed-append, inside_narrowed, same_bit}
use Rattle.range_coder.proofs.Slots.{live_set}

-- choices one after another
pub decided-append : (table states : List ℕ) (left right : List Choice) → decided table states (left ++ right) ≡ decided table states left ++ decided table (states_after table states left) right
unfolding decided states_after
decided-append table states [] right = refl
decided-append table states (c ∷ more) right =
    ap (λ (ds : List Decision). record { state = slice_index states c.slot; bit = c.bit } ∷ ds) (decided-append table (adapted table states c) more right)

pub states_after-append : (table states : List ℕ) (left right : List Choice) → states_after table states (left ++ right) ≡ states_after table (states_after table states left) right
unfolding states_after
states_after-append table states [] right = refl
states_after-append table states (c ∷ more) right = states_after-append table (adapted table states c) more right

-- as many states as before
pub length-states_after : (table states : List ℕ) (choices : List Choice) → length (states_after table states choices) ≡ length states
unfolding states_after
length-states_after table states [] = refl
length-states_after table states (c ∷ more) =
    length-states_after table (adapted table states c) more ∙ length-set states c.slot (next_state table (slice_index states c.slot) c.bit)

-- the slots of choices
abbrev pub HasSlot : ℕ → Choice → Type 0
HasSlot slots c = c.slot < slots

pub slot_head : (slots : ℕ) (c : Choice) (more : List Choice) → UseSlots slots (c ∷ more) → c.slot < slots
slot_head slots c more u = All-head (HasSlot slots) c more u.each

pub slot_tail : (slots : ℕ) (c : Choice) (more : List Choice) → UseSlots slots (c ∷ more) → UseSlots slots more
slot_tail slots c more u = record { each = All-tail (HasSlot slots) c more u.each }

pub slots_left : (slots : ℕ) (left right : List Choice) → UseSlots slots (left ++ right) → UseSlots slots left
slots_left slots left right u = record { each = all_left (HasSlot slots) left right u.each }

pub slots_right : (slots : ℕ) (left right : List Choice) → UseSlots slots (left ++ right) → UseSlots slots right
slots_right slots left right u = record { each = all_right (HasSlot slots) left right u.each }

-- the slots after a choice are the same
pub slots_kept : (table states : List ℕ) (c : Choice) (more : List Choice) → UseSlots (length states) more → UseSlots (length (adapted table states c)) more
slots_kept table states c more u =
    let len : length (adapted table states c) ≡ length states = length-set states c.slot (next_state table (slice_index states c.slot) c.bit) in
    subst (λ (n : ℕ). UseSlots n more) (sym len) u

-- live states stay live
pub live_adapted : (table states : List ℕ) (c : Choice) → IsClosed table → AreLive table states → c.slot < length states → AreLive table (adapted table states c)
live_adapted table states c closed are below =
    live_set table states c.slot (next_state table (slice_index states c.slot) c.bit) are (closed.next (slice_index states c.slot) c.bit (are.each c.slot below))

pub live_after : (table states : List ℕ) (choices : List Choice) → IsClosed table → AreLive table states → UseSlots (length states) choices → AreLive table (states_after table states choices)
unfolding states_after
live_after table states [] closed are u = are
live_after table states (c ∷ more) closed are u =
    live_after table (adapted table states c) more closed
    (live_adapted table states c closed are (slot_head (length states) c more u))
    (slots_kept table states c more (slot_tail (length states) c more u))

-- and each decision is on a state
pub decided_on_states : (table states : List ℕ) (choices : List Choice) → IsClosed table → AreLive table states → UseSlots (length states) choices → OnStates (decided table states choices)
unfolding decided
decided_on_states table states [] closed are u = states_nil
decided_on_states table states (c ∷ more) closed are u =
    let below = slot_head (length states) c more u in
    let l : IsLive table (slice_index states c.slot) = are.each c.slot below in
    states_cons (record { state = slice_index states c.slot; bit = c.bit }) (decided table (adapted table states c) more) l.usable
    (decided_on_states table (adapted table states c) more closed
    (live_adapted table states c closed are below)
    (slots_kept table states c more (slot_tail (length states) c more u)))

-- a set of states among others
slot_around : (before states behind : List ℕ) (slot : ℕ) → slot < length states → slice_index (before ++ states ++ behind) (length before + slot) ≡ slice_index states slot
slot_around before states behind slot below =
    let e : before ++ states ++ behind ≡ before ++ (states ++ behind) = append_assoc before states behind in
    ap (λ (xs : List ℕ). slice_index xs (length before + slot)) e ∙ get_or-append-add before (states ++ behind) slot 0 ∙ get_or_append_left states behind 0 slot below

set_around : (before states behind : List ℕ) (slot state : ℕ) → slot < length states → slice_set (before ++ states ++ behind) (length before + slot) state ≡ before ++ slice_set states slot state ++ behind
set_around before states behind slot state below =
    let e : before ++ states ++ behind ≡ before ++ (states ++ behind) = append_assoc before states behind in
    let back : (length before + slot) - length before ≡ slot = omega arith in
    ap (λ (xs : List ℕ). slice_set xs (length before + slot) state) e
    ∙ set-append_right before (states ++ behind) (length before) (length before + slot) state refl (omega arith)
    ∙ ap (λ (k : ℕ). before ++ slice_set (states ++ behind) k state) back
    ∙ ap (λ (xs : List ℕ). before ++ xs) (set-append_left states behind slot state below)
    ∙ sym (append_assoc before (slice_set states slot state) behind)

adapted_around : (table before states behind : List ℕ) (c : Choice) → c.slot < length states → adapted table (before ++ states ++ behind) (record { slot = length before + c.slot; bit = c.bit }) ≡ before ++ adapted table states c ++ behind
adapted_around table before states behind c below =
    let same = slot_around before states behind c.slot below in
    ap (λ (s : ℕ). slice_set (before ++ states ++ behind) (length before + c.slot) (next_state table s c.bit)) same
    ∙ set_around before states behind c.slot (next_state table (slice_index states c.slot) c.bit) below

pub decided-moved : (table before states behind : List ℕ) (choices : List Choice) → UseSlots (length states) choices → decided table (before ++ states ++ behind) (moved (length before) choices) ≡ decided table states choices
unfolding decided
decided-moved table before states behind [] u = refl
decided-moved table before states behind (c ∷ more) u =
    let below = slot_head (length states) c more u in
    let same = slot_around before states behind c.slot below in
    let next = adapted_around table before states behind c below in
    let rest = decided-moved table before (adapted table states c) behind more (slots_kept table states c more (slot_tail (length states) c more u)) in
    ap (λ (s : ℕ). record { state = s; bit = c.bit } ∷ decided table (adapted table (before ++ states ++ behind) (record { slot = length before + c.slot; bit = c.bit })) (moved (length before) more)) same
    ∙ ap (λ (xs : List ℕ). record { state = slice_index states c.slot; bit = c.bit } ∷ decided table xs (moved (length before) more)) next
    ∙ ap (λ (ds : List Decision). record { state = slice_index states c.slot; bit = c.bit } ∷ ds) rest

pub states_after-moved : (table before states behind : List ℕ) (choices : List Choice) → UseSlots (length states) choices → states_after table (before ++ states ++ behind) (moved (length before) choices) ≡ before ++ states_after table states choices ++ behind
unfolding states_after
states_after-moved table before states behind [] u = refl
states_after-moved table before states behind (c ∷ more) u =
    let below = slot_head (length states) c more u in
    let next = adapted_around table before states behind c below in
    ap (λ (xs : List ℕ). states_after table xs (moved (length before) more)) next
    ∙ states_after-moved table before (adapted table states c) behind more (slots_kept table states c more (slot_tail (length states) c more u))

-- bytes inside what a list of choices leaves, which goes on with a bit on a slot, are inside that bit's part
inside_next : (table states bytes : List ℕ) (i : Interval) (common : List Choice) (slot : ℕ) (bit : Bool) (rest choices : List Choice) → IsClosed table → AreLive table states → UseSlots (length states) choices → AreBytes bytes → choices ≡ common ++ record { slot = slot; bit = bit } ∷ rest → Inside bytes (narrowed i (decided table states choices)) → Inside bytes (narrow (narrowed i (decided table states common)) (slice_index (states_after table states common) slot) bit)
unfolding decided narrowed
inside_next table states bytes i common slot bit rest choices closed are u bs is inside =
    let c : Choice = record { slot = slot; bit = bit } in
    let after = states_after table states common in
    let uses : UseSlots (length states) (common ++ c ∷ rest) = subst (UseSlots (length states)) is u in
    let tail_uses : UseSlots (length states) (c ∷ rest) = slots_right (length states) common (c ∷ rest) uses in
    let len : length (states_after table states common) ≡ length states = length-states_after table states common in
    let there : UseSlots (length (states_after table states common)) (c ∷ rest) = subst (λ (n : ℕ). UseSlots n (c ∷ rest)) (sym len) tail_uses in
    let live : AreLive table (states_after table states common) = live_after table states common closed are (slots_left (length states) common (c ∷ rest) uses) in
    let live' : AreLive table (adapted table (states_after table states common) c) = live_adapted table after c closed live (slot_head (length after) c rest there) in
    let on = decided_on_states table (adapted table after c) rest closed live' (slots_kept table after c rest (slot_tail (length after) c rest there)) in
    let split : decided table states choices ≡ decided table states common ++ decided table (states_after table states common) (c ∷ rest) = ap (decided table states) is ∙ decided-append table states common (c ∷ rest) in
    let joined : narrowed i (decided table states choices) ≡ narrowed (narrowed i (decided table states common)) (decided table (states_after table states common) (c ∷ rest)) = ap (narrowed i) split ∙ narrowed-append i (decided table states common) (decided table (states_after table states common) (c ∷ rest)) in
    let moved_inside : Inside bytes (narrowed (narrowed i (decided table states common)) (decided table (states_after table states common) (c ∷ rest))) = subst (Inside bytes) joined inside in
    inside_narrowed bytes (narrow (narrowed i (decided table states common)) (slice_index after slot) bit) (decided table (adapted table after c) rest) bs on moved_inside

pub parted_are_not_both_read : (table states bytes : List ℕ) (left right : List Choice) → IsClosed table → AreLive table states → UseSlots (length states) left → UseSlots (length states) right → AreBytes bytes → Part left right → Reads bytes (decided table states left) → Reads bytes (decided table states right) → ⊥
parted_are_not_both_read table states bytes left right closed are u v bs p l r =
    p.differ (same_bit bytes (narrowed whole (decided table states p.common)) (slice_index (states_after table states p.common) p.slot) p.left_bit p.right_bit bs
    (inside_next table states bytes whole p.common p.slot p.left_bit p.left_rest left closed are u bs p.left_is l.inside)
    (inside_next table states bytes whole p.common p.slot p.right_bit p.right_rest right closed are v bs p.right_is r.inside))
