-- Laws of the walk over the items of a parent.
use Rattle.std.proofs.Common.{◌≡◌, ℕ, zero, suc, ◌-◌, ◌<◌, ◌≤◌, nat_lt, Bool, true, false, cond, List, Some, None, Result, Ok, Err, refl, sym, ap, ◌∙◌, arith}
use Rattle.std.proofs.lemmas.Bool.{lt-ltb, le-ltb, ltb-true}
use Rattle.shelf_reader.specs.declared.error.ReadError.{ReadError}
use Rattle.shelf_reader.specs.Seen.{Seen, Agree}
use Rattle.shelf_reader.specs.Readings.{Reading, gives, thence_of, thence, Answers}
use Rattle.shelf_reader.specs.Walk.{Grammar, GoesOn, Visit, walked_within, walked}
use Rattle.shelf_reader.specs.SeenLaws.{Agree-same, Agree-twice}
use Rattle.shelf_reader.specs.ReadingLaws.{gives-is, agrees-thence, thence-on, thence-stops, Agree-answers}

-- as many steps as there are bytes left are enough
walked_within-more : {State Item F : Type 0} (grammar : Grammar Item F) (goes : GoesOn grammar) (most more : ℕ) (visit : Visit State Item F) (end : ℕ) (state : State) (place : ℕ) (bytes : List ℕ) → end - place ≤ most → end - place ≤ more → walked_within grammar most visit end state place bytes ≡ walked_within grammar more visit end state place bytes
unfolding walked_within thence thence_of gives
walked_within-more grammar goes zero zero visit end state place bytes low high = refl
walked_within-more grammar goes zero (suc more) visit end state place bytes low high = rw (le-ltb place end (omega arith)) refl
walked_within-more grammar goes (suc most) zero visit end state place bytes low high = rw (le-ltb place end (omega arith)) refl
walked_within-more {State} {Item} {F} grammar goes (suc most) (suc more) visit end state place bytes low high =
    by_test (λ s e left right. walked_within-more grammar goes most more visit end s e bytes left right) (nat_lt place end) refl
  where
    after_visit : ((s : State) (e : ℕ) → end - e ≤ most → end - e ≤ more → walked_within grammar most visit end s e bytes ≡ walked_within grammar more visit end s e bytes) → (item : Item) (next : Result State F) → place < grammar.behind item → place < end → thence_of next (λ s. walked_within grammar most visit end s (grammar.behind item)) bytes ≡ thence_of next (λ s. walked_within grammar more visit end s (grammar.behind item)) bytes
    after_visit same item (Ok s) behind before = same s (grammar.behind item) (omega arith) (omega arith)
    after_visit same item (Err p) behind before = refl

    after_item : ((s : State) (e : ℕ) → end - e ≤ most → end - e ≤ more → walked_within grammar most visit end s e bytes ≡ walked_within grammar more visit end s e bytes) → place < end → (o : Result Item F) → grammar.item_at end place bytes ≡ o → thence_of o (λ item. thence (visit state item) (λ s. walked_within grammar most visit end s (grammar.behind item))) bytes ≡ thence_of o (λ item. thence (visit state item) (λ s. walked_within grammar more visit end s (grammar.behind item))) bytes
    after_item same before (Ok item) e = after_visit same item (visit state item bytes) ((goes end place bytes item e).0) before
    after_item same before (Err p) e = refl

    by_test : ((s : State) (e : ℕ) → end - e ≤ most → end - e ≤ more → walked_within grammar most visit end s e bytes ≡ walked_within grammar more visit end s e bytes) → (t : Bool) → nat_lt place end ≡ t → cond t (thence (grammar.item_at end place) (λ item. thence (visit state item) (λ s. walked_within grammar most visit end s (grammar.behind item)))) (gives state) bytes ≡ cond t (thence (grammar.item_at end place) (λ item. thence (visit state item) (λ s. walked_within grammar more visit end s (grammar.behind item)))) (gives state) bytes
    by_test same true e = after_item same (ltb-true place end e) (grammar.item_at end place bytes) refl
    by_test same false e = refl

walked-count : {State Item F : Type 0} (grammar : Grammar Item F) (goes : GoesOn grammar) (visit : Visit State Item F) (end : ℕ) (state : State) (place most : ℕ) (bytes : List ℕ) → end - place ≤ most → walked grammar visit end state place bytes ≡ walked_within grammar most visit end state place bytes
unfolding walked
walked-count grammar goes visit end state place most bytes h = walked_within-more grammar goes (end - place) most visit end state place bytes (omega arith) h

-- a walk at the parent's end is over
pub walked-end : {State Item F : Type 0} (grammar : Grammar Item F) (goes : GoesOn grammar) (visit : Visit State Item F) (end : ℕ) (state : State) (place : ℕ) (bytes : List ℕ) → end ≤ place → walked grammar visit end state place bytes ≡ Ok state
unfolding walked_within gives
walked-end grammar goes visit end state place bytes h = walked-count grammar goes visit end state place 0 bytes (omega arith)

-- before it, the walk goes on at its item
unfoldable pub onward : {State Item F : Type 0} → Grammar Item F → Visit State Item F → ℕ → State → ℕ → Reading State F
onward grammar visit end state place = thence (grammar.item_at end place) (λ item. thence (visit state item) (λ next. walked grammar visit end next (grammar.behind item)))

pub walked-next : {State Item F : Type 0} (grammar : Grammar Item F) (goes : GoesOn grammar) (visit : Visit State Item F) (end : ℕ) (state : State) (place : ℕ) (bytes : List ℕ) → place < end → walked grammar visit end state place bytes ≡ onward grammar visit end state place bytes
unfolding onward thence thence_of walked_within gives
walked-next {State} {Item} {F} grammar goes visit end state place bytes h =
    walked-count grammar goes visit end state place (suc end) bytes (omega arith)
    ∙ ap (λ (t : Bool). cond t (thence (grammar.item_at end place) (λ item. thence (visit state item) (λ next. walked_within grammar end visit end next (grammar.behind item)))) (gives state) bytes) (lt-ltb place end h)
    ∙ after_item (grammar.item_at end place bytes)
  where
    after_visit : (item : Item) (next : Result State F) → thence_of next (λ s. walked_within grammar end visit end s (grammar.behind item)) bytes ≡ thence_of next (λ s. walked grammar visit end s (grammar.behind item)) bytes
    after_visit item (Ok s) = sym (walked-count grammar goes visit end s (grammar.behind item) end bytes (omega arith))
    after_visit item (Err p) = refl

    after_item : (o : Result Item F) → thence_of o (λ item. thence (visit state item) (λ s. walked_within grammar end visit end s (grammar.behind item))) bytes ≡ thence_of o (λ item. thence (visit state item) (λ s. walked grammar visit end s (grammar.behind item))) bytes
    after_item (Ok item) = after_visit item (visit state item bytes)
    after_item (Err p) = refl

-- ---- the walk of a loop: `whole` is the walk from its start on

agrees-onward : {State Item F : Type 0} (known : Seen) (whole : Reading State F) (grammar : Grammar Item F) (goes : GoesOn grammar) (visit : Visit State Item F) (end : ℕ) (state : State) (place : ℕ) → place < end → Agree known whole (walked grammar visit end state place) → Agree known whole (onward grammar visit end state place)
unfolding Agree
agrees-onward None whole grammar goes visit end state place h so_far = tt
agrees-onward (Some bytes) whole grammar goes visit end state place h so_far = so_far ∙ walked-next grammar goes visit end state place bytes h

pub Agree-more : {State Item F : Type 0} (known : Seen) (whole : Reading State F) (grammar : Grammar Item F) (goes : GoesOn grammar) (visit : Visit State Item F) (end : ℕ) (state next : State) (place : ℕ) (item : Item) → place < end → Agree known whole (walked grammar visit end state place) → Answers {F = F} known (grammar.item_at end place) (Ok item) → Answers {F = F} known (visit state item) (Ok next) → Agree known whole (walked grammar visit end next (grammar.behind item))
unfolding onward
Agree-more known whole grammar goes visit end state next place item h so_far read visited =
    Agree-twice known _ _ _ (agrees-onward known whole grammar goes visit end state place h so_far)
    (Agree-twice known _ _ _ (agrees-thence known (grammar.item_at end place) _ item read) (agrees-thence known (visit state item) _ next visited))

pub item-stops : {State Item F : Type 0} (known : Seen) (whole : Reading State F) (grammar : Grammar Item F) (goes : GoesOn grammar) (visit : Visit State Item F) (end : ℕ) (state : State) (place : ℕ) (error : ReadError F) → place < end → Agree known whole (walked grammar visit end state place) → Answers known (grammar.item_at end place) (Err error) → Answers known whole (Err error)
unfolding onward
item-stops known whole grammar goes visit end state place error h so_far read =
    Agree-answers known whole _ (Err error) (agrees-onward known whole grammar goes visit end state place h so_far) (thence-stops known (grammar.item_at end place) _ error read)

pub visit-stops : {State Item F : Type 0} (known : Seen) (whole : Reading State F) (grammar : Grammar Item F) (goes : GoesOn grammar) (visit : Visit State Item F) (end : ℕ) (state : State) (place : ℕ) (item : Item) (error : ReadError F) → place < end → Agree known whole (walked grammar visit end state place) → Answers {F = F} known (grammar.item_at end place) (Ok item) → Answers known (visit state item) (Err error) → Answers known whole (Err error)
unfolding onward
visit-stops known whole grammar goes visit end state place item error h so_far read visited =
    Agree-answers known whole _ (Err error) (agrees-onward known whole grammar goes visit end state place h so_far)
    (thence-on known (grammar.item_at end place) _ item (Err error) read (thence-stops known (visit state item) _ error visited))

agrees-end : {State Item F : Type 0} (known : Seen) (whole : Reading State F) (grammar : Grammar Item F) (goes : GoesOn grammar) (visit : Visit State Item F) (end : ℕ) (state : State) (place : ℕ) → end ≤ place → Agree known whole (walked grammar visit end state place) → Agree known whole (gives state)
unfolding Agree gives
agrees-end None whole grammar goes visit end state place h so_far = tt
agrees-end (Some bytes) whole grammar goes visit end state place h so_far = so_far ∙ walked-end grammar goes visit end state place bytes h

pub walk-done : {State Item F : Type 0} (known : Seen) (whole : Reading State F) (grammar : Grammar Item F) (goes : GoesOn grammar) (visit : Visit State Item F) (end : ℕ) (state : State) (place : ℕ) → end ≤ place → Agree known whole (walked grammar visit end state place) → Answers {F = F} known whole (Ok state)
walk-done known whole grammar goes visit end state place h so_far = Agree-answers known whole (gives state) (Ok state) (agrees-end known whole grammar goes visit end state place h so_far) (gives-is _ known state)

pub ruleset walk_laws = (Agree-same, Agree-more, item-stops, visit-stops, walk-done)
