-- The items that stand one after the other in a parent, by the grammar of a format, and a walk over them.
use Rattle.std.specs.Prelude.{◌≡◌, ℕ, zero, suc, ◌-◌, ◌<◌, ◌≤◌, nat_lt, if◌then◌else◌, List, Ok}
use Rattle.shelf_reader.specs.Readings.{Reading, gives, thence}

-- What stands at a place of a parent that ends at an end, and the place behind it.
pub record Grammar (Item F : Type 0) : Type 0 where
  pub item_at : ℕ → ℕ → Reading Item F
  pub behind : Item → ℕ

-- each item ends behind its place, where its parent does or before
abbrev pub GoesOn : {Item F : Type 0} → Grammar Item F → Type 0
GoesOn {Item} grammar =
    (end place : ℕ) (bytes : List ℕ) (item : Item) → grammar.item_at end place bytes ≡ Ok item
    → (place < grammar.behind item) × (grammar.behind item ≤ end)

-- What a walk does at an item, from what it knows so far: it knows more then, or finds a fault.
abbrev pub Visit : Type 0 → Type 0 → Type 0 → Type 0
Visit State Item F = State → Item → Reading State F

-- the walk over at most so many items
unfoldable pub walked_within : {State Item F : Type 0} → Grammar Item F → ℕ → Visit State Item F → ℕ → State → ℕ → Reading State F
walked_within grammar zero visit end state place = gives state
walked_within grammar (suc most) visit end state place =
    if nat_lt place end then
    thence (grammar.item_at end place) (λ item. thence (visit state item) (λ next. walked_within grammar most visit end next (grammar.behind item)))
    else gives state

-- The walk over the items that stand one after the other from a place of a parent up to its end. The first fault, of an
-- item or of its visit, ends it. An item takes a byte and more, so there are no more of them than bytes.
unfoldable pub walked : {State Item F : Type 0} → Grammar Item F → Visit State Item F → ℕ → State → ℕ → Reading State F
walked grammar visit end state place = walked_within grammar (end - place) visit end state place
