-- What a walk comes to know of elements that say something.
use Rattle.std.proofs.Common.{◌≡◌, ℕ, ◌+◌, ◌-◌, ◌≤◌, nat_le, true, List, ◌++◌, length, Ok, refl, sym, ap, ◌∙◌, arith, add-zero, length-append}
use Rattle.std.proofs.lemmas.Bool.{le-leb}
use Rattle.ebml_core.specs.Element.{head_of, element}
use Rattle.ebml_core.specs.Heads.{length-element}
use Rattle.shelf_reader.specs.Readings.{answers}
use Rattle.shelf_reader.specs.Walk.{walked}
use Rattle.matroska_read.specs.declared.parts.Element.{Element}
use Rattle.matroska_read.specs.Numbers.{number_of, number_in, number_read}
use Rattle.matroska_read.specs.Spelled.{CanSpell, Says, says_nothing, says_element, says_both}
use Rattle.matroska_read.specs.Walk.{Visits, content_of, ebml, walked_children}
use Rattle.matroska_read.proofs.SpelledWalk.{Stands, IsSpelled, spelled, walked-end, stands-first, stands-second, content-stands, content_of-spelled, walked-spelled}

-- what a visit leaves shows what was said
pub record Visited {State Said : Type 0} (shows : List ℕ → State → Said → Type 0) (visit : Visits State) (bytes : List ℕ) (seen : State) (child : Element) (said : Said) : Type 0 where
  pub state : State
  pub shown : shows bytes state said
  pub is : visit seen child bytes ≡ Ok state

-- a visit of an element shows what the element tells
abbrev pub Shows : {State Said : Type 0} → (List ℕ → State → Said → Type 0) → Visits State → (Said → ℕ → List ℕ → Said → Type 0) → Type 0
Shows {State} {Said} shows visit tells =
    (bytes : List ℕ) (end place id : ℕ) (content rest : List ℕ) (seen : State) (said next : Said)
    → IsSpelled bytes end place id content rest → shows bytes seen said → tells said id content next → Visited shows visit bytes seen (spelled place id (length content)) next

-- a walk that comes from one place to another
pub record Comes {State Said : Type 0} (shows : List ℕ → State → Said → Type 0) (visit : Visits State) (bytes : List ℕ) (end : ℕ) (seen : State) (from to : ℕ) (said : Said) : Type 0 where
  pub state : State
  pub shown : shows bytes state said
  pub walk : walked ebml visit end seen from bytes ≡ walked ebml visit end state to bytes

pub comes : {State Said : Type 0} (shows : List ℕ → State → Said → Type 0) (visit : Visits State) (tells : Said → ℕ → List ℕ → Said → Type 0) → Shows shows visit tells → (bytes : List ℕ) (end : ℕ) (said : Said) (piece : List ℕ) (last : Said)
    → Says tells said piece last → (rest : List ℕ) (place : ℕ) (seen : State) → Stands bytes place piece rest → place + length piece ≤ end → shows bytes seen said → Comes shows visit bytes end seen place (place + length piece) last
comes shows visit tells step bytes end _ _ _ (says_nothing said) rest place seen stands within shown =
    record { state = seen; shown = shown; walk = ap (λ (n : ℕ). walked ebml visit end seen n bytes) (sym (add-zero place)) }
comes shows visit tells step bytes end _ _ _ (says_element said next id content can told) rest place seen stands within shown =
    let is : IsSpelled bytes end place id content rest = record { known = can.known; small = can.small; stands = stands; within = within } in
    let visited = step bytes end place id content rest seen said next is shown told in
    record { state = visited.state; shown = visited.shown; walk = walked-spelled visit bytes end place id content rest seen visited.state is visited.is }
comes shows visit tells step bytes end _ _ _ (says_both said next last first second left right) rest place seen stands within shown =
    let long : length (first ++ second) ≡ length first + length second = length-append first second in
    let before = comes shows visit tells step bytes end said first next left (second ++ rest) place seen (stands-first bytes place first second rest stands) (omega arith) shown in
    let after = comes shows visit tells step bytes end next second last right rest (place + length first) before.state (stands-second bytes place first second rest stands) (omega arith) before.shown in
    let ends : place + length first + length second ≡ place + length (first ++ second) = omega arith in
    record { state = after.state; shown = after.shown; walk = before.walk ∙ after.walk ∙ ap (λ (n : ℕ). walked ebml visit end after.state n bytes) ends }

-- what the children of an element say
pub record Known {State Said : Type 0} (shows : List ℕ → State → Said → Type 0) (visit : Visits State) (bytes : List ℕ) (parent : Element) (seen : State) (said : Said) : Type 0 where
  pub state : State
  pub shown : shows bytes state said
  pub walk : walked_children visit parent seen bytes ≡ Ok state

-- the walk over the last part of a content ends with it
pub comes-whole : {State Said : Type 0} (shows : List ℕ → State → Said → Type 0) (visit : Visits State) (tells : Said → ℕ → List ℕ → Said → Type 0) → Shows shows visit tells → (bytes : List ℕ) (end place : ℕ) (piece rest : List ℕ) (seen : State) (said last : Said)
    → Says tells said piece last → Stands bytes place piece rest → place + length piece ≡ end → shows bytes seen said → (state : State) × shows bytes state last × (walked ebml visit end seen place bytes ≡ Ok state)
comes-whole shows visit tells step bytes end place piece rest seen said last says stands ends shown =
    let whole = comes shows visit tells step bytes end said piece last says rest place seen stands (omega arith) shown in
    (whole.state, whole.shown, whole.walk ∙ walked-end visit end whole.state (place + length piece) bytes (omega arith))

pub children : {State Said : Type 0} (shows : List ℕ → State → Said → Type 0) (visit : Visits State) (tells : Said → ℕ → List ℕ → Said → Type 0) → Shows shows visit tells → (bytes : List ℕ) (end place id : ℕ) (content rest : List ℕ) (seen : State) (said last : Said)
    → IsSpelled bytes end place id content rest → Says tells said content last → shows bytes seen said → Known shows visit bytes (spelled place id (length content)) seen last
children shows visit tells step bytes end place id content rest seen said last is says shown =
    let start = place + length (head_of id (length content)) in
    let whole = comes-whole shows visit tells step bytes (start + length content) start content rest seen said last says (content-stands bytes end place id content rest is) refl shown in
    record { state = whole.0; shown = whole.1; walk = whole.2 }

-- ---- numbers

pub number-spelled : (bytes : List ℕ) (end place id : ℕ) (content rest : List ℕ) → IsSpelled bytes end place id content rest → length content ≤ 8 → number_read (spelled place id (length content)) bytes ≡ Ok (number_of 0 content)
unfolding number_read number_in answers
number-spelled bytes end place id content rest is short =
    let start = place + length (head_of id (length content)) in
    let few : nat_le (start + length content - start) 8 ≡ true = le-leb _ _ (omega arith) in
    rw (few, content_of-spelled bytes end place id content rest is) refl
