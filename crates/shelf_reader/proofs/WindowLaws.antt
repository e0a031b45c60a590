-- Laws of a window on a file: what its bytes say of the file's.
use Rattle.std.proofs.Common.{◌≡◌, ℕ, ◌+◌, ◌-◌, ◌≤◌, Bool, false, nat_eq, List, length, take, drop, Some, None, sym, ap, ◌∙◌, arith, length-take, length-drop}
use Rattle.std.proofs.lemmas.Bool.{false_from_ne_true}
use Rattle.std.specs.Cmp.Lexicographic.{as_long}
use Rattle.shelf_reader.specs.Seen.{Seen, Sees, Holds, between, is_same_text, is_text_between}
use Rattle.shelf_reader.specs.SeenLaws.{Sees-so, Sees-part}

-- bytes that were read from one place up to another
pub Sees-held : (known : Seen) (from to : ℕ) (held : List ℕ) → Holds known from held → length held ≡ to - from → Sees known (between from to) held
unfolding Holds Sees
Sees-held None from to held holds count = tt
Sees-held (Some bytes) from to held holds count = sym (holds ∙ ap (λ (n : ℕ). take n (drop from bytes)) count)

length-between : (from to : ℕ) (bytes : List ℕ) → from ≤ to → to ≤ length bytes → length (between from to bytes) ≡ to - from
length-between from to bytes before within = omega (arith, length-take (to - from) (drop from bytes), length-drop from bytes)

-- a text of another length isn't there
pub Sees-other_text : (known : Seen) (text : List ℕ) (from to len : ℕ) → Sees known length len → from ≤ to → to ≤ len → (to - from ≡ length text → ⊥) → Sees known (is_text_between text from to) false
unfolding is_text_between
Sees-other_text known text from to len sees before within other =
    Sees-so known length len (is_text_between text from to) false sees
    (λ bytes count. false_from_ne_true _ (λ same. other (sym (length-between from to bytes before (omega arith)) ∙ as_long nat_eq (between from to bytes) text same)))

pub Sees-text : (known : Seen) (text part : List ℕ) (from to : ℕ) (same : Bool) → Sees known (between from to) part → same ≡ is_same_text part text → Sees known (is_text_between text from to) same
unfolding is_text_between
Sees-text known text part from to same sees tested =
    Sees-so known (between from to) part (is_text_between text from to) same sees (λ bytes e. ap (λ (l : List ℕ). is_same_text l text) e ∙ sym tested)

pub ruleset window_laws = (Sees-text, Sees-part, Sees-held, Sees-other_text)
