-- Laws of the numbers of the EBML header.
use Rattle.std.proofs.Common.{◌≡◌, ℕ, ◌-◌, ◌<◌, ◌≤◌, nat_le, Bool, false, List, length, drop, refl, sym, ap, ◌∙◌, arith, length-take, length-drop}
use Rattle.std.proofs.lemmas.Bool.{leb-true, false_from_ne_true}
use Rattle.shelf_reader.specs.Seen.{Seen, Sees, between}
use Rattle.shelf_reader.specs.SeenLaws.{Sees-so}
use Rattle.matroska_read.specs.declared.parts.Element.{Element}
use Rattle.matroska_read.specs.declared.parts.Bounds.{Bounds}
use Rattle.matroska_read.specs.Walk.{content_of}
use Rattle.matroska_read.specs.Numbers.{number_of, number_in}
use Rattle.matroska_read.specs.Outline.{is_understood, is_number_understood}

pub Sees-number : (known : Seen) (bounds : Bounds) (child : Element) (part : List ℕ) (understood : Bool) → Sees known (between child.start child.end) part → understood ≡ is_understood bounds part → Sees known (is_number_understood bounds child) understood
unfolding is_number_understood
Sees-number known bounds child part understood sees tested =
    Sees-so known (between child.start child.end) part (is_number_understood bounds child) understood sees (λ bytes e. ap (λ (l : List ℕ). is_understood bounds l) e ∙ sym tested)

too_long : (n : ℕ) → 8 < n → nat_le n 8 ≡ false
too_long n h = false_from_ne_true _ (λ e. let low : n ≤ 8 = leb-true n 8 e in absurd (omega arith))

length-between : (from to : ℕ) (bytes : List ℕ) → from ≤ to → to ≤ length bytes → length (between from to bytes) ≡ to - from
length-between from to bytes before within = omega (arith, length-take (to - from) (drop from bytes), length-drop from bytes)

-- a number of more than eight bytes isn't understood
pub Sees-long_number : (known : Seen) (bounds : Bounds) (child : Element) (len : ℕ) → Sees known length len → child.start ≤ child.end → child.end ≤ len → 8 < child.end - child.start → Sees known (is_number_understood bounds child) false
unfolding is_number_understood is_understood
Sees-long_number known bounds child len sees before within long =
    Sees-so known length len (is_number_understood bounds child) false sees
    (λ bytes count.
    let many : length (content_of child bytes) ≡ child.end - child.start = length-between child.start child.end bytes before (omega arith) in
    rw (too_long (length (content_of child bytes)) (omega arith)) refl)

-- the number of an element in the window
pub Sees-number_in : (known : Seen) (element : Element) (part : List ℕ) (number : ℕ) → Sees known (between element.start element.end) part → number ≡ number_of 0 part → Sees known (number_in element) number
unfolding number_in
Sees-number_in known element part number sees said =
    Sees-so known (between element.start element.end) part (number_in element) number sees (λ bytes e. ap (λ (l : List ℕ). number_of 0 l) e ∙ sym said)

pub ruleset number_laws = (Sees-number, Sees-long_number, Sees-number_in)
