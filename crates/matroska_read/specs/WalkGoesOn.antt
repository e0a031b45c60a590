-- By the grammar of elements, each ends behind its place, where its parent does or before.
use Rattle.std.specs.Prelude.{◌≡◌, ℕ, ◌+◌, ◌<◌, ◌≤◌, nat_le, Bool, true, false, ◌&&◌, List, [], ◌∷◌, length, drop, Option, Some, None, Result, Ok, refl}
use Rattle.std.proofs.Common.{sym, ap, cond, arith}
use Rattle.std.proofs.lemmas.Bool.{leb-true}
use Rattle.ebml_core.specs.Reading.{width_of, vint_len, id_at, id_of_len, size_at, head_at, head_of_id, head_of_size}
use Rattle.ebml_core.specs.declared.parts.Size.{Size}
use Rattle.ebml_core.specs.declared.parts.Size.TheVariants.{Known, Unknown}
use Rattle.ebml_core.specs.declared.parts.Head.{Head}
use Rattle.shelf_reader.specs.Readings.{gives, fails, looks}
use Rattle.shelf_reader.specs.Seen.{between}
use Rattle.matroska_read.specs.declared.error.OutlineFault.{OutlineFault}
use Rattle.matroska_read.specs.declared.error.OutlineFault.TheVariants.{Shape}
use Rattle.matroska_read.specs.declared.parts.Element.{Element}
use Rattle.matroska_read.specs.Inside.{KeepsInside}
use Rattle.matroska_read.specs.Walk.{head_in, sized, element_of, element_in}

pub keeps-ends : (end : ℕ) (element : Element) → KeepsInside end element → element.end ≤ end
keeps-ends end element keeps = keeps.within

pub keeps-widens : (end len : ℕ) (element : Element) → KeepsInside end element → end ≤ len → KeepsInside len element
keeps-widens end len element keeps within = record { content = keeps.content; within = omega (arith, keeps.within) }

-- ---- a head takes bytes

some_is : {A : Type 0} (a b : A) → Some a ≡ Some b → a ≡ b
some_is a b h = cc

chosen : (t : Bool) (width len : ℕ) → cond t (Some width) None ≡ Some len → width ≡ len
chosen true width len h = some_is width len h
chosen false width len h = let no : ⊥ = cc in absurd no

vint_len-positive : (most len : ℕ) (bytes : List ℕ) → vint_len most bytes ≡ Some len → 1 ≤ len
unfolding vint_len
vint_len-positive most len [] h = let no : ⊥ = cc in absurd no
vint_len-positive most len (first ∷ rest) h =
    let e = chosen (nat_le (width_of first) most && nat_le (width_of first) (length (first ∷ rest))) (width_of first) len h in
    omega arith

head_of_id-positive : (id : ℕ × ℕ) (o : Option (Size × ℕ)) (head : Head) → 1 ≤ id.1 → head_of_size id o ≡ Some head → 1 ≤ head.len
head_of_id-positive id None head low h = let no : ⊥ = cc in absurd no
head_of_id-positive id (Some size) head low h =
    let e : head.len ≡ id.1 + size.1 = sym (ap (λ (x : Head). x.len) (some_is _ head h)) in
    omega arith

pub head_at-positive : (bytes : List ℕ) (head : Head) → head_at bytes ≡ Some head → 1 ≤ head.len
unfolding head_at id_at
head_at-positive bytes head h = by_len (vint_len 4 bytes) refl h
  where
    by_len : (o : Option ℕ) → vint_len 4 bytes ≡ o → head_of_id bytes (id_of_len bytes o) ≡ Some head → 1 ≤ head.len
    by_len None e is = let no : ⊥ = cc in absurd no
    by_len (Some len) e is = head_of_id-positive _ (size_at (drop len bytes)) head (vint_len-positive 4 len bytes e) is

-- ---- an element ends behind its place

ok_is : {A : Type 0} (a b : A) (r : Result A OutlineFault) → r ≡ Ok a → r ≡ Ok b → a ≡ b
ok_is a b r h k = cc

sized-behind : (end place : ℕ) (head : Head) (size : Size) (element : Element) (bytes : List ℕ) → 1 ≤ head.len → sized end place head size bytes ≡ Ok element → (place < element.end) × (element.end ≤ end)
unfolding sized gives fails
sized-behind end place head Unknown element bytes low h = let no : ⊥ = cc in absurd no
sized-behind end place head (Known size) element bytes low h = by_test (nat_le (place + head.len + size) end) refl h
  where
    made : Element
    made = record { place = place; id = head.id; start = place + head.len; end = place + head.len + size }

    by_test : (t : Bool) → nat_le (place + head.len + size) end ≡ t → cond t (gives {F = OutlineFault} (record { place = place; id = head.id; start = place + head.len; end = place + head.len + size })) (fails (Shape place)) bytes ≡ Ok element → (place < element.end) × (element.end ≤ end)
    by_test true e is =
        let within = leb-true _ _ e in
        let ends : element.end ≡ place + head.len + size = sym (ap (λ (x : Element). x.end) (ok_is made element _ refl is)) in
        (omega arith, omega arith)
    by_test false e is = let no : ⊥ = cc in absurd no

element_of-behind : (end place : ℕ) (o : Option Head) (element : Element) (bytes : List ℕ) → ((head : Head) → o ≡ Some head → 1 ≤ head.len) → element_of end place o bytes ≡ Ok element → (place < element.end) × (element.end ≤ end)
unfolding element_of fails
element_of-behind end place None element bytes low h = let no : ⊥ = cc in absurd no
element_of-behind end place (Some head) element bytes low h = sized-behind end place head head.size element bytes (low head refl) h

pub element_goes_on : (end place : ℕ) (bytes : List ℕ) (element : Element) → element_in end place bytes ≡ Ok element → (place < element.end) × (element.end ≤ end)
unfolding element_in looks head_in
element_goes_on end place bytes element h = element_of-behind end place (head_in end place bytes) element bytes (λ head e. head_at-positive (between place end bytes) head e) h
