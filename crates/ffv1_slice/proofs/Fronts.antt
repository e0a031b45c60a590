-- The keyframe bit and the header, read.
use Rattle.std.proofs.Common.{◌≡◌, ℕ, ◌+◌, List, [], ◌∷◌, ◌++◌, Bool, true, false, length, take, refl, sym, ◌∙◌, subst, arith, append_assoc}
use Rattle.std.proofs.lemmas.List.{take_all}
use Rattle.std.specs.Prelude.{slice_index}
use Rattle.range_coder.specs.Choices.{Choice, moved}
use Rattle.range_coder.specs.Coding.{Gets}
use Rattle.range_coder.specs.Reading.{Reader}
use Rattle.range_coder.specs.Symbol.{choice, overlong_choices}
use Rattle.ffv1_params.specs.Parameters.{Parameters}
use Rattle.ffv1_slice.specs.declared.head.SliceHead.{SliceHead}
use Rattle.ffv1_slice.specs.Slice.{AreTaken, key_choices, header_choices}
use Rattle.ffv1_slice.specs.Taking.{NumbersRead, LongNumber, BadNumber, FrontRead, KeyIsZero, LongFront, BadFront}
use Rattle.ffv1_slice.proofs.Codings.{gets_nil, gets_more}

pub key_got : (table : List ℕ) (before : Reader) (states : List ℕ) (after : Reader) (left : List ℕ) (first key : Bool) → first ≡ true → Gets table before states after left (choice 0 key ∷ []) → Gets table before states after left (key_choices first key)
key_got table before states after left first key is g = subst (λ (b : Bool). Gets table before states after left (key_choices b key)) (sym is) g

pub no_key_got : (table : List ℕ) (before : Reader) (states : List ℕ) (first key : Bool) → first ≡ false → Gets table before states before states (key_choices first key)
no_key_got table before states first key is = subst (λ (b : Bool). Gets table before states before states (key_choices b key)) (sym is) (gets_nil table before states)

pub key_zero : (params : Parameters) (first : Bool) (before : Reader) (states : List ℕ) (after : Reader) (left : List ℕ) (key : Bool) → key ≡ false → (first ≡ false → key ≡ true) → Gets params.table before states after left (key_choices first key) → KeyIsZero params first before states after left
key_zero params true before states after left key zero asked g = record { asked = refl; gets = subst (λ (b : Bool). Gets params.table before states after left (choice 0 b ∷ [])) zero g }
key_zero params false before states after left key zero asked g = let bad : false ≡ true = sym zero ∙ asked refl in absurd (cc)

-- a key of 1, and what comes behind it
abbrev Key : Parameters → Bool → Reader → List ℕ → Reader → List ℕ → Bool → Type 0
Key params first before states after left key = Gets params.table before states after left (key_choices first key)

pub front_read : (params : Parameters) (first : Bool) (r0 : Reader) (s0 : List ℕ) (r1 : Reader) (s1 : List ℕ) (r2 : Reader) (s2 numbers : List ℕ) (key : Bool) (head : SliceHead) → key ≡ true → Gets params.table r0 s0 r1 s1 (key_choices first key) → NumbersRead params r1 s1 r2 s2 numbers 9 → head.x ≡ slice_index numbers 0 → head.y ≡ slice_index numbers 1 → head.columns ≡ slice_index numbers 2 + 1 → head.rows ≡ slice_index numbers 3 + 1 → head.indices ≡ slice_index numbers 4 ∷ slice_index numbers 5 ∷ [] → FrontRead params first r0 s0 r2 s2 head
front_read params first r0 s0 r1 s1 r2 s2 numbers key head is k n x y c r i =
    let nine : length numbers ≡ 9 = n.nine in
    let all : take 9 numbers ≡ numbers = take_all 9 numbers (omega arith) in
    let k' : Gets params.table r0 s0 r1 s1 (key_choices first true) = subst (λ (b : Bool). Gets params.table r0 s0 r1 s1 (key_choices first b)) is k in
    let h : Gets params.table r1 s1 r2 s2 (header_choices numbers) = subst (λ (xs : List ℕ). Gets params.table r1 s1 r2 s2 (header_choices xs)) all n.gets in
    record {
      numbers = numbers;
      tell = record { count = nine; taken = subst (AreTaken params) all n.taken; x = x; y = y; columns = c; rows = r; indices = i };
      gets = gets_more params.table r0 s0 r1 s1 r2 s2 (key_choices first true) (header_choices numbers) k' h;
      live = n.live;
    }

pub front_long : (params : Parameters) (first : Bool) (r0 : Reader) (s0 : List ℕ) (r1 : Reader) (s1 : List ℕ) (r2 : Reader) (s2 : List ℕ) (key : Bool) → key ≡ true → Gets params.table r0 s0 r1 s1 (key_choices first key) → LongNumber params r1 s1 r2 s2 → LongFront params first r0 s0 r2 s2
front_long params first r0 s0 r1 s1 r2 s2 key is k n =
    let k' : Gets params.table r0 s0 r1 s1 (key_choices first true) = subst (λ (b : Bool). Gets params.table r0 s0 r1 s1 (key_choices first b)) is k in
    let all : Gets params.table r0 s0 r2 s2 (key_choices first true ++ (header_choices n.numbers ++ moved 1 overlong_choices)) = gets_more params.table r0 s0 r1 s1 r2 s2 (key_choices first true) (header_choices n.numbers ++ moved 1 overlong_choices) k' n.gets in
    record { numbers = n.numbers; taken = n.taken; few = n.few; gets = subst (λ (cs : List Choice). Gets params.table r0 s0 r2 s2 cs) (sym (append_assoc (key_choices first true) (header_choices n.numbers) (moved 1 overlong_choices))) all }

pub front_bad : (params : Parameters) (first : Bool) (r0 : Reader) (s0 : List ℕ) (r1 : Reader) (s1 : List ℕ) (r2 : Reader) (s2 : List ℕ) (key : Bool) → key ≡ true → Gets params.table r0 s0 r1 s1 (key_choices first key) → BadNumber params r1 s1 r2 s2 → BadFront params first r0 s0 r2 s2
front_bad params first r0 s0 r1 s1 r2 s2 key is k n =
    let k' : Gets params.table r0 s0 r1 s1 (key_choices first true) = subst (λ (b : Bool). Gets params.table r0 s0 r1 s1 (key_choices first b)) is k in
    record { numbers = n.numbers; last = n.last; taken = n.taken; small = n.small; few = n.few; refused = n.refused; gets = gets_more params.table r0 s0 r1 s1 r2 s2 (key_choices first true) (header_choices (n.numbers ++ n.last ∷ [])) k' n.gets }

pub ruleset fronts = (key_got, no_key_got, key_zero, front_read, front_long, front_bad)
