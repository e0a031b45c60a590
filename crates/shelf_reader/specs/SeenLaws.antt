-- Laws of what is known of a file's bytes. `known` stands for what is seen of them.
use Rattle.std.proofs.Common.{◌≡◌, ℕ, ◌+◌, ◌-◌, ◌≤◌, ◌==◌, Bool, true, false, cond, List, [], length, take, drop, Some, None, refl, sym, ap, ◌∙◌, subst, arith}
use Rattle.std.proofs.lemmas.Bool.{eqb-true}
use Rattle.std.proofs.lemmas.List.{take-take, drop-take, drop-drop}
use Rattle.shelf_core.specs.Told.{Told, IsTold, content}
use Rattle.shelf_reader.specs.Seen.{Seen, seen, Sees, Agree, IsUnseen, Holds, between}

-- what one function of the bytes gives says what another gives
pub Sees-so : {A B : Type 0} (known : Seen) (f : List ℕ → A) (x : A) (g : List ℕ → B) (y : B) → Sees known f x → ((bytes : List ℕ) → f bytes ≡ x → g bytes ≡ y) → Sees known g y
unfolding Sees
Sees-so None f x g y sees so = tt
Sees-so (Some bytes) f x g y sees so = so bytes sees

pub Sees-both : {A B C : Type 0} (known : Seen) (f : List ℕ → A) (x : A) (g : List ℕ → B) (y : B) (h : List ℕ → C) (z : C) → Sees known f x → Sees known g y → ((bytes : List ℕ) → f bytes ≡ x → g bytes ≡ y → h bytes ≡ z) → Sees known h z
unfolding Sees
Sees-both None f x g y h z one two so = tt
Sees-both (Some bytes) f x g y h z one two so = so bytes one two

pub Agree-same : {A : Type 0} (known : Seen) (f : List ℕ → A) → Agree known f f
unfolding Agree
Agree-same None f = tt
Agree-same (Some bytes) f = refl

pub Agree-twice : {A : Type 0} (known : Seen) (f g h : List ℕ → A) → Agree known f g → Agree known g h → Agree known f h
unfolding Agree
Agree-twice None f g h first second = tt
Agree-twice (Some bytes) f g h first second = first ∙ second

pub content_seen : (told : Told) (name : List ℕ) (len : ℕ) → IsTold told → len ≡ length (content told name) → seen told name len ≡ Some (content told name)
unfolding seen IsTold
content_seen None name len known is = absurd known
content_seen (Some files) name len known is = subst (λ (n : ℕ). seen (Some files) name n ≡ Some (content (Some files) name)) (sym is) (at_length (content (Some files) name))
  where
    same_test : (n : ℕ) → (n == n) ≡ true
    same_test n = grind arith

    at_length : (bytes : List ℕ) → cond (length bytes == length bytes) (Some bytes) None ≡ Some bytes
    at_length bytes = rw (same_test (length bytes)) refl

-- as many bytes are seen as was said
pub Sees-length : (told : Told) (name : List ℕ) (len : ℕ) → Sees (seen told name len) length len
unfolding seen Sees
Sees-length None name len = tt
Sees-length (Some files) name len = by_cases (length (content (Some files) name) == len) refl
  where
    by_cases : (b : Bool) → (length (content (Some files) name) == len) ≡ b → Sees (cond b (Some (content (Some files) name)) None) length len
    by_cases true e = eqb-true _ _ e
    by_cases false e = tt

-- nothing was read
pub Holds-nothing : (known : Seen) (from : ℕ) (held : List ℕ) → held ≡ [] → Holds known from held
unfolding Holds
Holds-nothing None from held is = tt
Holds-nothing (Some bytes) from held is = rw is refl

held_part_of : (from place room count : ℕ) (held bytes : List ℕ) → from ≤ place → place + room ≤ from + count → held ≡ take count (drop from bytes) → take room (drop (place - from) held) ≡ take room (drop place bytes)
held_part_of from place room count held bytes low high is =
    let split : count ≡ (place - from) + (count - (place - from)) = omega arith in
    let there : from + (place - from) ≡ place = omega arith in
    ap (λ (l : List ℕ). take room (drop (place - from) l)) (is ∙ ap (λ (n : ℕ). take n (drop from bytes)) split)
    ∙ ap (λ (l : List ℕ). take room l) (drop-take (place - from) (count - (place - from)) (drop from bytes))
    ∙ take-take room (count - (place - from)) (drop (place - from) (drop from bytes)) (omega arith)
    ∙ ap (λ (l : List ℕ). take room l) (drop-drop (place - from) from bytes ∙ ap (λ (n : ℕ). drop n bytes) there)

-- a part of the window is the file's
pub Sees-part : (known : Seen) (from place to : ℕ) (held part : List ℕ) → Holds known from held → from ≤ place → place ≤ to → to ≤ from + length held → part ≡ take (to - place) (drop (place - from) held) → Sees known (between place to) part
unfolding Holds Sees
Sees-part None from place to held part holds low before high is = tt
Sees-part (Some bytes) from place to held part holds low before high is =
    sym (is ∙ held_part_of from place (to - place) (length held) held bytes low (omega arith) holds)

pub ruleset seen_laws = (Holds-nothing, Sees-length)
