-- Laws of a head that is read from a window.
use Rattle.std.proofs.Common.{◌≡◌, ℕ, ◌+◌, ◌-◌, ◌<◌, ◌≤◌, nat_le, Bool, true, false, min, List, length, take, drop, Option, Some, None, Ok, IfSome, refl, sym, ap, ◌∙◌, arith}
use Rattle.std.proofs.lemmas.Bool.{leb-true, leb-false}
use Rattle.std.proofs.lemmas.List.{take-take}
use Rattle.ebml_core.specs.Reading.{head_at}
use Rattle.ebml_core.specs.declared.parts.Head.{Head}
use Rattle.ebml_core.specs.Prefixes.{twelve_bytes_tell}
use Rattle.shelf_reader.specs.Readings.{answers, Answers}
use Rattle.shelf_reader.specs.Seen.{Seen, Sees, between}
use Rattle.shelf_reader.specs.ReadingLaws.{answers-is}
use Rattle.shelf_reader.specs.SeenLaws.{Sees-so}
use Rattle.matroska_read.specs.Walk.{head_in}

-- twelve bytes of the parent are enough for a head
head_by_room : (end place room : ℕ) (bytes : List ℕ) → place ≤ end → room ≡ min (end - place) 12 → head_at (take room (drop place bytes)) ≡ head_in end place bytes
unfolding head_in
head_by_room end place room bytes before is = by_test (nat_le 12 (end - place)) refl
  where
    by_test : (t : Bool) → nat_le 12 (end - place) ≡ t → head_at (take room (drop place bytes)) ≡ head_at (between place end bytes)
    by_test true e =
        let long : 12 ≤ end - place = leb-true _ _ e in
        let twelve : room ≡ 12 = omega arith in
        ap (λ (n : ℕ). head_at (take n (drop place bytes))) twelve ∙ ap head_at (sym (take-take 12 (end - place) (drop place bytes) long)) ∙ twelve_bytes_tell (take (end - place) (drop place bytes)) 12 (omega arith)
    by_test false e =
        let short : end - place < 12 = leb-false _ _ e in
        let all : room ≡ end - place = omega arith in
        ap (λ (n : ℕ). head_at (take n (drop place bytes))) all

pub head-seen : (F : Type 0) (known : Seen) (place end room : ℕ) (part : List ℕ) (head : Option Head) → place ≤ end → room ≡ min (end - place) 12 → Sees known (between place (place + room)) part → head ≡ head_at part → Answers {F = F} known (answers (head_in end place)) (Ok head)
head-seen F known place end room part head before least sees is =
    answers-is F known (head_in end place) head
    (Sees-so known (between place (place + room)) part (head_in end place) head sees
    (λ bytes e.
    let count : place + room - place ≡ room = omega arith in
    sym (head_by_room end place room bytes before least) ∙ ap (λ (n : ℕ). head_at (take n (drop place bytes))) (sym count) ∙ ap head_at e ∙ sym is))

-- and ends inside the parent
pub head-within : (head : Option Head) (place end room : ℕ) (part : List ℕ) → IfSome head (λ h. (2 ≤ h.len) × (h.len ≤ 12)) → IfSome head (λ h. h.len ≤ length part) → length part ≡ place + room - place → place + room ≤ end → IfSome head (λ h. (2 ≤ h.len) × (place + h.len ≤ end))
head-within None place end room part low high is within = tt
head-within (Some head) place end room part low high is within = (low.0, omega arith)

pub ruleset head_laws = (head-seen, head-within)
