-- Laws of the head of a block that is read from a window.
use Rattle.std.proofs.Common.{◌≡◌, ℕ, ◌+◌, ◌-◌, ◌<◌, ◌≤◌, ◌==◌, ◌&&◌, nat_le, Bool, true, false, min, List, length, take, drop, get_or, Option, Some, None, Ok, IfSome, refl, sym, ap, ◌∙◌, arith, length-take}
use Rattle.std.proofs.lemmas.Bool.{leb-true, leb-false}
use Rattle.std.proofs.lemmas.List.{get_or-take, take-take}
use Rattle.std.proofs.lemmas.Bool.Decides.{nat_tests}
use Rattle.ebml_core.specs.Reading.{size_at}
use Rattle.ebml_core.specs.declared.parts.Size.{Size}
use Rattle.ebml_core.specs.declared.parts.Size.TheVariants.{Known, Unknown}
use Rattle.ebml_core.specs.Prefixes.{size_at-take, size_at-len}
use Rattle.shelf_reader.specs.Readings.{answers, Answers}
use Rattle.shelf_reader.specs.Seen.{Seen, Sees, between}
use Rattle.shelf_reader.specs.ReadingLaws.{answers-is}
use Rattle.shelf_reader.specs.SeenLaws.{Sees-so}
use Rattle.matroska_read.specs.Clusters.{head_behind, block_head_of, block_head, block_head_in}
use Rattle.matroska_read.specs.declared.parts.BlockHead.{BlockHead}
use Rattle.matroska_read.specs.declared.parts.Element.{Element}

-- what is found of a head by so many bytes is found by all
same_room : (len count whole : ℕ) → len + 3 ≤ count → nat_le (len + 3) (min count whole) ≡ nat_le (len + 3) whole
same_room len count whole h = grind (arith, nat_tests)

head_behind-take : (count : ℕ) (bytes : List ℕ) (size : Size) (len : ℕ) → len + 3 ≤ count → head_behind (take count bytes) size len ≡ head_behind bytes size len
unfolding head_behind
head_behind-take count bytes Unknown len h = refl
head_behind-take count bytes (Known track) len h = rw (length-take count bytes, same_room len count (length bytes) h, get_or-take count bytes (len + 2) 0 (omega arith)) refl

-- eleven bytes tell whether there is a block's head, and which
block_head-take : (count : ℕ) (bytes : List ℕ) → 11 ≤ count → block_head (take count bytes) ≡ block_head bytes
unfolding block_head
block_head-take count bytes h =
    rw (size_at-take count bytes (omega arith))
    (elim (size_at bytes) as (λ (o : Option (Size × ℕ)). (size_at bytes ≡ o) → block_head_of (take count bytes) o ≡ block_head_of bytes o) [
      | None ↦ λ e. refl
      | Some size ↦ λ e. head_behind-take count bytes size.0 size.1 (omega (arith, size_at-len bytes size e))
    ] refl)

head_by_room : (start end room : ℕ) (bytes : List ℕ) → start ≤ end → room ≡ min (end - start) 11 → block_head (take room (drop start bytes)) ≡ block_head (between start end bytes)
head_by_room start end room bytes before is = by_test (nat_le 11 (end - start)) refl
  where
    by_test : (t : Bool) → nat_le 11 (end - start) ≡ t → block_head (take room (drop start bytes)) ≡ block_head (between start end bytes)
    by_test true e =
        let long : 11 ≤ end - start = leb-true _ _ e in
        let eleven : room ≡ 11 = omega arith in
        ap (λ (n : ℕ). block_head (take n (drop start bytes))) eleven ∙ ap block_head (sym (take-take 11 (end - start) (drop start bytes) long)) ∙ block_head-take 11 (take (end - start) (drop start bytes)) (omega arith)
    by_test false e =
        let short : end - start < 11 = leb-false _ _ e in
        let all : room ≡ end - start = omega arith in
        ap (λ (n : ℕ). block_head (take n (drop start bytes))) all

pub block_head-seen : (F : Type 0) (known : Seen) (element : Element) (room : ℕ) (part : List ℕ) (head : Option BlockHead) → element.start ≤ element.end → room ≡ min (element.end - element.start) 11 → Sees known (between element.start (element.start + room)) part → head ≡ block_head part → Answers {F = F} known (answers (block_head_in element)) (Ok head)
unfolding block_head_in
block_head-seen F known element room part head before least sees is =
    answers-is F known (block_head_in element) head
    (Sees-so known (between element.start (element.start + room)) part (block_head_in element) head sees
    (λ bytes e.
    let count : element.start + room - element.start ≡ room = omega arith in
    sym (head_by_room element.start element.end room bytes before least) ∙ ap (λ (n : ℕ). block_head (take n (drop element.start bytes))) (sym count) ∙ ap block_head e ∙ sym is))

-- and ends inside the block
pub block_head-within : (head : Option BlockHead) (start end room : ℕ) (part : List ℕ) → IfSome head (λ h. h.len ≤ length part) → length part ≡ start + room - start → start + room ≤ end → IfSome head (λ h. start + h.len ≤ end)
block_head-within None start end room part high is within = tt
block_head-within (Some head) start end room part high is within = omega arith

pub ruleset block_laws = (block_head-seen, block_head-within)
