-- Laws of an attachment that is appended in two pieces.
use Rattle.std.proofs.Common.{◌≡◌, ℕ, Bool, List, ◌++◌, ◌≤◌, length, arith, sym, ap, ◌∙◌}
use Rattle.shelf_core.specs.Reads.{Tells}
use Rattle.shelf_core.specs.Told.{Told, IsTold, content, grown, GrewPartly, IsApart}
use Rattle.shelf_core.specs.declared.shelf.Shelf.{Ghosts}
use Rattle.shelf_core.specs.PieceLaws.{grown-if_told, grown-both, GrewPartly-first, GrewPartly-second, content-while_grown, IsTold-while_grown}
use Rattle.shelf_parts.specs.Parts.{part_of}
use Rattle.shelf_parts.specs.PartLaws.{part-whole}
use Rattle.md5.specs.Md5.{md5}
use Rattle.cook_pack.specs.Planned.{Planned}
use Rattle.cook_pack.specs.Stops.{StopsFor}
use Rattle.cook_pack.specs.declared.error.PackError.{PackError}
use Rattle.cook_pack.specs.declared.error.PackError.TheVariants.{Refused, InTheWay, Changed, Missing, Failed, NoMemory}
use Rattle.matroska_write.specs.Attached.{attached_head, attached_file}
use Rattle.matroska_write.specs.AttachedLaws.{attached_file-is}

pub attached-whole : (told : Told) (name from : List ℕ) (side : Bool) (uid len : ℕ) → (IsTold told → len ≡ length (content told from)) → IsTold told
    → attached_head name side uid len ++ content told from ≡ attached_file name side uid (content told from)
attached-whole told name from side uid len measured known =
    ap (λ n. attached_head name side uid n ++ content told from) (measured known) ∙ sym (attached_file-is name side uid (content told from))

-- it stopped inside the head
pub stopped_in_head : (told after : Told) (to name from head : List ℕ) (side : Bool) (uid len : ℕ) → (IsTold told → len ≡ length (content told from)) → head ≡ attached_head name side uid len
    → GrewPartly told to head after → GrewPartly told to (attached_file name side uid (content told from)) after
stopped_in_head told after to name from head side uid len measured is part =
    GrewPartly-first told after to _ head (content told from) (λ known. ap (λ b. b ++ content told from) is ∙ attached-whole told name from side uid len measured known) part

-- the file as a part, after the head was appended
part_after_head : (told between : Told) (to from head : List ℕ) (len : ℕ) → between ≡ grown told to head → IsApart told from to → (IsTold told → len ≡ length (content told from)) → part_of 0 len (content between from) ≡ content told from
part_after_head told between to from head len first apart measured = ap (part_of 0 len) (content-while_grown told between to from head first apart) ∙ part-whole told from len measured

head_and_part : (told between : Told) (to name from head : List ℕ) (side : Bool) (uid len : ℕ) → (IsTold told → len ≡ length (content told from)) → IsApart told from to
    → head ≡ attached_head name side uid len → between ≡ grown told to head → IsTold told → head ++ part_of 0 len (content between from) ≡ attached_file name side uid (content told from)
head_and_part told between to name from head side uid len measured apart is first known =
    ap (λ b. b ++ part_of 0 len (content between from)) is ∙ ap (λ b. attached_head name side uid len ++ b) (part_after_head told between to from head len first apart measured) ∙ attached-whole told name from side uid len measured known

-- both were appended
pub attached_both : (told between after : Told) (to name from head : List ℕ) (side : Bool) (uid len : ℕ) → (IsTold told → len ≡ length (content told from)) → IsApart told from to
    → head ≡ attached_head name side uid len → between ≡ grown told to head → after ≡ grown between to (part_of 0 len (content between from)) → after ≡ grown told to (attached_file name side uid (content told from))
attached_both told between after to name from head side uid len measured apart is first second =
    grown-both told between after to (attached_file name side uid (content told from)) head (part_of 0 len (content between from)) first second (head_and_part told between to name from head side uid len measured apart is first)

-- and the sum is the file's
pub sum_of_attached : (told between : Told) (to from head sum : List ℕ) (len : ℕ) → (IsTold told → len ≡ length (content told from)) → IsApart told from to → between ≡ grown told to head
    → (IsTold between → sum ≡ md5 (part_of 0 len (content between from))) → IsTold told → sum ≡ md5 (content told from)
sum_of_attached told between to from head sum len measured apart first is known =
    is (IsTold-while_grown told between to head first known) ∙ ap md5 (part_after_head told between to from head len first apart measured)

-- it stopped inside the content
pub stopped_in_content : (told between after : Told) (to name from head : List ℕ) (side : Bool) (uid len : ℕ) → (IsTold told → len ≡ length (content told from)) → IsApart told from to
    → head ≡ attached_head name side uid len → between ≡ grown told to head → GrewPartly between to (part_of 0 len (content between from)) after → GrewPartly told to (attached_file name side uid (content told from)) after
stopped_in_content told between after to name from head side uid len measured apart is first part =
    GrewPartly-second told between after to _ head (part_of 0 len (content between from)) first (head_and_part told between to name from head side uid len measured apart is first) part

-- what stops a later call stops the whole
pub StopsFor-later : {S : Type 0} (g : Ghosts S) (old between new : S) (plan : Planned) (error : PackError) → (Tells g old → Tells g between) → g.faults old ≤ g.faults between → StopsFor g between new plan error → StopsFor g old new plan error
StopsFor-later g old between new plan (Changed name was now) known fell why = record { untold = λ k. why.untold (known k); planned = why.planned; fewer = why.fewer }
StopsFor-later g old between new plan Failed known fell why = omega arith
StopsFor-later g old between new plan NoMemory known fell why = tt
StopsFor-later g old between new plan (Refused name reason) known fell why = why
StopsFor-later g old between new plan (InTheWay name) known fell why = why
StopsFor-later g old between new plan (Missing name) known fell why = why

pub ruleset attach_laws = (attached_file-is, grown-if_told)
