-- Laws of planned files that are attached one after another.
use Rattle.std.proofs.Common.{◌≡◌, ℕ, suc, ◌+◌, ◌<◌, ◌≤◌, Bool, true, false, ◌&&◌, List, [], ◌∷◌, ◌++◌, length, take, drop, map, filter, All, Contains, IsTrue, get_or, refl, sym, ap, ◌∙◌, subst, arith, append_assoc, append-nil, add-zero}
use Rattle.std.proofs.Math.Seq.{take-length}
use Rattle.std.proofs.lemmas.List.{take_more, map-append, take-append-drop, length-take-le, length-map, get_or-map, get_or_default}
use Rattle.std.proofs.lemmas.Bool.{leb-true}
use Rattle.std.proofs.lemmas.List.Elements.{All-push, Contains-get_or}
use Rattle.md5.specs.Md5.{md5}
use Rattle.cook_bits.specs.Names.{File, full_name, is_relative_name, IsRelativeName}
use Rattle.shelf_core.specs.Reads.{Has}
use Rattle.shelf_core.specs.Told.{Told, IsTold, HasFile, IsApart, content, grown, no_file}
use Rattle.shelf_core.specs.Writes.{Grew, GrewInPart}
use Rattle.shelf_core.specs.declared.shelf.Shelf.{Ghosts}
use Rattle.shelf_core.specs.FileLaws.{grown-nothing, HasFile-with_file, IsApart-with_file, IsTold-with_file}
use Rattle.shelf_core.specs.PieceLaws.{content-while_grown, IsTold-while_grown}
use Rattle.reversal.specs.declared.record.FileRecord.{FileRecord}
use Rattle.reversal.specs.SideData.{IsPlain}
use Rattle.cook_pack.specs.declared.planned_file.PlannedFile.{PlannedFile}
use Rattle.cook_pack.specs.Attaching.{AreAttachable, AreTheRecords, CanAttach, CanAttachFile, IsAttachable, IsTheRecord, file_of, file_on, files_on, planned_files}
use Rattle.matroska_write.specs.Attached.{attached_file}
use Rattle.cook_pack.specs.Planned.{Planned, IsInPlan, no_planned_file}
use Rattle.cook_pack.specs.Package.{attached_from, attachment, others_of, other_record}
use Rattle.cook_pack.proofs.GrowLaws.{GrewInPart-between, GrewInPart-first, GrewInPart-second, Grew-both}

pub short_name : (name : List ℕ) → IsRelativeName name → length name ≤ 1024
unfolding is_relative_name
short_name name relative = leb-true (length name) 1024 (and-first _ _ relative)
  where
    and-first : (a b : Bool) → IsTrue (a && b) → a ≡ true
    and-first true b h = refl
    and-first false b h = h

pub length-planned_files : (told : Told) (plan : Planned) → length (planned_files told plan) ≡ length plan.files
unfolding planned_files
length-planned_files told plan = length-map plan.files (file_of told plan.root)

pub planned_at : (told : Told) (plan : Planned) (k : ℕ) → k < length plan.files → get_or (planned_files told plan) k no_file ≡ file_of told plan.root (get_or plan.files k no_planned_file)
unfolding planned_files
planned_at told plan k inside = get_or-map (file_of told plan.root) plan.files k no_planned_file no_file inside

-- at this stage each file is attached as it is
pub others-all : (files : List File) → others_of files ≡ files
others-all files = each files
  where
    each : (rest : List File) → filter (λ file. true) rest ≡ rest
    each [] = refl
    each (file ∷ rest) = ap (λ others. file ∷ others) (each rest)

-- ---- the shelf while the package grows

same_contents : (told between : Told) (root to added : List ℕ) (files : List PlannedFile) → between ≡ grown told to added → All (λ (file : PlannedFile). IsApart told (full_name root file.name) to) files
    → map (file_of between root) files ≡ map (file_of told root) files
same_contents told between root to added [] is apart = refl
same_contents told between root to added (file ∷ files) is apart =
    let here = content-while_grown told between to (full_name root file.name) added is (apart 0 file (omega arith)) in
    let rest = same_contents told between root to added files is (λ k d h. apart (suc k) d (omega arith)) in
    λ i. (file.name, here i) ∷ rest i

-- the planned files stay
pub planned_files-while_grown : (told between : Told) (plan : Planned) (to added : List ℕ) → between ≡ grown told to added → AreAttachable told plan to → planned_files between plan ≡ planned_files told plan
unfolding planned_files
planned_files-while_grown told between plan to added is ready = same_contents told between plan.root to added plan.files is (λ k d h. (ready.each k d h).apart)

pub files_on-while_grown : {S : Type 0} (g : Ghosts S) (old new : S) (plan : Planned) (to added : List ℕ) → Grew g old new to added → CanAttach g old plan to → files_on g new plan ≡ files_on g old plan
files_on-while_grown g old new plan to added grew ready = planned_files-while_grown _ _ plan to added grew.files ready

still_attachable : (told between : Told) (root to added : List ℕ) (file : PlannedFile) → between ≡ grown told to added → IsAttachable told root to file → IsAttachable between root to file
still_attachable told between root to added file is ready = record {
  short = ready.short;
  small = ready.small;
  there = subst (λ t. HasFile t (full_name root file.name)) (sym is) (HasFile-with_file told to _ _ ready.there);
  apart = subst (λ t. IsApart t (full_name root file.name) to) (sym is) (IsApart-with_file told to _ _ _ ready.apart);
  measured = λ known. ready.measured (IsTold-with_file told to _ (subst IsTold is known)) ∙ ap length (sym (content-while_grown told between to (full_name root file.name) added is ready.apart));
}

-- they can still be attached
pub CanAttach-while_grown : {S : Type 0} (g : Ghosts S) (old new : S) (plan : Planned) (to added : List ℕ) → Grew g old new to added → CanAttach g old plan to → CanAttach g new plan to
CanAttach-while_grown g old new plan to added grew ready = record {
  sound = ready.sound;
  each = λ k d h. still_attachable _ _ plan.root to added (get_or plan.files k d) grew.files (ready.each k d h);
}

-- the planned file at a place is the next to be attached, with that FileUID
pub record IsNext {S : Type 0} (g : Ghosts S) (old new : S) (plan : Planned) (to root : List ℕ) (uid k : ℕ) (file : PlannedFile) : Type 0 where
  pub ready : CanAttachFile g new root to file
  pub planned : IsInPlan plan file.name file.length
  pub inside : k < length (files_on g old plan)
  pub is : file_on g new root file ≡ get_or (files_on g old plan) k no_file
  pub bytes : attachment uid (file_on g new root file) ≡ attachment (k + 1) (get_or (files_on g old plan) k no_file)

pub is_next : {S : Type 0} (g : Ghosts S) (old new : S) (plan : Planned) (to added root : List ℕ) (uid k : ℕ) (files : List PlannedFile) (file : PlannedFile) → Grew g old new to added → CanAttach g old plan to
    → root ≡ plan.root → files ≡ plan.files → uid ≡ k + 1 → k < length files → file ≡ get_or files k file → IsNext g old new plan to root uid k file
is_next g old new plan to added root uid k files file grew ready at_root listed numbered below read =
    let inside : k < length plan.files = omega (arith, ap length listed, below) in
    let here : file ≡ get_or plan.files k file = read ∙ ap (λ l. get_or l k file) listed in
    let is : file_on g new plan.root file ≡ get_or (files_on g old plan) k no_file =
    ap (file_of (g.files new) plan.root) (here ∙ get_or_default plan.files k file no_planned_file inside) ∙ sym (planned_at (g.files new) plan k inside)
    ∙ ap (λ l. get_or l k no_file) (files_on-while_grown g old new plan to added grew ready) in
    let still = (CanAttach-while_grown g old new plan to added grew ready).each k file inside in
    record {
      ready = subst (λ r. IsAttachable (g.files new) r to file) (sym at_root) (subst (IsAttachable (g.files new) plan.root to) (sym here) still);
      planned = record { file = file; listed = subst (Contains plan.files) (sym here) (Contains-get_or plan.files k file inside); named = refl; long = refl };
      inside = omega (arith, length-planned_files (g.files old) plan, inside);
      is = ap (λ r. file_of (g.files new) r file) at_root ∙ is;
      bytes = (λ i. attachment (numbered i) (file_of (g.files new) (at_root i) file)) ∙ ap (attachment (k + 1)) is;
    }

-- ---- their records

-- the record of a file
pub is_record : (told : Told) (root to : List ℕ) (file : PlannedFile) (made : FileRecord) → IsAttachable told root to file → made.name ≡ file.name → IsPlain made → made.length ≡ file.length
    → (IsTold told → made.md5 ≡ md5 (content told (full_name root file.name))) → IsTheRecord told (file_of told root file) made
is_record told root to file made ready named plain long sum = record {
  named = named;
  plain = plain;
  whole = λ known i. record {
    name = named i;
    kind = plain.other i;
    length = (long ∙ ready.measured known) i;
    md5 = sum known i;
    head = plain.no_head i;
    pads = plain.no_pads i;
    tail = plain.no_tail i;
  };
}

pub records-none : (told : Told) (files : List File) → AreTheRecords told (take 0 files) []
records-none told files = record { named = refl; plain = λ k d h. absurd (omega arith); whole = λ known. refl }

pub records-more : (told between : Told) (to added : List ℕ) (files : List File) (file : File) (records : List FileRecord) (made : FileRecord) (k : ℕ) → between ≡ grown told to added → file ≡ get_or files k no_file → k < length files
    → AreTheRecords told (take k files) records → IsTheRecord between file made → AreTheRecords told (take (k + 1) files) (records ++ made ∷ [])
records-more told between to added files file records made k is at inside so_far one =
    let next = take_more files k no_file inside in
    record {
      named = map-append name_of records (made ∷ []) ∙ (λ i. so_far.named i ++ (one.named ∙ ap first at) i ∷ []) ∙ sym (map-append first (take k files) (get_or files k no_file ∷ [])) ∙ ap (map first) (sym next);
      plain = All-push IsPlain records made so_far.plain one.plain;
      whole = λ known. (λ i. so_far.whole known i ++ (one.whole (IsTold-while_grown told between to added is known) ∙ ap other_record at) i ∷ []) ∙ sym (map-append other_record (take k files) (get_or files k no_file ∷ [])) ∙ ap (map other_record) (sym next);
    }
  where
    name_of : FileRecord → List ℕ
    name_of r = r.name

    first : File → List ℕ
    first file = file.0

-- ---- one after another

shifted : (uid n : ℕ) → (uid + 1) + n ≡ uid + suc n
shifted uid n = omega arith

-- a file more at the end
attached_from-push : (uid : ℕ) (files : List File) (file : File) → attached_from uid (files ++ file ∷ []) ≡ attached_from uid files ++ attached_file file.0 false (uid + length files) file.1
unfolding attached_from
attached_from-push uid [] file = append-nil _ ∙ ap (λ n. attached_file file.0 false n file.1) (sym (add-zero uid))
attached_from-push uid (first ∷ files) file =
    ap (λ rest. attached_file first.0 false uid first.1 ++ rest) (attached_from-push (uid + 1) files file ∙ ap (λ n. attached_from (uid + 1) files ++ attached_file file.0 false n file.1) (shifted uid (length files)))
    ∙ sym (append_assoc (attached_file first.0 false uid first.1) (attached_from (uid + 1) files) (attached_file file.0 false (uid + suc (length files)) file.1))

attached_from-append : (uid : ℕ) (files others : List File) → attached_from uid (files ++ others) ≡ attached_from uid files ++ attached_from (uid + length files) others
unfolding attached_from
attached_from-append uid [] others = ap (λ n. attached_from n others) (sym (add-zero uid))
attached_from-append uid (first ∷ files) others =
    ap (λ rest. attached_file first.0 false uid first.1 ++ rest) (attached_from-append (uid + 1) files others ∙ ap (λ n. attached_from (uid + 1) files ++ attached_from n others) (shifted uid (length files)))
    ∙ sym (append_assoc (attached_file first.0 false uid first.1) (attached_from (uid + 1) files) (attached_from (uid + suc (length files)) others))

-- the attachments so far and one more are the next
pub attached-more : (files : List File) (k : ℕ) → k < length files → attached_from 1 (take k files) ++ attachment (k + 1) (get_or files k no_file) ≡ attached_from 1 (take (k + 1) files)
attached-more files k inside =
    ap (λ n. attached_from 1 (take k files) ++ attachment n (get_or files k no_file)) numbered
    ∙ sym (attached_from-push 1 (take k files) (get_or files k no_file)) ∙ ap (attached_from 1) (sym (take_more files k no_file inside))
  where
    numbered : k + 1 ≡ 1 + length (take k files)
    numbered = omega (arith, length-take-le k files (omega arith))

attached-split : (files : List File) (k : ℕ) → attached_from 1 (take k files) ++ attached_from (1 + length (take k files)) (drop k files) ≡ attached_from 1 files
attached-split files k = sym (attached_from-append 1 (take k files) (drop k files)) ∙ ap (attached_from 1) (take-append-drop k files)

-- none so far
pub attached-none : {S : Type 0} (g : Ghosts S) (shelf : S) (to : List ℕ) → Has g shelf to → Grew g shelf shelf to (attached_from 1 [])
unfolding attached_from
attached-none g shelf to there = record { files = sym (grown-nothing (g.files shelf) to there); unsealed = refl; faults = omega arith; starved = omega arith }

-- the attachments so far, and the next
with_next : (files : List File) (k : ℕ) (bytes : List ℕ) → bytes ≡ attachment (k + 1) (get_or files k no_file) → k < length files → attached_from 1 (take k files) ++ bytes ≡ attached_from 1 (take (k + 1) files)
with_next files k bytes is inside = ap (λ b. attached_from 1 (take k files) ++ b) is ∙ attached-more files k inside

pub attached-next : {S : Type 0} (g : Ghosts S) (old between new : S) (to : List ℕ) (files : List File) (k : ℕ) (bytes : List ℕ) → Grew g old between to (attached_from 1 (take k files)) → bytes ≡ attachment (k + 1) (get_or files k no_file) → k < length files
    → Grew g between new to bytes → Grew g old new to (attached_from 1 (take (k + 1) files))
attached-next g old between new to files k bytes so_far is inside added = Grew-both g old between new to _ _ _ so_far added (λ known. with_next files k bytes is inside)

-- it stopped inside one more
pub attached-stopped : {S : Type 0} (g : Ghosts S) (old between new : S) (to : List ℕ) (files : List File) (k : ℕ) (bytes : List ℕ) → Grew g old between to (attached_from 1 (take k files)) → bytes ≡ attachment (k + 1) (get_or files k no_file) → k < length files
    → GrewInPart g between new to bytes → GrewInPart g old new to (attached_from 1 (others_of files))
attached-stopped g old between new to files k bytes so_far is inside part =
    subst (λ l. GrewInPart g old new to (attached_from 1 l)) (sym (others-all files)) (GrewInPart-first g old new to _ _ _ (λ known. attached-split files (k + 1)) (GrewInPart-second g old between new to _ _ _ so_far (λ known. with_next files k bytes is inside) part))

-- it stopped between two
pub attached-front : {S : Type 0} (g : Ghosts S) (old new : S) (to : List ℕ) (files : List File) (k : ℕ) → Grew g old new to (attached_from 1 (take k files)) → GrewInPart g old new to (attached_from 1 (others_of files))
attached-front g old new to files k so_far = subst (λ l. GrewInPart g old new to (attached_from 1 l)) (sym (others-all files)) (GrewInPart-between g old new to _ _ _ so_far (λ known. attached-split files k))

-- all of them
pub attached-all : {S : Type 0} (g : Ghosts S) (old new : S) (to : List ℕ) (files : List File) (k : ℕ) → Grew g old new to (attached_from 1 (take k files)) → k ≡ length files → Grew g old new to (attached_from 1 (others_of files))
attached-all g old new to files k so_far all =
    subst (λ bytes. Grew g old new to bytes) (ap (λ n. attached_from 1 (take n files)) all ∙ ap (attached_from 1) (take-length files ∙ sym (others-all files))) so_far

pub records-all : (told : Told) (files : List File) (records : List FileRecord) (k : ℕ) → AreTheRecords told (take k files) records → k ≡ length files → AreTheRecords told (others_of files) records
records-all told files records k so_far all = subst (λ l. AreTheRecords told l records) (ap (λ n. take n files) all ∙ take-length files ∙ sym (others-all files)) so_far
