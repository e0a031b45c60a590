-- Laws of a plan that fits: its files are the directory, and can be attached to a package whose name was free.
use Rattle.std.proofs.Common.{◌≡◌, ℕ, ◌+◌, ◌<◌, true, List, [], ◌∷◌, length, map, All, get_or, refl, sym, ap, ◌∙◌, subst, arith, length-append}
use Rattle.std.proofs.lemmas.List.{ext_get_or, get_or-map, get_or_default, length-map}
use Rattle.std.proofs.lemmas.List.Elements.{All-map}
use Rattle.matroska_names.specs.declared.texts.TheConstants.{SIDE_NAME}
use Rattle.md5.proofs.StandardFacts.{length-md5}
use Rattle.cook_bits.specs.Names.{File, full_name}
use Rattle.shelf_core.specs.Reads.{Tells}
use Rattle.shelf_core.specs.Told.{Told, IsTold, HasFile, IsFree, IsApart, content, length_of, no_file, under, with_file}
use Rattle.shelf_core.specs.Writes.{Created, Grew, GrewInPart}
use Rattle.shelf_core.specs.declared.shelf.Shelf.{Ghosts}
use Rattle.shelf_core.specs.FileLaws.{HasFile-with_file, HasFile-length_of, IsApart-with_file, IsApart-there, IsTold-with_file, IsTold-stays, content-apart}
use Rattle.shelf_core.specs.PieceLaws.{grown-if_told, GrewPartly-if_told}
use Rattle.shelf_core.proofs.UnderLaws.{content-under, length_of-under}
use Rattle.reversal.specs.declared.record.FileRecord.{FileRecord}
use Rattle.reversal.specs.SideData.{HasSum, IsOther, names_of, side_data_len, side_data_of}
use Rattle.reversal.specs.Lengths.{length_of_others}
use Rattle.cook_pack.specs.Attaching.{AreAttachable, CanAttach, IsAttachable, files_on, planned_files}
use Rattle.cook_pack.specs.declared.packing.PackSum.{PackSum}
use Rattle.cook_pack.specs.declared.planned_file.PlannedFile.{PlannedFile}
use Rattle.cook_pack.specs.Lengths.{attached_len, attachments_len, others_len, others_planned}
use Rattle.cook_pack.specs.Package.{attached_from, attachments_of, others_of, package_of, record_of, records_of, side_attached}
use Rattle.cook_pack.specs.Planned.{Planned, IsSound, Fits, FitsShelf, directory_of, names_planned, no_planned_file, planned_file}
use Rattle.cook_pack.specs.Sum.{IsSumOf}
use Rattle.matroska_write.specs.AttachedLaws.{length-attached_file}
use Rattle.cook_pack.proofs.LengthLaws.{others_len-is, others_planned-all, short_at, small_at}
use Rattle.cook_pack.proofs.PlannedLaws.{planned_at, length-planned_files, others-all}
use Rattle.cook_pack.proofs.PackLaws.{names-planned}

-- the file at a place is what the plan keeps of the one there
file-fits : (told : Told) (plan : Planned) (k : ℕ) (d : PlannedFile) → Fits told plan → k < length plan.files → get_or plan.files k d ≡ planned_file (get_or (under told plan.root) k no_file)
file-fits told plan k d fits inside =
    ap (λ l. get_or l k d) fits.files ∙ get_or-map planned_file (under told plan.root) k no_file d (omega (arith, ap length fits.files, length-map (under told plan.root) planned_file))

long-fits : (told : Told) (plan : Planned) → Fits told plan → length plan.files ≡ length (under told plan.root)
long-fits told plan fits = ap length fits.files ∙ length-map (under told plan.root) planned_file

full_of : List ℕ → PlannedFile → List ℕ
full_of root file = full_name root file.name

-- each planned file is there
there-fits : (told : Told) (plan : Planned) → (IsTold told → Fits told plan) → (k : ℕ) (d : PlannedFile) → k < length plan.files → HasFile told (full_name plan.root (get_or plan.files k d).name)
unfolding full_of
there-fits told plan fits k d inside = HasFile-length_of told _ (length (get_or (under told plan.root) k no_file).1) (λ known.
    sym (ap (λ (f : PlannedFile). length_of told (full_of plan.root f)) (file-fits told plan k d (fits known) inside) ∙ length_of-under told plan.root k (omega (arith, long-fits told plan (fits known)))))

apart-fits : (told : Told) (plan : Planned) (pkg : List ℕ) → (IsTold told → Fits told plan) → IsFree told pkg → (k : ℕ) (d : PlannedFile) → k < length plan.files → IsApart told (full_name plan.root (get_or plan.files k d).name) pkg
apart-fits told plan pkg fits free k d inside = IsApart-there told pkg _ (there-fits told plan fits k d inside) free

-- its content is the one there, also once the package was made
content-fits : (told : Told) (plan : Planned) (pkg bytes : List ℕ) → Fits told plan → IsFree told pkg → (k : ℕ) (d : PlannedFile) → k < length plan.files
    → content (with_file told pkg bytes) (full_name plan.root (get_or plan.files k d).name) ≡ (get_or (under told plan.root) k no_file).1
unfolding full_of
content-fits told plan pkg bytes fits free k d inside =
    content-apart told pkg bytes _ (apart-fits told plan pkg (λ _. fits) free k d inside) ∙ ap (λ (f : PlannedFile). content told (full_of plan.root f)) (file-fits told plan k d fits inside)
    ∙ content-under told plan.root k (omega (arith, long-fits told plan fits))

-- the planned files are the directory, also once the package was made
pub files-fit : (told : Told) (plan : Planned) (pkg bytes : List ℕ) → IsTold told → Fits told plan → IsFree told pkg → planned_files (with_file told pkg bytes) plan ≡ under told plan.root
files-fit told plan pkg bytes known fits free = ext_get_or no_file _ _ (length-planned_files (with_file told pkg bytes) plan ∙ long-fits told plan fits) at
  where
    at : (k : ℕ) → k < length (planned_files (with_file told pkg bytes) plan) → get_or (planned_files (with_file told pkg bytes) plan) k no_file ≡ get_or (under told plan.root) k no_file
    at k h =
        let inside : k < length plan.files = omega (arith, length-planned_files (with_file told pkg bytes) plan) in
        let named = ap (λ (f : PlannedFile). f.name) (file-fits told plan k no_planned_file fits inside) in
        let whole = content-fits told plan pkg bytes fits free k no_planned_file inside in
        planned_at (with_file told pkg bytes) plan k inside ∙ (λ i. (named i, whole i))

-- they can be attached
attachable : (told : Told) (plan : Planned) (pkg : List ℕ) → IsSound plan → (IsTold told → Fits told plan) → IsFree told pkg → (k : ℕ) (d : PlannedFile) → k < length plan.files → IsAttachable (with_file told pkg []) plan.root pkg (get_or plan.files k d)
attachable told plan pkg sound fits free k d inside =
    let itself = get_or_default plan.files k d (get_or plan.files k d) inside in
    record {
      short = short_at plan k (get_or plan.files k d) sound inside itself;
      small = small_at plan k (get_or plan.files k d) sound inside itself;
      there = HasFile-with_file told pkg [] _ (there-fits told plan fits k d inside);
      apart = IsApart-with_file told pkg [] _ pkg (apart-fits told plan pkg fits free k d inside);
      measured = λ known.
          let fit = fits (IsTold-with_file told pkg [] known) in
          ap (λ (f : PlannedFile). f.length) (file-fits told plan k d fit inside) ∙ ap length (sym (content-fits told plan pkg [] fit free k d inside));
    }

pub can_attach : {S : Type 0} (g : Ghosts S) (old created : S) (plan : Planned) (pkg : List ℕ) → Created g old created pkg → IsSound plan → FitsShelf g old plan → CanAttach g created plan pkg
can_attach g old created plan pkg is sound fits =
    subst (λ t. AreAttachable t plan pkg) (sym is.files) (record { sound = sound; each = λ k d h. attachable (g.files old) plan pkg sound fits is.free k d h })

-- ---- the length of the attachments

sums : (directory files : List File) → All HasSum (map (record_of directory) files)
sums directory files = All-map HasSum (record_of directory) files (λ k d h. length-md5 _)

others : (directory files : List File) → All IsOther (map (record_of directory) files)
others directory files = All-map IsOther (record_of directory) files (λ k d h. refl)

length-side_attached : (uid : ℕ) (records : List FileRecord) → All IsOther records → All HasSum records → length (side_attached uid records) ≡ attached_len SIDE_NAME.now true uid (side_data_len (names_of records))
length-side_attached uid records all summed =
    length-attached_file SIDE_NAME.now true uid (side_data_of records) ∙ ap (attached_len SIDE_NAME.now true uid) (length_of_others records all summed)

names-recorded : (directory files : List File) → names_of (map (record_of directory) files) ≡ map (λ file. file.0) files
names-recorded directory [] = refl
names-recorded directory (file ∷ files) = ap (λ rest. file.0 ∷ rest) (names-recorded directory files)

side-is : (told : Told) (plan : Planned) → attached_len SIDE_NAME.now true (length (others_planned plan.files) + 1) (side_data_len (names_planned plan.files))
    ≡ length (side_attached (length (others_of (planned_files told plan)) + 1) (records_of (planned_files told plan)))
side-is told plan =
    let files = planned_files told plan in
    let count : length (others_planned plan.files) ≡ length (others_of files) = ap length (others_planned-all plan.files) ∙ sym (length-planned_files told plan) ∙ ap length (sym (others-all files)) in
    let names : names_planned plan.files ≡ names_of (records_of files) = sym (names-recorded files files ∙ names-planned told plan) in
    (λ i. attached_len SIDE_NAME.now true (count i + 1) (side_data_len (names i))) ∙ sym (length-side_attached (length (others_of files) + 1) (records_of files) (others files files) (sums files files))

pub content-is : (told : Told) (plan : Planned) (to : List ℕ) → AreAttachable told plan to → IsTold told → attachments_len plan ≡ length (attachments_of (planned_files told plan))
unfolding attachments_of
content-is told plan to ready known =
    let files = planned_files told plan in
    let others : others_len 1 (others_planned plan.files) ≡ length (attached_from 1 (others_of files)) =
    ap (others_len 1) (others_planned-all plan.files) ∙ others_len-is told plan to ready known ∙ ap (λ l. length (attached_from 1 l)) (sym (others-all files)) in
    (λ i. others i + side-is told plan i) ∙ sym (length-append (attached_from 1 (others_of files)) (side_attached (length (others_of files) + 1) (records_of files)))

-- ---- the package of the planned files is that of the directory

package-fits : {S : Type 0} (g : Ghosts S) (old created : S) (plan : Planned) (pkg : List ℕ) (rate : ℕ) → Created g old created pkg → FitsShelf g old plan → Tells g old
    → package_of (files_on g created plan) rate ≡ package_of (directory_of g old plan.root) rate
package-fits g old created plan pkg rate is fits known =
    ap (λ t. package_of (planned_files t plan) rate) is.files ∙ ap (λ l. package_of l rate) (files-fit (g.files old) plan pkg [] known (fits known) is.free)

pub Tells-created : {S : Type 0} (g : Ghosts S) (old created : S) (pkg : List ℕ) → Created g old created pkg → Tells g old → Tells g created
Tells-created g old created pkg is known = subst IsTold (sym is.files) (IsTold-stays (g.files old) pkg [] known)

Tells-creating : {S : Type 0} (g : Ghosts S) (old created : S) (pkg : List ℕ) → Created g old created pkg → Tells g created → Tells g old
Tells-creating g old created pkg is known = IsTold-with_file (g.files old) pkg [] (subst IsTold is.files known)

-- what was written of it was written of that of the directory
pub part-fits : {S : Type 0} (g : Ghosts S) (old created new : S) (plan : Planned) (pkg : List ℕ) (rate : ℕ) → Created g old created pkg → FitsShelf g old plan
    → GrewInPart g created new pkg (package_of (files_on g created plan) rate) → GrewInPart g created new pkg (package_of (directory_of g old plan.root) rate)
part-fits g old created new plan pkg rate is fits part = record {
  files = GrewPartly-if_told _ _ pkg _ _ (λ known. package-fits g old created plan pkg rate is fits (Tells-creating g old created pkg is known)) part.files;
  unsealed = part.unsealed;
  faults = part.faults;
  starved = part.starved;
}

pub whole-fits : {S : Type 0} (g : Ghosts S) (old created new : S) (plan : Planned) (pkg : List ℕ) (rate : ℕ) → Created g old created pkg → FitsShelf g old plan
    → Grew g created new pkg (package_of (files_on g created plan) rate) → Grew g created new pkg (package_of (directory_of g old plan.root) rate)
whole-fits g old created new plan pkg rate is fits grew = record {
  files = grew.files ∙ grown-if_told (g.files created) pkg _ _ (λ known. package-fits g old created plan pkg rate is fits (Tells-creating g old created pkg is known));
  unsealed = grew.unsealed;
  faults = grew.faults;
  starved = grew.starved;
}

pub sum-fits : {S : Type 0} (g : Ghosts S) (old created : S) (plan : Planned) (pkg : List ℕ) (rate : ℕ) (sum : PackSum) → Created g old created pkg → FitsShelf g old plan → Tells g old
    → sum.files ≡ length plan.files → sum.tracks ≡ 0 → sum.blocks ≡ 0 → (Tells g created → sum.bytes ≡ length (package_of (files_on g created plan) rate)) → IsSumOf (directory_of g old plan.root) rate sum
sum-fits g old created plan pkg rate sum is fits known files tracks blocks bytes = record {
  files = files ∙ long-fits (g.files old) plan (fits known);
  tracks = tracks;
  blocks = blocks;
  bytes = bytes (Tells-created g old created pkg is known) ∙ ap length (package-fits g old created plan pkg rate is fits known);
}
