-- Planned files with their contents, when they can be attached to a package that is being written, and their records.
use Rattle.std.specs.Prelude.{◌≡◌, ℕ, ◌^◌, ◌≤◌, false, List, length, map, All}
use Rattle.cook_bits.specs.Names.{File, full_name}
use Rattle.reversal.specs.declared.record.FileRecord.{FileRecord}
use Rattle.reversal.specs.SideData.{IsPlain, names_of}
use Rattle.shelf_core.specs.Reads.{bytes_of}
use Rattle.shelf_core.specs.Told.{Told, IsTold, HasFile, IsApart, content}
use Rattle.shelf_core.specs.declared.shelf.Shelf.{Ghosts}
use Rattle.cook_pack.specs.declared.planned_file.PlannedFile.{PlannedFile}
use Rattle.cook_pack.specs.Package.{attached_from, attachments_bytes, attachments_of, other_record, others_of, package_of}
use Rattle.matroska_write.specs.Attached.{attached_file}
use Rattle.cook_pack.specs.Planned.{Planned, IsSound}

-- ---- contents

-- a planned file with the content that is told
abbrev pub file_of : Told → List ℕ → PlannedFile → File
file_of told root file = (file.name, content told (full_name root file.name))

-- the files of a plan with their contents
unfoldable pub planned_files : Told → Planned → List File
planned_files told plan = map (file_of told plan.root) plan.files

-- as a shelf tells them
abbrev pub file_on : {S : Type 0} → Ghosts S → S → List ℕ → PlannedFile → File
file_on g shelf root file = file_of (g.files shelf) root file

abbrev pub files_on : {S : Type 0} → Ghosts S → S → Planned → List File
files_on g shelf plan = planned_files (g.files shelf) plan

-- a file as an attachment of this name and number
abbrev pub attached_on : {S : Type 0} → Ghosts S → S → List ℕ → List ℕ → ℕ → List ℕ
attached_on g shelf from name uid = attached_file name false uid (bytes_of g shelf from)

-- the other files of a plan as attachments
abbrev pub others_on : {S : Type 0} → Ghosts S → S → Planned → List ℕ
others_on g shelf plan = attached_from 1 (others_of (files_on g shelf plan))

-- all attachments, and the element of them
abbrev pub attachments_on : {S : Type 0} → Ghosts S → S → Planned → List ℕ
attachments_on g shelf plan = attachments_of (files_on g shelf plan)

abbrev pub attachments_bytes_on : {S : Type 0} → Ghosts S → S → Planned → List ℕ
attachments_bytes_on g shelf plan = attachments_bytes (files_on g shelf plan)

-- the package
abbrev pub package_on : {S : Type 0} → Ghosts S → S → Planned → ℕ → List ℕ
package_on g shelf plan rate = package_of (files_on g shelf plan) rate

-- ---- what can be attached

-- A planned file can be attached to a package: it is there beside it, and where it is told, has the length that was asked before.
pub record IsAttachable (told : Told) (root to : List ℕ) (file : PlannedFile) : Type 0 where
  pub short : length file.name ≤ 1024
  pub small : file.length ≤ 2 ^ 50
  pub there : HasFile told (full_name root file.name)
  pub apart : IsApart told (full_name root file.name) to
  pub measured : IsTold told → file.length ≡ length (content told (full_name root file.name))

-- each file of a plan can
pub record AreAttachable (told : Told) (plan : Planned) (to : List ℕ) : Type 0 where
  pub sound : IsSound plan
  pub each : All (IsAttachable told plan.root to) plan.files

abbrev pub CanAttachFile : {S : Type 0} → Ghosts S → S → List ℕ → List ℕ → PlannedFile → Type 0
CanAttachFile g shelf root to file = IsAttachable (g.files shelf) root to file

abbrev pub CanAttach : {S : Type 0} → Ghosts S → S → Planned → List ℕ → Type 0
CanAttach g shelf plan to = AreAttachable (g.files shelf) plan to

-- ---- records

-- the record of a file, and where it is told, with the sum of its content
pub record IsTheRecord (told : Told) (file : File) (made : FileRecord) : Type 0 where
  pub named : made.name ≡ file.0
  pub plain : IsPlain made
  pub whole : IsTold told → made ≡ other_record file

-- the records of files in their order
pub record AreTheRecords (told : Told) (files : List File) (records : List FileRecord) : Type 0 where
  pub named : names_of records ≡ map (λ file. file.0) files
  pub plain : All IsPlain records
  pub whole : IsTold told → records ≡ map other_record files

abbrev pub IsRecordOf : {S : Type 0} → Ghosts S → S → File → FileRecord → Type 0
IsRecordOf g shelf file made = IsTheRecord (g.files shelf) file made

abbrev pub AreRecordsOf : {S : Type 0} → Ghosts S → S → List File → List FileRecord → Type 0
AreRecordsOf g shelf files records = AreTheRecords (g.files shelf) files records
