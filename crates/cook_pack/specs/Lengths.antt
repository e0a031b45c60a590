-- How long the attachments of a package are, by the plan alone (RFC 9559, section 5.1.6).
use Rattle.std.specs.Prelude.{ℕ, ◌+◌, Bool, true, false, List, [], ◌∷◌, length, filter}
use Rattle.reversal.specs.SideData.{side_data_len}
use Rattle.matroska_names.specs.declared.texts.TheConstants.{SIDE_NAME}
use Rattle.cook_pack.specs.declared.planned_file.PlannedFile.{PlannedFile}
use Rattle.cook_pack.specs.declared.planned_file.PlannedKind.{PlannedKind}
use Rattle.cook_pack.specs.declared.planned_file.PlannedKind.TheVariants.{Other}
use Rattle.cook_pack.specs.Planned.{Planned, names_planned}
use Rattle.matroska_write.specs.Attached.{attached_head}

-- a file that is attached as it is
abbrev pub is_attached : PlannedKind → Bool
is_attached Other = true

-- the planned files that are attached as they are
abbrev pub others_planned : List PlannedFile → List PlannedFile
others_planned files = filter (λ (file : PlannedFile). is_attached file.kind) files

-- the bytes of an attached file, its head and its content
abbrev pub attached_len : List ℕ → Bool → ℕ → ℕ → ℕ
attached_len name side uid len = length (attached_head name side uid len) + len

-- the bytes of planned files as attachments, numbered from a first FileUID on
unfoldable pub others_len : ℕ → List PlannedFile → ℕ
others_len uid [] = 0
others_len uid (file ∷ files) = attached_len file.name false uid file.length + others_len (uid + 1) files

-- the bytes of the side data as an attachment, numbered behind the others
abbrev pub side_attached_len : List PlannedFile → ℕ
side_attached_len files = attached_len SIDE_NAME.now true (length (others_planned files) + 1) (side_data_len (names_planned files))

-- the bytes of all attachments of a plan
abbrev pub attachments_len : Planned → ℕ
attachments_len plan = others_len 1 (others_planned plan.files) + side_attached_len plan.files
