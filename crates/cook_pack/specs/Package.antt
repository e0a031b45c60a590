-- The package of a directory: the header, the tracks, a Cluster for each block, then the files that are attached as they are, in name
-- order, and the side data. At this stage each file is attached, and there are no tracks and no blocks.
use Rattle.std.specs.Prelude.{◌≡◌, ℕ, ◌+◌, ◌≤◌, Bool, false, true, List, [], ◌∷◌, ◌++◌, length, map, filter, take}
use Rattle.md5.specs.Md5.{md5}
use Rattle.ebml_core.specs.Element.{element}
use Rattle.cook_bits.specs.Names.{File}
use Rattle.matroska_names.specs.declared.ids.TheConstants.{ATTACHMENTS}
use Rattle.matroska_names.specs.declared.texts.TheConstants.{SIDE_NAME}
use Rattle.reversal.specs.declared.record.FileRecord.{FileRecord}
use Rattle.reversal.specs.declared.record.Kind.{Kind}
use Rattle.reversal.specs.declared.record.Kind.TheVariants.{Other, Frame, Wave}
use Rattle.reversal.specs.SideData.{side_data_of}
use Rattle.matroska_write.specs.Attached.{attached_file}
use Rattle.matroska_write.specs.Header.{header_bytes}

-- ---- kinds

-- what a file of a directory is to the package, by its name
abbrev pub kind_of : List File → List ℕ → Kind
kind_of directory name = Other

-- a file that is attached as it is
abbrev pub is_other : Kind → Bool
is_other Other = true
is_other (Frame track index) = false
is_other (Wave track) = false

-- the files of a directory that are attached as they are
abbrev pub others_of : List File → List File
others_of directory = filter (λ (file : File). is_other (kind_of directory file.0)) directory

-- what the side data says of a file that is attached as it is
abbrev pub other_record : File → FileRecord
other_record file = record { name = file.0; kind = Other; length = length file.1; md5 = md5 file.1; head = []; pads = []; tail = [] }

-- what it says of a file of a directory
abbrev pub record_of : List File → File → FileRecord
record_of directory file = record { name = file.0; kind = kind_of directory file.0; length = length file.1; md5 = md5 file.1; head = []; pads = []; tail = [] }

-- of each file
abbrev pub records_of : List File → List FileRecord
records_of directory = map (record_of directory) directory

-- ---- the parts

-- a file as an attachment
abbrev pub attachment : ℕ → File → List ℕ
attachment uid file = attached_file file.0 false uid file.1

-- files one after another as attachments, numbered from a first FileUID on
unfoldable pub attached_from : ℕ → List File → List ℕ
attached_from uid [] = []
attached_from uid (file ∷ files) = attachment uid file ++ attached_from (uid + 1) files

-- the side data of records as an attachment
abbrev pub side_attached : ℕ → List FileRecord → List ℕ
side_attached uid records = attached_file SIDE_NAME.now true uid (side_data_of records)

-- the other files in name order, then the side data, numbered behind them
unfoldable pub attachments_of : List File → List ℕ
attachments_of directory = attached_from 1 (others_of directory) ++ side_attached (length (others_of directory) + 1) (records_of directory)

-- the Attachments element
unfoldable pub attachments_bytes : List File → List ℕ
attachments_bytes directory = element ATTACHMENTS (attachments_of directory)

-- the Tracks element: none, as long as no file is coded
abbrev pub tracks_bytes : List File → ℕ → List ℕ
tracks_bytes directory rate = []

-- the Clusters, one for each block, in the order of their times: none, as long as no file is coded
abbrev pub clusters_bytes : List File → ℕ → List ℕ
clusters_bytes directory rate = []

-- ---- the package

-- the package of a directory at a rate of frames a second, which only film shows
unfoldable pub package_of : List File → ℕ → List ℕ
package_of directory rate = header_bytes ++ (tracks_bytes directory rate ++ (clusters_bytes directory rate ++ attachments_bytes directory))

-- what a stopped pack leaves in the package: a front of it
pub record IsLeaving (directory : List File) (rate : ℕ) (left : List ℕ) : Type 0 where
  pub count : ℕ
  pub within : count ≤ length (package_of directory rate)
  pub is : left ≡ take count (package_of directory rate)
