-- The laws of the round trip: what a reader sees of the package of a directory, and what the package gives back.
use Rattle.std.specs.Prelude.{◌≡◌, ℕ, ◌≤◌, true, false, List, [], ◌∷◌, ◌++◌, length, map, None, Ok, All, IsUtf8}
use Rattle.std.specs.List.{AllAdjacentBelow}
use Rattle.cook_bits.specs.Names.{File}
use Rattle.matroska_names.specs.declared.texts.TheConstants.{SIDE_NAME}
use Rattle.reversal.specs.SideData.{side_data_of}
use Rattle.reversal.specs.declared.record.FileRecord.{FileRecord}
use Rattle.cook_pack.specs.Offence.{IsInProfile}
use Rattle.cook_pack.specs.Planned.{IsBefore}
use Rattle.cook_pack.specs.Package.{package_of, others_of, records_of}
use Rattle.matroska_read.specs.Outline.{outline_of}
use Rattle.matroska_read.specs.Places.{Attached, Block, Outline}
use Rattle.cook_restore.specs.Meaning.{meaning_of}
use Rattle.matroska_read.specs.declared.tracks.Track.{Track}

-- the names of a directory's files
abbrev pub file_names : List File → List (List ℕ)
file_names directory = map (λ file. file.0) directory

-- What a directory is: its names are texts, and each stands before the next in byte order.
pub record IsDirectory (directory : List File) : Type 0 where
  pub texts : All IsUtf8 (file_names directory)
  pub ascending : AllAdjacentBelow IsBefore (file_names directory) (length (file_names directory))

-- ---- what a reader sees

-- a file that is attached as it is
abbrev pub shown_file : File → Attached
shown_file file = record { name = file.0; side = false; content = file.1 }

-- side data
abbrev pub shown_side : List FileRecord → Attached
shown_side records = record { name = SIDE_NAME.now; side = true; content = side_data_of records }

-- the tracks: none, as long as no file is coded
abbrev pub tracks_shown : List File → ℕ → List Track
tracks_shown directory rate = []

-- the blocks, in the order of their times: none, as long as no file is coded
abbrev pub blocks_shown : List File → ℕ → List Block
blocks_shown directory rate = []

-- the files that are attached as they are, in their order, and then the side data of all
abbrev pub files_shown : List File → List Attached
files_shown directory = map shown_file (others_of directory) ++ shown_side (records_of directory) ∷ []

-- The outline that shows a directory at a rate.
unfoldable pub outline_shown : List File → ℕ → Outline
outline_shown directory rate = record { tracks = tracks_shown directory rate; blocks = blocks_shown directory rate; files = files_shown directory }

-- the package of each directory in the profile shows it
abbrev pub PackageShowsDirectory : Type 0
PackageShowsDirectory =
    (directory : List File) (rate : ℕ) → IsInProfile directory → 1 ≤ rate → rate ≤ 240 → outline_of (package_of directory rate) ≡ Ok (outline_shown directory rate)

-- ---- what it gives back

-- the package of each directory in the profile means all of its files and no fault
abbrev pub PackageMeansDirectory : Type 0
PackageMeansDirectory =
    (directory : List File) (rate : ℕ) → IsDirectory directory → IsInProfile directory → 1 ≤ rate → rate ≤ 240
    → meaning_of (package_of directory rate) ≡ record { files = directory; end = None }
