-- What a package holds, as three lists: by the places of its bytes, which is what a reader keeps, and by its values, which
-- is what it means.
use Rattle.std.specs.Prelude.{ℕ, Bool, List, take, drop, map}
use Rattle.matroska_read.specs.declared.files.FileAt.{FileAt}
use Rattle.matroska_read.specs.declared.tracks.BlockAt.{BlockAt}
use Rattle.matroska_read.specs.declared.tracks.Track.{Track}

-- ---- by places

pub record Places : Type 0 where
  pub tracks : List Track
  pub blocks : List BlockAt
  pub files : List FileAt

-- ---- by values

-- a block of a track: its body, and whether it is damaged
pub record Block : Type 0 where
  pub track : ℕ
  pub damaged : Bool
  pub body : List ℕ

-- a file that is attached: its name, whether it is side data, and its content
pub record Attached : Type 0 where
  pub name : List ℕ
  pub side : Bool
  pub content : List ℕ

pub record Outline : Type 0 where
  pub tracks : List Track
  pub blocks : List Block
  pub files : List Attached

-- ---- what stands at the places

-- the body of a block
abbrev pub body_at : BlockAt → List ℕ → List ℕ
body_at block bytes = take block.len (drop block.at bytes)

abbrev pub block_at : List ℕ → BlockAt → Block
block_at bytes block = record { track = block.track; damaged = block.damaged; body = body_at block bytes }

-- the content of an attached file
unfoldable pub bytes_at : FileAt → List ℕ → List ℕ
bytes_at file bytes = take file.len (drop file.at bytes)

abbrev pub attached_at : List ℕ → FileAt → Attached
attached_at bytes file = record { name = file.name; side = file.side; content = bytes_at file bytes }

abbrev pub outline_at : Places → List ℕ → Outline
outline_at places bytes = record { tracks = places.tracks; blocks = map (block_at bytes) places.blocks; files = map (attached_at bytes) places.files }
