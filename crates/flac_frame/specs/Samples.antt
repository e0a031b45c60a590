-- The samples of a block, channel by channel. They lie in one list, in which each channel has its own stretch.
use Rattle.std.specs.Prelude.{◌≡◌, ℕ, zero, suc, ◌+◌, ◌*◌, ◌<◌, ◌≤◌, ℤ, List, [], ◌∷◌, ◌++◌, length, slice_range, take, drop}

-- the first numbers, so many, of the stretch of a place
unfoldable pub stretch : ℕ → ℕ → List ℤ → ℕ → List ℤ
stretch room len samples k = slice_range samples (k * room) (k * room + len)

-- those of the first stretches, so many
unfoldable pub stretches : ℕ → ℕ → List ℤ → ℕ → List (List ℤ)
stretches room len samples zero = []
stretches room len samples (suc count) = stretches room len samples count ++ stretch room len samples count ∷ []

-- what contracts see of a block
pub record BlockValue : Type 0 where
  pub channels : ℕ
  pub capacity : ℕ
  pub len : ℕ
  pub samples : List ℤ

-- a block has room for each channel
pub record IsBlock (block : BlockValue) : Type 0 where
  pub within : block.len ≤ block.capacity
  pub room : length block.samples ≡ block.channels * block.capacity

-- the samples of a channel
unfoldable pub channel_of : BlockValue → ℕ → List ℤ
channel_of block k = stretch block.capacity block.len block.samples k

-- the samples of each channel
unfoldable pub channels_of : BlockValue → List (List ℤ)
channels_of block = stretches block.capacity block.len block.samples block.channels

-- a list in which other numbers stand from a place on
unfoldable pub written_at : ℕ → List ℤ → List ℤ → List ℤ
written_at start written samples = take (length samples) (take start samples ++ (written ++ drop (length written) (drop start samples)))

-- with other samples in a channel
abbrev pub with_channel : BlockValue → ℕ → List ℤ → BlockValue
with_channel block k samples = record block { samples = written_at (k * block.capacity) samples block.samples }

-- a channel of a block has these samples, and the others have theirs
pub record IsWritten (old : BlockValue) (k : ℕ) (samples : List ℤ) (new : BlockValue) : Type 0 where
  pub block : IsBlock new
  pub itself : channel_of new k ≡ samples
  pub before : (j : ℕ) → j < k → channel_of new j ≡ channel_of old j
  pub behind : (j : ℕ) → k < j → channel_of new j ≡ channel_of old j
