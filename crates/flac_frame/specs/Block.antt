-- A block that lends the samples of a channel.
use Rattle.std.specs.Prelude.{ℕ, ℤ, List}
use Rattle.std.specs.Borrow.{Lends, MutBor, Fml, Array, i32}
use Rattle.flac_frame.specs.contracts.block.Block.{the_row}
use Rattle.flac_frame.specs.Samples.{BlockValue, with_channel}

-- it ends with what is left behind r as the samples of the channel
abbrev pub LendsChannel : MutBor BlockValue → ℕ → MutBor (List ℤ) → Fml
LendsChannel block k r = Lends the_row (Array i32 0) block r (with_channel block.now k)
