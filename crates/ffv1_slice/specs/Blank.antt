-- Lines above a slice.
use Rattle.std.specs.Prelude.{◌≡◌, ℕ, length, replicate}
use Rattle.ffv1_slice.specs.declared.lines.Lines.{Lines}

pub record IsBlank (len : ℕ) (lines : Lines) : Type 0 where
  pub above2 : lines.above2.items ≡ replicate len 0
  pub above : lines.above.items ≡ replicate len 0
  pub line : lines.line.items ≡ replicate len 0

-- lines that were filled with zeros
pub record IsCleared (old new : Lines) : Type 0 where
  pub above2 : new.above2.items ≡ replicate (length old.above2.items) 0
  pub above : new.above.items ≡ replicate (length old.above.items) 0
  pub line : new.line.items ≡ replicate (length old.line.items) 0
