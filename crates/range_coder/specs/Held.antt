-- What a window and the bytes written hold: an interval, and room.
use Rattle.std.specs.Prelude.{ℕ, ◌-◌, List, Vec}
use Rattle.range_coder.specs.declared.window.Window.{Window}
use Rattle.range_coder.specs.Encoding.{Encoding, encoding_of}
use Rattle.range_coder.specs.Choices.{Choice}
use Rattle.range_coder.specs.Coding.{Puts, PutsFront}

abbrev pub held : {Z : Type 0} → Window → Vec ℕ Z → Encoding
held window bytes = encoding_of bytes (window.top - window.range) window.range

-- choices put with them, wholly or as far as a refusal
abbrev pub PutsIn : {Z : Type 0} → List ℕ → Window → Vec ℕ Z → List ℕ → Window → Vec ℕ Z → List ℕ → List Choice → Type 0
PutsIn table before bytes states after new left choices = Puts table (held before bytes) states (held after new) left choices

abbrev pub FrontIn : {Z : Type 0} → List ℕ → Window → Vec ℕ Z → List ℕ → Window → Vec ℕ Z → List ℕ → List Choice → Type 0
FrontIn table before bytes states after new left choices = PutsFront table (held before bytes) states (held after new) left choices
