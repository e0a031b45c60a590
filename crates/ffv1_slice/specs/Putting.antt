-- A line, a row and rows put into an encoder.
use Rattle.std.specs.Prelude.{ℕ, List, ℤ}
use Rattle.range_coder.specs.Encoding.{Encoding}
use Rattle.range_coder.specs.Coding.{Puts}
use Rattle.ffv1_params.specs.Parameters.{Parameters}
use Rattle.ffv1_slice.specs.declared.head.SliceHead.{SliceHead}
use Rattle.ffv1_slice.specs.declared.lines.Lines.{Lines}
use Rattle.ffv1_slice.specs.declared.lines.Planes.{Planes}
use Rattle.ffv1_slice.specs.Colour.{samples_of}
use Rattle.ffv1_slice.specs.Planes.{choices_of_planes}
use Rattle.ffv1_slice.specs.Slice.{rows_choices}
use Rattle.ffv1_slice.specs.Work.{choices_of_line}

-- the last of three lines of a plane was put
abbrev pub PutsLine : List ℕ → Encoding → List ℕ → Encoding → List ℕ → ℕ → List ℤ → ℕ → Lines → ℕ → Type 0
PutsLine table before states after left half values first lines width =
    Puts table before states after left (choices_of_line half values first lines.above2.items lines.above.items lines.line.items width)

-- the last lines of the three planes were put
abbrev pub PutsPlanes : Parameters → SliceHead → Encoding → List ℕ → Encoding → List ℕ → Planes → ℕ → Type 0
PutsPlanes params head before states after left planes width =
    Puts params.table before states after left (choices_of_planes params head planes width)

-- the rows of a tile were put
abbrev pub PutsRows : Parameters → SliceHead → Encoding → List ℕ → Encoding → List ℕ → List ℕ → ℕ → ℕ → Type 0
PutsRows params head before states after left tile width height =
    Puts params.table before states after left (rows_choices params head width (samples_of params.bits width tile) height)
