-- The elements of a list of bytes, at their places (RFC 8794, section 3), as the items of a walk. A fault is the place of
-- the first byte of the first element that is faulty.
use Rattle.std.specs.Prelude.{ℕ, ◌+◌, nat_le, ◌==◌, if◌then◌else◌, List, Option, Some, None}
use Rattle.ebml_core.specs.Reading.{head_at}
use Rattle.ebml_core.specs.declared.parts.Size.{Size}
use Rattle.ebml_core.specs.declared.parts.Size.TheVariants.{Known, Unknown}
use Rattle.ebml_core.specs.declared.parts.Head.{Head}
use Rattle.shelf_reader.specs.Readings.{Reading, gives, fails, looks}
use Rattle.shelf_reader.specs.Seen.{between}
use Rattle.shelf_reader.specs.Walk.{Grammar, Visit, walked}
use Rattle.matroska_names.specs.declared.ids.TheConstants.{SEGMENT as segment}
use Rattle.matroska_read.specs.declared.error.OutlineFault.{OutlineFault}
use Rattle.matroska_read.specs.declared.error.OutlineFault.TheVariants.{Shape}
use Rattle.matroska_read.specs.declared.parts.Element.{Element}
use Rattle.matroska_read.specs.declared.parts.Span.{Span}

-- a reading of a Matroska file
abbrev pub Read : Type 0 → Type 0
Read T = Reading T OutlineFault

-- the content of an element
abbrev pub content_of : Element → List ℕ → List ℕ
content_of element = between element.start element.end

-- the head at a place of a parent that ends at `end` (sections 4 to 6): cut where the parent ends
unfoldable pub head_in : ℕ → ℕ → List ℕ → Option Head
head_in end place bytes = head_at (between place end bytes)

-- An element ends where its size says. It is faulty where that passes its parent's end, or where its size is unknown.
unfoldable pub sized : ℕ → ℕ → Head → Size → Read Element
sized end place head Unknown = fails (Shape place)
sized end place head (Known size) =
    if nat_le (place + head.len + size) end then gives (record { place = place; id = head.id; start = place + head.len; end = place + head.len + size }) else fails (Shape place)

unfoldable pub element_of : ℕ → ℕ → Option Head → Read Element
element_of end place None = fails (Shape place)
element_of end place (Some head) = sized end place head head.size

-- the element at a place of a parent that ends at `end`
unfoldable pub element_in : ℕ → ℕ → Read Element
element_in end place = looks (head_in end place) (element_of end place)

-- the Segment may have an unknown size, and then it ends with the file (RFC 9559, section 5.1)
unfoldable pub segment_sized : ℕ → ℕ → Head → Size → Read Element
segment_sized end place head Unknown = gives (record { place = place; id = head.id; start = place + head.len; end = end })
segment_sized end place head (Known size) = sized end place head (Known size)

unfoldable pub segment_of : ℕ → ℕ → Option Head → Read Element
segment_of end place None = fails (Shape place)
segment_of end place (Some head) = if head.id == segment then segment_sized end place head head.size else fails (Shape place)

-- the Segment at a place of a file that ends at `end`: faulty where another element stands there, or none
unfoldable pub segment_in : ℕ → ℕ → Read Element
segment_in end place = looks (head_in end place) (segment_of end place)

-- the place behind an element
abbrev pub behind_element : Element → ℕ
behind_element element = element.end

-- elements as the items of a walk
abbrev pub ebml : Grammar Element OutlineFault
ebml = record { item_at = element_in; behind = behind_element }

-- the walk over the children of an element
abbrev pub walked_children : {State : Type 0} → Visit State Element OutlineFault → Element → State → Read State
walked_children visit parent state = walked ebml visit parent.end state parent.start

-- what is known of a parent's children, with one more
abbrev pub Visits : Type 0 → Type 0
Visits State = Visit State Element OutlineFault

abbrev pub span_of : Element → Span
span_of child = record { start = child.start; end = child.end }

-- the first of repeated children counts
abbrev pub first_of : Option Span → Element → Option Span
first_of None child = Some (span_of child)
first_of (Some span) child = Some span
