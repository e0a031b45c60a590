-- Texts that stand behind one another in one list of bytes.
use Rattle.std.specs.Prelude.{ℕ, ◌+◌, ◌≤◌, List, length, map, slice_range, All}
use Rattle.name_tree.specs.declared.texts.Span.{Span}

abbrev pub text_at : List ℕ → Span → List ℕ
text_at bytes span = slice_range bytes span.start (span.start + span.len)

abbrev pub texts_of : List ℕ → List Span → List (List ℕ)
texts_of bytes spans = map (text_at bytes) spans

-- each text is within the bytes
abbrev pub AreWithin : List ℕ → List Span → Type 0
AreWithin bytes spans = All (λ span. span.start + span.len ≤ length bytes) spans
