-- What is known of the bytes of a file, by what its shelf tells. Where nothing is told, each of these holds, so that one
-- clause serves every shelf.
use Rattle.std.specs.Prelude.{◌≡◌, ℕ, ◌-◌, nat_eq, ◌==◌, Bool, if◌then◌else◌, List, length, take, drop, Option, Some, None}
use Rattle.std.specs.Cmp.Lexicographic.{pointwise}
use Rattle.shelf_core.specs.Told.{Told, content}

-- a file's bytes
abbrev pub Seen : Type 0
Seen = Option (List ℕ)

-- the bytes of a file, where its shelf tells them and they are so many
unfoldable pub seen : Told → List ℕ → ℕ → Seen
seen None name len = None
seen (Some files) name len = if length (content (Some files) name) == len then Some (content (Some files) name) else None

-- a function of the bytes gives a value
unfoldable pub Sees : {T : Type 0} → Seen → (List ℕ → T) → T → Type 0
Sees None reading value = Unit {0}
Sees (Some bytes) reading value = reading bytes ≡ value

-- two functions of the bytes give the same
unfoldable pub Agree : {T : Type 0} → Seen → (List ℕ → T) → (List ℕ → T) → Type 0
Agree None first second = Unit {0}
Agree (Some bytes) first second = first bytes ≡ second bytes

unfoldable pub IsUnseen : Seen → Type 0
IsUnseen None = Unit {0}
IsUnseen (Some bytes) = ⊥

-- bytes that were read from a place on
unfoldable pub Holds : Seen → ℕ → List ℕ → Type 0
Holds None from held = Unit {0}
Holds (Some bytes) from held = held ≡ take (length held) (drop from bytes)

-- the bytes from a place up to an end
abbrev pub between : ℕ → ℕ → List ℕ → List ℕ
between from to bytes = take (to - from) (drop from bytes)

-- two texts are the same, byte for byte
abbrev pub is_same_text : List ℕ → List ℕ → Bool
is_same_text = pointwise nat_eq

-- a text stands between two places
unfoldable pub is_text_between : List ℕ → ℕ → ℕ → List ℕ → Bool
is_text_between text from to bytes = is_same_text (between from to bytes) text
