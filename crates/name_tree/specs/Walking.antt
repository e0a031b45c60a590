-- What a walk over the places has left.
use Rattle.std.specs.Prelude.{◌≡◌, ℕ, ◌<◌, ◌==◌, if◌then◌else◌, List, [], length, map}
use Rattle.std.specs.List.{filter, enumerate_from}
use Rattle.std.specs.Ordering.{nat_cmp, is_le}
use Rattle.std.specs.Cmp.Lexicographic.{slice_cmp}
use Rattle.name_tree.specs.declared.node.Node.{Node}
use Rattle.name_tree.specs.Tree.{Below, AtMost, IsFolderKey}
use Rattle.name_tree.specs.Nodes.{key_at, AreNodes}
use Rattle.name_tree.specs.Held.{in_order}

-- the numbers of the names from a key on
unfoldable pub numbers_from : List (List ℕ) → List ℕ → List ℕ
numbers_from names key = map (λ entry. entry.0) (filter (λ entry. is_le (slice_cmp nat_cmp key entry.1)) (in_order (enumerate_from 0 names)))

-- a walk that gives the place next, or none where it is 0
abbrev pub left_of : List (List ℕ) → List Node → ℕ → List ℕ
left_of names nodes at = if at == 0 then [] else numbers_from names (key_at names nodes at)

-- the place is that of a file
pub record IsFile (names : List (List ℕ)) (nodes : List Node) (at : ℕ) : Type 0 where
  pub within : at < length nodes
  pub no_folder : IsFolderKey (key_at names nodes at) → ⊥

pub record IsWalk (names : List (List ℕ)) (nodes : List Node) (at : ℕ) : Type 0 where
  pub are : AreNodes names nodes
  pub file : 0 < at → IsFile names nodes at

-- of the files above the key, none is below the place
abbrev pub IsLeastAbove : List (List ℕ) → List Node → List ℕ → ℕ → Type 0
IsLeastAbove names nodes key at = (x : ℕ) → x < length nodes → (IsFolderKey (key_at names nodes x) → ⊥) → Below key (key_at names nodes x) → AtMost (key_at names nodes at) (key_at names nodes x)

-- the first file at a place or below it
pub record IsFirst (names : List (List ℕ)) (nodes : List Node) (at first : ℕ) : Type 0 where
  pub within : first < length nodes
  pub low : AtMost (key_at names nodes at) (key_at names nodes first)
  pub least : (key : List ℕ) → IsLeastAbove names nodes key at → IsLeastAbove names nodes key first

-- the file behind a file
pub record IsNextFile (names : List (List ℕ)) (nodes : List Node) (at next : ℕ) : Type 0 where
  pub file : 0 < next → IsFile names nodes next
  pub above : 0 < next → Below (key_at names nodes at) (key_at names nodes next)
  pub least : 0 < next → IsLeastAbove names nodes (key_at names nodes at) next
  pub last : next ≡ 0 → (x : ℕ) → x < length nodes → Below (key_at names nodes at) (key_at names nodes x) → ⊥
