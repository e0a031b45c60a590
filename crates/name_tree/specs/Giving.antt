-- The folders of a name that are still to be given.
use Rattle.std.specs.Prelude.{◌≡◌, ℕ, ◌<◌, true, List, [], ◌∷◌, ◌++◌, length, Option, Some, None}
use Rattle.name_tree.specs.declared.node.Node.{Node}
use Rattle.name_tree.specs.Nodes.{node_at, key_at, given_of}
use Rattle.name_tree.specs.Held.{folder_left}

-- the root, or a folder that was given
abbrev pub IsGivenTo : List Node → ℕ → Type 0
IsGivenTo nodes place = 0 < place → (node_at nodes place).given ≡ true

-- the place is that of the shortest folder that was not given
pub record IsLeft (names : List (List ℕ)) (nodes : List Node) (name : List ℕ) (place len : ℕ) : Type 0 where
  pub folder : List ℕ
  pub is : folder_left (given_of names nodes) name ≡ Some folder
  pub has_len : length folder ≡ len
  pub key : key_at names nodes place ≡ folder ++ 47 ∷ []
  pub some : 0 < place
  pub within : place < length nodes
  pub above : 0 < (node_at nodes place).parent → (node_at nodes (node_at nodes place).parent).given ≡ true

abbrev pub IsAhead : List (List ℕ) → List Node → List ℕ → ℕ → Option ℕ → Type 0
IsAhead names nodes name place None = folder_left (given_of names nodes) name ≡ None
IsAhead names nodes name place (Some len) = IsLeft names nodes name place len
