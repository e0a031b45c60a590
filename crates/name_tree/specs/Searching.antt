-- What a search in the tree finds.
use Rattle.std.specs.Prelude.{◌≡◌, ◌≢◌, ℕ, ◌+◌, ◌<◌, ◌≤◌, ◌⊎◌, List, [], ◌∷◌, ◌++◌, length, take, drop, Option, Some, None}
use Rattle.name_tree.specs.Tree.{Below, AtMost, EndsAtSlash, IsPiece, IsFolderKey}
use Rattle.name_tree.specs.Nodes.{node_at, key_at, after_of, new_node}
use Rattle.name_tree.specs.declared.node.Node.{Node}

-- 0, or a child of the parent
abbrev pub IsChildOrNone : List Node → ℕ → ℕ → Type 0
IsChildOrNone nodes parent near = 0 < near → (near < length nodes) × ((node_at nodes near).parent ≡ parent)

-- 0, or a child of the parent below the key
abbrev pub IsBefore : List (List ℕ) → List Node → ℕ → List ℕ → ℕ → Type 0
IsBefore names nodes parent key before = 0 < before
    → (before < length nodes) × ((node_at nodes before).parent ≡ parent) × Below (key_at names nodes before) key

-- the last child below the key, or 0
pub record IsPlace (names : List (List ℕ)) (nodes : List Node) (parent : ℕ) (key : List ℕ) (before : ℕ) : Type 0 where
  pub low : IsBefore names nodes parent key before
  pub high : 0 < after_of nodes parent before → AtMost key (key_at names nodes (after_of nodes parent before))

-- the child with the key
pub record IsFound (names : List (List ℕ)) (nodes : List Node) (parent : ℕ) (key : List ℕ) (found : ℕ) : Type 0 where
  pub within : found < length nodes
  pub under : (node_at nodes found).parent ≡ parent
  pub is : key_at names nodes found ≡ key

abbrev pub IsAbsent : List (List ℕ) → List Node → List ℕ → Type 0
IsAbsent names nodes key = (j : ℕ) → j < length nodes → key_at names nodes j ≢ key

-- a folder on the way to the name
pub record IsOnWay (names : List (List ℕ)) (nodes : List Node) (name : List ℕ) (parent : ℕ) : Type 0 where
  pub within : parent < length nodes
  pub folder : IsFolderKey (key_at names nodes parent)
  pub rest : List ℕ
  pub is : name ≡ key_at names nodes parent ++ rest

-- the end of the first piece behind a place of the name: of a piece with its slash, or none where no slash is left
abbrev pub IsEnd : List ℕ → ℕ → Option ℕ → Type 0
IsEnd name start None = EndsAtSlash (drop start name) × (IsFolderKey (drop start name) → drop start name ≡ [])
IsEnd name start (Some end) = (start < end) × (end ≤ length name) × EndsAtSlash (drop start (take end name)) × IsFolderKey (drop start (take end name))

-- the folder on the way has no child with the next key on the way that ends at a slash
abbrev pub IsDeepest : List (List ℕ) → List Node → List ℕ → ℕ → Type 0
IsDeepest names nodes name parent = (piece rest : List ℕ) → IsPiece piece → IsFolderKey piece
    → name ≡ (key_at names nodes parent ++ piece) ++ rest → IsAbsent names nodes (key_at names nodes parent ++ piece)

-- ---- a child more

-- what the links of the places before a new one are
pub record IsHung (nodes next : List Node) (parent before name len : ℕ) : Type 0 where
  pub count : length next ≡ length nodes + 1
  pub new : node_at next (length nodes) ≡ new_node nodes parent before name len
  pub parents : (i : ℕ) → i < length nodes → (node_at next i).parent ≡ (node_at nodes i).parent
  pub names : (i : ℕ) → i < length nodes → (node_at next i).name ≡ (node_at nodes i).name
  pub lens : (i : ℕ) → i < length nodes → (node_at next i).len ≡ (node_at nodes i).len
  pub givens : (i : ℕ) → i < length nodes → (node_at next i).given ≡ (node_at nodes i).given
  pub first_new : before ≡ 0 → (node_at next parent).first_child ≡ length nodes
  pub first_old : (i : ℕ) → i < length nodes → (before ≡ 0 → i ≡ parent → ⊥) → (node_at next i).first_child ≡ (node_at nodes i).first_child
  pub next_new : 0 < before → (node_at next before).next_sibling ≡ length nodes
  pub next_old : (i : ℕ) → i < length nodes → (0 < before → i ≡ before → ⊥) → (node_at next i).next_sibling ≡ (node_at nodes i).next_sibling

-- a key may be added behind `before`
pub record CanHang (names : List (List ℕ)) (nodes : List Node) (parent : ℕ) (key : List ℕ) (before : ℕ) : Type 0 where
  pub place : IsPlace names nodes parent key before
  pub absent : IsAbsent names nodes key
  pub no_file : (front : List ℕ) → key ≡ front ++ 47 ∷ [] → IsAbsent names nodes front
  pub no_folder : IsAbsent names nodes (key ++ 47 ∷ [])

-- the next key on the way may be added
abbrev pub IsFree : List (List ℕ) → List Node → List ℕ → ℕ → ℕ → Type 0
IsFree names nodes name parent before = (piece rest : List ℕ) → IsPiece piece → name ≡ (key_at names nodes parent ++ piece) ++ rest
    → (IsFolderKey piece ⊎ (rest ≡ [])) → CanHang names nodes parent (key_at names nodes parent ++ piece) before
