-- The places of a tree as they are stored, beside the names that are held.
use Rattle.std.specs.Prelude.{◌≡◌, ℕ, ◌-◌, ◌<◌, ◌≤◌, true, false, ◌==◌, if◌then◌else◌, List, [], ◌∷◌, ◌++◌, length, get_or, take, slice_set, Option, Some, None}
use Rattle.std.specs.List.{filter_map}
use Rattle.cook_bits.specs.Names.{IsRelativeName}
use Rattle.name_tree.specs.Tree.{IsFolderKey, Links, IsTree}
use Rattle.name_tree.specs.declared.node.Node.{Node}

-- the root, as it is first stored
abbrev pub root_node : Node
root_node = record { parent = 0; first_child = 0; next_sibling = 0; name = 0; len = 0; given = false }

unfoldable pub node_at : List Node → ℕ → Node
node_at nodes i = get_or nodes i root_node

-- the first bytes of a name that is held
unfoldable pub key_at : List (List ℕ) → List Node → ℕ → List ℕ
key_at names nodes i = take (node_at nodes i).len (get_or names (node_at nodes i).name [])

abbrev pub links_of : List (List ℕ) → List Node → Links
links_of names nodes = record {
  parent = λ i. (node_at nodes i).parent;
  first = λ i. (node_at nodes i).first_child;
  next = λ i. (node_at nodes i).next_sibling;
  key = key_at names nodes;
}

-- the place behind `before` among the children of the parent: the first where `before` is 0
abbrev pub after_of : List Node → ℕ → ℕ → ℕ
after_of nodes parent before = if before == 0 then (node_at nodes parent).first_child else (node_at nodes before).next_sibling

-- places lead to places, a parent is below its children
pub record AreLinked (nodes : List Node) : Type 0 where
  pub up : (i : ℕ) → 0 < i → i < length nodes → (node_at nodes i).parent < i
  pub down : (i : ℕ) → i < length nodes → 0 < (node_at nodes i).first_child
      → (i < (node_at nodes i).first_child) × ((node_at nodes i).first_child < length nodes)
  pub along : (i : ℕ) → 0 < i → i < length nodes → 0 < (node_at nodes i).next_sibling → (node_at nodes i).next_sibling < length nodes

-- each key is the front of a name
abbrev pub AreKeyed : List (List ℕ) → List Node → Type 0
AreKeyed names nodes = (i : ℕ) → 0 < i → i < length nodes
    → ((node_at nodes i).name < length names) × ((node_at nodes i).len ≤ length (get_or names (node_at nodes i).name []))

-- the place of a name
pub record HasPlace (names : List (List ℕ)) (nodes : List Node) (number : ℕ) : Type 0 where
  pub place : ℕ
  pub some : 0 < place
  pub within : place < length nodes
  pub named : (node_at nodes place).name ≡ number
  pub is : key_at names nodes place ≡ get_or names number []

-- The places are the tree of the names. Its leaves are the names, and each folder has a child. A folder is given only below
-- given ones.
pub record AreNodes (names : List (List ℕ)) (nodes : List Node) : Type 0 where
  pub tree : IsTree (length nodes) (links_of names nodes)
  pub keyed : AreKeyed names nodes
  pub start : (node_at nodes 0).len ≡ 0
  pub leaf : (i : ℕ) → 0 < i → i < length nodes → (IsFolderKey (key_at names nodes i) → ⊥)
      → key_at names nodes i ≡ get_or names (node_at nodes i).name []
  pub full : (i : ℕ) → 0 < i → i < length nodes → IsFolderKey (key_at names nodes i) → 0 < (node_at nodes i).first_child
  pub placed : (m : ℕ) → m < length names → HasPlace names nodes m
  pub relative : (m : ℕ) → m < length names → IsRelativeName (get_or names m [])
  pub ungiven : (node_at nodes 0).given ≡ false
  pub closed : (i : ℕ) → 0 < i → i < length nodes → (node_at nodes i).given ≡ true
      → IsFolderKey (key_at names nodes i) × ((0 < (node_at nodes i).parent) → (node_at nodes (node_at nodes i).parent).given ≡ true)

-- ---- a child more

-- the new place leads to what stood behind `before`
abbrev pub new_node : List Node → ℕ → ℕ → ℕ → ℕ → Node
new_node nodes parent before name len = record {
  parent = parent;
  first_child = 0;
  next_sibling = after_of nodes parent before;
  name = name;
  len = len;
  given = false;
}

-- the parent or the sibling before leads to the place
abbrev pub linked : List Node → ℕ → ℕ → ℕ → List Node
linked nodes parent before at =
    if before == 0
    then slice_set nodes parent (record (node_at nodes parent) { first_child = at })
    else slice_set nodes before (record (node_at nodes before) { next_sibling = at })

unfoldable pub hung : List Node → ℕ → ℕ → ℕ → ℕ → List Node
hung nodes parent before name len = linked (nodes ++ new_node nodes parent before name len ∷ []) parent before (length nodes)

-- ---- the folders that were given

-- the place is counted as given
abbrev pub with_given : List Node → ℕ → List Node
with_given nodes at = slice_set nodes at (record (node_at nodes at) { given = true })

abbrev pub given_name : List (List ℕ) → Node → Option (List ℕ)
given_name names node = if node.given then Some (take (node.len - 1) (get_or names node.name [])) else None

abbrev pub given_of : List (List ℕ) → List Node → List (List ℕ)
given_of names nodes = filter_map (given_name names) nodes

-- ---- the whole

pub record IsNameTree (names : List (List ℕ)) (nodes : List Node) (last : ℕ) : Type 0 where
  pub are : AreNodes names nodes
  pub within : 0 < last → last < length nodes
