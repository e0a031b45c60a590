-- Places that are linked as a tree: what holds of the links and of the keys of the places.
use Rattle.std.specs.Prelude.{◌≡◌, ◌≢◌, ℕ, ◌<◌, ◌⊎◌, List, [], ◌∷◌, ◌++◌}

-- the byte order of lists, without equality
abbrev pub Below : List ℕ → List ℕ → Type 0
Below [] [] = ⊥
Below [] (y ∷ ys) = Unit {0}
Below (x ∷ xs) [] = ⊥
Below (x ∷ xs) (y ∷ ys) = (x < y) ⊎ ((x ≡ y) × Below xs ys)

abbrev pub AtMost : List ℕ → List ℕ → Type 0
AtMost xs ys = (xs ≡ ys) ⊎ Below xs ys

-- no slash (byte 47) stands in it, unless as its last byte
abbrev pub EndsAtSlash : List ℕ → Type 0
EndsAtSlash [] = Unit {0}
EndsAtSlash (x ∷ []) = Unit {0}
EndsAtSlash (x ∷ y ∷ rest) = (x ≢ 47) × EndsAtSlash (y ∷ rest)

-- a segment, or a segment and its slash
abbrev pub IsPiece : List ℕ → Type 0
IsPiece [] = ⊥
IsPiece (x ∷ rest) = (x ≢ 47) × EndsAtSlash (x ∷ rest)

-- the empty key of the root, or the name of a folder and a slash
abbrev pub IsFolderKey : List ℕ → Type 0
IsFolderKey [] = Unit {0}
IsFolderKey (x ∷ []) = x ≡ 47
IsFolderKey (x ∷ y ∷ rest) = IsFolderKey (y ∷ rest)

-- one piece more
abbrev pub IsChildKey : List ℕ → List ℕ → Type 0
IsChildKey parent key = (piece : List ℕ) × IsPiece piece × (key ≡ parent ++ piece)

-- What is known of places: the place of the parent, of the first child and of the next sibling (0 where there is none), and
-- the key, which is the name of a file, or the name of a folder and a slash.
pub record Links : Type 0 where
  pub parent : ℕ → ℕ
  pub first : ℕ → ℕ
  pub next : ℕ → ℕ
  pub key : ℕ → List ℕ

-- The places below `count` are a tree: place 0 is the root, the children of a place are in one chain in byte order of keys.
pub record IsTree (count : ℕ) (t : Links) : Type 0 where
  pub root : t.key 0 ≡ []
  pub up : (i : ℕ) → 0 < i → i < count → t.parent i < i
  pub hangs : (i : ℕ) → 0 < i → i < count → IsChildKey (t.key (t.parent i)) (t.key i)
  pub folder : (i : ℕ) → 0 < i → i < count → IsFolderKey (t.key (t.parent i))
  pub one : (i j : ℕ) → i < count → j < count → t.key i ≡ t.key j → i ≡ j
  pub apart : (i j : ℕ) → 0 < i → i < count → j < count → t.key j ≢ t.key i ++ 47 ∷ []
  pub first_is : (i : ℕ) → i < count → 0 < t.first i → (t.first i < count) × (t.parent (t.first i) ≡ i)
  pub first_least : (i j : ℕ) → 0 < j → j < count → t.parent j ≡ i → (0 < t.first i) × AtMost (t.key (t.first i)) (t.key j)
  pub next_is : (i : ℕ) → 0 < i → i < count → 0 < t.next i
      → (t.next i < count) × (t.parent (t.next i) ≡ t.parent i) × Below (t.key i) (t.key (t.next i))
  pub next_least : (i j : ℕ) → 0 < i → i < count → 0 < j → j < count → t.parent j ≡ t.parent i → Below (t.key i) (t.key j)
      → (0 < t.next i) × AtMost (t.key (t.next i)) (t.key j)
