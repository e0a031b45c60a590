-- What a search among the places of a tree keeps and finds.
use Rattle.std.proofs.Common.{◌≡◌, ◌≢◌, ℕ, zero, suc, ◌+◌, ◌<◌, ◌≤◌, Bool, true, false, List, [], ◌∷◌, ◌++◌, length, get_or, take, drop, refl, sym, ap, ◌∙◌, subst, arith, inl, inr, Some, None, if◌then◌else◌, ◌==◌}
use Rattle.std.proofs.lemmas.Bool.{cases_eq}
use Rattle.std.proofs.lemmas.Bool.Decides.{nat_tests}
use Rattle.std.proofs.lemmas.List.{append-nil, append_assoc, append_cancel_left, length-take-le, length-append, length-drop, take-append-drop, drop_at, take_at, take-take}
use Rattle.std.specs.Ordering.{nat_cmp, is_lt}
use Rattle.std.specs.declared.cmp.Ordering.TheVariants.{Less, Equal, Greater}
use Rattle.std.specs.declared.cmp.Ordering.{Ordering}
use Rattle.std.specs.Cmp.Lexicographic.{slice_cmp}
use Rattle.name_tree.specs.declared.node.Node.{Node}
use Rattle.name_tree.specs.Tree.{Below, AtMost, EndsAtSlash, IsPiece, IsFolderKey, IsTree}
use Rattle.name_tree.specs.Nodes.{node_at, key_at, links_of, after_of, AreKeyed, AreNodes}
use Rattle.name_tree.specs.Searching.{IsChildOrNone, IsBefore, IsPlace, IsFound, IsOnWay, IsEnd, IsDeepest, IsAbsent}
use Rattle.name_tree.proofs.Orders.{not_below_itself, below_trans, at_most_below, not_both, compared, front_at_most, inside, piece_ends, piece_some, folder_tail, below_from_less, less_from_below}
use Rattle.name_tree.proofs.Trees.{LeadsTo, leads}
use Rattle.name_tree.proofs.Walks.{lower}
use Rattle.name_tree.proofs.Pieces.{one_piece}

-- ---- how many keys are above

pub count_above : (ℕ → List ℕ) → ℕ → List ℕ → ℕ
count_above key zero k = 0
count_above key (suc n) k = count_above key n k + (if is_lt (slice_cmp nat_cmp k (key n)) then 1 else 0)

pub lt_below : (xs ys : List ℕ) (b : Bool) → is_lt (slice_cmp nat_cmp xs ys) ≡ b → b ≡ true → Below xs ys
lt_below xs ys b e t = below_from_less xs ys (is_less (slice_cmp nat_cmp xs ys) (e ∙ t))
  where
    is_less : (r : Ordering) → is_lt r ≡ true → r ≡ Less
    is_less Less h = refl
    is_less Equal h = cc
    is_less Greater h = cc

pub below_lt : (xs ys : List ℕ) → Below xs ys → is_lt (slice_cmp nat_cmp xs ys) ≡ true
below_lt xs ys b = ap is_lt (less_from_below xs ys b)

pub not_lt : (xs ys : List ℕ) → is_lt (slice_cmp nat_cmp xs ys) ≡ false → AtMost ys xs
not_lt xs ys e = elim (compared xs ys) [
  | inl same ↦ inl (sym same)
  | inr (inl b) ↦ let yes = below_lt xs ys b in let no : true ≡ false = sym yes ∙ e in cc
  | inr (inr b) ↦ inr b
]

not_more : (a b : Bool) → (b ≡ true → a ≡ true) → (if b then 1 else 0) ≤ (if a then 1 else 0)
not_more true true f = omega arith
not_more true false f = omega arith
not_more false true f = let no : false ≡ true = f refl in cc
not_more false false f = omega arith

counts_fewer : (key : ℕ → List ℕ) (n : ℕ) (k l : List ℕ) → Below k l → count_above key n l ≤ count_above key n k
unfolding count_above
counts_fewer key zero k l b = omega arith
counts_fewer key (suc n) k l b =
    let rest = counts_fewer key n k l b in
    let here = not_more (is_lt (slice_cmp nat_cmp k (key n))) (is_lt (slice_cmp nat_cmp l (key n))) (λ h. below_lt k (key n) (below_trans k l (key n) b (lt_below l (key n) true h refl))) in
    omega arith

pub count_falls : (key : ℕ → List ℕ) (n j : ℕ) (k : List ℕ) → j < n → Below k (key j) → count_above key n (key j) < count_above key n k
unfolding count_above
count_falls key zero j k lt b = absurd (omega arith)
count_falls key (suc n) j k lt b = elim (cases_eq j n) [
  | inl same ↦
      let fewer = counts_fewer key n k (key j) b in
      let here : is_lt (slice_cmp nat_cmp k (key n)) ≡ true = below_lt k (key n) (subst (λ (i : ℕ). Below k (key i)) same b) in
      let none : is_lt (slice_cmp nat_cmp (key j) (key n)) ≡ false = irreflexive (key j) (key n) (ap key same) in
      rw (here, none) (omega arith)
  | inr ne ↦
      let rest = count_falls key n j k (omega arith) b in
      let more = not_more (is_lt (slice_cmp nat_cmp k (key n))) (is_lt (slice_cmp nat_cmp (key j) (key n))) (λ h. below_lt k (key n) (below_trans k (key j) (key n) b (lt_below (key j) (key n) true h refl))) in
      omega arith
]
  where
    decided : (b : Bool) → (b ≡ true → ⊥) → b ≡ false
    decided true f = absurd (f refl)
    decided false f = refl

    irreflexive : (xs ys : List ℕ) → xs ≡ ys → is_lt (slice_cmp nat_cmp xs ys) ≡ false
    irreflexive xs ys e = decided (is_lt (slice_cmp nat_cmp xs ys)) (λ h. not_below_itself xs (subst (λ (l : List ℕ). Below xs l) (sym e) (lt_below xs ys true h refl)))

both : (xs ys : List ℕ) → AtMost xs ys → AtMost ys xs → xs ≡ ys
both xs ys (inl e) b = e
both xs ys (inr a) b = absurd (not_both xs ys a b)

pub after_none : (nodes : List Node) (parent before : ℕ) → before ≡ 0 → after_of nodes parent before ≡ (node_at nodes parent).first_child
after_none nodes parent before e = rw e refl

pub after_some : (nodes : List Node) (parent before : ℕ) → 0 < before → after_of nodes parent before ≡ (node_at nodes before).next_sibling
after_some nodes parent before lt = let no : (before == 0) ≡ false = grind (arith, nat_tests) in rw no refl

-- ---- lengths

-- what a search rests on
pub record Stands (names : List (List ℕ)) (nodes : List Node) : Type 0 where
  pub tree : IsTree (length nodes) (links_of names nodes)
  pub keyed : AreKeyed names nodes
  pub start : (node_at nodes 0).len ≡ 0

pub stands : {names : List (List ℕ)} {nodes : List Node} → AreNodes names nodes → Stands names nodes
stands are = record { tree = are.tree; keyed = are.keyed; start = are.start }

pub key_length : (names : List (List ℕ)) (nodes : List Node) → Stands names nodes → (i : ℕ) → i < length nodes → length (key_at names nodes i) ≡ (node_at nodes i).len
unfolding key_at
key_length names nodes are i lt = elim (cases_eq i 0) [
  | inl zero_is ↦ rw zero_is (length-take-le (node_at nodes 0).len (get_or names (node_at nodes 0).name []) (let z = are.start in omega arith))
  | inr ne ↦ let some : 0 < i = omega arith in length-take-le (node_at nodes i).len (get_or names (node_at nodes i).name []) (are.keyed i some lt).1
]

module _ (names : List (List ℕ)) (nodes : List Node) (tree : IsTree (length nodes) (links_of names nodes)) where
  -- ---- along the siblings

  abbrev pub IsLater : ℕ → ℕ → ℕ → Type 0
  IsLater parent before a = (a < length nodes) × ((node_at nodes a).parent ≡ parent) × Below (key_at names nodes before) (key_at names nodes a)

  first_child_is : (parent : ℕ) → parent < length nodes → 0 < (node_at nodes parent).first_child → IsLater parent 0 ((node_at nodes parent).first_child)
  first_child_is parent pl some =
      let f = tree.first_is parent pl some in
      (f.0, f.1, at_most_below (key_at names nodes 0) (key_at names nodes parent) (key_at names nodes (node_at nodes parent).first_child) (subst (λ (k : List ℕ). AtMost k (key_at names nodes parent)) (sym tree.root) (front_at_most [] (key_at names nodes parent))) (lower tree parent pl some))

  pub after_child : (parent before a : ℕ) → a ≡ after_of nodes parent before → parent < length nodes → IsChildOrNone nodes parent before → 0 < a → IsLater parent before a
  after_child parent before a e pl is some = elim (cases_eq before 0) [
    | inl none ↦
        let there : (node_at nodes parent).first_child ≡ a = sym (e ∙ after_none nodes parent before none) in
        subst (λ (b : ℕ). IsLater parent b a) (sym none) (subst (λ (i : ℕ). IsLater parent 0 i) there (first_child_is parent pl (subst (λ (i : ℕ). 0 < i) (sym there) some)))
    | inr ne ↦
        let b : 0 < before = omega arith in
        let there : (node_at nodes before).next_sibling ≡ a = sym (e ∙ after_some nodes parent before b) in
        let i = is b in
        let n = tree.next_is before b i.0 (subst (λ (i : ℕ). 0 < i) (sym there) some) in
        subst (λ (i : ℕ). IsLater parent before i) there (n.0, n.1 ∙ i.1, n.2)
  ]

  -- a child with the target's key, or above the place, is not passed over
  pub least_after : (parent before j : ℕ) → parent < length nodes → IsChildOrNone nodes parent before → (0 < before → Below (key_at names nodes before) (key_at names nodes j))
      → 0 < j → j < length nodes → (node_at nodes j).parent ≡ parent
      → (0 < after_of nodes parent before) × AtMost (key_at names nodes (after_of nodes parent before)) (key_at names nodes j)
  least_after parent before j pl is low some jl under = elim (cases_eq before 0) [
    | inl none ↦ subst (λ (i : ℕ). (0 < i) × AtMost (key_at names nodes i) (key_at names nodes j)) (sym (after_none nodes parent before none)) (tree.first_least parent j some jl under)
    | inr ne ↦
        let b : 0 < before = omega arith in
        let i = is b in
        subst (λ (i : ℕ). (0 < i) × AtMost (key_at names nodes i) (key_at names nodes j)) (sym (after_some nodes parent before b)) (tree.next_least before j b i.0 some jl (under ∙ sym i.1) (low b))
  ]

  pub place_finds : (parent before : ℕ) (target : List ℕ) (j : ℕ) → parent < length nodes → IsPlace names nodes parent target before → 0 < j → IsFound names nodes parent target j
      → (0 < after_of nodes parent before) × (key_at names nodes (after_of nodes parent before) ≡ target)
  place_finds parent before target j pl place some found =
      let least = least_after parent before j pl (λ b. let l = place.low b in (l.0, l.1)) (λ b. let l = place.low b in subst (λ (k : List ℕ). Below (key_at names nodes before) k) (sym found.is) l.2) some found.within found.under in
      (least.0, both (key_at names nodes (after_of nodes parent before)) target (subst (λ (k : List ℕ). AtMost (key_at names nodes (after_of nodes parent before)) k) found.is least.1) (place.high least.0))

  pub place_falls : (parent before : ℕ) (target : List ℕ) (next : ℕ) → next ≡ after_of nodes parent before → parent < length nodes → IsBefore names nodes parent target before → 0 < next
      → count_above (key_at names nodes) (length nodes) (key_at names nodes next) < count_above (key_at names nodes) (length nodes) (key_at names nodes before)
  place_falls parent before target next e pl is some =
      let later = after_child parent before next e pl (λ b. let l = is b in (l.0, l.1)) some in
      count_falls (key_at names nodes) (length nodes) next (key_at names nodes before) later.0 later.2

  pub place_on : (parent before : ℕ) (target : List ℕ) (next : ℕ) → next ≡ after_of nodes parent before → parent < length nodes → IsBefore names nodes parent target before → 0 < next
      → Below (key_at names nodes next) target → IsBefore names nodes parent target next
  place_on parent before target next e pl is some low = λ h.
      let later = after_child parent before next e pl (λ b. let l = is b in (l.0, l.1)) some in
      (later.0, later.1, low)

  -- ---- children by their keys

  pub child_of : (p j : ℕ) (piece : List ℕ) → p < length nodes → j < length nodes → IsFolderKey (key_at names nodes p) → IsPiece piece → key_at names nodes j ≡ key_at names nodes p ++ piece
      → (0 < j) × ((node_at nodes j).parent ≡ p)
  child_of p j piece pl jl folder is e =
      let way = leads tree (suc j) p j piece (omega arith) pl jl folder e (piece_some piece is) in
      same way (elim way.is [
        | inl here ↦ here
        | inr more ↦
            let h = tree.hangs way.child way.some way.within in
            let ec : key_at names nodes way.child ≡ key_at names nodes p ++ h.0 = h.2 ∙ ap (λ (i : ℕ). key_at names nodes i ++ h.0) way.under in
            let cut : piece ≡ h.0 ++ more.0 = append_cancel_left (key_at names nodes p) piece (h.0 ++ more.0) (sym e ∙ more.1 ∙ ap (λ (k : List ℕ). k ++ more.0) ec ∙ append_assoc (key_at names nodes p) h.0 more.0) in
            at_end way (h.0) more.0 h.1 ec more.2 more.1 cut
      ])
    where
      same : (way : LeadsTo (length nodes) (links_of names nodes) p j) → way.child ≡ j → (0 < j) × ((node_at nodes j).parent ≡ p)
      same way s = (subst (λ (i : ℕ). 0 < i) s way.some, ap (λ (i : ℕ). (node_at nodes i).parent) (sym s) ∙ way.under)

      at_end : (way : LeadsTo (length nodes) (links_of names nodes) p j) (a rest : List ℕ) → IsPiece a → key_at names nodes way.child ≡ key_at names nodes p ++ a → IsFolderKey (key_at names nodes way.child)
          → key_at names nodes j ≡ key_at names nodes way.child ++ rest → piece ≡ a ++ rest → way.child ≡ j
      at_end way a [] isa ea f ej cut = tree.one way.child j way.within jl (sym (ej ∙ append-nil (key_at names nodes way.child)))
      at_end way [] (y ∷ rest) isa ea f ej cut = absurd isa
      at_end way (z ∷ a) (y ∷ rest) isa ea f ej cut =
          absurd (inside (z ∷ a) (y ∷ rest) (folder_tail (key_at names nodes p) z a (subst IsFolderKey ea f)) (λ h. cc) (λ h. cc) (subst EndsAtSlash cut (piece_ends piece is)))

  pub absent_child : (parent : ℕ) (piece : List ℕ) → parent < length nodes → IsFolderKey (key_at names nodes parent) → IsPiece piece
      → ((j : ℕ) → 0 < j → IsFound names nodes parent (key_at names nodes parent ++ piece) j → ⊥) → IsAbsent names nodes (key_at names nodes parent ++ piece)
  absent_child parent piece pl folder is none j jl e =
      let c = child_of parent j piece pl jl folder is e in
      none j c.0 (record { within = jl; under = c.1; is = e })

-- ---- on the way to a name

folder_front : (q : List ℕ) (y : ℕ) (c : List ℕ) → IsFolderKey (y ∷ c) → IsFolderKey (q ++ y ∷ c)
folder_front [] y c f = f
folder_front (x ∷ []) y c f = f
folder_front (x ∷ z ∷ q) y c f = folder_front (z ∷ q) y c f

pub folder_joined : (q c : List ℕ) → c ≢ [] → IsFolderKey c → IsFolderKey (q ++ c)
folder_joined q [] some f = absurd (some refl)
folder_joined q (y ∷ c) some f = folder_front q y c f

module _ (names : List (List ℕ)) (nodes : List Node) (are : Stands names nodes) where
  pub way_root : (name : List ℕ) → 0 < length nodes → IsOnWay names nodes name 0
  way_root name lt = record {
    within = lt;
    folder = subst IsFolderKey (sym are.tree.root) tt;
    rest = name;
    is = ap (λ (k : List ℕ). k ++ name) (sym are.tree.root);
  }

  pub record IsUp (last p : ℕ) : Type 0 where
    pub within : p < length nodes
    pub folder : IsFolderKey (key_at names nodes p)
    pub rest : List ℕ
    pub part : key_at names nodes last ≡ key_at names nodes p ++ rest

  pub up_from : (last near p : ℕ) (rest : List ℕ) → 0 < near → near < length nodes → (node_at nodes near).parent ≡ p → key_at names nodes last ≡ key_at names nodes near ++ rest → IsUp last p
  up_from last near p rest some nl e part = subst (λ (i : ℕ). IsUp last i) e (
      let up : (node_at nodes near).parent < near = are.tree.up near some nl in
      let h = are.tree.hangs near some nl in
      record {
        within = omega arith;
        folder = are.tree.folder near some nl;
        rest = h.0 ++ rest;
        part = part ∙ ap (λ (k : List ℕ). k ++ rest) h.2 ∙ append_assoc (key_at names nodes (node_at nodes near).parent) h.0 rest;
      })

  pub below_root : (p shared : ℕ) (n : Node) → n ≡ node_at nodes p → shared < n.len → 0 < p
  below_root p shared n e lt = elim (cases_eq p 0) [
    | inl zero_is ↦ let none : n.len ≡ 0 = ap (λ (m : Node). m.len) e ∙ ap (λ (i : ℕ). (node_at nodes i).len) zero_is ∙ are.start in absurd (omega arith)
    | inr ne ↦ omega arith
  ]

  pub way_shared : (p : ℕ) (name k rest : List ℕ) (shared : ℕ) (n : Node) → p < length nodes → IsFolderKey (key_at names nodes p) → k ≡ key_at names nodes p ++ rest
      → take shared k ≡ take shared name → n ≡ node_at nodes p → n.len ≤ shared → IsOnWay names nodes name p
  way_shared p name k rest shared n pl folder part same e le =
      let len : length (key_at names nodes p) ≡ n.len = key_length names nodes are p pl ∙ ap (λ (m : Node). m.len) (sym e) in
      let front : take n.len name ≡ key_at names nodes p =
      sym (take-take n.len shared name le) ∙ ap (take n.len) (sym same) ∙ take-take n.len shared k le ∙ ap (take n.len) part ∙ take_at (key_at names nodes p) rest n.len len in
      record {
        within = pl;
        folder = folder;
        rest = drop n.len name;
        is = sym (take-append-drop n.len name) ∙ ap (λ (l : List ℕ). l ++ drop n.len name) front;
      }

  pub way_len : (name : List ℕ) (p : ℕ) (n : Node) → IsOnWay names nodes name p → n ≡ node_at nodes p → n.len ≤ length name
  way_len name p n way e =
      let len : length (key_at names nodes p) ≡ n.len = key_length names nodes are p way.within ∙ ap (λ (m : Node). m.len) (sym e) in
      let whole : length name ≡ length (key_at names nodes p) + length way.rest = ap length way.is ∙ length-append (key_at names nodes p) way.rest in
      omega arith

  -- what stands behind the folder
  pub way_rest : (name : List ℕ) (p : ℕ) (n : Node) → IsOnWay names nodes name p → n ≡ node_at nodes p → (rest : List ℕ) → name ≡ key_at names nodes p ++ rest → drop n.len name ≡ rest
  way_rest name p n way e rest is =
      let len : length (key_at names nodes p) ≡ n.len = key_length names nodes are p way.within ∙ ap (λ (m : Node). m.len) (sym e) in
      ap (drop n.len) is ∙ drop_at (key_at names nodes p) rest n.len len

  some_piece : (name : List ℕ) (start end : ℕ) → start < end → end ≤ length name → drop start (take end name) ≢ []
  some_piece name start end lt le e =
      let a = length-drop start (take end name) in
      let b = length-take-le end name le in
      let c : length (drop start (take end name)) ≡ 0 = ap length e in
      omega arith

  -- the name up to the end of the piece
  pub way_step : (name : List ℕ) (p : ℕ) (n : Node) (end : ℕ) → IsOnWay names nodes name p → n ≡ node_at nodes p → IsEnd name n.len (Some end) → take end name ≡ key_at names nodes p ++ drop n.len (take end name)
  way_step name p n end way e is =
      let len : length (key_at names nodes p) ≡ n.len = key_length names nodes are p way.within ∙ ap (λ (m : Node). m.len) (sym e) in
      let front : take n.len name ≡ key_at names nodes p = ap (take n.len) way.is ∙ take_at (key_at names nodes p) way.rest n.len len in
      let cut : take n.len (take end name) ≡ take n.len name = take-take n.len end name (let a = is.0 in omega arith) in
      sym (take-append-drop n.len (take end name)) ∙ ap (λ (l : List ℕ). l ++ drop n.len (take end name)) (cut ∙ front)

  pub deepest_here : (name : List ℕ) (p : ℕ) (n : Node) (end : ℕ) → IsOnWay names nodes name p → n ≡ node_at nodes p → IsEnd name n.len (Some end)
      → ((j : ℕ) → 0 < j → IsFound names nodes p (take end name) j → ⊥) → IsDeepest names nodes name p
  deepest_here name p n end way e is none piece rest isp folder whole =
      let q = drop n.len (take end name) in
      let k = key_at names nodes p in
      let step = way_step name p n end way e is in
      let cut : piece ++ rest ≡ q ++ drop end name = append_cancel_left k (piece ++ rest) (q ++ drop end name)
      (sym (append_assoc k piece rest) ∙ sym whole ∙ sym (take-append-drop end name) ∙ ap (λ (l : List ℕ). l ++ drop end name) step ∙ append_assoc k q (drop end name)) in
      let same : piece ≡ q = one_piece piece q rest (drop end name) (piece_ends piece isp) is.2 folder is.3 (piece_some piece isp) (some_piece name n.len end is.0 is.1) cut in
      let there : take end name ≡ k ++ piece = step ∙ ap (λ (l : List ℕ). k ++ l) (sym same) in
      absent_child names nodes are.tree p piece way.within way.folder isp (λ j some found. none j some (subst (λ (l : List ℕ). IsFound names nodes p l j) (sym there) found))

  pub deepest_end : (name : List ℕ) (p : ℕ) (n : Node) → IsOnWay names nodes name p → n ≡ node_at nodes p → IsEnd name n.len None → IsDeepest names nodes name p
  deepest_end name p n way e is piece rest isp folder whole =
      let cut : drop n.len name ≡ piece ++ rest = way_rest name p n way e (piece ++ rest) (whole ∙ append_assoc (key_at names nodes p) piece rest) in
      absurd (no_slash piece rest isp folder (subst EndsAtSlash cut is.0) (λ f. sym cut ∙ is.1 (subst IsFolderKey (sym cut) f)))
    where
      no_slash : (piece rest : List ℕ) → IsPiece piece → IsFolderKey piece → EndsAtSlash (piece ++ rest) → (IsFolderKey (piece ++ rest) → piece ++ rest ≡ []) → ⊥
      no_slash piece [] isp folder ends none = piece_some piece isp (sym (append-nil piece) ∙ none (subst IsFolderKey (sym (append-nil piece)) folder))
      no_slash piece (y ∷ rest) isp folder ends none = inside piece (y ∷ rest) folder (piece_some piece isp) (λ h. cc) ends

  pub way_on : (name : List ℕ) (p : ℕ) (n : Node) (end found : ℕ) → IsOnWay names nodes name p → n ≡ node_at nodes p → IsEnd name n.len (Some end) → IsFound names nodes p (take end name) found → IsOnWay names nodes name found
  way_on name p n end found way e is at =
      let q = drop n.len (take end name) in
      let there : key_at names nodes found ≡ key_at names nodes p ++ q = at.is ∙ way_step name p n end way e is in
      record {
        within = at.within;
        folder = subst IsFolderKey (sym there) (folder_joined (key_at names nodes p) q (some_piece name n.len end is.0 is.1) is.3);
        rest = drop end name;
        is = sym (take-append-drop end name) ∙ ap (λ (l : List ℕ). l ++ drop end name) (sym at.is);
      }
