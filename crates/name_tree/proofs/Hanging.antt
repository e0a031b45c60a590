-- A tree with a child more is a tree.
use Rattle.std.proofs.Common.{◌≡◌, ◌≢◌, ℕ, ◌+◌, ◌<◌, ◌≤◌, ◌⊎◌, false, List, [], ◌∷◌, ◌++◌, length, get_or, set, take, refl, sym, ap, ◌∙◌, subst, arith, inl, inr, if◌then◌else◌, ◌==◌}
use Rattle.std.proofs.lemmas.Bool.{cases_lt, cases_eq}
use Rattle.std.proofs.lemmas.Bool.Decides.{nat_tests}
use Rattle.std.proofs.lemmas.List.{length-append, length-set, get_or-set_same, get_or-set_other, get_or_append_left, get_or_push}
use Rattle.name_tree.specs.declared.node.Node.{Node}
use Rattle.name_tree.specs.Tree.{Below, AtMost, IsFolderKey, IsChildKey, IsTree}
use Rattle.name_tree.specs.Nodes.{root_node, node_at, key_at, links_of, after_of, new_node, hung}
use Rattle.name_tree.specs.Searching.{IsChildOrNone, IsHung, CanHang}
use Rattle.name_tree.proofs.Orders.{not_below_itself, below_trans, below_at_most, at_most_below, at_most_trans, not_both, compared}
use Rattle.name_tree.proofs.Searches.{after_child, least_after}

-- ---- the places

long_front : (nodes : List Node) (x : Node) (i : ℕ) → i < length nodes → node_at (nodes ++ x ∷ []) i ≡ node_at nodes i
unfolding node_at
long_front nodes x i lt = get_or_append_left nodes (x ∷ []) root_node i lt

long_last : (nodes : List Node) (x : Node) → node_at (nodes ++ x ∷ []) (length nodes) ≡ x
unfolding node_at
long_last nodes x = get_or_push nodes x root_node (length nodes) refl

pub set_there : (nodes : List Node) (x : Node) (i : ℕ) → i < length nodes → node_at (set nodes i x) i ≡ x
unfolding node_at
set_there nodes x i lt = get_or-set_same nodes i x root_node lt

pub set_else : (nodes : List Node) (x : Node) (i j : ℕ) → j ≢ i → node_at (set nodes i x) j ≡ node_at nodes j
unfolding node_at
set_else nodes x i j ne = get_or-set_other nodes i j x root_node ne

-- one place is changed to y
module _ (nodes : List Node) (x : Node) (at : ℕ) (y : Node) (within : at < length nodes) where
  long_len : length (nodes ++ x ∷ []) ≡ length nodes + 1
  long_len = length-append nodes (x ∷ [])

  changed_count : length (set (nodes ++ x ∷ []) at y) ≡ length nodes + 1
  changed_count = length-set (nodes ++ x ∷ []) at y ∙ long_len

  changed_there : node_at (set (nodes ++ x ∷ []) at y) at ≡ y
  changed_there = let l = long_len in set_there (nodes ++ x ∷ []) y at (omega arith)

  changed_last : node_at (set (nodes ++ x ∷ []) at y) (length nodes) ≡ x
  changed_last = let ne : length nodes ≢ at = omega arith in set_else (nodes ++ x ∷ []) y at (length nodes) ne ∙ long_last nodes x

  changed_else : (i : ℕ) → i < length nodes → i ≢ at → node_at (set (nodes ++ x ∷ []) at y) i ≡ node_at nodes i
  changed_else i lt ne = set_else (nodes ++ x ∷ []) y at i ne ∙ long_front nodes x i lt

  changed_by : {A : Type 0} (field : Node → A) → field y ≡ field (node_at nodes at) → (i : ℕ) → i < length nodes → field (node_at (set (nodes ++ x ∷ []) at y) i) ≡ field (node_at nodes i)
  changed_by field e i lt = elim (cases_eq i at) [
    | inl same ↦ ap (λ (k : ℕ). field (node_at (set (nodes ++ x ∷ []) at y) k)) same ∙ ap field changed_there ∙ e ∙ ap (λ (k : ℕ). field (node_at nodes k)) (sym same)
    | inr ne ↦ ap field (changed_else i lt ne)
  ]

hung_first : (nodes : List Node) (parent before name len : ℕ) → parent < length nodes → before ≡ 0 → IsHung nodes (hung nodes parent before name len) parent before name len
unfolding hung
hung_first nodes parent before name len pl none =
    let x = new_node nodes parent before name len in
    let y : Node = record (node_at (nodes ++ x ∷ []) parent) { first_child = length nodes } in
    let front = long_front nodes x parent pl in
    let is : (if before == 0 then set (nodes ++ x ∷ []) parent y else set (nodes ++ x ∷ []) before (record (node_at (nodes ++ x ∷ []) before) { next_sibling = length nodes })) ≡ set (nodes ++ x ∷ []) parent y = rw none refl in
    subst (λ (l : List Node). IsHung nodes l parent before name len) (sym is) (record {
      count = changed_count nodes x parent y pl;
      new = changed_last nodes x parent y pl;
      parents = changed_by nodes x parent y pl (λ n. n.parent) (ap (λ (n : Node). n.parent) front);
      names = changed_by nodes x parent y pl (λ n. n.name) (ap (λ (n : Node). n.name) front);
      lens = changed_by nodes x parent y pl (λ n. n.len) (ap (λ (n : Node). n.len) front);
      givens = changed_by nodes x parent y pl (λ n. n.given) (ap (λ (n : Node). n.given) front);
      first_new = λ h. ap (λ (n : Node). n.first_child) (changed_there nodes x parent y pl);
      first_old = λ i lt ne. ap (λ (n : Node). n.first_child) (changed_else nodes x parent y pl i lt (ne none));
      next_new = λ h. absurd (omega arith);
      next_old = λ i lt ne. changed_by nodes x parent y pl (λ n. n.next_sibling) (ap (λ (n : Node). n.next_sibling) front) i lt;
    })

hung_next : (nodes : List Node) (parent before name len : ℕ) → before < length nodes → 0 < before → IsHung nodes (hung nodes parent before name len) parent before name len
unfolding hung
hung_next nodes parent before name len bl some =
    let x = new_node nodes parent before name len in
    let y : Node = record (node_at (nodes ++ x ∷ []) before) { next_sibling = length nodes } in
    let front = long_front nodes x before bl in
    let no : (before == 0) ≡ false = grind (arith, nat_tests) in
    let is : (if before == 0 then set (nodes ++ x ∷ []) parent (record (node_at (nodes ++ x ∷ []) parent) { first_child = length nodes }) else set (nodes ++ x ∷ []) before y) ≡ set (nodes ++ x ∷ []) before y = rw no refl in
    subst (λ (l : List Node). IsHung nodes l parent before name len) (sym is) (record {
      count = changed_count nodes x before y bl;
      new = changed_last nodes x before y bl;
      parents = changed_by nodes x before y bl (λ n. n.parent) (ap (λ (n : Node). n.parent) front);
      names = changed_by nodes x before y bl (λ n. n.name) (ap (λ (n : Node). n.name) front);
      lens = changed_by nodes x before y bl (λ n. n.len) (ap (λ (n : Node). n.len) front);
      givens = changed_by nodes x before y bl (λ n. n.given) (ap (λ (n : Node). n.given) front);
      first_new = λ h. absurd (omega arith);
      first_old = λ i lt ne. changed_by nodes x before y bl (λ n. n.first_child) (ap (λ (n : Node). n.first_child) front) i lt;
      next_new = λ h. ap (λ (n : Node). n.next_sibling) (changed_there nodes x before y bl);
      next_old = λ i lt ne. ap (λ (n : Node). n.next_sibling) (changed_else nodes x before y bl i lt (ne some));
    })

pub is_hung : (nodes : List Node) (parent before name len : ℕ) → parent < length nodes → before < length nodes → IsHung nodes (hung nodes parent before name len) parent before name len
is_hung nodes parent before name len pl bl = elim (cases_eq before 0) [
  | inl none ↦ hung_first nodes parent before name len pl none
  | inr ne ↦ hung_next nodes parent before name len bl (omega arith)
]

-- ---- the tree

two_at_most : (a b c d : List ℕ) → a ≡ c → b ≡ d → AtMost a b → AtMost c d
two_at_most a b c d e f h = subst (λ (k : List ℕ). AtMost k d) e (subst (λ (k : List ℕ). AtMost a k) f h)

two_below : (a b c d : List ℕ) → a ≡ c → b ≡ d → Below a b → Below c d
two_below a b c d e f h = subst (λ (k : List ℕ). Below k d) e (subst (λ (k : List ℕ). Below a k) f h)

longer : (k : List ℕ) → k ≢ k ++ 47 ∷ []
longer k e = let l : length k ≡ length k + 1 = ap length e ∙ length-append k (47 ∷ []) in absurd (omega arith)

module _ (names : List (List ℕ)) (nodes next : List Node) (parent before name len : ℕ) (key : List ℕ)
    (tree : IsTree (length nodes) (links_of names nodes)) (is : IsHung nodes next parent before name len)
    (pl : parent < length nodes) (folder : IsFolderKey (key_at names nodes parent)) (child : IsChildKey (key_at names nodes parent) key)
    (can : CanHang names nodes parent key before) (fits : take len (get_or names name []) ≡ key) where
  pub kept_key : (i : ℕ) → i < length nodes → key_at names next i ≡ key_at names nodes i
  unfolding key_at
  kept_key i lt = λ k. take (is.lens i lt k) (get_or names (is.names i lt k) [])

  pub new_key : key_at names next (length nodes) ≡ key
  unfolding key_at
  new_key = ap (λ (n : Node). take n.len (get_or names n.name [])) is.new ∙ fits

  pub new_parent : (node_at next (length nodes)).parent ≡ parent
  new_parent = ap (λ (n : Node). n.parent) is.new

  new_next : (node_at next (length nodes)).next_sibling ≡ after_of nodes parent before
  new_next = ap (λ (n : Node). n.next_sibling) is.new

  near : IsChildOrNone nodes parent before
  near = λ b. let l = can.place.low b in (l.0, l.1)

  abbrev n : ℕ
  n = length nodes

  is_last : (i : ℕ) → i < length next → n ≤ i → i ≡ n
  is_last i lt ge = let c = is.count in omega arith

  abbrev OldOrNew : ℕ → Type 0
  OldOrNew i = (i < length nodes) ⊎ (i ≡ length nodes)

  which : (i : ℕ) → i < length next → OldOrNew i
  which i lt = elim (cases_lt i n) [ inl l ↦ inl l | inr ge ↦ inr (is_last i lt ge) ]

  -- what is between the siblings
  high_is : 0 < after_of nodes parent before → Below key (key_at names nodes (after_of nodes parent before))
  high_is some =
      let a = after_of nodes parent before in
      let there = after_child names nodes tree parent before a refl pl near some in
      elim (can.place.high some) [
        | inl e ↦ absurd (can.absent a there.0 (sym e))
        | inr b ↦ b
      ]

  -- where the first child is the new place
  first_case : (i : ℕ) → ((before ≡ 0) × (i ≡ parent)) ⊎ (before ≡ 0 → i ≡ parent → ⊥)
  first_case i = elim (cases_eq before 0) [
    | inl none ↦ elim (cases_eq i parent) [ inl e ↦ inl (none, e) | inr ne ↦ inr (λ h e. ne e) ]
    | inr ne ↦ inr (λ h e. ne h)
  ]

  next_case : (i : ℕ) → ((0 < before) × (i ≡ before)) ⊎ (0 < before → i ≡ before → ⊥)
  next_case i = elim (cases_eq before 0) [
    | inl none ↦ inr (λ h e. absurd (omega arith))
    | inr some ↦ elim (cases_eq i before) [ inl e ↦ inl (omega arith, e) | inr ne ↦ inr (λ h e. ne e) ]
  ]

  grown_up : (i : ℕ) → 0 < i → i < length next → (node_at next i).parent < i
  grown_up i some lt = elim (which i lt) [
    | inl l ↦ subst (λ (j : ℕ). j < i) (sym (is.parents i l)) (tree.up i some l)
    | inr e ↦ let p : (node_at next i).parent ≡ parent = ap (λ (j : ℕ). (node_at next j).parent) e ∙ new_parent in omega arith
  ]

  -- the parent is an old place, with its key
  parent_old : (i : ℕ) → 0 < i → i < length nodes → (node_at nodes i).parent < length nodes
  parent_old i some l = let u = tree.up i some l in let v : (node_at nodes i).parent < i = u in omega arith

  parent_key : (i : ℕ) → 0 < i → i < length nodes → key_at names next (node_at next i).parent ≡ key_at names nodes (node_at nodes i).parent
  parent_key i some l = ap (key_at names next) (is.parents i l) ∙ kept_key (node_at nodes i).parent (parent_old i some l)

  last_parent_key : key_at names next (node_at next (length nodes)).parent ≡ key_at names nodes parent
  last_parent_key = ap (key_at names next) new_parent ∙ kept_key parent pl

  grown_hangs : (i : ℕ) → 0 < i → i < length next → IsChildKey (key_at names next (node_at next i).parent) (key_at names next i)
  grown_hangs i some lt = elim (which i lt) [
    | inl l ↦ let h = tree.hangs i some l in (h.0, h.1, kept_key i l ∙ h.2 ∙ ap (λ (k : List ℕ). k ++ h.0) (sym (parent_key i some l)))
    | inr e ↦ subst (λ (j : ℕ). IsChildKey (key_at names next (node_at next j).parent) (key_at names next j)) (sym e)
        (child.0, child.1, new_key ∙ child.2 ∙ ap (λ (k : List ℕ). k ++ child.0) (sym last_parent_key))
  ]

  grown_folder : (i : ℕ) → 0 < i → i < length next → IsFolderKey (key_at names next (node_at next i).parent)
  grown_folder i some lt = elim (which i lt) [
    | inl l ↦ subst IsFolderKey (sym (parent_key i some l)) (tree.folder i some l)
    | inr e ↦ subst (λ (j : ℕ). IsFolderKey (key_at names next (node_at next j).parent)) (sym e) (subst IsFolderKey (sym last_parent_key) folder)
  ]

  key_of_last : (i : ℕ) → i ≡ length nodes → key_at names next i ≡ key
  key_of_last i e = ap (key_at names next) e ∙ new_key

  grown_one : (i j : ℕ) → i < length next → j < length next → key_at names next i ≡ key_at names next j → i ≡ j
  grown_one i j il jl e = elim (which i il) [
    | inl a ↦ elim (which j jl) [
      | inl b ↦ tree.one i j a b (sym (kept_key i a) ∙ e ∙ kept_key j b)
      | inr b ↦ absurd (can.absent i a (sym (kept_key i a) ∙ e ∙ key_of_last j b))
    ]
    | inr a ↦ elim (which j jl) [
      | inl b ↦ absurd (can.absent j b (sym (kept_key j b) ∙ sym e ∙ key_of_last i a))
      | inr b ↦ a ∙ sym b
    ]
  ]

  grown_apart : (i j : ℕ) → 0 < i → i < length next → j < length next → key_at names next j ≢ key_at names next i ++ 47 ∷ []
  grown_apart i j some il jl e = elim (which i il) [
    | inl a ↦ elim (which j jl) [
      | inl b ↦ tree.apart i j some a b (sym (kept_key j b) ∙ e ∙ ap (λ (k : List ℕ). k ++ 47 ∷ []) (kept_key i a))
      | inr b ↦ can.no_file (key_at names nodes i) (sym (key_of_last j b) ∙ e ∙ ap (λ (k : List ℕ). k ++ 47 ∷ []) (kept_key i a)) i a refl
    ]
    | inr a ↦ elim (which j jl) [
      | inl b ↦ can.no_folder j b (sym (kept_key j b) ∙ e ∙ ap (λ (k : List ℕ). k ++ 47 ∷ []) (key_of_last i a))
      | inr b ↦ longer key (sym (key_of_last j b) ∙ e ∙ ap (λ (k : List ℕ). k ++ 47 ∷ []) (key_of_last i a))
    ]
  ]

  last_within : length nodes < length next
  last_within = let c = is.count in omega arith

  grown_first_is : (i : ℕ) → i < length next → 0 < (node_at next i).first_child → ((node_at next i).first_child < length next) × ((node_at next (node_at next i).first_child).parent ≡ i)
  grown_first_is i lt some = elim (which i lt) [
    | inl l ↦ elim (first_case i) [
      | inl w ↦
          let e : (node_at next i).first_child ≡ length nodes = ap (λ (j : ℕ). (node_at next j).first_child) w.1 ∙ is.first_new w.0 in
          subst (λ (f : ℕ). (f < length next) × ((node_at next f).parent ≡ i)) (sym e) (last_within, new_parent ∙ sym w.1)
      | inr ne ↦
          let e = is.first_old i l ne in
          let f = tree.first_is i l (subst (λ (j : ℕ). 0 < j) e some) in
          let c = is.count in
          let old : (node_at nodes i).first_child < length nodes = f.0 in
          subst (λ (f : ℕ). (f < length next) × ((node_at next f).parent ≡ i)) (sym e) (omega arith, is.parents (node_at nodes i).first_child f.0 ∙ f.1)
    ]
    | inr e ↦
        let none : (node_at next i).first_child ≡ 0 = ap (λ (j : ℕ). (node_at next j).first_child) e ∙ ap (λ (n : Node). n.first_child) is.new in
        absurd (omega arith)
  ]

  abbrev IsLeastFirst : ℕ → ℕ → Type 0
  IsLeastFirst i j = (0 < (node_at next i).first_child) × AtMost (key_at names next (node_at next i).first_child) (key_at names next j)

  some_last : 0 < length nodes
  some_last = omega arith

  first_from_old : (i j : ℕ) → i < length nodes → (before ≡ 0 → i ≡ parent → ⊥) → (k : List ℕ) → k ≡ key_at names next j
      → (0 < (node_at nodes i).first_child) × AtMost (key_at names nodes (node_at nodes i).first_child) k → IsLeastFirst i j
  first_from_old i j l ne k e h =
      let f = tree.first_is i l h.0 in
      let same = is.first_old i l ne in
      subst (λ (x : ℕ). (0 < x) × AtMost (key_at names next x) (key_at names next j)) (sym same)
      (h.0, two_at_most (key_at names nodes (node_at nodes i).first_child) k (key_at names next (node_at nodes i).first_child) (key_at names next j) (sym (kept_key (node_at nodes i).first_child f.0)) e h.1)

  first_from_new : (i j : ℕ) → before ≡ 0 → i ≡ parent → (k : List ℕ) → k ≡ key_at names next j → AtMost key k → IsLeastFirst i j
  first_from_new i j none e k same h =
      let there : (node_at next i).first_child ≡ length nodes = ap (λ (j : ℕ). (node_at next j).first_child) e ∙ is.first_new none in
      subst (λ (x : ℕ). (0 < x) × AtMost (key_at names next x) (key_at names next j)) (sym there)
      (some_last, two_at_most key k (key_at names next (length nodes)) (key_at names next j) (sym new_key) same h)

  grown_first_least : (i j : ℕ) → 0 < j → j < length next → (node_at next j).parent ≡ i → IsLeastFirst i j
  grown_first_least i j some jl under = elim (which j jl) [
    | inl b ↦
        let old : (node_at nodes j).parent ≡ i = sym (is.parents j b) ∙ under in
        let il : i < length nodes = subst (λ (x : ℕ). x < length nodes) old (parent_old j some b) in
        elim (first_case i) [
          | inl w ↦
              let least = least_after names nodes tree parent before j pl near (λ h. absurd (zero_not w.0 h)) some b (old ∙ w.1) in
              first_from_new i j w.0 w.1 (key_at names nodes j) (sym (kept_key j b)) (at_most_trans key (key_at names nodes (after_of nodes parent before)) (key_at names nodes j) (inr (high_is least.0)) least.1)
          | inr ne ↦ first_from_old i j il ne (key_at names nodes j) (sym (kept_key j b)) (tree.first_least i j some b old)
        ]
    | inr e ↦
        let p : parent ≡ i = sym new_parent ∙ ap (λ (x : ℕ). (node_at next x).parent) (sym e) ∙ under in
        let k : key ≡ key_at names next j = sym (key_of_last j e) in
        elim (first_case i) [
          | inl w ↦ first_from_new i j w.0 w.1 key k (inl refl)
          | inr ne ↦
              let b : 0 < before = some_before (λ h. ne h (sym p)) in
              let low = can.place.low b in
              let least = tree.first_least parent before b low.0 low.1 in
              subst (λ (x : ℕ). IsLeastFirst x j) p (first_from_old parent j pl (λ h x. ne h (sym p)) key k (least.0, inr (at_most_below (key_at names nodes (node_at nodes parent).first_child) (key_at names nodes before) key least.1 low.2)))
        ]
  ]
    where
      zero_not : before ≡ 0 → 0 < before → ⊥
      zero_not e h = omega arith

      some_before : (before ≡ 0 → ⊥) → 0 < before
      some_before ne = omega arith

  grown_next_is : (i : ℕ) → 0 < i → i < length next → 0 < (node_at next i).next_sibling
      → ((node_at next i).next_sibling < length next) × ((node_at next (node_at next i).next_sibling).parent ≡ (node_at next i).parent)
      × Below (key_at names next i) (key_at names next (node_at next i).next_sibling)
  grown_next_is i some lt more =
      let c = is.count in
      elim (which i lt) [
        | inl l ↦ elim (next_case i) [
          | inl w ↦
              let e : (node_at next i).next_sibling ≡ length nodes = ap (λ (j : ℕ). (node_at next j).next_sibling) w.1 ∙ is.next_new w.0 in
              let low = can.place.low w.0 in
              let b : Below (key_at names nodes i) key = subst (λ (x : ℕ). Below (key_at names nodes x) key) (sym w.1) low.2 in
              let under : (node_at nodes i).parent ≡ parent = ap (λ (x : ℕ). (node_at nodes x).parent) w.1 ∙ low.1 in
              subst (λ (f : ℕ). (f < length next) × ((node_at next f).parent ≡ (node_at next i).parent) × Below (key_at names next i) (key_at names next f)) (sym e)
              (last_within, new_parent ∙ sym (is.parents i l ∙ under), two_below (key_at names nodes i) key (key_at names next i) (key_at names next (length nodes)) (sym (kept_key i l)) (sym new_key) b)
          | inr ne ↦
              let e = is.next_old i l ne in
              let f = tree.next_is i some l (subst (λ (j : ℕ). 0 < j) e more) in
              let x = (node_at nodes i).next_sibling in
              let old : x < length nodes = f.0 in
              subst (λ (f : ℕ). (f < length next) × ((node_at next f).parent ≡ (node_at next i).parent) × Below (key_at names next i) (key_at names next f)) (sym e)
              (omega arith, is.parents x f.0 ∙ f.1 ∙ sym (is.parents i l), two_below (key_at names nodes i) (key_at names nodes x) (key_at names next i) (key_at names next x) (sym (kept_key i l)) (sym (kept_key x f.0)) f.2)
        ]
        | inr e ↦
            let a = after_of nodes parent before in
            let there : (node_at next i).next_sibling ≡ a = ap (λ (j : ℕ). (node_at next j).next_sibling) e ∙ new_next in
            let some_a : 0 < a = subst (λ (x : ℕ). 0 < x) there more in
            let ac = after_child names nodes tree parent before a refl pl near some_a in
            let old : a < length nodes = ac.0 in
            let under : (node_at next i).parent ≡ parent = ap (λ (x : ℕ). (node_at next x).parent) e ∙ new_parent in
            subst (λ (f : ℕ). (f < length next) × ((node_at next f).parent ≡ (node_at next i).parent) × Below (key_at names next i) (key_at names next f)) (sym there)
            (omega arith, is.parents a ac.0 ∙ ac.1 ∙ sym under, two_below key (key_at names nodes a) (key_at names next i) (key_at names next a) (sym (key_of_last i e)) (sym (kept_key a ac.0)) (high_is some_a))
      ]

  abbrev IsLeastNext : ℕ → ℕ → Type 0
  IsLeastNext i j = (0 < (node_at next i).next_sibling) × AtMost (key_at names next (node_at next i).next_sibling) (key_at names next j)

  next_from_new : (i j : ℕ) → 0 < before → i ≡ before → (k : List ℕ) → k ≡ key_at names next j → AtMost key k → IsLeastNext i j
  next_from_new i j b e k same h =
      let there : (node_at next i).next_sibling ≡ length nodes = ap (λ (j : ℕ). (node_at next j).next_sibling) e ∙ is.next_new b in
      subst (λ (x : ℕ). (0 < x) × AtMost (key_at names next x) (key_at names next j)) (sym there)
      (some_last, two_at_most key k (key_at names next (length nodes)) (key_at names next j) (sym new_key) same h)

  next_from_old : (i j : ℕ) → 0 < i → i < length nodes → (0 < before → i ≡ before → ⊥) → (k : List ℕ) → k ≡ key_at names next j
      → (0 < (node_at nodes i).next_sibling) × AtMost (key_at names nodes (node_at nodes i).next_sibling) k → IsLeastNext i j
  next_from_old i j some l ne k e h =
      let f = tree.next_is i some l h.0 in
      let same = is.next_old i l ne in
      subst (λ (x : ℕ). (0 < x) × AtMost (key_at names next x) (key_at names next j)) (sym same)
      (h.0, two_at_most (key_at names nodes (node_at nodes i).next_sibling) k (key_at names next (node_at nodes i).next_sibling) (key_at names next j) (sym (kept_key (node_at nodes i).next_sibling f.0)) e h.1)

  -- an old sibling below the new key, and not the one before it
  old_below : (i j : ℕ) → 0 < i → i < length nodes → (node_at nodes i).parent ≡ parent → (0 < before → i ≡ before → ⊥) → Below (key_at names nodes i) key → key ≡ key_at names next j → IsLeastNext i j
  old_below i j some l under ne low k = elim (cases_eq before 0) [
    | inl none ↦
        let least = least_after names nodes tree parent before i pl near (λ h. absurd (zero_not none h)) some l under in
        absurd (not_both (key_at names nodes i) key low (inr (below_at_most key (key_at names nodes (after_of nodes parent before)) (key_at names nodes i) (high_is least.0) least.1)))
    | inr bn ↦
        let b : 0 < before = omega arith in
        let lo = can.place.low b in
        elim (compared (key_at names nodes i) (key_at names nodes before)) [
          | inl e ↦ absurd (ne b (tree.one i before l lo.0 e))
          | inr (inl less) ↦
              let least = tree.next_least i before some l b lo.0 (lo.1 ∙ sym under) less in
              next_from_old i j some l ne key k (least.0, inr (at_most_below (key_at names nodes (node_at nodes i).next_sibling) (key_at names nodes before) key least.1 lo.2))
          | inr (inr more) ↦
              let least = least_after names nodes tree parent before i pl near (λ h. more) some l under in
              absurd (not_both (key_at names nodes i) key low (inr (below_at_most key (key_at names nodes (after_of nodes parent before)) (key_at names nodes i) (high_is least.0) least.1)))
        ]
  ]
    where
      zero_not : before ≡ 0 → 0 < before → ⊥
      zero_not e h = omega arith

  grown_next_least : (i j : ℕ) → 0 < i → i < length next → 0 < j → j < length next → (node_at next j).parent ≡ (node_at next i).parent → Below (key_at names next i) (key_at names next j) → IsLeastNext i j
  grown_next_least i j some il jsome jl same low = elim (which i il) [
    | inl a ↦ elim (which j jl) [
      | inl b ↦
          let siblings : (node_at nodes j).parent ≡ (node_at nodes i).parent = sym (is.parents j b) ∙ same ∙ is.parents i a in
          let lows = two_below (key_at names next i) (key_at names next j) (key_at names nodes i) (key_at names nodes j) (kept_key i a) (kept_key j b) low in
          elim (next_case i) [
            | inl w ↦
                let lo = can.place.low w.0 in
                let under : (node_at nodes j).parent ≡ parent = siblings ∙ ap (λ (x : ℕ). (node_at nodes x).parent) w.1 ∙ lo.1 in
                let least = least_after names nodes tree parent before j pl near (λ h. subst (λ (x : ℕ). Below (key_at names nodes x) (key_at names nodes j)) w.1 lows) jsome b under in
                next_from_new i j w.0 w.1 (key_at names nodes j) (sym (kept_key j b)) (at_most_trans key (key_at names nodes (after_of nodes parent before)) (key_at names nodes j) (inr (high_is least.0)) least.1)
            | inr ne ↦ next_from_old i j some a ne (key_at names nodes j) (sym (kept_key j b)) (tree.next_least i j some a jsome b siblings lows)
          ]
      | inr e ↦
          let under : (node_at nodes i).parent ≡ parent = sym (is.parents i a) ∙ sym same ∙ ap (λ (x : ℕ). (node_at next x).parent) e ∙ new_parent in
          let lows = two_below (key_at names next i) (key_at names next j) (key_at names nodes i) key (kept_key i a) (key_of_last j e) low in
          elim (next_case i) [
            | inl w ↦ next_from_new i j w.0 w.1 key (sym (key_of_last j e)) (inl refl)
            | inr ne ↦ old_below i j some a under ne lows (sym (key_of_last j e))
          ]
    ]
    | inr e ↦ elim (which j jl) [
      | inl b ↦
          let under : (node_at nodes j).parent ≡ parent = sym (is.parents j b) ∙ same ∙ ap (λ (x : ℕ). (node_at next x).parent) e ∙ new_parent in
          let lows = two_below (key_at names next i) (key_at names next j) key (key_at names nodes j) (key_of_last i e) (kept_key j b) low in
          let least = least_after names nodes tree parent before j pl near (λ h. below_trans (key_at names nodes before) key (key_at names nodes j) (can.place.low h).2 lows) jsome b under in
          let a = after_of nodes parent before in
          let ac = after_child names nodes tree parent before a refl pl near least.0 in
          let there : (node_at next i).next_sibling ≡ a = ap (λ (j : ℕ). (node_at next j).next_sibling) e ∙ new_next in
          subst (λ (x : ℕ). (0 < x) × AtMost (key_at names next x) (key_at names next j)) (sym there)
          (least.0, two_at_most (key_at names nodes a) (key_at names nodes j) (key_at names next a) (key_at names next j) (sym (kept_key a ac.0)) (sym (kept_key j b)) least.1)
      | inr f ↦ absurd (not_below_itself key (two_below (key_at names next i) (key_at names next j) key key (key_of_last i e) (key_of_last j f) low))
    ]
  ]

  pub grown : IsTree (length next) (links_of names next)
  grown = record {
    root = kept_key 0 some_last ∙ tree.root;
    up = grown_up;
    hangs = grown_hangs;
    folder = grown_folder;
    one = grown_one;
    apart = grown_apart;
    first_is = grown_first_is;
    first_least = grown_first_least;
    next_is = grown_next_is;
    next_least = grown_next_least;
  }
