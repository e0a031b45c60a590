-- A name is added place by place.
use Rattle.std.proofs.Common.{◌≡◌, ◌≢◌, ℕ, zero, suc, ◌+◌, ◌-◌, ◌<◌, ◌≤◌, ◌⊎◌, Bool, true, false, List, [], ◌∷◌, ◌++◌, length, get_or, take, drop, refl, sym, ap, ◌∙◌, subst, arith, inl, inr, Option, Some, None, if◌then◌else◌, ◌==◌}
use Rattle.std.proofs.lemmas.Bool.{cases_lt, cases_eq}
use Rattle.std.proofs.lemmas.Bool.Decides.{nat_tests}
use Rattle.std.proofs.lemmas.List.{append-nil, append_assoc, take-append-drop, length-append, length-drop, length-take-le, get_or_append_left, get_or_push, get_or_past, take_all}
use Rattle.std.specs.List.{list_all, filter_map, cons_option}
use Rattle.cook_bits.specs.Names.{is_plain_segment, segments_of, is_relative_name, IsRelativeName}
use Rattle.name_tree.specs.declared.node.Node.{Node}
use Rattle.name_tree.specs.Tree.{Below, AtMost, EndsAtSlash, IsPiece, IsFolderKey, IsTree}
use Rattle.name_tree.specs.Nodes.{root_node, node_at, key_at, links_of, after_of, AreKeyed, HasPlace, AreNodes, IsNameTree, new_node, hung, given_name, given_of}
use Rattle.name_tree.specs.Searching.{IsChildOrNone, IsOnWay, IsEnd, IsAbsent, IsHung, CanHang, IsFree}
use Rattle.name_tree.proofs.Orders.{behind, piece_some}
use Rattle.name_tree.proofs.Trees.{leads}
use Rattle.name_tree.proofs.Searches.{Stands, folder_joined, way_step, way_rest, way_len}
use Rattle.name_tree.proofs.Hanging.{is_hung, kept_key, new_key, grown}
use Rattle.name_tree.proofs.Refusals.{plain_rest, plain_some, relative_plain, not_folder}
use Rattle.name_tree.proofs.Free.{is_piece}

-- all but the name with the last number have their places; the next key of that name may be added under the parent
pub record IsGrowing (names : List (List ℕ)) (nodes : List Node) (name : List ℕ) (number parent before start : ℕ) : Type 0 where
  pub tree : IsTree (length nodes) (links_of names nodes)
  pub keyed : AreKeyed names nodes
  pub root : (node_at nodes 0).len ≡ 0
  pub leaf : (i : ℕ) → 0 < i → i < length nodes → (IsFolderKey (key_at names nodes i) → ⊥) → key_at names nodes i ≡ get_or names (node_at nodes i).name []
  pub full : (i : ℕ) → 0 < i → i < length nodes → i ≢ parent → IsFolderKey (key_at names nodes i) → 0 < (node_at nodes i).first_child
  pub placed : (m : ℕ) → m < number → HasPlace names nodes m
  pub ungiven : (node_at nodes 0).given ≡ false
  pub closed : (i : ℕ) → 0 < i → i < length nodes → (node_at nodes i).given ≡ true
      → IsFolderKey (key_at names nodes i) × ((0 < (node_at nodes i).parent) → (node_at nodes (node_at nodes i).parent).given ≡ true)
  pub way : IsOnWay names nodes name parent
  pub start_is : start ≡ (node_at nodes parent).len
  pub near : IsChildOrNone nodes parent before
  pub free : IsFree names nodes name parent before
  pub known : number < length names
  pub is : get_or names number [] ≡ name

-- ---- folders that were given

filtered_more : {X Y : Type 0} (f g : X → Option Y) (xs ys : List X) (d : X) → length ys ≡ length xs + 1 → ((i : ℕ) → i < length xs → f (get_or xs i d) ≡ g (get_or ys i d)) → g (get_or ys (length xs) d) ≡ None
    → filter_map g ys ≡ filter_map f xs
filtered_more f g [] [] d len same last = absurd (omega arith)
filtered_more f g [] (y ∷ []) d len same last = ap (λ o. cons_option o []) last
filtered_more f g [] (y ∷ z ∷ ys) d len same last = absurd (omega arith)
filtered_more f g (x ∷ xs) [] d len same last = absurd (omega arith)
filtered_more f g (x ∷ xs) (y ∷ ys) d len same last =
    λ k. cons_option (sym (same 0 (omega arith)) k) (filtered_more f g xs ys d (omega arith) (λ i lt. same (suc i) (omega arith)) last k)

filtered_same : {X Y : Type 0} (f g : X → Option Y) (xs ys : List X) (d : X) → length ys ≡ length xs → ((i : ℕ) → i < length xs → f (get_or xs i d) ≡ g (get_or ys i d)) → filter_map g ys ≡ filter_map f xs
filtered_same f g [] [] d len same = refl
filtered_same f g [] (y ∷ ys) d len same = absurd (omega arith)
filtered_same f g (x ∷ xs) [] d len same = absurd (omega arith)
filtered_same f g (x ∷ xs) (y ∷ ys) d len same =
    λ k. cons_option (sym (same 0 (omega arith)) k) (filtered_same f g xs ys d (omega arith) (λ i lt. same (suc i) (omega arith)) k)

pub hung_given : (names : List (List ℕ)) (nodes next : List Node) (parent before name len : ℕ) → IsHung nodes next parent before name len → given_of names next ≡ given_of names nodes
unfolding node_at
hung_given names nodes next parent before name len is =
    filtered_more (given_name names) (given_name names) nodes next root_node is.count
    (λ i lt. λ k. if sym (is.givens i lt) k then Some (take (sym (is.lens i lt) k - 1) (get_or names (sym (is.names i lt) k) [])) else None)
    (ap (given_name names) is.new)

given_kept : (names : List (List ℕ)) (x : List ℕ) (n : Node) → (n.given ≡ true → n.name < length names) → given_name names n ≡ given_name (names ++ x ∷ []) n
given_kept names x n known = by n.given known
  where
    by : (b : Bool) → (b ≡ true → n.name < length names)
        → (if b then Some (take (n.len - 1) (get_or names n.name [])) else None) ≡ (if b then Some (take (n.len - 1) (get_or (names ++ x ∷ []) n.name [])) else None)
    by true k = ap (λ (l : List ℕ). Some (take (n.len - 1) l)) (sym (get_or_append_left names (x ∷ []) [] n.name (k refl)))
    by false k = refl

-- ---- a name more

module _ (names : List (List ℕ)) (nodes : List Node) (name : List ℕ) (are : AreNodes names nodes) where
  pub longer_key : (i : ℕ) → key_at (names ++ name ∷ []) nodes i ≡ key_at names nodes i
  unfolding key_at node_at
  longer_key i = elim (cases_lt i (length nodes)) [
    | inl lt ↦ elim (cases_eq i 0) [
      | inl zero_is ↦
          let none : (node_at nodes i).len ≡ 0 = ap (λ (k : ℕ). (node_at nodes k).len) zero_is ∙ are.start in
          (λ k. take (none k) (get_or (names ++ name ∷ []) (node_at nodes i).name [])) ∙ sym (λ k. take (none k) (get_or names (node_at nodes i).name []))
      | inr ne ↦ ap (take (node_at nodes i).len) (get_or_append_left names (name ∷ []) [] (node_at nodes i).name (are.keyed i (omega arith) lt).0)
    ]
    | inr ge ↦
        let none : (node_at nodes i).len ≡ 0 = ap (λ (n : Node). n.len) (get_or_past nodes i root_node ge) in
        (λ k. take (none k) (get_or (names ++ name ∷ []) (node_at nodes i).name [])) ∙ sym (λ k. take (none k) (get_or names (node_at nodes i).name []))
  ]

  all_keys : key_at (names ++ name ∷ []) nodes ≡ key_at names nodes
  all_keys = λ k i. longer_key i k

  pub longer_tree : IsTree (length nodes) (links_of (names ++ name ∷ []) nodes)
  longer_tree = subst (λ (key : ℕ → List ℕ). IsTree (length nodes) (record { parent = λ i. (node_at nodes i).parent; first = λ i. (node_at nodes i).first_child; next = λ i. (node_at nodes i).next_sibling; key = key })) (sym all_keys) are.tree

  longer_absent : (key : List ℕ) → IsAbsent names nodes key → IsAbsent (names ++ name ∷ []) nodes key
  longer_absent key none j lt e = none j lt (sym (longer_key j) ∙ e)

  longer_can : (parent before : ℕ) (key : List ℕ) → CanHang names nodes parent key before → CanHang (names ++ name ∷ []) nodes parent key before
  longer_can parent before key can = record {
    place = record {
      low = λ h. let l = can.place.low h in (l.0, l.1, subst (λ (k : List ℕ). Below k key) (sym (longer_key before)) l.2);
      high = λ h. subst (λ (k : List ℕ). AtMost key k) (sym (longer_key (after_of nodes parent before))) (can.place.high h);
    };
    absent = longer_absent key can.absent;
    no_file = λ front e. longer_absent front (can.no_file front e);
    no_folder = longer_absent (key ++ 47 ∷ []) can.no_folder;
  }

  longer_name : (m : ℕ) → m < length names → get_or (names ++ name ∷ []) m [] ≡ get_or names m []
  longer_name m lt = get_or_append_left names (name ∷ []) [] m lt

  longer_length : length (names ++ name ∷ []) ≡ length names + 1
  longer_length = length-append names (name ∷ [])

  pub grows_from : (parent before start : ℕ) → IsOnWay names nodes name parent → start ≡ (node_at nodes parent).len → IsChildOrNone nodes parent before → IsFree names nodes name parent before
      → IsGrowing (names ++ name ∷ []) nodes name (length names) parent before start
  grows_from parent before start way start_is near free = record {
    tree = longer_tree;
    keyed = λ i some lt. let k = are.keyed i some lt in let l = longer_length in let known = k.0 in
        (omega arith, subst (λ (n : List ℕ). (node_at nodes i).len ≤ length n) (sym (longer_name (node_at nodes i).name k.0)) k.1);
    root = are.start;
    leaf = λ i some lt is. longer_key i ∙ are.leaf i some lt (λ f. is (subst IsFolderKey (sym (longer_key i)) f)) ∙ sym (longer_name (node_at nodes i).name (are.keyed i some lt).0);
    full = λ i some lt ne f. are.full i some lt (subst IsFolderKey (longer_key i) f);
    placed = λ m lt. let p = are.placed m lt in record { place = p.place; some = p.some; within = p.within; named = p.named; is = longer_key p.place ∙ p.is ∙ sym (longer_name m lt) };
    ungiven = are.ungiven;
    closed = λ i some lt g. let c = are.closed i some lt g in (subst IsFolderKey (sym (longer_key i)) c.0, c.1);
    way = record { within = way.within; folder = subst IsFolderKey (sym (longer_key parent)) way.folder; rest = way.rest; is = way.is ∙ ap (λ (k : List ℕ). k ++ way.rest) (sym (longer_key parent)) };
    start_is = start_is;
    near = near;
    free = λ piece rest isp e or.
        let same = longer_key parent in
        let can = free piece rest isp (e ∙ ap (λ (k : List ℕ). (k ++ piece) ++ rest) same) or in
        subst (λ (k : List ℕ). CanHang (names ++ name ∷ []) nodes parent (k ++ piece) before) (sym same) (longer_can parent before (key_at names nodes parent ++ piece) can);
    known = let l = longer_length in omega arith;
    is = get_or_push names name [] (length names) refl;
  }

  pub longer_given : given_of (names ++ name ∷ []) nodes ≡ given_of names nodes
  unfolding node_at
  longer_given = filtered_same (given_name names) (given_name (names ++ name ∷ [])) nodes nodes root_node refl
      (λ i lt. given_kept names name (node_at nodes i) (λ g. elim (cases_eq i 0) [
        | inl zero_is ↦ let no : true ≡ false = sym g ∙ ap (λ (k : ℕ). (node_at nodes k).given) zero_is ∙ are.ungiven in cc
        | inr ne ↦ (are.keyed i (omega arith) lt).0
      ]))

  pub longer_relative : is_relative_name name ≡ true → (m : ℕ) → m < length (names ++ name ∷ []) → IsRelativeName (get_or (names ++ name ∷ []) m [])
  longer_relative relative m lt = elim (cases_lt m (length names)) [
    | inl l ↦ subst IsRelativeName (sym (longer_name m l)) (are.relative m l)
    | inr ge ↦
        let l = longer_length in
        let last : length names ≡ m = omega arith in
        subst IsRelativeName (sym (get_or_push names name [] m last)) relative
  ]

-- ---- a place more

module _ (names : List (List ℕ)) (nodes next : List Node) (name : List ℕ) (number parent before start len : ℕ)
    (relative : is_relative_name name ≡ true) (g : IsGrowing names nodes name number parent before start)
    (is : IsHung nodes next parent before number len) (le : len ≤ length name)
    (piece rest : List ℕ) (isp : IsPiece piece) (cut : take len name ≡ key_at names nodes parent ++ piece) (whole : name ≡ (key_at names nodes parent ++ piece) ++ rest)
    (or : IsFolderKey piece ⊎ (rest ≡ [])) where
  can : CanHang names nodes parent (key_at names nodes parent ++ piece) before
  can = g.free piece rest isp whole or

  fits : take len (get_or names number []) ≡ key_at names nodes parent ++ piece
  fits = ap (take len) g.is ∙ cut

  pub next_tree : IsTree (length next) (links_of names next)
  next_tree = grown names nodes next parent before number len (key_at names nodes parent ++ piece) g.tree is g.way.within g.way.folder (piece, isp, refl) can fits

  pub old_key : (i : ℕ) → i < length nodes → key_at names next i ≡ key_at names nodes i
  old_key = kept_key names nodes next parent before number len (key_at names nodes parent ++ piece) g.tree is g.way.within g.way.folder (piece, isp, refl) can fits

  pub last_key : key_at names next (length nodes) ≡ key_at names nodes parent ++ piece
  last_key = new_key names nodes next parent before number len (key_at names nodes parent ++ piece) g.tree is g.way.within g.way.folder (piece, isp, refl) can fits

  which : (i : ℕ) → i < length next → (i < length nodes) ⊎ (i ≡ length nodes)
  which i lt = let c = is.count in elim (cases_lt i (length nodes)) [ inl l ↦ inl l | inr ge ↦ inr (omega arith) ]

  last_in : length nodes < length next
  last_in = let c = is.count in omega arith

  some_in : 0 < length nodes
  some_in = let w = g.way.within in omega arith

  next_keyed : AreKeyed names next
  next_keyed i some lt = elim (which i lt) [
    | inl l ↦
        let k = g.keyed i some l in (
          subst (λ (m : ℕ). m < length names) (sym (is.names i l)) k.0,
          subst (λ (m : ℕ). (node_at next i).len ≤ length (get_or names m [])) (sym (is.names i l)) (subst (λ (m : ℕ). m ≤ length (get_or names (node_at nodes i).name [])) (sym (is.lens i l)) k.1),
        )
    | inr e ↦
        let there : node_at next i ≡ new_node nodes parent before number len = ap (node_at next) e ∙ is.new in
        subst (λ (n : Node). (n.name < length names) × (n.len ≤ length (get_or names n.name []))) (sym there) (g.known, subst (λ (l : List ℕ). len ≤ length l) (sym g.is) le)
  ]

  next_root : (node_at next 0).len ≡ 0
  next_root = is.lens 0 some_in ∙ g.root

  next_leaf : (i : ℕ) → 0 < i → i < length next → (IsFolderKey (key_at names next i) → ⊥) → key_at names next i ≡ get_or names (node_at next i).name []
  next_leaf i some lt leaf = elim (which i lt) [
    | inl l ↦ old_key i l ∙ g.leaf i some l (λ f. leaf (subst IsFolderKey (sym (old_key i l)) f)) ∙ ap (λ (m : ℕ). get_or names m []) (sym (is.names i l))
    | inr e ↦ elim or [
      | inl folder ↦ absurd (leaf (subst IsFolderKey (sym (ap (key_at names next) e ∙ last_key)) (folder_joined (key_at names nodes parent) piece (piece_some piece isp) folder)))
      | inr nothing ↦
          let k : key_at names nodes parent ++ piece ≡ name = sym (whole ∙ ap (λ (l : List ℕ). (key_at names nodes parent ++ piece) ++ l) nothing ∙ append-nil (key_at names nodes parent ++ piece)) in
          let at : (node_at next i).name ≡ number = ap (λ (j : ℕ). (node_at next j).name) e ∙ ap (λ (n : Node). n.name) is.new in
          ap (key_at names next) e ∙ last_key ∙ k ∙ sym g.is ∙ ap (λ (m : ℕ). get_or names m []) (sym at)
    ]
  ]

  next_full : (i : ℕ) → 0 < i → i < length next → i ≢ length nodes → IsFolderKey (key_at names next i) → 0 < (node_at next i).first_child
  next_full i some lt ne f = elim (which i lt) [
    | inl l ↦ elim (cases_eq i parent) [
      | inl same ↦ subst (λ (j : ℕ). 0 < (node_at next j).first_child) (sym same) (next_tree.first_least parent (length nodes) some_in last_in (ap (λ (n : Node). n.parent) is.new)).0
      | inr other ↦ subst (λ (x : ℕ). 0 < x) (sym (is.first_old i l (λ h e. other e))) (g.full i some l other (subst IsFolderKey (old_key i l) f))
    ]
    | inr e ↦ absurd (ne e)
  ]

  next_placed : (m : ℕ) → m < number → HasPlace names next m
  next_placed m lt = let p = g.placed m lt in record {
    place = p.place;
    some = p.some;
    within = let c = is.count in let w = p.within in omega arith;
    named = is.names p.place p.within ∙ p.named;
    is = old_key p.place p.within ∙ p.is;
  }

  next_closed : (i : ℕ) → 0 < i → i < length next → (node_at next i).given ≡ true
      → IsFolderKey (key_at names next i) × ((0 < (node_at next i).parent) → (node_at next (node_at next i).parent).given ≡ true)
  next_closed i some lt given = elim (which i lt) [
    | inl l ↦
        let c = g.closed i some l (sym (is.givens i l) ∙ given) in
        let up = g.tree.up i some l in
        let pl : (node_at nodes i).parent < length nodes = let u : (node_at nodes i).parent < i = up in omega arith in (
          subst IsFolderKey (sym (old_key i l)) c.0,
          λ h. ap (λ (j : ℕ). (node_at next j).given) (is.parents i l) ∙ is.givens (node_at nodes i).parent pl ∙ c.1 (subst (λ (x : ℕ). 0 < x) (is.parents i l) h),
        )
    | inr e ↦ let no : false ≡ true = sym (ap (λ (j : ℕ). (node_at next j).given) e ∙ ap (λ (n : Node). n.given) is.new) ∙ given in cc
  ]

  -- no key is under the new one
  bare : (u : List ℕ) (j : ℕ) → IsFolderKey piece → j < length next → key_at names next j ≡ key_at names next (length nodes) ++ u → u ≢ [] → ⊥
  bare u j folder jl e some =
      let f = subst IsFolderKey (sym last_key) (folder_joined (key_at names nodes parent) piece (piece_some piece isp) folder) in
      let way = leads next_tree (suc j) (length nodes) j u (omega arith) last_in jl f e some in
      let least = (next_tree.first_least (length nodes) way.child way.some way.within way.under).0 in
      let none : (node_at next (length nodes)).first_child ≡ 0 = ap (λ (n : Node). n.first_child) is.new in
      let yes_first : 0 < (node_at next (length nodes)).first_child = least in
      omega arith

  bare_free : IsFolderKey piece → IsFree names next name (length nodes) 0
  bare_free folder p2 r2 isp2 e or2 =
      let k = key_at names next (length nodes) in
      let none : (node_at next (length nodes)).first_child ≡ 0 = ap (λ (n : Node). n.first_child) is.new in
      record {
        place = record { low = λ h. absurd (omega arith); high = λ h. absurd (nothing_behind none h) };
        absent = λ j jl ej. bare p2 j folder jl ej (piece_some p2 isp2);
        no_file = λ front ef j jl ej. elim (behind k p2 front (47 ∷ []) ef) [
          | inl ([], f, h) ↦ slash_piece p2 h isp2
          | inl (x ∷ c, f, h) ↦ bare (x ∷ c) j folder jl (ej ∙ f) (λ z. cc)
          | inr ([], f, h) ↦ slash_piece p2 (sym h) isp2
          | inr (x ∷ c, f, h) ↦ piece_some p2 isp2 (rest_none x c p2 h)
        ];
        no_folder = λ j jl ej. bare (p2 ++ 47 ∷ []) j folder jl (ej ∙ append_assoc k p2 (47 ∷ [])) (joined_some p2);
      }
    where
      nothing_behind : (node_at next (length nodes)).first_child ≡ 0 → 0 < (node_at next (length nodes)).first_child → ⊥
      nothing_behind e h = omega arith

      slash_piece : (p : List ℕ) → p ≡ 47 ∷ [] → IsPiece p → ⊥
      slash_piece p e i = (subst IsPiece e i).0 refl

      rest_none : (x : ℕ) (c p : List ℕ) → 47 ∷ [] ≡ x ∷ c ++ p → p ≡ []
      rest_none x [] p e = cc
      rest_none x (y ∷ c) p e = cc

      joined_some : (p : List ℕ) → p ++ 47 ∷ [] ≢ []
      joined_some [] e = cc
      joined_some (x ∷ p) e = cc

  pub with_folder : IsFolderKey piece → IsGrowing names next name number (length nodes) 0 len
  with_folder folder = record {
    tree = next_tree;
    keyed = next_keyed;
    root = next_root;
    leaf = next_leaf;
    full = next_full;
    placed = next_placed;
    ungiven = is.givens 0 some_in ∙ g.ungiven;
    closed = next_closed;
    way = record {
      within = last_in;
      folder = subst IsFolderKey (sym last_key) (folder_joined (key_at names nodes parent) piece (piece_some piece isp) folder);
      rest = rest;
      is = whole ∙ ap (λ (k : List ℕ). k ++ rest) (sym last_key);
    };
    start_is = sym (ap (λ (n : Node). n.len) is.new);
    near = λ h. absurd (omega arith);
    free = bare_free folder;
    known = g.known;
    is = g.is;
  }

  pub with_file : rest ≡ [] → length names ≡ number + 1 → ((m : ℕ) → m < length names → IsRelativeName (get_or names m [])) → AreNodes names next
  with_file nothing count relatives =
      let k : key_at names nodes parent ++ piece ≡ name = sym (whole ∙ ap (λ (l : List ℕ). (key_at names nodes parent ++ piece) ++ l) nothing ∙ append-nil (key_at names nodes parent ++ piece)) in
      record {
        tree = next_tree;
        keyed = next_keyed;
        start = next_root;
        leaf = next_leaf;
        full = λ i some lt f. elim (cases_eq i (length nodes)) [
          | inl e ↦ absurd (not_folder name (relative_plain name relative) (subst IsFolderKey (ap (key_at names next) e ∙ last_key ∙ k) f))
          | inr ne ↦ next_full i some lt ne f
        ];
        placed = λ m lt. elim (cases_lt m number) [
          | inl l ↦ next_placed m l
          | inr ge ↦
              let same : number ≡ m = omega arith in
              record {
                place = length nodes;
                some = some_in;
                within = last_in;
                named = ap (λ (n : Node). n.name) is.new ∙ same;
                is = last_key ∙ k ∙ sym g.is ∙ ap (λ (j : ℕ). get_or names j []) same;
              }
        ];
        relative = relatives;
        ungiven = is.givens 0 some_in ∙ g.ungiven;
        closed = next_closed;
      }

-- ---- the next piece of a name

module _ (names : List (List ℕ)) (nodes : List Node) (name : List ℕ) (number parent before start : ℕ)
    (relative : is_relative_name name ≡ true) (g : IsGrowing names nodes name number parent before start) where
  stand : Stands names nodes
  stand = record { tree = g.tree; keyed = g.keyed; start = g.root }

  plain_behind : (rest : List ℕ) → name ≡ key_at names nodes parent ++ rest → list_all is_plain_segment (segments_of rest) ≡ true
  plain_behind rest e = plain_rest (key_at names nodes parent) rest g.way.folder (ap (λ (l : List ℕ). list_all is_plain_segment (segments_of l)) (sym e) ∙ relative_plain name relative)

  pub start_within : start ≤ length name
  start_within =
      let len = way_len names nodes stand name parent (node_at nodes parent) g.way refl in
      let e = g.start_is in
      omega arith

  pub folder_grows : (next : List Node) (end : ℕ) → IsEnd name start (Some end) → IsHung nodes next parent before number end → IsGrowing names next name number (length nodes) 0 end
  folder_grows next end is hung_is =
      let n = node_at nodes parent in
      let is2 = subst (λ (s : ℕ). IsEnd name s (Some end)) g.start_is is in
      let q = drop n.len (take end name) in
      let k = key_at names nodes parent in
      let step = way_step names nodes stand name parent n end g.way refl is2 in
      let whole : name ≡ (k ++ q) ++ drop end name = sym (take-append-drop end name) ∙ ap (λ (l : List ℕ). l ++ drop end name) step in
      let some : q ≢ [] = λ e.
      let a = length-drop n.len (take end name) in
      let b = length-take-le end name is2.1 in
      let c : length q ≡ 0 = ap length e in
      let lt = is2.0 in
      omega arith in
      let isp : IsPiece q = is_piece q (drop end name) some is2.2 (plain_behind (q ++ drop end name) (whole ∙ append_assoc k q (drop end name))) in
      with_folder names nodes next name number parent before start end relative g hung_is is2.1 q (drop end name) isp step whole (inl is2.3) is2.3

  pub file_grows : (next : List Node) → IsEnd name start None → IsHung nodes next parent before number (length name) → length names ≡ number + 1
      → ((m : ℕ) → m < length names → IsRelativeName (get_or names m [])) → AreNodes names next
  file_grows next is hung_is count relatives =
      let n = node_at nodes parent in
      let k = key_at names nodes parent in
      let rest = g.way.rest in
      let e : drop start name ≡ rest = ap (λ (s : ℕ). drop s name) g.start_is ∙ way_rest names nodes stand name parent n g.way refl rest g.way.is in
      let plain = plain_behind rest g.way.is in
      let isp : IsPiece rest = is_piece rest [] (plain_some rest plain).0 (subst EndsAtSlash e is.0) (ap (λ (l : List ℕ). list_all is_plain_segment (segments_of l)) (append-nil rest) ∙ plain) in
      with_file names nodes next name number parent before start (length name) relative g hung_is (omega arith) rest [] isp (take_all (length name) name (omega arith) ∙ g.way.is) (g.way.is ∙ sym (append-nil (k ++ rest))) (inr refl) refl count relatives

  pub some_left : IsEnd name start None → start < length name
  some_left is =
      let n = node_at nodes parent in
      let e : drop start name ≡ g.way.rest = ap (λ (s : ℕ). drop s name) g.start_is ∙ way_rest names nodes stand name parent n g.way refl g.way.rest g.way.is in
      let len = length-drop start name in
      elim (cases_lt start (length name)) [
        | inl lt ↦ lt
        | inr ge ↦ absurd ((plain_some g.way.rest (plain_behind g.way.rest g.way.is)).0 (sym e ∙ none_left (drop start name) (omega arith)))
      ]
    where
      none_left : (l : List ℕ) → length l ≡ 0 → l ≡ []
      none_left [] e = refl
      none_left (x ∷ l) e = absurd (omega arith)

-- ---- as the code has it

pub grows_as : (names more : List (List ℕ)) (nodes next : List Node) (name : List ℕ) → AreNodes names nodes → (number parent before : ℕ) (n : Node) → more ≡ names ++ name ∷ [] → next ≡ nodes → number ≡ length names
    → IsOnWay names nodes name parent → n ≡ node_at next parent → IsChildOrNone nodes parent before → IsFree names nodes name parent before → IsGrowing more next name number parent before n.len
grows_as names more nodes next name are number parent before n e f h way is near free =
    let len : n.len ≡ (node_at nodes parent).len = ap (λ (m : Node). m.len) is ∙ ap (λ (l : List Node). (node_at l parent).len) f in
    subst (λ (l : List (List ℕ)). IsGrowing l next name number parent before n.len) (sym e)
    (subst (λ (l : List Node). IsGrowing (names ++ name ∷ []) l name number parent before n.len) (sym f)
    (subst (λ (k : ℕ). IsGrowing (names ++ name ∷ []) nodes name k parent before n.len) (sym h) (grows_from names nodes name are parent before n.len way len near free)))

pub given_as : (names more : List (List ℕ)) (nodes next : List Node) (name : List ℕ) → AreNodes names nodes → more ≡ names ++ name ∷ [] → next ≡ nodes → given_of more next ≡ given_of names nodes
given_as names more nodes next name are e f = ap (λ (l : List (List ℕ)). given_of l next) e ∙ ap (given_of (names ++ name ∷ [])) f ∙ longer_given names nodes name are

pub near_within : (nodes : List Node) (parent before : ℕ) → parent < length nodes → IsChildOrNone nodes parent before → before < length nodes
near_within nodes parent before pl near = elim (cases_eq before 0) [ inl e ↦ omega arith | inr ne ↦ (near (omega arith)).0 ]

pub hung_as : (nodes next : List Node) (parent before name len : ℕ) → parent < length nodes → IsChildOrNone nodes parent before → next ≡ hung nodes parent before name len → IsHung nodes next parent before name len
hung_as nodes next parent before name len pl near e = subst (λ (l : List Node). IsHung nodes l parent before name len) (sym e) (is_hung nodes parent before name len pl (near_within nodes parent before pl near))

pub folder_step : (names : List (List ℕ)) (nodes next : List Node) (name : List ℕ) (number parent before start end at : ℕ) → is_relative_name name ≡ true → IsGrowing names nodes name number parent before start
    → IsEnd name start (Some end) → next ≡ hung nodes parent before number end → at ≡ length nodes → IsGrowing names next name number at 0 end
folder_step names nodes next name number parent before start end at relative g is e f =
    subst (λ (k : ℕ). IsGrowing names next name number k 0 end) (sym f) (folder_grows names nodes name number parent before start relative g next end is (hung_as nodes next parent before number end g.way.within g.near e))

pub file_step : (names more : List (List ℕ)) (nodes next olds : List Node) (name : List ℕ) (number parent before start : ℕ) → AreNodes names olds → more ≡ names ++ name ∷ [] → number ≡ length names
    → is_relative_name name ≡ true → IsGrowing more nodes name number parent before start → IsEnd name start None → next ≡ hung nodes parent before number (length name) → AreNodes more next
file_step names more nodes next olds name number parent before start are e f relative g is h =
    let count : length more ≡ number + 1 = let l = length-append names (name ∷ []) in let m : length more ≡ length (names ++ name ∷ []) = ap length e in omega arith in
    file_grows more nodes name number parent before start relative g next is (hung_as nodes next parent before number (length name) g.way.within g.near h) count
    (subst (λ (l : List (List ℕ)). (m : ℕ) → m < length l → IsRelativeName (get_or l m [])) (sym e) (longer_relative names olds name are relative))

-- ---- the root

pub root_are : (names : List (List ℕ)) → AreNodes names [] → AreNodes names (root_node ∷ [])
unfolding node_at key_at
root_are names are = record {
  tree = record {
    root = refl;
    up = λ i some lt. absurd (omega arith);
    hangs = λ i some lt. absurd (omega arith);
    folder = λ i some lt. absurd (omega arith);
    one = λ i j a b e. omega arith;
    apart = λ i j some a b e. absurd (omega arith);
    first_is = λ i lt some. absurd (no_first i lt some);
    first_least = λ i j some lt e. absurd (omega arith);
    next_is = λ i some lt h. absurd (omega arith);
    next_least = λ i j some lt h k e b. absurd (omega arith);
  };
  keyed = λ i some lt. absurd (omega arith);
  start = refl;
  leaf = λ i some lt f. absurd (omega arith);
  full = λ i some lt f. absurd (omega arith);
  placed = λ m lt. let p = are.placed m lt in let w : p.place < 0 = p.within in absurd (omega arith);
  relative = are.relative;
  ungiven = refl;
  closed = λ i some lt f. absurd (omega arith);
}
  where
    no_first : (i : ℕ) → i < 1 → 0 < (get_or (root_node ∷ []) i root_node).first_child → ⊥
    no_first zero lt h = omega arith
    no_first (suc i) lt h = omega arith

pub rooted_are : (names : List (List ℕ)) (old new : List Node) → length old ≡ 0 → new ≡ old ++ root_node ∷ [] → AreNodes names old → AreNodes names new
rooted_are names [] new len e are = subst (AreNodes names) (sym e) (root_are names are)
rooted_are names (x ∷ old) new len e are = absurd (omega arith)

pub none_left : (n : ℕ) (b : Bool) → b ≡ (n == 0) → b ≡ true → n ≡ 0
none_left n b e t = let h : (n == 0) ≡ true = sym e ∙ t in grind (arith, nat_tests)

no_nodes : AreNodes [] []
unfolding node_at key_at
no_nodes = record {
  tree = record {
    root = refl;
    up = λ i some lt. absurd (omega arith);
    hangs = λ i some lt. absurd (omega arith);
    folder = λ i some lt. absurd (omega arith);
    one = λ i j a b e. absurd (omega arith);
    apart = λ i j some a b e. absurd (omega arith);
    first_is = λ i lt some. absurd (omega arith);
    first_least = λ i j some lt e. absurd (omega arith);
    next_is = λ i some lt h. absurd (omega arith);
    next_least = λ i j some lt h k e b. absurd (omega arith);
  };
  keyed = λ i some lt. absurd (omega arith);
  start = refl;
  leaf = λ i some lt f. absurd (omega arith);
  full = λ i some lt f. absurd (omega arith);
  placed = λ m lt. absurd (omega arith);
  relative = λ m lt. absurd (omega arith);
  ungiven = refl;
  closed = λ i some lt f. absurd (omega arith);
}

pub no_tree : (names : List (List ℕ)) (nodes : List Node) → names ≡ [] → nodes ≡ [] → IsNameTree names nodes 0
no_tree names nodes e f = subst (λ (l : List (List ℕ)). IsNameTree l nodes 0) (sym e) (subst (λ (l : List Node). IsNameTree [] l 0) (sym f) (record { are = no_nodes; within = λ h. absurd (omega arith) }))
