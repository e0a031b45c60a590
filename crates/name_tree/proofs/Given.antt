-- The folders that were given, and the first that was not.
use Rattle.std.proofs.Common.{◌≡◌, ◌≢◌, ℕ, zero, suc, ◌-◌, ◌<◌, ◌≤◌, ◌⊎◌, Bool, true, false, not, ◌||◌, ◌==◌, if◌then◌else◌, List, [], ◌∷◌, ◌++◌, length, get_or, take, drop, refl, sym, ap, ◌∙◌, subst, arith, inl, inr, Option, Some, None}
use Rattle.std.specs.Option.{option_map}
use Rattle.std.proofs.lemmas.Bool.{cases_eq}
use Rattle.std.proofs.lemmas.Bool.Decides.{nat_tests}
use Rattle.std.proofs.lemmas.List.{append-nil, append_assoc, append_cancel_right, take-append-drop, take-take, length-append, length-take-le, length-drop, length-set, take_at}
use Rattle.std.specs.List.{list_all, filter_map, cons_option}
use Rattle.std.specs.Cmp.Lexicographic.{bytes_decides}
use Rattle.cook_bits.specs.Names.{is_same_name, is_plain_segment, segments_of, is_relative_name, each_with_first, proper_folders_of}
use Rattle.name_tree.specs.declared.node.Node.{Node}
use Rattle.name_tree.specs.Tree.{EndsAtSlash, IsPiece, IsFolderKey, IsTree}
use Rattle.name_tree.specs.Nodes.{root_node, node_at, key_at, links_of, AreNodes, given_name, given_of, with_given}
use Rattle.name_tree.specs.Searching.{IsFound, IsOnWay, IsEnd}
use Rattle.name_tree.specs.Held.{is_among, first_left, folder_left, WithFolder}
use Rattle.name_tree.specs.Giving.{IsLeft, IsAhead, IsGivenTo}
use Rattle.name_tree.proofs.Orders.{behind, inside, folder_tail}
use Rattle.name_tree.proofs.Trees.{begins}
use Rattle.name_tree.proofs.Searches.{stands, folder_joined, child_of, way_step, way_rest}
use Rattle.name_tree.proofs.Hanging.{set_there, set_else}
use Rattle.name_tree.proofs.Refusals.{same_name, plain_rest, relative_plain}
use Rattle.name_tree.proofs.Free.{slash_cut, stem_is, slash_end, is_piece}

-- ---- among

is_it : (name x : List ℕ) (b : Bool) → is_same_name name x ≡ b → b ≡ true → name ≡ x
is_it name x b e t = (bytes_decides name x).0 (e ∙ t)

either_true : (a b : Bool) → (a || b) ≡ true → (a ≡ true) ⊎ (b ≡ true)
either_true true b e = inl refl
either_true false b e = inr e

pub among_out : (names : List (List ℕ)) (name : List ℕ) → is_among names name ≡ true → (m : ℕ) × (m < length names) × (get_or names m [] ≡ name)
among_out [] name e = cc
among_out (x ∷ names) name e = elim (either_true (is_same_name name x) (is_among names name) e) [
  | inl here ↦ (0, omega arith, sym (is_it name x true here refl))
  | inr there ↦ let w = among_out names name there in let lt = w.1 in (suc w.0, omega arith, w.2)
]

or_true : (a : Bool) → (a || true) ≡ true
or_true true = refl
or_true false = refl

decided : (b : Bool) → (b ≡ true → ⊥) → b ≡ false
decided true f = absurd (f refl)
decided false f = refl

-- an element that is kept as this name
kept_in : (f : Node → Option (List ℕ)) (nodes : List Node) (i : ℕ) (name : List ℕ) → i < length nodes → f (get_or nodes i root_node) ≡ Some name → is_among (filter_map f nodes) name ≡ true
kept_in f [] i name lt e = absurd (omega arith)
kept_in f (x ∷ nodes) zero name lt e =
    ap (λ (o : Option (List ℕ)). is_among (cons_option o (filter_map f nodes)) name) e ∙ ap (λ (b : Bool). b || is_among (filter_map f nodes) name) (same_name name name refl)
kept_in f (x ∷ nodes) (suc i) name lt e = more (f x) (kept_in f nodes i name (omega arith) e)
  where
    more : (o : Option (List ℕ)) → is_among (filter_map f nodes) name ≡ true → is_among (cons_option o (filter_map f nodes)) name ≡ true
    more None h = h
    more (Some y) h = ap (λ (b : Bool). is_same_name name y || b) h ∙ or_true (is_same_name name y)

kept_out : (f : Node → Option (List ℕ)) (nodes : List Node) (name : List ℕ) → is_among (filter_map f nodes) name ≡ true → (i : ℕ) × (i < length nodes) × (f (get_or nodes i root_node) ≡ Some name)
kept_out f [] name e = cc
kept_out f (x ∷ nodes) name e = by (f x) refl e (kept_out f nodes name)
  where
    by : (o : Option (List ℕ)) → f x ≡ o → is_among (cons_option o (filter_map f nodes)) name ≡ true
        → (is_among (filter_map f nodes) name ≡ true → (i : ℕ) × (i < length nodes) × (f (get_or nodes i root_node) ≡ Some name))
        → (i : ℕ) × (i < length (x ∷ nodes)) × (f (get_or (x ∷ nodes) i root_node) ≡ Some name)
    by None h e rest = let w = rest e in let lt = w.1 in (suc w.0, omega arith, w.2)
    by (Some y) h e rest = elim (either_true (is_same_name name y) (is_among (filter_map f nodes) name) e) [
      | inl here ↦ (0, omega arith, h ∙ ap (λ (l : List ℕ). Some l) (sym (is_it name y true here refl)))
      | inr there ↦ let w = rest there in let lt = w.1 in (suc w.0, omega arith, w.2)
    ]

given_some : (b : Bool) (x name : List ℕ) → (if b then Some x else None) ≡ Some name → (b ≡ true) × (x ≡ name)
given_some true x name e = (refl, cc)
given_some false x name e = cc

-- ---- the first that is left

first_by : (List ℕ → Bool) → List (List ℕ) → Option (List ℕ)
first_by test [] = None
first_by test (folder ∷ folders) = if test folder then first_by test folders else Some folder

left_by : (given folders : List (List ℕ)) → first_left given folders ≡ first_by (is_among given) folders
unfolding first_by
left_by given [] = refl
left_by given (folder ∷ folders) = ap (λ (o : Option (List ℕ)). if is_among given folder then o else Some folder) (left_by given folders)

left_is : (given : List (List ℕ)) (name : List ℕ) → folder_left given name ≡ first_by (is_among given) (proper_folders_of name)
unfolding folder_left
left_is given name = left_by given (proper_folders_of name)

with_byte : ℕ → Option (List ℕ) → Option (List ℕ)
with_byte byte None = None
with_byte byte (Some folder) = Some (byte ∷ folder)

first_each : (test : List ℕ → Bool) (byte : ℕ) (folders : List (List ℕ)) → first_by test (each_with_first byte folders) ≡ with_byte byte (first_by (λ f. test (byte ∷ f)) folders)
unfolding first_by with_byte
first_each test byte [] = refl
first_each test byte (folder ∷ folders) = by (test (byte ∷ folder)) (first_each test byte folders)
  where
    by : (b : Bool) → first_by test (each_with_first byte folders) ≡ with_byte byte (first_by (λ f. test (byte ∷ f)) folders)
        → (if b then first_by test (each_with_first byte folders) else Some (byte ∷ folder)) ≡ with_byte byte (if b then first_by (λ f. test (byte ∷ f)) folders else Some folder)
    by true h = h
    by false h = refl

skipped : (slash : Bool) (test : List ℕ → Bool) (folders : List (List ℕ)) → (slash ≡ true → test [] ≡ true) → first_by test (if slash then [] ∷ folders else folders) ≡ first_by test folders
unfolding first_by
skipped true test folders f = rw (f refl) refl
skipped false test folders f = refl

is_slash : (byte : ℕ) → (byte == 47) ≡ true → byte ≡ 47
is_slash byte e = grind (arith, nat_tests)

first_found : (test : List ℕ → Bool) (name f rest : List ℕ) → name ≡ (f ++ 47 ∷ []) ++ rest → test f ≡ false
    → ((front more : List ℕ) → name ≡ (front ++ 47 ∷ []) ++ more → length front < length f → test front ≡ true) → first_by test (proper_folders_of name) ≡ Some f
unfolding proper_folders_of first_by with_byte
first_found test [] [] rest e free before = cc
first_found test [] (y ∷ f) rest e free before = cc
first_found test (byte ∷ name) [] rest e free before =
    let slash : byte ≡ 47 = cc in
    let is : (byte == 47) ≡ true = grind (arith, nat_tests) in
    rw (is, free) refl
first_found test (byte ∷ name) (y ∷ f) rest e free before =
    let same : byte ≡ y = cc in
    let more : name ≡ (f ++ 47 ∷ []) ++ rest = cc in
    skipped (byte == 47) test (each_with_first byte (proper_folders_of name)) (λ h. before [] name (λ i. is_slash byte h i ∷ name) (omega arith))
    ∙ first_each test byte (proper_folders_of name)
    ∙ ap (with_byte byte) (first_found (λ g. test (byte ∷ g)) name f rest more (ap (λ (x : ℕ). test (x ∷ f)) same ∙ free) (λ front tail h lt. before (byte ∷ front) tail (λ i. byte ∷ h i) (omega arith)))
    ∙ ap (λ (x : ℕ). Some (x ∷ f)) same

first_none : (test : List ℕ → Bool) (name : List ℕ) → ((front more : List ℕ) → name ≡ (front ++ 47 ∷ []) ++ more → test front ≡ true) → first_by test (proper_folders_of name) ≡ None
unfolding proper_folders_of first_by with_byte
first_none test [] all = refl
first_none test (byte ∷ name) all =
    skipped (byte == 47) test (each_with_first byte (proper_folders_of name)) (λ h. all [] name (λ i. is_slash byte h i ∷ name))
    ∙ first_each test byte (proper_folders_of name)
    ∙ ap (with_byte byte) (first_none (λ g. test (byte ∷ g)) name (λ front more h. all (byte ∷ front) more (λ i. byte ∷ h i)))

front_some : (front u : List ℕ) → (front ++ 47 ∷ []) ++ u ≢ []
front_some [] u e = cc
front_some (x ∷ front) u e = cc

-- ---- in a tree

module _ (names : List (List ℕ)) (nodes : List Node) (are : AreNodes names nodes) where
  -- the name of a folder that was given
  path_key : (i : ℕ) → 0 < i → i < length nodes → IsFolderKey (key_at names nodes i) → key_at names nodes i ≡ take ((node_at nodes i).len - 1) (get_or names (node_at nodes i).name []) ++ 47 ∷ []
  unfolding key_at
  path_key i some lt folder =
      let n = node_at nodes i in
      let name = get_or names n.name [] in
      let len : length (take n.len name) ≡ n.len = length-take-le n.len name (are.keyed i some lt).1 in
      let some_len : 0 < n.len = filled n.len (λ z. (filled_key i some lt) (ap (λ (k : ℕ). take k name) z)) in
      let e : length (take n.len name) ≡ suc (n.len - 1) = omega arith in
      slash_cut (n.len - 1) (take n.len name) e folder ∙ ap (λ (k : List ℕ). k ++ 47 ∷ []) (take-take (n.len - 1) n.len name (omega arith))
    where
      filled : (n : ℕ) → (n ≡ 0 → ⊥) → 0 < n
      filled n f = omega arith

      filled_key : (i : ℕ) → 0 < i → i < length nodes → key_at names nodes i ≢ []
      filled_key i some lt e =
          let zl : 0 < length nodes = omega arith in
          let same : i ≡ 0 = are.tree.one i 0 lt zl (e ∙ sym are.tree.root) in
          omega arith

  some_given : (i : ℕ) → (node_at nodes i).given ≡ true → 0 < i
  some_given i given = elim (cases_eq i 0) [
    | inl z ↦ let no : true ≡ false = sym given ∙ ap (λ (k : ℕ). (node_at nodes k).given) z ∙ are.ungiven in cc
    | inr ne ↦ omega arith
  ]

  pub given_in : (i : ℕ) (folder : List ℕ) → i < length nodes → (node_at nodes i).given ≡ true → key_at names nodes i ≡ folder ++ 47 ∷ [] → is_among (given_of names nodes) folder ≡ true
  unfolding node_at
  given_in i folder lt given e =
      let some = some_given i given in
      let path = path_key i some lt (are.closed i some lt given).0 in
      let same : take ((node_at nodes i).len - 1) (get_or names (node_at nodes i).name []) ≡ folder = append_cancel_right _ folder (47 ∷ []) (sym path ∙ e) in
      kept_in (given_name names) nodes i folder lt (rw given (ap (λ (l : List ℕ). Some l) same))

  pub given_out : (folder : List ℕ) → is_among (given_of names nodes) folder ≡ true → (i : ℕ) × (i < length nodes) × ((node_at nodes i).given ≡ true) × (key_at names nodes i ≡ folder ++ 47 ∷ [])
  unfolding node_at
  given_out folder e =
      let w = kept_out (given_name names) nodes folder e in
      let both = given_some (node_at nodes w.0).given (take ((node_at nodes w.0).len - 1) (get_or names (node_at nodes w.0).name [])) folder w.2 in
      let some = some_given w.0 both.0 in
      (w.0, w.1, both.0, path_key w.0 some w.1 (are.closed w.0 some w.1 both.0).0 ∙ ap (λ (l : List ℕ). l ++ 47 ∷ []) both.1)

  -- what begins the key of a given folder is given
  pub above_given : (p : ℕ) (front u : List ℕ) → p < length nodes → IsGivenTo nodes p → key_at names nodes p ≡ (front ++ 47 ∷ []) ++ u → is_among (given_of names nodes) front ≡ true
  above_given p front u pl given e =
      let b = begins are.tree (λ i. IsGivenTo nodes i) (λ i some lt g. λ up. (are.closed i some lt (g some)).1 up) (suc p) p (front ++ 47 ∷ []) u (omega arith) pl (folder_joined front (47 ∷ []) (λ h. cc) refl) e given in
      given_in b.0 front b.1 (b.3 (nonzero b.0 b.2)) b.2
    where
      not_nil : (f : List ℕ) → f ++ 47 ∷ [] ≡ [] → ⊥
      not_nil [] e = cc
      not_nil (x ∷ f) e = cc

      nonzero : (i : ℕ) → key_at names nodes i ≡ front ++ 47 ∷ [] → 0 < i
      nonzero i k = elim (cases_eq i 0) [
        | inl z ↦ absurd (not_nil front (sym k ∙ ap (key_at names nodes) z ∙ are.tree.root))
        | inr ne ↦ omega arith
      ]

  module _ (name : List ℕ) (p : ℕ) (n : Node) (way : IsOnWay names nodes name p) (ne : n ≡ node_at nodes p) (given : IsGivenTo nodes p) where
    q_some : (end : ℕ) → IsEnd name n.len (Some end) → drop n.len (take end name) ≢ []
    q_some end is e =
        let lt = is.0 in
        let le = is.1 in
        let a = length-drop n.len (take end name) in
        let b = length-take-le end name le in
        let c : length (drop n.len (take end name)) ≡ 0 = ap length e in
        omega arith

    held_piece : (end : ℕ) → IsEnd name n.len (Some end) → is_among names name ≡ true → IsPiece (drop n.len (take end name))
    held_piece end is held =
        let w = among_out names name held in
        let relative : is_relative_name name ≡ true = subst (λ (l : List ℕ). is_relative_name l ≡ true) w.2 (are.relative w.0 w.1) in
        let q = drop n.len (take end name) in
        let whole : name ≡ key_at names nodes p ++ (q ++ drop end name) = sym (take-append-drop end name) ∙ ap (λ (l : List ℕ). l ++ drop end name) (way_step names nodes (stands are) name p n end way ne is) ∙ append_assoc (key_at names nodes p) q (drop end name) in
        is_piece q (drop end name) (q_some end is) is.2 (plain_rest (key_at names nodes p) (q ++ drop end name) way.folder (ap (λ (l : List ℕ). list_all is_plain_segment (segments_of l)) (sym whole) ∙ relative_plain name relative))

    -- the next folder of a name that is held is in the tree
    pub held_step : (end : ℕ) → IsEnd name n.len (Some end) → is_among names name ≡ true → ((j : ℕ) → 0 < j → IsFound names nodes p (take end name) j → ⊥) → ⊥
    held_step end is held none =
        let isp = held_piece end is held in
        let w = among_out names name held in
        let at = are.placed w.0 w.1 in
        let step = way_step names nodes (stands are) name p n end way ne is in
        let folder : IsFolderKey (take end name) = subst IsFolderKey (sym step) (folder_joined (key_at names nodes p) (drop n.len (take end name)) (q_some end is) is.3) in
        let whole : key_at names nodes at.place ≡ take end name ++ drop end name = at.is ∙ w.2 ∙ sym (take-append-drop end name) in
        let b = begins are.tree (λ i. Unit {0}) (λ i x y z. tt) (suc at.place) at.place (take end name) (drop end name) (omega arith) at.within folder whole tt in
        let c = child_of names nodes are.tree p b.0 (drop n.len (take end name)) way.within b.1 way.folder isp (b.2 ∙ step) in
        none b.0 c.0 (record { within = b.1; under = c.1; is = b.2 })

    pub is_left : (end found : ℕ) → IsEnd name n.len (Some end) → 0 < found → IsFound names nodes p (take end name) found → (node_at nodes found).given ≡ false → IsLeft names nodes name found (end - 1)
    is_left end found is some at free =
        let step = way_step names nodes (stands are) name p n end way ne is in
        let q = drop n.len (take end name) in
        let k = key_at names nodes p in
        let folder : IsFolderKey (take end name) = subst IsFolderKey (sym step) (folder_joined k q (q_some end is) is.3) in
        let lt = is.0 in
        let stem : take end name ≡ take (end - 1) name ++ 47 ∷ [] = stem_is name end (end - 1) (omega arith) is.1 folder in
        let f = take (end - 1) name in
        let whole : name ≡ (f ++ 47 ∷ []) ++ drop end name = sym (take-append-drop end name) ∙ ap (λ (l : List ℕ). l ++ drop end name) stem in
        let not_given : is_among (given_of names nodes) f ≡ false = decided (is_among (given_of names nodes) f) (λ h.
        let o = given_out f h in
        let same : o.0 ≡ found = are.tree.one o.0 found o.1 at.within (o.3 ∙ sym stem ∙ sym at.is) in
        let no : true ≡ false = sym o.2 ∙ ap (λ (i : ℕ). (node_at nodes i).given) same ∙ free in cc) in
        let before : (front more : List ℕ) → name ≡ (front ++ 47 ∷ []) ++ more → length front < length f → is_among (given_of names nodes) front ≡ true = λ front more e short.
        elim (behind (front ++ 47 ∷ []) more (take end name) (drop end name) (sym e ∙ sym (take-append-drop end name))) [
          | inl w ↦ shorter front w.0 (sym step ∙ w.1) q (q_some end is) is.2 (λ h. too_short front f short (sym stem ∙ w.1 ∙ ap (λ (l : List ℕ). (front ++ 47 ∷ []) ++ l) h ∙ append-nil (front ++ 47 ∷ [])))
          | inr w ↦ absurd (too_long front f w.0 short (w.1 ∙ ap (λ (l : List ℕ). l ++ w.0) stem))
        ] in
        record {
          folder = f;
          is = left_is (given_of names nodes) name ∙ (first_found (is_among (given_of names nodes)) name f (drop end name) whole not_given before);
          has_len = let le = is.1 in length-take-le (end - 1) name (omega arith);
          key = at.is ∙ stem;
          some = some;
          within = at.within;
          above = λ h. subst (λ (i : ℕ). 0 < i → (node_at nodes i).given ≡ true) (sym at.under) given h;
        }
      where
        too_short : (front f : List ℕ) → length front < length f → f ++ 47 ∷ [] ≡ front ++ 47 ∷ [] → ⊥
        too_short front f short e = let same : length f ≡ length front = ap length (append_cancel_right f front (47 ∷ []) e) in omega arith

        too_long : (front f c : List ℕ) → length front < length f → front ++ 47 ∷ [] ≡ (f ++ 47 ∷ []) ++ c → ⊥
        too_long front f c short e =
            let a = length-append front (47 ∷ []) in
            let b = length-append (f ++ 47 ∷ []) c in
            let d = length-append f (47 ∷ []) in
            let l : length (front ++ 47 ∷ []) ≡ length ((f ++ 47 ∷ []) ++ c) = ap length e in
            omega arith

        shorter : (front c : List ℕ) → key_at names nodes p ++ drop n.len (take end name) ≡ (front ++ 47 ∷ []) ++ c → (q : List ℕ) → q ≢ [] → EndsAtSlash (drop n.len (take end name)) → (c ≡ [] → ⊥) → is_among (given_of names nodes) front ≡ true
        shorter front c e q some ends more = elim (behind (key_at names nodes p) (drop n.len (take end name)) (front ++ 47 ∷ []) c e) [
          | inl ([], f, g) ↦ above_given p front [] way.within given (sym (f ∙ append-nil (key_at names nodes p)) ∙ sym (append-nil (front ++ 47 ∷ [])))
          | inl (y ∷ d, f, g) ↦ absurd (inside (y ∷ d) c (folder_tail (key_at names nodes p) y d (subst IsFolderKey f (folder_joined front (47 ∷ []) (λ h. cc) refl))) (λ h. cc) more (subst EndsAtSlash g ends))
          | inr w ↦ above_given p front w.0 way.within given w.1
        ]

    pub none_left : IsEnd name n.len None → folder_left (given_of names nodes) name ≡ None
    none_left is = left_is (given_of names nodes) name ∙ first_none (is_among (given_of names nodes)) name (λ front more e.
        elim (behind (key_at names nodes p) way.rest (front ++ 47 ∷ []) more (sym way.is ∙ e)) [
          | inl ([], f, g) ↦ above_given p front [] way.within given (sym (f ∙ append-nil (key_at names nodes p)) ∙ sym (append-nil (front ++ 47 ∷ [])))
          | inl (y ∷ d, f, g) ↦
              let r : drop n.len name ≡ (y ∷ d) ++ more = way_rest names nodes (stands are) name p n way ne way.rest way.is ∙ g in
              absurd (slash_end (y ∷ d) more (folder_tail (key_at names nodes p) y d (subst IsFolderKey f (folder_joined front (47 ∷ []) (λ h. cc) refl))) (λ h. cc) (subst EndsAtSlash r is.0) (λ h. sym r ∙ is.1 (subst IsFolderKey (sym r) h)))
          | inr w ↦ above_given p front w.0 way.within given w.1
        ])

  -- ---- a folder is given

  module _ (at : ℕ) (folder : List ℕ) (within : at < length nodes) (some : 0 < at) (key_is : key_at names nodes at ≡ folder ++ 47 ∷ []) (above : 0 < (node_at nodes at).parent → (node_at nodes (node_at nodes at).parent).given ≡ true)
      (next : List Node) (next_is : next ≡ with_given nodes at) where
    count : length next ≡ length nodes
    count = ap length next_is ∙ length-set nodes at (record (node_at nodes at) { given = true })

    here : node_at next at ≡ record (node_at nodes at) { given = true }
    here = ap (λ (l : List Node). node_at l at) next_is ∙ set_there nodes (record (node_at nodes at) { given = true }) at within

    there : (i : ℕ) → i ≢ at → node_at next i ≡ node_at nodes i
    there i ne = ap (λ (l : List Node). node_at l i) next_is ∙ set_else nodes (record (node_at nodes at) { given = true }) at i ne

    same : {A : Type 0} (field : Node → A) → field (record (node_at nodes at) { given = true }) ≡ field (node_at nodes at) → (i : ℕ) → field (node_at next i) ≡ field (node_at nodes i)
    same field e i = elim (cases_eq i at) [
      | inl h ↦ ap (λ (k : ℕ). field (node_at next k)) h ∙ ap field here ∙ e ∙ ap (λ (k : ℕ). field (node_at nodes k)) (sym h)
      | inr ne ↦ ap field (there i ne)
    ]

    same_key : (i : ℕ) → key_at names next i ≡ key_at names nodes i
    unfolding key_at
    same_key i = λ k. take (same (λ n. n.len) refl i k) (get_or names (same (λ n. n.name) refl i k) [])

    same_links : links_of names next ≡ links_of names nodes
    same_links = λ k. record {
      parent = λ i. same (λ n. n.parent) refl i k;
      first = λ i. same (λ n. n.first_child) refl i k;
      next = λ i. same (λ n. n.next_sibling) refl i k;
      key = λ i. same_key i k;
    }

    given_stays : (i : ℕ) → (node_at nodes i).given ≡ true → (node_at next i).given ≡ true
    given_stays i e = elim (cases_eq i at) [
      | inl h ↦ ap (λ (k : ℕ). (node_at next k).given) h ∙ ap (λ (n : Node). n.given) here
      | inr ne ↦ ap (λ (n : Node). n.given) (there i ne) ∙ e
    ]

    old_within : (i : ℕ) → i < length next → i < length nodes
    old_within i lt = let c = count in omega arith

    closed_at : (i : ℕ) → 0 < i → i < length next → (node_at next i).given ≡ true → IsFolderKey (key_at names next i) × ((0 < (node_at next i).parent) → (node_at next (node_at next i).parent).given ≡ true)
    closed_at i isome lt given =
        let p = same (λ n. n.parent) refl i in
        elim (cases_eq i at) [
          | inl h ↦ (
            subst IsFolderKey (sym (same_key i ∙ ap (key_at names nodes) h ∙ key_is)) (folder_joined folder (47 ∷ []) (λ z. cc) refl),
            λ up. subst (λ (k : ℕ). (node_at next k).given ≡ true) (sym (p ∙ ap (λ (k : ℕ). (node_at nodes k).parent) h))
                (given_stays (node_at nodes at).parent (above (subst (λ (k : ℕ). 0 < k) (p ∙ ap (λ (k : ℕ). (node_at nodes k).parent) h) up))),
          )
          | inr ne ↦
              let c = are.closed i isome (old_within i lt) (sym (ap (λ (n : Node). n.given) (there i ne)) ∙ given) in (
                subst IsFolderKey (sym (same_key i)) c.0,
                λ up. subst (λ (k : ℕ). (node_at next k).given ≡ true) (sym p) (given_stays (node_at nodes i).parent (c.1 (subst (λ (k : ℕ). 0 < k) p up))),
              )
        ]

    pub are_given : AreNodes names next
    are_given = record {
      tree = subst (λ (n : ℕ). IsTree n (links_of names next)) (sym count) (subst (IsTree (length nodes)) (sym same_links) are.tree);
      keyed = λ i s lt. let k = are.keyed i s (old_within i lt) in (
        subst (λ (m : ℕ). m < length names) (sym (same (λ n. n.name) refl i)) k.0,
        subst (λ (m : ℕ). m ≤ length (get_or names (node_at next i).name [])) (sym (same (λ n. n.len) refl i)) (subst (λ (m : ℕ). (node_at nodes i).len ≤ length (get_or names m [])) (sym (same (λ n. n.name) refl i)) k.1),
      );
      start = same (λ n. n.len) refl 0 ∙ are.start;
      leaf = λ i s lt is. same_key i ∙ are.leaf i s (old_within i lt) (λ f. is (subst IsFolderKey (sym (same_key i)) f)) ∙ ap (λ (m : ℕ). get_or names m []) (sym (same (λ n. n.name) refl i));
      full = λ i s lt f. subst (λ (m : ℕ). 0 < m) (sym (same (λ n. n.first_child) refl i)) (are.full i s (old_within i lt) (subst IsFolderKey (same_key i) f));
      placed = λ m lt. let p = are.placed m lt in record {
        place = p.place;
        some = p.some;
        within = let c = count in let w = p.within in omega arith;
        named = same (λ n. n.name) refl p.place ∙ p.named;
        is = same_key p.place ∙ p.is;
      };
      relative = are.relative;
      ungiven = let ne : 0 ≢ at = omega arith in ap (λ (n : Node). n.given) (there 0 ne) ∙ are.ungiven;
      closed = closed_at;
    }

    given_back : (i : ℕ) (name : List ℕ) → (node_at next i).given ≡ true → key_at names next i ≡ name ++ 47 ∷ [] → name ≢ folder → (node_at nodes i).given ≡ true
    given_back i name given e other = elim (cases_eq i at) [
      | inl h ↦ absurd (other (append_cancel_right name folder (47 ∷ []) (sym e ∙ same_key i ∙ ap (key_at names nodes) h ∙ key_is)))
      | inr ne ↦ sym (ap (λ (n : Node). n.given) (there i ne)) ∙ given
    ]

module _ (names : List (List ℕ)) (nodes next : List Node) (are : AreNodes names nodes) (at : ℕ) (folder : List ℕ) (within : at < length nodes) (some : 0 < at) (key_is : key_at names nodes at ≡ folder ++ 47 ∷ [])
    (above : 0 < (node_at nodes at).parent → (node_at nodes (node_at nodes at).parent).given ≡ true) (next_is : next ≡ with_given nodes at) where
  pub given_more : (name : List ℕ) → is_among (given_of names next) name ≡ (is_same_name name folder || is_among (given_of names nodes) name)
  given_more name = by (is_same_name name folder) refl (is_among (given_of names nodes) name) refl
    where
      news : AreNodes names next
      news = are_given names nodes are at folder within some key_is above next next_is

      by : (a : Bool) → is_same_name name folder ≡ a → (b : Bool) → is_among (given_of names nodes) name ≡ b → is_among (given_of names next) name ≡ (a || b)
      by true e b f =
          given_in names next news at name (let c = count names nodes are at folder within some key_is above next next_is in omega arith)
          (ap (λ (n : Node). n.given) (here names nodes are at folder within some key_is above next next_is))
          (same_key names nodes are at folder within some key_is above next next_is at ∙ key_is ∙ ap (λ (l : List ℕ). l ++ 47 ∷ []) (sym (is_it name folder true e refl)))
      by false e true f =
          let o = given_out names nodes are name f in
          given_in names next news o.0 name (let c = count names nodes are at folder within some key_is above next next_is in let lt = o.1 in omega arith)
          (given_stays names nodes are at folder within some key_is above next next_is o.0 o.2)
          (same_key names nodes are at folder within some key_is above next next_is o.0 ∙ o.3)
      by false e false f = decided (is_among (given_of names next) name) (λ h.
          let o = given_out names next news name h in
          let back = given_back names nodes are at folder within some key_is above next next_is o.0 name o.2 o.3 (λ same. let yes_same = same_name name folder same in let no : true ≡ false = sym yes_same ∙ e in cc) in
          let in_old = given_in names nodes are o.0 name (old_within names nodes are at folder within some key_is above next next_is o.0 o.1) back (sym (same_key names nodes are at folder within some key_is above next next_is o.0) ∙ o.3) in
          let no : true ≡ false = sym in_old ∙ f in cc)

-- ---- as the code has it

pub way_up : (names : List (List ℕ)) (nodes : List Node) (name : List ℕ) (p up : ℕ) → AreNodes names nodes → 0 < p → IsOnWay names nodes name p → (node_at nodes p).parent ≡ up → IsOnWay names nodes name up
way_up names nodes name p up are some way e = subst (λ (x : ℕ). IsOnWay names nodes name x) e (
    let lt = are.tree.up p some way.within in
    let less : (node_at nodes p).parent < p = lt in
    let pl = way.within in
    let h = are.tree.hangs p some way.within in
    record {
      within = omega arith;
      folder = are.tree.folder p some way.within;
      rest = h.0 ++ way.rest;
      is = way.is ∙ ap (λ (k : List ℕ). k ++ way.rest) h.2 ∙ append_assoc (key_at names nodes (node_at nodes p).parent) h.0 way.rest;
    })

pub ahead_none : (names : List (List ℕ)) (nodes : List Node) (name : List ℕ) (place : ℕ) (o : Option ℕ) → IsAhead names nodes name place o → o ≡ None → folder_left (given_of names nodes) name ≡ None
ahead_none names nodes name place None is e = is
ahead_none names nodes name place (Some n) is e = cc

pub ahead_some : (names : List (List ℕ)) (nodes : List Node) (name : List ℕ) (place n : ℕ) (o : Option ℕ) → IsAhead names nodes name place o → o ≡ Some n → IsLeft names nodes name place n
ahead_some names nodes name place n None is e = cc
ahead_some names nodes name place n (Some m) is e = let same : m ≡ n = cc in subst (λ (k : ℕ). IsLeft names nodes name place k) same is

pub held_some : (names : List (List ℕ)) (nodes : List Node) (name : List ℕ) → AreNodes names nodes → is_among names name ≡ true → 0 < length nodes
held_some names nodes name are held =
    let w = among_out names name held in
    let p = (are.placed w.0 w.1).within in
    omega arith

module _ (names : List (List ℕ)) (nodes next : List Node) (name : List ℕ) (place n : ℕ) (are : AreNodes names nodes) (left : IsLeft names nodes name place n) (next_is : next ≡ with_given nodes place) where
  pub gives_nodes : AreNodes names next
  gives_nodes = are_given names nodes are place left.folder left.within left.some left.key left.above next next_is

  pub gives_within : place < length next
  gives_within = let c = count names nodes are place left.folder left.within left.some left.key left.above next next_is in let w = left.within in omega arith

  pub gives_len : (o : Option ℕ) → o ≡ Some n → o ≡ option_map length (folder_left (given_of names nodes) name)
  gives_len o e = e ∙ ap (λ (k : ℕ). Some k) (sym left.has_len) ∙ ap (option_map length) (sym left.is)

  pub gives_folder : WithFolder (given_of names nodes) (given_of names next) (folder_left (given_of names nodes) name)
  gives_folder = subst (WithFolder (given_of names nodes) (given_of names next)) (sym left.is) (given_more names nodes next are place left.folder left.within left.some left.key left.above next_is)

pub held_found : (names : List (List ℕ)) (nodes : List Node) (are : AreNodes names nodes) (name : List ℕ) (p : ℕ) (n : Node) (way : IsOnWay names nodes name p) (ne : n ≡ node_at nodes p) (given : IsGivenTo nodes p) (end found : ℕ)
    → IsEnd name n.len (Some end) → is_among names name ≡ true → (found ≡ 0 → (j : ℕ) → 0 < j → IsFound names nodes p (take end name) j → ⊥) → 0 < found
held_found names nodes are name p n way ne given end found is held absent = elim (cases_eq found 0) [
  | inl z ↦ absurd (held_step names nodes are name p n way ne given end is held (absent z))
  | inr some ↦ omega arith
]

-- what is written back behind a slice is the slice
pub written_back : (items marked : List Node) (len at : ℕ) → marked ≡ with_given items at → length items ≡ len → take len (marked ++ drop (length marked) items) ≡ with_given items at
written_back items marked len at e l =
    let same : length marked ≡ len = ap length e ∙ length-set items at (record (node_at items at) { given = true }) ∙ l in
    take_at marked (drop (length marked) items) len same ∙ e

pub not_true : (b : Bool) → not b ≡ true → b ≡ false
not_true true e = cc
not_true false e = refl

pub not_false : (b : Bool) → not b ≡ false → b ≡ true
not_false true e = refl
not_false false e = cc

pub within_any : (last n : ℕ) → 0 < n → (0 < last → last < n) → last < n
within_any last n some within = elim (cases_eq last 0) [ inl z ↦ omega arith | inr ne ↦ within (omega arith) ]
