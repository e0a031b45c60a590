-- What a walk has left, step by step.
use Rattle.std.proofs.Common.{◌≡◌, ◌≢◌, ℕ, suc, ◌+◌, ◌<◌, Bool, false, List, [], ◌∷◌, ◌++◌, length, get_or, map, refl, sym, ap, ◌∙◌, subst, arith, inl, inr, ◌==◌}
use Rattle.std.proofs.lemmas.Bool.{cases_eq}
use Rattle.std.proofs.lemmas.Bool.Decides.{nat_tests}
use Rattle.std.specs.List.{filter, enumerate_from}
use Rattle.std.specs.Ordering.{nat_cmp, is_le}
use Rattle.std.specs.Cmp.Lexicographic.{slice_cmp}
use Rattle.name_tree.specs.declared.node.Node.{Node}
use Rattle.name_tree.specs.Tree.{Below, AtMost, IsFolderKey}
use Rattle.name_tree.specs.Nodes.{node_at, key_at, links_of, AreLinked, AreNodes}
use Rattle.name_tree.specs.Held.{Numbered, in_order, walk_of}
use Rattle.name_tree.specs.Walking.{numbers_from, left_of, IsFile, IsLeastAbove, IsFirst, IsNextFile}
use Rattle.name_tree.proofs.Orders.{below_at_most, at_most_trans, front_at_most}
use Rattle.name_tree.proofs.Trees.{leads}
use Rattle.name_tree.proofs.Walks.{IsClimbing, over, rises, last, deeper, lower}
use Rattle.name_tree.proofs.Sorting.{IsMember, IsRising, in_order_in, in_order_out, in_order_rising, numbered_in, numbered_out, numbered_apart, le_at, at_le, filter_all, picks}
use Rattle.name_tree.proofs.Free.{file_key}

pub linked_of : (names : List (List ℕ)) (nodes : List Node) → AreNodes names nodes → AreLinked nodes
linked_of names nodes are = record {
  up = are.tree.up;
  down = λ i lt some.
      let f = are.tree.first_is i lt some in
      let u = are.tree.up (node_at nodes i).first_child some f.0 in
      (subst (λ (p : ℕ). p < (node_at nodes i).first_child) f.1 u, f.0);
  along = λ i some lt more. (are.tree.next_is i some lt more).0;
}

module _ (names : List (List ℕ)) (nodes : List Node) (are : AreNodes names nodes) where
  one_number : (i j : ℕ) → i < length names → j < length names → get_or names i [] ≡ get_or names j [] → i ≡ j
  one_number i j il jl e =
      let p = are.placed i il in
      let q = are.placed j jl in
      sym p.named ∙ ap (λ (k : ℕ). (node_at nodes k).name) (are.tree.one p.place q.place p.within q.within (p.is ∙ e ∙ sym q.is)) ∙ q.named

  rising : IsRising (in_order (enumerate_from 0 names))
  rising = in_order_rising (enumerate_from 0 names) (numbered_apart names 0 one_number)

  -- an entry is a file
  entry_file : (e : Numbered) → IsMember e (in_order (enumerate_from 0 names)) → (x : ℕ) × (x < length nodes) × (IsFolderKey (key_at names nodes x) → ⊥) × (key_at names nodes x ≡ e.1)
  entry_file e m =
      let w = numbered_out names 0 e (in_order_out (enumerate_from 0 names) e m) in
      let p = are.placed w.0 w.1 in
      let k : key_at names nodes p.place ≡ e.1 = p.is ∙ ap (λ (y : Numbered). y.1) (sym w.2) in
      (p.place, p.within, (λ f. file_key names nodes are w.0 w.1 (subst IsFolderKey p.is f)), k)

  -- a file is an entry
  file_entry : (x : ℕ) → 0 < x → x < length nodes → (IsFolderKey (key_at names nodes x) → ⊥) → IsMember ((node_at nodes x).name, key_at names nodes x) (in_order (enumerate_from 0 names))
  file_entry x some lt is =
      let k = are.leaf x some lt is in
      let known = (are.keyed x some lt).0 in
      let e : 0 + (node_at nodes x).name ≡ (node_at nodes x).name = omega arith in
      let same : (0 + (node_at nodes x).name, get_or names (node_at nodes x).name []) ≡ ((node_at nodes x).name, key_at names nodes x) = λ i. (e i, sym k i) in
      in_order_in (enumerate_from 0 names) ((node_at nodes x).name, key_at names nodes x) (subst (λ (y : Numbered). IsMember y (enumerate_from 0 names)) same (numbered_in names 0 (node_at nodes x).name known))

  filter_none : (xs : List Numbered) → filter (λ (e : Numbered). false) xs ≡ []
  filter_none [] = refl
  filter_none (x ∷ xs) = filter_none xs

  left_some : (at : ℕ) → 0 < at → left_of names nodes at ≡ numbers_from names (key_at names nodes at)
  left_some at some = let no : (at == 0) ≡ false = grind (arith, nat_tests) in rw no refl

  left_none : (at : ℕ) → at ≡ 0 → left_of names nodes at ≡ []
  left_none at e = rw e refl

  pub steps : (at next : ℕ) → 0 < at → IsFile names nodes at → IsNextFile names nodes at next → left_of names nodes at ≡ (node_at nodes at).name ∷ left_of names nodes next
  unfolding numbers_from
  steps at next some file is =
      let k = key_at names nodes at in
      let es = in_order (enumerate_from 0 names) in
      let entry : Numbered = ((node_at nodes at).name, k) in
      let m = file_entry at some file.within file.no_folder in
      elim (cases_eq next 0) [
        | inl none ↦
            let w = picks es entry (λ e. false) rising m (λ e h f. cc) (λ e h low. let x = entry_file e h in absurd (is.last none x.0 x.1 (subst (λ (l : List ℕ). Below k l) (sym x.3) low))) in
            left_some at some ∙ ap (map (λ (e : Numbered). e.0)) (w ∙ ap (λ (l : List Numbered). entry ∷ l) (filter_none es)) ∙ ap (λ (l : List ℕ). (node_at nodes at).name ∷ l) (sym (left_none next none))
        | inr ne ↦
            let more : 0 < next = omega arith in
            let w = picks es entry (λ e. is_le (slice_cmp nat_cmp (key_at names nodes next) e.1)) rising m
            (λ e h f. below_at_most k (key_at names nodes next) e.1 (is.above more) (le_at (key_at names nodes next) e.1 f))
            (λ e h low. let x = entry_file e h in at_le (key_at names nodes next) e.1 (subst (λ (l : List ℕ). AtMost (key_at names nodes next) l) x.3 (is.least more x.0 x.1 x.2 (subst (λ (l : List ℕ). Below k l) (sym x.3) low)))) in
            left_some at some ∙ ap (map (λ (e : Numbered). e.0)) w ∙ ap (λ (l : List ℕ). (node_at nodes at).name ∷ l) (sym (left_some next more))
      ]

  -- ---- the first file

  pub first_starts : (at : ℕ) → at < length nodes → IsFirst names nodes at at
  first_starts at lt = record { within = lt; low = inl refl; least = λ key h. h }

  pub first_deeper : (at d first : ℕ) → IsFirst names nodes at d → first ≡ (node_at nodes d).first_child → 0 < first → IsFirst names nodes at first
  first_deeper at d first is e some = subst (λ (x : ℕ). IsFirst names nodes at x) (sym e) (
      let some2 : 0 < (node_at nodes d).first_child = subst (λ (x : ℕ). 0 < x) e some in
      let f = are.tree.first_is d is.within some2 in
      let folder : IsFolderKey (key_at names nodes d) = subst (λ (x : ℕ). IsFolderKey (key_at names nodes x)) f.1 (are.tree.folder (node_at nodes d).first_child some2 f.0) in
      record {
        within = f.0;
        low = at_most_trans (key_at names nodes at) (key_at names nodes d) (key_at names nodes (node_at nodes d).first_child) is.low (inr (lower are.tree d is.within some2));
        least = λ key h. deeper are.tree (λ x. Below key (key_at names nodes x)) d is.within folder some2 (is.least key h);
      })

  -- a place without children is a file
  pub no_children : (at : ℕ) → 0 < at → at < length nodes → (node_at nodes at).first_child ≡ 0 → IsFile names nodes at
  no_children at some lt none = record {
    within = lt;
    no_folder = λ f. let h = are.full at some lt f in let g : 0 < (node_at nodes at).first_child = h in absurd (omega arith);
  }

  -- ---- the file behind a file

  pub next_first : (at c next result : ℕ) → IsClimbing (length nodes) (links_of names nodes) at c → 0 < c → next ≡ (node_at nodes c).next_sibling → 0 < next → IsFirst names nodes next result → (node_at nodes result).first_child ≡ 0
      → IsNextFile names nodes at result
  next_first at c next result climb csome e some first none =
      let some2 : 0 < (node_at nodes c).next_sibling = subst (λ (x : ℕ). 0 < x) e some in
      let k = key_at names nodes at in
      let rise : Below k (key_at names nodes next) = subst (λ (x : ℕ). Below k (key_at names nodes x)) (sym e) (rises are.tree at c csome climb some2) in
      let up : Below k (key_at names nodes result) = below_at_most k (key_at names nodes next) (key_at names nodes result) rise first.low in
      let there : 0 < result = nonzero result up in
      let least0 : IsLeastAbove names nodes k next = subst (λ (x : ℕ). IsLeastAbove names nodes k x) (sym e) (over are.tree at c csome climb some2) in
      record {
        file = λ h. no_children result there first.within none;
        above = λ h. up;
        least = λ h. first.least k least0;
        last = λ h. absurd (zero_no result there h);
      }
    where
      nothing_below : (k l : List ℕ) → l ≡ [] → Below k l → ⊥
      nothing_below [] l e b = subst (λ (x : List ℕ). Below [] x) e b
      nothing_below (x ∷ k) l e b = subst (λ (y : List ℕ). Below (x ∷ k) y) e b

      nonzero : (result : ℕ) → Below (key_at names nodes at) (key_at names nodes result) → 0 < result
      nonzero result b = elim (cases_eq result 0) [
        | inl z ↦ absurd (nothing_below (key_at names nodes at) (key_at names nodes result) (ap (key_at names nodes) z ∙ are.tree.root) b)
        | inr ne ↦ omega arith
      ]

      zero_no : (result : ℕ) → 0 < result → result ≡ 0 → ⊥
      zero_no result h e = omega arith

  pub next_none : (at : ℕ) → IsClimbing (length nodes) (links_of names nodes) at 0 → IsNextFile names nodes at 0
  next_none at climb = record {
    file = λ h. absurd (omega arith);
    above = λ h. absurd (omega arith);
    least = λ h. absurd (omega arith);
    last = λ h x lt b. last are.tree at climb x lt b;
  }

  -- ---- the start

  no_names : (node_at nodes 0).first_child ≡ 0 → in_order (enumerate_from 0 names) ≡ []
  no_names none = by (in_order (enumerate_from 0 names)) (λ e m. nothing e m)
    where
      nothing : (e : Numbered) → IsMember e (in_order (enumerate_from 0 names)) → ⊥
      nothing e m =
          let w = numbered_out names 0 e (in_order_out (enumerate_from 0 names) e m) in
          let p = are.placed w.0 w.1 in
          let lt = p.within in
          let zl : 0 < length nodes = omega arith in
          let whole : key_at names nodes p.place ≡ key_at names nodes 0 ++ key_at names nodes p.place = ap (λ (k : List ℕ). k ++ key_at names nodes p.place) (sym are.tree.root) in
          let filled : key_at names nodes p.place ≢ [] = λ h. file_key names nodes are w.0 w.1 (subst IsFolderKey (sym h ∙ p.is) tt) in
          let way = leads are.tree (suc p.place) 0 p.place (key_at names nodes p.place) (omega arith) zl p.within (subst IsFolderKey (sym are.tree.root) tt) whole filled in
          let some : 0 < (node_at nodes 0).first_child = (are.tree.first_least 0 way.child way.some way.within way.under).0 in
          omega arith

      by : (xs : List Numbered) → ((e : Numbered) → IsMember e xs → ⊥) → xs ≡ []
      by [] f = refl
      by (x ∷ xs) f = absurd (f x (inl refl))

  pub walk_starts : (first : ℕ) → 0 < length nodes → IsFirst names nodes 0 first → (node_at nodes first).first_child ≡ 0 → left_of names nodes first ≡ walk_of names
  unfolding numbers_from walk_of
  walk_starts first lt is none = elim (cases_eq first 0) [
    | inl z ↦
        let empty = no_names (ap (λ (x : ℕ). (node_at nodes x).first_child) (sym z) ∙ none) in
        left_none first z ∙ ap (map (λ (e : Numbered). e.0)) (sym empty)
    | inr ne ↦
        let k = key_at names nodes first in
        let all = filter_all (λ e. is_le (slice_cmp nat_cmp k e.1)) (in_order (enumerate_from 0 names)) (λ e m.
        let x = entry_file e m in
        at_le k e.1 (subst (λ (l : List ℕ). AtMost k l) x.3 (is.least [] (λ y yl f low. inr_or y) x.0 x.1 x.2 (filled (key_at names nodes x.0) x.2)))) in
        left_some first (omega arith) ∙ ap (map (λ (e : Numbered). e.0)) all
  ]
    where
      inr_or : (y : ℕ) → AtMost (key_at names nodes 0) (key_at names nodes y)
      inr_or y = subst (λ (l : List ℕ). AtMost l (key_at names nodes y)) (sym are.tree.root) (front_at_most [] (key_at names nodes y))

      filled : (l : List ℕ) → (IsFolderKey l → ⊥) → Below [] l
      filled [] f = absurd (f tt)
      filled (x ∷ l) f = tt

  pub walk_empty : length nodes ≡ 0 → left_of names nodes 0 ≡ walk_of names
  unfolding walk_of
  walk_empty none = by names (λ m lt. let p = are.placed m lt in let w = p.within in absurd (omega arith))
    where
      by : (names : List (List ℕ)) → ((m : ℕ) → m < length names → ⊥) → [] ≡ map (λ (e : Numbered). e.0) (in_order (enumerate_from 0 names))
      by [] f = refl
      by (x ∷ names) f = absurd (f 0 (omega arith))

pub some_from : (n : ℕ) (b : Bool) → b ≡ (n == 0) → b ≡ false → 0 < n
some_from n b e f = let h : (n == 0) ≡ false = sym e ∙ f in grind (arith, nat_tests)

pub shorter_by : (x : ℕ) (xs ys : List ℕ) → ys ≡ x ∷ xs → length xs < length ys
shorter_by x xs ys e = let l : length ys ≡ suc (length xs) = ap length e in omega arith
