-- The place behind a leaf, in byte order of keys.
use Rattle.std.proofs.Common.{◌≡◌, ◌≢◌, ℕ, suc, ◌<◌, ◌⊎◌, List, [], ◌∷◌, ◌++◌, refl, sym, ap, ◌∙◌, subst, arith, inl, inr}
use Rattle.std.proofs.lemmas.List.{append-nil, append_assoc, append_cancel_left}
use Rattle.name_tree.specs.Tree.{Below, AtMost, EndsAtSlash, IsPiece, IsFolderKey, Links, IsTree}
use Rattle.name_tree.proofs.Orders.{not_below_itself, below_at_most, at_most_trans, not_both, compared, front_at_most, splits_below, beside, fronts, folder_tail, inside, piece_ends, piece_some}
use Rattle.name_tree.proofs.Trees.{LeadsTo, leads}

-- nothing above the leaf is under the place, a folder
abbrev pub IsPast : (count : ℕ) → Links → ℕ → ℕ → Type 0
IsPast count t leaf c = IsFolderKey (t.key c) → (x : ℕ) → x < count → Below (t.key leaf) (t.key x) → (rest : List ℕ) → t.key x ≢ t.key c ++ rest

-- the leaf, or a folder of it that holds nothing above it
pub record IsClimbing (count : ℕ) (t : Links) (leaf c : ℕ) : Type 0 where
  pub within : c < count
  pub rest : List ℕ
  pub part : t.key leaf ≡ t.key c ++ rest
  pub folder : (rest ≡ []) ⊎ IsFolderKey (t.key c)
  pub past : IsPast count t leaf c

-- the place is the least of those leaves and folders of leaves that the test takes
abbrev pub IsLeast : (count : ℕ) → Links → (ℕ → Type 0) → ℕ → Type 0
IsLeast count t takes d = (x : ℕ) → x < count → (IsFolderKey (t.key x) → ⊥) → takes x → AtMost (t.key d) (t.key x)

-- a child above a place among its siblings, on the way to x
pub record IsAbove (count : ℕ) (t : Links) (c x : ℕ) : Type 0 where
  pub child : ℕ
  pub some : 0 < child
  pub within : child < count
  pub under : t.parent child ≡ t.parent c
  pub above : Below (t.key c) (t.key child)
  pub leads : AtMost (t.key child) (t.key x)

tail_folder : (key p piece : List ℕ) → IsFolderKey key → key ≡ p ++ piece → IsPiece piece → IsFolderKey piece
tail_folder key p [] f e is = absurd is
tail_folder key p (y ∷ ys) f e is = folder_tail p y ys (subst IsFolderKey e f)

module _ {count : ℕ} {t : Links} (tree : IsTree count t) where
  -- no folder's key begins the key of a sibling
  not_inside : (a c : ℕ) (rest : List ℕ) → 0 < a → a < count → 0 < c → c < count → t.parent a ≡ t.parent c → IsFolderKey (t.key a) → t.key c ≡ t.key a ++ rest → rest ≢ [] → ⊥
  not_inside a c rest some al csome cl same folder e more =
      let ha = tree.hangs a some al in
      let hc = tree.hangs c csome cl in
      let p = t.key (t.parent c) in
      let ea : t.key a ≡ p ++ ha.0 = ha.2 ∙ ap (λ (i : ℕ). t.key i ++ ha.0) same in
      let cut : hc.0 ≡ ha.0 ++ rest = append_cancel_left p hc.0 (ha.0 ++ rest) (sym hc.2 ∙ e ∙ ap (λ (k : List ℕ). k ++ rest) ea ∙ append_assoc p ha.0 rest) in
      inside ha.0 rest (tail_folder (t.key a) p ha.0 folder ea ha.1) (piece_some ha.0 ha.1) more (subst EndsAtSlash cut (piece_ends hc.0 hc.1))

  parent_at_most : (leaf c : ℕ) → 0 < c → IsClimbing count t leaf c → AtMost (t.key (t.parent c)) (t.key leaf)
  parent_at_most leaf c some climb =
      let h = tree.hangs c some climb.within in
      let e : t.key leaf ≡ t.key (t.parent c) ++ (h.0 ++ climb.rest) = climb.part ∙ ap (λ (k : List ℕ). k ++ climb.rest) h.2 ∙ append_assoc (t.key (t.parent c)) h.0 climb.rest in
      subst (λ (k : List ℕ). AtMost (t.key (t.parent c)) k) (sym e) (front_at_most (t.key (t.parent c)) (h.0 ++ climb.rest))

  self_at_most : (leaf c : ℕ) → IsClimbing count t leaf c → AtMost (t.key c) (t.key leaf)
  self_at_most leaf c climb = subst (λ (k : List ℕ). AtMost (t.key c) k) (sym climb.part) (front_at_most (t.key c) climb.rest)

  some_rest : (leaf c x : ℕ) (rest : List ℕ) → 0 < c → IsClimbing count t leaf c → Below (t.key leaf) (t.key x) → t.key x ≡ t.key (t.parent c) ++ rest → rest ≢ []
  some_rest leaf c x rest some climb b e none =
      let same : t.key x ≡ t.key (t.parent c) = e ∙ ap (λ (l : List ℕ). t.key (t.parent c) ++ l) none ∙ append-nil (t.key (t.parent c)) in
      not_both (t.key leaf) (t.key x) b (subst (λ (k : List ℕ). AtMost k (t.key leaf)) (sym same) (parent_at_most leaf c some climb))

  way_rest : (p x : ℕ) (way : LeadsTo count t p x) → (rest : List ℕ) × (t.key x ≡ t.key way.child ++ rest) × ((rest ≡ []) ⊎ IsFolderKey (t.key way.child))
  way_rest p x way = elim way.is [
    | inl same ↦ ([], ap t.key (sym same) ∙ sym (append-nil (t.key way.child)), inl refl)
    | inr more ↦ (more.0, more.1, inr more.2)
  ]

  above : (leaf c x : ℕ) (rest : List ℕ) → 0 < c → IsClimbing count t leaf c → x < count → Below (t.key leaf) (t.key x) → t.key x ≡ t.key (t.parent c) ++ rest → IsAbove count t c x
  above leaf c x rest some climb xl b e =
      let p = t.parent c in
      let up : p < c = tree.up c some climb.within in
      let cl = climb.within in
      let pl : p < count = omega arith in
      let way = leads tree (suc x) p x rest (omega arith) pl xl (tree.folder c some climb.within) e (some_rest leaf c x rest some climb b e) in
      let w = way_rest p x way in
      let a = way.child in
      let most : AtMost (t.key a) (t.key x) = subst (λ (k : List ℕ). AtMost (t.key a) k) (sym w.1) (front_at_most (t.key a) w.0) in
      elim (compared (t.key c) (t.key a)) [
        | inl same ↦ elim w.2 [
          | inl none ↦
              let is : t.key x ≡ t.key c = w.1 ∙ ap (λ (l : List ℕ). t.key a ++ l) none ∙ append-nil (t.key a) ∙ sym same in
              absurd (not_both (t.key leaf) (t.key x) b (subst (λ (k : List ℕ). AtMost k (t.key leaf)) (sym is) (self_at_most leaf c climb)))
          | inr folder ↦ absurd (climb.past (subst IsFolderKey (sym same) folder) x xl b w.0 (w.1 ∙ ap (λ (k : List ℕ). k ++ w.0) (sym same)))
        ]
        | inr (inl more) ↦ record { child = a; some = way.some; within = way.within; under = way.under; above = more; leads = most }
        | inr (inr less) ↦ elim (beside (t.key a) (t.key c) less) [
          | inl part ↦ elim w.2 [
            | inl none ↦
                let is : t.key x ≡ t.key a = w.1 ∙ ap (λ (l : List ℕ). t.key a ++ l) none ∙ append-nil (t.key a) in
                let low : Below (t.key x) (t.key leaf) = below_at_most (t.key x) (t.key c) (t.key leaf) (subst (λ (k : List ℕ). Below k (t.key c)) (sym is) less) (self_at_most leaf c climb) in
                absurd (not_both (t.key leaf) (t.key x) b (inr low))
            | inr folder ↦ absurd (not_inside a c part.0 way.some way.within some climb.within way.under folder part.1
                (λ none. not_below_itself (t.key a) (subst (λ (k : List ℕ). Below (t.key a) k) (part.1 ∙ ap (λ (l : List ℕ). t.key a ++ l) none ∙ append-nil (t.key a)) less)))
          ]
          | inr split ↦
              let low : Below (t.key a ++ w.0) (t.key c ++ climb.rest) = splits_below (t.key a) (t.key c) w.0 climb.rest split in
              let low2 : Below (t.key x) (t.key c ++ climb.rest) = subst (λ (k : List ℕ). Below k (t.key c ++ climb.rest)) (sym w.1) low in
              let low3 : Below (t.key x) (t.key leaf) = subst (λ (k : List ℕ). Below (t.key x) k) (sym climb.part) low2 in
              absurd (not_both (t.key leaf) (t.key x) b (inr low3))
        ]
      ]

  -- the last child: on to the parent
  pub climbs : (leaf c : ℕ) → 0 < c → IsClimbing count t leaf c → t.next c ≡ 0 → IsClimbing count t leaf (t.parent c)
  climbs leaf c some climb last =
      let h = tree.hangs c some climb.within in
      let cl = climb.within in
      let up : t.parent c < c = tree.up c some climb.within in
      record {
        within = omega arith;
        rest = h.0 ++ climb.rest;
        part = climb.part ∙ ap (λ (k : List ℕ). k ++ climb.rest) h.2 ∙ append_assoc (t.key (t.parent c)) h.0 climb.rest;
        folder = inr (tree.folder c some climb.within);
        past = λ f x xl b rest e.
            let up = above leaf c x rest some climb xl b e in
            let least = tree.next_least c up.child some climb.within up.some up.within up.under up.above in
            let yes : 0 < t.next c = least.0 in
            omega arith;
      }

  pub starts : (leaf : ℕ) → leaf < count → (IsFolderKey (t.key leaf) → ⊥) → IsClimbing count t leaf leaf
  starts leaf within is = record {
    within = within;
    rest = [];
    part = sym (append-nil (t.key leaf));
    folder = inl refl;
    past = λ f x xl b rest e. absurd (is f);
  }

  pub over : (leaf c : ℕ) → 0 < c → IsClimbing count t leaf c → 0 < t.next c → IsLeast count t (λ x. Below (t.key leaf) (t.key x)) (t.next c)
  over leaf c some climb next x xl is b =
      let p = t.parent c in
      let n = tree.next_is c some climb.within next in
      elim (fronts (t.key p) (t.key x)) [
        | inl under ↦
            let up = above leaf c x under.0 some climb xl b under.1 in
            let least = tree.next_least c up.child some climb.within up.some up.within up.under up.above in
            at_most_trans (t.key (t.next c)) (t.key up.child) (t.key x) least.1 up.leads
        | inr (inl low) ↦ absurd (not_both (t.key leaf) (t.key x) b (inr (below_at_most (t.key x) (t.key p) (t.key leaf) low (parent_at_most leaf c some climb))))
        | inr (inr split) ↦
            let h = tree.hangs (t.next c) next n.0 in
            let e : t.key (t.next c) ≡ t.key p ++ h.0 = h.2 ∙ ap (λ (i : ℕ). t.key i ++ h.0) n.1 in
            let low : Below (t.key p ++ h.0) (t.key x ++ []) = splits_below (t.key p) (t.key x) h.0 [] split in
            let low2 : Below (t.key p ++ h.0) (t.key x) = subst (λ (k : List ℕ). Below (t.key p ++ h.0) k) (append-nil (t.key x)) low in
            inr (subst (λ (k : List ℕ). Below k (t.key x)) (sym e) low2)
      ]

  pub rises : (leaf c : ℕ) → 0 < c → IsClimbing count t leaf c → 0 < t.next c → Below (t.key leaf) (t.key (t.next c))
  rises leaf c some climb next =
      let n = tree.next_is c some climb.within next in
      let d = t.next c in
      elim climb.folder [
        | inl none ↦
            let e : t.key leaf ≡ t.key c = climb.part ∙ ap (λ (l : List ℕ). t.key c ++ l) none ∙ append-nil (t.key c) in
            subst (λ (k : List ℕ). Below k (t.key d)) (sym e) n.2
        | inr folder ↦ elim (beside (t.key c) (t.key d) n.2) [
          | inl part ↦ absurd (not_inside c d part.0 some climb.within next n.0 (sym n.1) folder part.1
              (λ none. not_below_itself (t.key c) (subst (λ (k : List ℕ). Below (t.key c) k) (part.1 ∙ ap (λ (l : List ℕ). t.key c ++ l) none ∙ append-nil (t.key c)) n.2)))
          | inr split ↦
              let low : Below (t.key c ++ climb.rest) (t.key d ++ []) = splits_below (t.key c) (t.key d) climb.rest [] split in
              let low2 : Below (t.key c ++ climb.rest) (t.key d) = subst (λ (k : List ℕ). Below (t.key c ++ climb.rest) k) (append-nil (t.key d)) low in
              subst (λ (k : List ℕ). Below k (t.key d)) (sym climb.part) low2
        ]
      ]

  -- nothing is above a leaf whose way up has no next sibling
  pub last : (leaf : ℕ) → IsClimbing count t leaf 0 → (x : ℕ) → x < count → Below (t.key leaf) (t.key x) → ⊥
  last leaf climb x xl b = climb.past (subst IsFolderKey (sym tree.root) tt) x xl b (t.key x) (ap (λ (k : List ℕ). k ++ t.key x) (sym tree.root))

  -- a folder: on to its first child
  pub deeper : (takes : ℕ → Type 0) (d : ℕ) → d < count → IsFolderKey (t.key d) → 0 < t.first d → IsLeast count t takes d → IsLeast count t takes (t.first d)
  deeper takes d dl folder some least x xl is b =
      let f = tree.first_is d dl some in
      let first = t.first d in
      elim (least x xl is b) [
        | inl same ↦ absurd (is (subst IsFolderKey same folder))
        | inr less ↦ elim (beside (t.key d) (t.key x) less) [
          | inl part ↦
              let more : part.0 ≢ [] = λ none. not_below_itself (t.key d) (subst (λ (k : List ℕ). Below (t.key d) k) (part.1 ∙ ap (λ (l : List ℕ). t.key d ++ l) none ∙ append-nil (t.key d)) less) in
              let way = leads tree (suc x) d x part.0 (omega arith) dl xl folder part.1 more in
              let w = way_rest d x way in
              let most : AtMost (t.key way.child) (t.key x) = subst (λ (k : List ℕ). AtMost (t.key way.child) k) (sym w.1) (front_at_most (t.key way.child) w.0) in
              at_most_trans (t.key first) (t.key way.child) (t.key x) (tree.first_least d way.child way.some way.within way.under).1 most
          | inr split ↦
              let h = tree.hangs first some f.0 in
              let e : t.key first ≡ t.key d ++ h.0 = h.2 ∙ ap (λ (i : ℕ). t.key i ++ h.0) f.1 in
              let low : Below (t.key d ++ h.0) (t.key x ++ []) = splits_below (t.key d) (t.key x) h.0 [] split in
              let low2 : Below (t.key d ++ h.0) (t.key x) = subst (λ (k : List ℕ). Below (t.key d ++ h.0) k) (append-nil (t.key x)) low in
              inr (subst (λ (k : List ℕ). Below k (t.key x)) (sym e) low2)
        ]
      ]

  pub lower : (d : ℕ) → d < count → 0 < t.first d → Below (t.key d) (t.key (t.first d))
  lower d dl some =
      let f = tree.first_is d dl some in
      let h = tree.hangs (t.first d) some f.0 in
      let e : t.key (t.first d) ≡ t.key d ++ h.0 = h.2 ∙ ap (λ (i : ℕ). t.key i ++ h.0) f.1 in
      elim (front_at_most (t.key d) h.0) [
        | inl same ↦ absurd (piece_some h.0 h.1 (append_cancel_left (t.key d) h.0 [] (sym same ∙ sym (append-nil (t.key d)))))
        | inr b ↦ subst (λ (k : List ℕ). Below (t.key d) k) (sym e) b
      ]
