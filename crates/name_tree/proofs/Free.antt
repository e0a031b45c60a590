-- What the search for a name shows: why it is refused, or that it may be added.
use Rattle.std.proofs.Common.{◌≡◌, ◌≢◌, ℕ, zero, suc, ◌-◌, ◌<◌, ◌≤◌, true, false, List, [], ◌∷◌, ◌++◌, length, get_or, take, drop, refl, sym, ap, ◌∙◌, subst, arith, inl, inr, Some, None}
use Rattle.std.proofs.lemmas.List.{append-nil, append_assoc, append_cancel_left, append_cancel_right, take-append-drop, take-take, length-take-le, length-drop}
use Rattle.std.specs.List.{list_all}
use Rattle.cook_bits.specs.Names.{is_plain_segment, segments_of, is_relative_name, holds_folder_of}
use Rattle.name_tree.specs.declared.node.Node.{Node}
use Rattle.name_tree.specs.declared.error.NameError.TheVariants.{Exists, UnderFile, OverFolder}
use Rattle.name_tree.specs.Held.{is_among, is_folder_among, refusal_of}
use Rattle.name_tree.specs.Tree.{EndsAtSlash, IsPiece, IsFolderKey}
use Rattle.name_tree.specs.Nodes.{node_at, key_at, HasPlace, AreNodes}
use Rattle.name_tree.specs.Searching.{IsFound, IsPlace, IsOnWay, IsEnd, IsDeepest, IsAbsent, CanHang, IsFree}
use Rattle.name_tree.proofs.Orders.{behind, inside, piece_ends, piece_some, folder_tail}
use Rattle.name_tree.proofs.Trees.{leads, begins}
use Rattle.name_tree.proofs.Pieces.{one_piece}
use Rattle.name_tree.proofs.Searches.{stands, folder_joined, child_of, absent_child, way_step, way_rest}
use Rattle.name_tree.proofs.Refusals.{among, not_among, holds, holds_none, over, over_none, refused_exists, refused_under, refused_over, not_refused, plain_rest, plain_some, relative_plain, not_folder}

ends_front : (d u : List ℕ) → EndsAtSlash (d ++ u) → EndsAtSlash d
ends_front [] u e = tt
ends_front (x ∷ []) u e = tt
ends_front (x ∷ y ∷ d) u e = (e.0, ends_front (y ∷ d) u e.1)

piece_front : (d u : List ℕ) → IsPiece (d ++ u) → d ≢ [] → IsPiece d
piece_front [] u p some = absurd (some refl)
piece_front (x ∷ d) u p some = (p.0, ends_front (x ∷ d) u p.1)

pub slash_cut : (n : ℕ) (k : List ℕ) → length k ≡ suc n → IsFolderKey k → k ≡ take n k ++ 47 ∷ []
slash_cut n [] len f = absurd (omega arith)
slash_cut zero (x ∷ []) len f = λ i. f i ∷ []
slash_cut (suc n) (x ∷ []) len f = absurd (omega arith)
slash_cut zero (x ∷ y ∷ k) len f = absurd (omega arith)
slash_cut (suc n) (x ∷ y ∷ k) len f = λ i. x ∷ slash_cut n (y ∷ k) (omega arith) f i

-- the name up to before the slash
pub stem_is : (name : List ℕ) (end n : ℕ) → end ≡ suc n → end ≤ length name → IsFolderKey (take end name) → take end name ≡ take n name ++ 47 ∷ []
stem_is name end n e le f =
    let l : length (take end name) ≡ suc n = length-take-le end name le ∙ e in
    slash_cut n (take end name) l f ∙ ap (λ (k : List ℕ). k ++ 47 ∷ []) (take-take n end name (omega arith))

pub is_piece : (q rest : List ℕ) → q ≢ [] → EndsAtSlash q → list_all is_plain_segment (segments_of (q ++ rest)) ≡ true → IsPiece q
is_piece [] rest some ends plain = absurd (some refl)
is_piece (x ∷ q) rest some ends plain = ((plain_some (x ∷ q ++ rest) plain).1 x (q ++ rest) refl, ends)

tail_folder : (key p piece : List ℕ) → IsFolderKey key → key ≡ p ++ piece → IsPiece piece → IsFolderKey piece
tail_folder key p [] f e is = absurd is
tail_folder key p (y ∷ ys) f e is = folder_tail p y ys (subst IsFolderKey e f)

one_byte : (x : ℕ) (d c : List ℕ) → 47 ∷ [] ≡ x ∷ (d ++ c) → x ∷ d ≡ 47 ∷ []
one_byte x [] c e = let h : x ≡ 47 = cc in λ i. h i ∷ []
one_byte x (y ∷ d) c e = cc

ends_more : (d : List ℕ) → EndsAtSlash d → (IsFolderKey d → ⊥) → EndsAtSlash (d ++ 47 ∷ [])
ends_more [] e file = tt
ends_more (x ∷ []) e file = (file, tt)
ends_more (x ∷ y ∷ d) e file = (e.0, ends_more (y ∷ d) e.1 file)

slashed_piece : (d : List ℕ) → IsPiece d → (IsFolderKey d → ⊥) → IsPiece (d ++ 47 ∷ [])
slashed_piece [] isp file = absurd isp
slashed_piece (x ∷ d) isp file = (isp.0, ends_more (x ∷ d) isp.1 file)

nonempty : (d : List ℕ) → d ++ 47 ∷ [] ≢ []
nonempty [] e = cc
nonempty (x ∷ d) e = cc

pub slash_end : (piece rest : List ℕ) → IsFolderKey piece → piece ≢ [] → EndsAtSlash (piece ++ rest) → (IsFolderKey (piece ++ rest) → piece ++ rest ≡ []) → ⊥
slash_end piece [] folder some ends none = some (sym (append-nil piece) ∙ none (subst IsFolderKey (sym (append-nil piece)) folder))
slash_end piece (y ∷ rest) folder some ends none = inside piece (y ∷ rest) folder some (λ h. cc) ends

slash_inside : (d rest : List ℕ) → EndsAtSlash (d ++ 47 ∷ rest) → (IsFolderKey (d ++ 47 ∷ rest) → d ++ 47 ∷ rest ≡ []) → ⊥
slash_inside d rest ends none =
    let e = append_assoc d (47 ∷ []) rest in
    slash_end (d ++ 47 ∷ []) rest (folder_joined d (47 ∷ []) (λ h. cc) refl) (nonempty d) (subst EndsAtSlash (sym e) ends) (λ f. e ∙ none (subst IsFolderKey e f))

-- a piece is not a folder's and more
file_end : (k q u piece : List ℕ) → IsPiece piece → (IsFolderKey (k ++ (q ++ u)) → ⊥) → IsFolderKey q → q ≢ [] → piece ≡ q ++ u → ⊥
file_end k q [] piece isp file folder some e = file (folder_joined k (q ++ []) (λ h. some (sym (append-nil q) ∙ h)) (subst IsFolderKey (sym (append-nil q)) folder))
file_end k q (y ∷ u) piece isp file folder some e = inside q (y ∷ u) folder some (λ h. cc) (subst EndsAtSlash e (piece_ends piece isp))

module _ (names : List (List ℕ)) (nodes : List Node) (are : AreNodes names nodes) where
  -- a key that is absent begins no other
  pub begins_none : (key u : List ℕ) (j : ℕ) → IsFolderKey key → IsAbsent names nodes key → j < length nodes → key_at names nodes j ≢ key ++ u
  begins_none key u j folder absent jl e =
      let w = begins are.tree (λ i. Unit {0}) (λ i a b c. tt) (suc j) j key u (omega arith) jl folder e tt in
      absent w.0 w.1 w.2

  pub file_key : (m : ℕ) → m < length names → IsFolderKey (get_or names m []) → ⊥
  file_key m lt = not_folder (get_or names m []) (relative_plain (get_or names m []) (are.relative m lt))

  pub file_held : (j : ℕ) (key : List ℕ) → 0 < j → j < length nodes → key_at names nodes j ≡ key → (IsFolderKey key → ⊥) → (m : ℕ) × (m < length names) × (get_or names m [] ≡ key)
  file_held j key some jl e is =
      let l = are.leaf j some jl (λ f. is (subst IsFolderKey e f)) in
      ((node_at nodes j).name, (are.keyed j some jl).0, sym l ∙ e)

  name_of : (j : ℕ) → 0 < j → j < length nodes → get_or names (node_at nodes j).name [] ≡ key_at names nodes j ++ drop (node_at nodes j).len (get_or names (node_at nodes j).name [])
  unfolding key_at
  name_of j some jl = sym (take-append-drop (node_at nodes j).len (get_or names (node_at nodes j).name []))

  pub exists_none : (name : List ℕ) → IsAbsent names nodes name → is_among names name ≡ false
  exists_none name absent = not_among names name (λ m lt e. let at = are.placed m lt in absent at.place at.within (at.is ∙ e))

  pub over_none_held : (name : List ℕ) → IsAbsent names nodes (name ++ 47 ∷ []) → is_folder_among names name ≡ false
  over_none_held name absent = over_none names name (λ m rest lt e. let at = are.placed m lt in
      begins_none (name ++ 47 ∷ []) rest at.place (folder_joined name (47 ∷ []) (λ h. cc) refl) absent at.within (at.is ∙ e))

  pub over_held : (name : List ℕ) (j : ℕ) → 0 < j → j < length nodes → key_at names nodes j ≡ name ++ 47 ∷ [] → is_folder_among names name ≡ true
  over_held name j some jl e =
      over names name (node_at nodes j).name (drop (node_at nodes j).len (get_or names (node_at nodes j).name [])) (are.keyed j some jl).0
      (name_of j some jl ∙ ap (λ (k : List ℕ). k ++ drop (node_at nodes j).len (get_or names (node_at nodes j).name [])) e)

  module _ (name : List ℕ) (relative : is_relative_name name ≡ true) (p : ℕ) (way : IsOnWay names nodes name p) (deep : IsDeepest names nodes name p) where
    plain : list_all is_plain_segment (segments_of name) ≡ true
    plain = relative_plain name relative

    rest_plain : (rest : List ℕ) → name ≡ key_at names nodes p ++ rest → list_all is_plain_segment (segments_of rest) ≡ true
    rest_plain rest e = plain_rest (key_at names nodes p) rest way.folder (ap (λ (l : List ℕ). list_all is_plain_segment (segments_of l)) (sym e) ∙ plain)

    -- no name that is held ends before the rest of the name
    under_none : ((d rest : List ℕ) → name ≡ key_at names nodes p ++ (d ++ 47 ∷ rest) → IsPiece d → (IsFolderKey d → ⊥) → IsAbsent names nodes (key_at names nodes p ++ d))
        → holds_folder_of names name ≡ false
    under_none no_stem = holds_none names name (λ m rest lt e.
        let at = are.placed m lt in
        let z = get_or names m [] in
        let k = key_at names nodes p in
        let same : k ++ way.rest ≡ (z ++ 47 ∷ []) ++ rest = sym way.is ∙ e in
        elim (behind (z ++ 47 ∷ []) rest k way.rest (sym same)) [
          | inl w ↦
              let b = begins are.tree (λ i. Unit {0}) (λ i a b c. tt) (suc p) p (z ++ 47 ∷ []) w.0 (omega arith) way.within (folder_joined z (47 ∷ []) (λ h. cc) refl) w.1 tt in
              are.tree.apart at.place b.0 at.some at.within b.1 (b.2 ∙ ap (λ (l : List ℕ). l ++ 47 ∷ []) (sym at.is))
          | inr w ↦ elim (behind z (47 ∷ []) k w.0 w.1) [
            | inl ([], f, g) ↦ file_key m lt (subst IsFolderKey (f ∙ append-nil z) way.folder)
            | inl (x ∷ d, f, g) ↦ are.tree.apart at.place p at.some at.within way.within (f ∙ ap (λ (l : List ℕ). z ++ l) (one_byte x d w.0 g) ∙ ap (λ (l : List ℕ). l ++ 47 ∷ []) (sym at.is))
            | inr ([], f, g) ↦ file_key m lt (subst IsFolderKey (sym (f ∙ append-nil k)) way.folder)
            | inr (x ∷ d, f, g) ↦ deeper m lt at rest (x ∷ d) f (λ h. cc) e
          ]
        ])
      where
        deeper : (m : ℕ) → m < length names → (at : HasPlace names nodes m) (rest d : List ℕ) → get_or names m [] ≡ key_at names nodes p ++ d → d ≢ [] → name ≡ (get_or names m [] ++ 47 ∷ []) ++ rest → ⊥
        deeper m lt at rest d f some e =
            let k = key_at names nodes p in
            let i = at.place in
            let il = at.within in
            let ei : key_at names nodes i ≡ k ++ d = at.is ∙ f in
            let way_down = leads are.tree (suc i) p i d (omega arith) way.within il way.folder ei some in
            let a = way_down.child in
            let h = are.tree.hangs a way_down.some way_down.within in
            let ea : key_at names nodes a ≡ k ++ h.0 = h.2 ∙ ap (λ (x : ℕ). key_at names nodes x ++ h.0) way_down.under in
            elim way_down.is [
              | inl same ↦
                  let same_piece : d ≡ h.0 = append_cancel_left k d h.0 (sym ei ∙ ap (key_at names nodes) (sym same) ∙ ea) in
                  let isp : IsPiece d = subst IsPiece (sym same_piece) h.1 in
                  let whole : name ≡ k ++ (d ++ 47 ∷ rest) = e ∙ ap (λ (l : List ℕ). (l ++ 47 ∷ []) ++ rest) f ∙ append_assoc (k ++ d) (47 ∷ []) rest ∙ append_assoc k d (47 ∷ rest) in
                  no_stem d rest whole isp (λ g. file_key m lt (subst IsFolderKey (sym f) (folder_joined k d some g))) i il ei
              | inr more ↦
                  let folder : IsFolderKey h.0 = tail_folder (key_at names nodes a) k h.0 more.2 ea h.1 in
                  let zi : get_or names m [] ≡ (k ++ h.0) ++ more.0 = sym at.is ∙ more.1 ∙ ap (λ (l : List ℕ). l ++ more.0) ea in
                  let whole : name ≡ (k ++ h.0) ++ (more.0 ++ (47 ∷ rest)) = e ∙ ap (λ (l : List ℕ). (l ++ 47 ∷ []) ++ rest) zi ∙ append_assoc ((k ++ h.0) ++ more.0) (47 ∷ []) rest ∙ append_assoc (k ++ h.0) more.0 (47 ∷ rest) in
                  deep h.0 (more.0 ++ (47 ∷ rest)) h.1 folder whole a way_down.within ea
            ]

    -- ---- a folder is the next on the way

    module _ (n : Node) (ne : n ≡ node_at nodes p) (end : ℕ) (is : IsEnd name n.len (Some end)) where
      q_some : drop n.len (take end name) ≢ []
      q_some e =
          let lt = is.0 in
          let le = is.1 in
          let a = length-drop n.len (take end name) in
          let b = length-take-le end name le in
          let c : length (drop n.len (take end name)) ≡ 0 = ap length e in
          omega arith

      whole : name ≡ key_at names nodes p ++ (drop n.len (take end name) ++ drop end name)
      whole = sym (take-append-drop end name) ∙ ap (λ (l : List ℕ). l ++ drop end name) (way_step names nodes (stands are) name p n end way ne is) ∙ append_assoc (key_at names nodes p) (drop n.len (take end name)) (drop end name)

      q_piece : IsPiece (drop n.len (take end name))
      q_piece = is_piece (drop n.len (take end name)) (drop end name) q_some is.2 (rest_plain (drop n.len (take end name) ++ drop end name) whole)

      step : take end name ≡ key_at names nodes p ++ drop n.len (take end name)
      step = way_step names nodes (stands are) name p n end way ne is

      step_folder : IsFolderKey (take end name)
      step_folder = subst IsFolderKey (sym step) (folder_joined (key_at names nodes p) (drop n.len (take end name)) q_some is.3)

      step_absent : IsAbsent names nodes (take end name)
      step_absent = subst (IsAbsent names nodes) (sym step) (deep (drop n.len (take end name)) (drop end name) q_piece is.3 (whole ∙ sym (append_assoc (key_at names nodes p) (drop n.len (take end name)) (drop end name))))

      none_behind : (u : List ℕ) → IsAbsent names nodes (take end name ++ u)
      none_behind u j jl e = begins_none (take end name) u j step_folder step_absent jl e

      name_absent : IsAbsent names nodes name
      name_absent = subst (IsAbsent names nodes) (take-append-drop end name) (none_behind (drop end name))

      slashed_absent : IsAbsent names nodes (name ++ 47 ∷ [])
      slashed_absent = subst (IsAbsent names nodes) (sym (append_assoc (take end name) (drop end name) (47 ∷ [])) ∙ ap (λ (l : List ℕ). l ++ 47 ∷ []) (take-append-drop end name)) (none_behind (drop end name ++ 47 ∷ []))

      stem : take end name ≡ take (end - 1) name ++ 47 ∷ []
      stem = let lt = is.0 in stem_is name end (end - 1) (omega arith) is.1 step_folder

      stem_whole : name ≡ (take (end - 1) name ++ 47 ∷ []) ++ drop end name
      stem_whole = sym (take-append-drop end name) ∙ ap (λ (l : List ℕ). l ++ drop end name) stem

      stem_file : IsFolderKey (take (end - 1) name) → ⊥
      stem_file f =
          let s = take (end - 1) name in
          let e : name ≡ s ++ (47 ∷ drop end name) = stem_whole ∙ append_assoc s (47 ∷ []) (drop end name) in
          let pl = plain_rest s (47 ∷ drop end name) f (ap (λ (l : List ℕ). list_all is_plain_segment (segments_of l)) (sym e) ∙ plain) in
          (plain_some (47 ∷ drop end name) pl).1 47 (drop end name) refl refl

      pub under_file : (j : ℕ) → 0 < j → IsFound names nodes p (take (end - 1) name) j → refusal_of names name ≡ Some UnderFile
      under_file j some found =
          let h = file_held j (take (end - 1) name) some found.within found.is stem_file in
          refused_under names name relative (exists_none name name_absent) (holds names name h.0 (drop end name) h.1 (stem_whole ∙ ap (λ (l : List ℕ). (l ++ 47 ∷ []) ++ drop end name) (sym h.2)))

      -- what stands before the slash of the next key is no place
      front_absent : ((j : ℕ) → 0 < j → IsFound names nodes p (take (end - 1) name) j → ⊥) → (front : List ℕ) → take end name ≡ front ++ 47 ∷ [] → IsAbsent names nodes front
      front_absent none front e j jl ej =
          let k = key_at names nodes p in
          let q = drop n.len (take end name) in
          let is_stem : front ≡ take (end - 1) name = append_cancel_right front (take (end - 1) name) (47 ∷ []) (sym e ∙ stem) in
          elim (behind k q front (47 ∷ []) (sym step ∙ e)) [
            | inl ([], f, g) ↦ (q_front q g q_piece)
            | inl (x ∷ d, f, g) ↦
                let isp : IsPiece (x ∷ d) = piece_front (x ∷ d) (47 ∷ []) (subst IsPiece g q_piece) (λ h. cc) in
                let c = child_of names nodes are.tree p j (x ∷ d) way.within jl way.folder isp (ej ∙ f) in
                none j c.0 (record { within = jl; under = c.1; is = ej ∙ is_stem })
            | inr ([], f, g) ↦ (q_front q (sym g) q_piece)
            | inr (x ∷ d, f, g) ↦ absurd (q_some (short x d q g))
          ]
        where
          q_front : (q : List ℕ) → q ≡ 47 ∷ [] → IsPiece q → ⊥
          q_front q e isp = (subst IsPiece e isp).0 refl

          short : (x : ℕ) (d q : List ℕ) → 47 ∷ [] ≡ x ∷ d ++ q → q ≡ []
          short x [] q e = cc
          short x (y ∷ d) q e = cc

      pub folder_free : (before : ℕ) → ((j : ℕ) → 0 < j → IsFound names nodes p (take (end - 1) name) j → ⊥) → IsPlace names nodes p (take end name) before → IsFree names nodes name p before
      folder_free before none place piece rest isp e or =
          let k = key_at names nodes p in
          let q = drop n.len (take end name) in
          let cut : piece ++ rest ≡ q ++ drop end name = append_cancel_left k (piece ++ rest) (q ++ drop end name) (sym (append_assoc k piece rest) ∙ sym e ∙ whole) in
          let same : piece ≡ q = elim or [
            | inl folder ↦ one_piece piece q rest (drop end name) (piece_ends piece isp) is.2 folder is.3 (piece_some piece isp) q_some cut
            | inr nothing ↦ absurd (file_end k q (drop end name) piece isp (λ f. not_folder name plain (subst IsFolderKey (sym whole) f)) is.3 q_some (sym (append-nil piece) ∙ ap (λ (l : List ℕ). piece ++ l) (sym nothing) ∙ cut))
          ] in
          let there : take end name ≡ k ++ piece = step ∙ ap (λ (l : List ℕ). k ++ l) (sym same) in
          subst (λ (l : List ℕ). CanHang names nodes p l before) there (record {
            place = place;
            absent = step_absent;
            no_file = front_absent none;
            no_folder = none_behind (47 ∷ []);
          })

      pub folder_answer : ((j : ℕ) → 0 < j → IsFound names nodes p (take (end - 1) name) j → ⊥) → refusal_of names name ≡ None
      folder_answer none = not_refused names name relative (exists_none name name_absent) (under_none (λ d rest e isp file j jl ej.
          let k = key_at names nodes p in
          let q = drop n.len (take end name) in
          let both : (d ++ 47 ∷ []) ++ rest ≡ q ++ drop end name = append_cancel_left k ((d ++ 47 ∷ []) ++ rest) (q ++ drop end name) (ap (λ (l : List ℕ). k ++ l) (append_assoc d (47 ∷ []) rest) ∙ sym e ∙ whole) in
          let dp = ends_more d (piece_ends d isp) file in
          let same : d ++ 47 ∷ [] ≡ q = one_piece (d ++ 47 ∷ []) q rest (drop end name) dp is.2 (folder_joined d (47 ∷ []) (λ h. cc) refl) is.3 (nonempty d) q_some both in
          front_absent none (k ++ d) (step ∙ ap (λ (l : List ℕ). k ++ l) (sym same) ∙ sym (append_assoc k d (47 ∷ []))) j jl ej)) (over_none_held name slashed_absent)

    -- ---- the file is the next on the way

    module _ (n : Node) (ne : n ≡ node_at nodes p) (is : IsEnd name n.len None) where
      rest_is : drop n.len name ≡ way.rest
      rest_is = way_rest names nodes (stands are) name p n way ne way.rest way.is

      rest_piece : IsPiece way.rest
      rest_piece =
          let some = (plain_some way.rest (rest_plain way.rest way.is)).0 in
          is_piece way.rest [] some (subst EndsAtSlash rest_is is.0) (ap (λ (l : List ℕ). list_all is_plain_segment (segments_of l)) (append-nil way.rest) ∙ rest_plain way.rest way.is)

      file_name : IsFolderKey name → ⊥
      file_name = not_folder name plain

      pub exists : (j : ℕ) → 0 < j → IsFound names nodes p name j → refusal_of names name ≡ Some Exists
      exists j some found =
          let h = file_held j name some found.within found.is file_name in
          refused_exists names name relative (among names name h.0 h.1 h.2)

      absent : ((j : ℕ) → 0 < j → IsFound names nodes p name j → ⊥) → IsAbsent names nodes name
      absent none = subst (IsAbsent names nodes) (sym way.is) (absent_child names nodes are.tree p way.rest way.within way.folder rest_piece (λ j some found. none j some (subst (λ (l : List ℕ). IsFound names nodes p l j) (sym way.is) found)))

      no_stem : (d rest : List ℕ) → name ≡ key_at names nodes p ++ (d ++ 47 ∷ rest) → IsPiece d → (IsFolderKey d → ⊥) → IsAbsent names nodes (key_at names nodes p ++ d)
      no_stem d rest e isp file = absurd (slash_inside d rest (subst EndsAtSlash (way_rest names nodes (stands are) name p n way ne (d ++ 47 ∷ rest) e) is.0) (λ f. sym (way_rest names nodes (stands are) name p n way ne (d ++ 47 ∷ rest) e) ∙ is.1 (subst IsFolderKey (sym (way_rest names nodes (stands are) name p n way ne (d ++ 47 ∷ rest) e)) f)))

      pub over_folder : ((j : ℕ) → 0 < j → IsFound names nodes p name j → ⊥) → (j : ℕ) → 0 < j → IsFound names nodes p (name ++ 47 ∷ []) j → refusal_of names name ≡ Some OverFolder
      over_folder none j some found = refused_over names name relative (exists_none name (absent none)) (under_none no_stem) (over_held name j some found.within found.is)

      slashed : ((j : ℕ) → 0 < j → IsFound names nodes p (name ++ 47 ∷ []) j → ⊥) → IsAbsent names nodes (name ++ 47 ∷ [])
      slashed none =
          let k = key_at names nodes p in
          let e : name ++ 47 ∷ [] ≡ k ++ (way.rest ++ 47 ∷ []) = ap (λ (l : List ℕ). l ++ 47 ∷ []) way.is ∙ append_assoc k way.rest (47 ∷ []) in
          subst (IsAbsent names nodes) (sym e) (absent_child names nodes are.tree p (way.rest ++ 47 ∷ []) way.within way.folder (slashed_piece way.rest rest_piece rest_file)
          (λ j some found. none j some (subst (λ (l : List ℕ). IsFound names nodes p l j) (sym e) found)))
        where
          rest_file : IsFolderKey way.rest → ⊥
          rest_file f = piece_some way.rest rest_piece (sym rest_is ∙ is.1 (subst IsFolderKey (sym rest_is) f))

      pub file_answer : ((j : ℕ) → 0 < j → IsFound names nodes p name j → ⊥) → ((j : ℕ) → 0 < j → IsFound names nodes p (name ++ 47 ∷ []) j → ⊥) → refusal_of names name ≡ None
      file_answer none clear = not_refused names name relative (exists_none name (absent none)) (under_none no_stem) (over_none_held name (slashed clear))

      pub file_free : (before : ℕ) → ((j : ℕ) → 0 < j → IsFound names nodes p name j → ⊥) → ((j : ℕ) → 0 < j → IsFound names nodes p (name ++ 47 ∷ []) j → ⊥) → IsPlace names nodes p name before → IsFree names nodes name p before
      file_free before none clear place piece rest isp e or =
          let k = key_at names nodes p in
          let r : drop n.len name ≡ piece ++ rest = way_rest names nodes (stands are) name p n way ne (piece ++ rest) (e ∙ append_assoc k piece rest) in
          let nothing : rest ≡ [] = elim or [ inl folder ↦ absurd (slash_end piece rest folder (piece_some piece isp) (subst EndsAtSlash r is.0) (λ f. sym r ∙ is.1 (subst IsFolderKey (sym r) f))) | inr none ↦ none ] in
          let there : name ≡ k ++ piece = e ∙ ap (λ (l : List ℕ). (k ++ piece) ++ l) nothing ∙ append-nil (k ++ piece) in
          subst (λ (l : List ℕ). CanHang names nodes p l before) there (record {
            place = place;
            absent = absent none;
            no_file = λ front f. absurd (file_name (subst IsFolderKey (sym f) (folder_joined front (47 ∷ []) (λ h. cc) refl)));
            no_folder = slashed clear;
          })
