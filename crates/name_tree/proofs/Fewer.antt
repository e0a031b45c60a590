-- A folder that is given leaves fewer of the name.
use Rattle.std.proofs.Common.{◌≡◌, ℕ, ◌+◌, ◌<◌, ◌≤◌, Bool, true, false, cond, not, ◌||◌, if◌then◌else◌, List, [], ◌∷◌, length, Option, Some, None, refl, sym, ap, subst, ◌∙◌, arith}
use Rattle.std.specs.Prelude.{IfSome}
use Rattle.std.specs.List.{count_by}
use Rattle.std.specs.Option.{option_map}
use Rattle.std.proofs.lemmas.List.Sums.{sum_by-cons}
use Rattle.cook_bits.specs.Names.{is_same_name, proper_folders_of}
use Rattle.name_tree.specs.Held.{is_among, first_left, folder_left, left_count, WithFolder}
use Rattle.name_tree.proofs.Refusals.{same_name}

abbrev left : List (List ℕ) → List (List ℕ) → ℕ
left given folders = count_by (λ folder. not (is_among given folder)) folders

abbrev one : Bool → ℕ
one given = cond (not given) 1 0

no_more : (given after : Bool) (same : Bool) → after ≡ (same || given) → one after ≤ one given
no_more true after true e = rw e (omega arith)
no_more true after false e = rw e (omega arith)
no_more false after true e = rw e (omega arith)
no_more false after false e = rw e (omega arith)

step : (given : List (List ℕ)) (first : List ℕ) (folders : List (List ℕ)) → left given (first ∷ folders) ≡ one (is_among given first) + left given folders
step given first folders = sum_by-cons (λ folder. one (is_among given folder)) first folders

module _ (given after : List (List ℕ)) (folder : List ℕ) (with : WithFolder given after (Some folder)) where
  kept : (folders : List (List ℕ)) → left after folders ≤ left given folders
  kept [] = omega arith
  kept (first ∷ folders) =
      let here = no_more (is_among given first) (is_among after first) (is_same_name first folder) (with first) in
      let behind = kept folders in
      omega (arith, step given first folders, step after first folders)

  given_now : (first : List ℕ) → first ≡ folder → is_among after first ≡ true
  given_now first e = with first ∙ ap (λ (b : Bool). b || is_among given first) (same_name first folder e)

  at_first : (first : List ℕ) (folders : List (List ℕ)) (held : Bool) → is_among given first ≡ held → (first_left given folders ≡ Some folder → left after folders < left given folders)
      → (if held then first_left given folders else Some first) ≡ Some folder → left after (first ∷ folders) < left given (first ∷ folders)
  at_first first folders true is behind e =
      let here = no_more (is_among given first) (is_among after first) (is_same_name first folder) (with first) in
      let rest = behind e in
      omega (arith, step given first folders, step after first folders)
  at_first first folders false is behind e =
      let same : first ≡ folder = cc in
      let now : one (is_among after first) ≡ 0 = ap one (given_now first same) in
      let was : one (is_among given first) ≡ 1 = ap one is in
      let rest = kept folders in
      omega (arith, step given first folders, step after first folders)

  fewer : (folders : List (List ℕ)) → first_left given folders ≡ Some folder → left after folders < left given folders
  fewer [] e = absurd (cc)
  fewer (first ∷ folders) e = at_first first folders (is_among given first) refl (fewer folders) e

fewer_if : (given after : List (List ℕ)) (name : List ℕ) (found : Option (List ℕ)) → folder_left given name ≡ found → WithFolder given after found → IfSome (option_map length found) (λ _. left_count after name < left_count given name)
unfolding folder_left left_count
fewer_if given after name None e with = tt
fewer_if given after name (Some folder) e with = fewer given after folder with (proper_folders_of name) e

pub fewer_left : (given after : List (List ℕ)) (name : List ℕ) (len : Option ℕ) → len ≡ option_map length (folder_left given name) → WithFolder given after (folder_left given name) → IfSome len (λ _. left_count after name < left_count given name)
fewer_left given after name len e with = subst (λ (o : Option ℕ). IfSome o (λ _. left_count after name < left_count given name)) (sym e) (fewer_if given after name (folder_left given name) refl with)
