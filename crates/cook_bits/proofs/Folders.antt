-- Folders of a name that are held, found as a loop over its slashes finds them.
use Rattle.std.proofs.Common.{◌≡◌, ◌≢◌, ℕ, ◌+◌, ◌<◌, ◌≤◌, Bool, true, false, ◌||◌, ◌==◌, if◌then◌else◌, List, [], ◌∷◌, ◌++◌, length, map, get_or, take, drop, Ok, Err, Result, is_ok, refl, sym, ap, ◌∙◌, arith, add-one, drop-cons, append_assoc, inl, inr}
use Rattle.std.proofs.Math.Seq.{take-suc}
use Rattle.std.proofs.Math.ListN.{drop_of_length-le}
use Rattle.std.specs.List.{list_any, All}
use Rattle.std.specs.List.Sorted.{IsSortedByKey, IsSearchInRange, IsBinarySearchResult}
use Rattle.std.specs.Ordering.{nat_cmp, is_eq}
use Rattle.std.specs.Cmp.Lexicographic.{slice_cmp, texts_ties, nat_list_cmp_total, nat_list_eq_equiv}
use Rattle.std.specs.Cmp.{partial_equiv_from_equiv}
use Rattle.std.proofs.lemmas.Bool.Decides.{nat_tests}
use Rattle.std.proofs.lemmas.Bool.{cases_lt}
use Rattle.std.proofs.lemmas.List.{append-nil}
use Rattle.std.proofs.lemmas.List.Folds.{list_any_at, list_any_none}
use Rattle.std.proofs.lemmas.List.Sorted.{searchable_from_sorted}
use Rattle.cook_bits.specs.Names.{is_same_name, each_with_first, proper_folders_of}

-- ---- the search among names in order

module _ {X : Type 0} (name_of : X → List ℕ) (folder : List ℕ) where
  any_mapped : (xs : List X) → list_any (is_same_name folder) (map name_of xs) ≡ list_any (λ x. is_same_name folder (name_of x)) xs
  any_mapped [] = refl
  any_mapped (x ∷ xs) = ap (λ (b : Bool). is_same_name folder (name_of x) || b) (any_mapped xs)

  same_by_order : (x : X) → is_same_name folder (name_of x) ≡ is_eq (slice_cmp nat_cmp (name_of x) folder)
  same_by_order x = (partial_equiv_from_equiv nat_list_eq_equiv).symm folder (name_of x) ∙ texts_ties (name_of x) folder

  found_at : (xs : List X) (i : ℕ) (d : X) → i < length xs → is_eq (slice_cmp nat_cmp (name_of (get_or xs i d)) folder) ≡ true → list_any (is_same_name folder) (map name_of xs) ≡ true
  found_at xs i d lt e = any_mapped xs ∙ list_any_at (λ x. is_same_name folder (name_of x)) xs i d lt (same_by_order (get_or xs i d) ∙ e)

  found_nowhere : (xs : List X) → All (λ x. is_eq (slice_cmp nat_cmp (name_of x) folder) ≡ false) xs → list_any (is_same_name folder) (map name_of xs) ≡ false
  found_nowhere xs none = any_mapped xs ∙ list_any_none (λ x. is_same_name folder (name_of x)) xs (λ k d lt. same_by_order (get_or xs k d) ∙ none k d lt)

  pub is_found : (xs : List X) (r : Result ℕ ℕ) → IsSortedByKey name_of (slice_cmp nat_cmp) xs → IsSearchInRange r (length xs) → IsBinarySearchResult (λ x. slice_cmp nat_cmp (name_of x) folder) xs r → is_ok r ≡ list_any (is_same_name folder) (map name_of xs)
  is_found [] (Ok i) sorted within is = absurd (omega (arith, within))
  is_found (x ∷ xs) (Ok i) sorted within is = sym (found_at (x ∷ xs) i x within (ap is_eq (is x)))
  is_found xs (Err i) sorted within is =
      let parted = is (searchable_from_sorted nat_list_cmp_total name_of xs folder sorted) in
      sym (found_nowhere xs (λ k d lt. elim (cases_lt k i) [
        | inl below ↦ ap is_eq (parted.0 k d (omega arith) below)
        | inr above ↦ ap is_eq (parted.1 k d above lt)
      ]))

-- ---- the folders, from a place of the name on

any_each : (test : List ℕ → Bool) (byte : ℕ) (names : List (List ℕ)) → list_any test (each_with_first byte names) ≡ list_any (λ name. test (byte ∷ name)) names
any_each test byte [] = refl
any_each test byte (name ∷ names) = ap (λ (b : Bool). test (byte ∷ name) || b) (any_each test byte names)

-- the test holds of some proper folder that ends at the place or behind it
pub held_from : (List ℕ → Bool) → ℕ → List ℕ → Bool
held_from test i name = list_any (λ folder. test (take i name ++ folder)) (proper_folders_of (drop i name))

pub held_start : (test : List ℕ → Bool) (name : List ℕ) → held_from test 0 name ≡ list_any test (proper_folders_of name)
unfolding held_from
held_start test name = refl

moved : (test : List ℕ → Bool) (name : List ℕ) (i : ℕ) → i < length name → (folder : List ℕ) → test (take i name ++ get_or name i 0 ∷ folder) ≡ test (take (i + 1) name ++ folder)
moved test name i lt folder = ap test (rw (add-one, take-suc name i 0 lt) (sym (append_assoc (take i name) (get_or name i 0 ∷ []) folder)))

pick : (b x y : Bool) (folders : List (List ℕ)) (byte : ℕ) (test : List ℕ → Bool) → list_any (λ folder. test (byte ∷ folder)) folders ≡ y → test [] ≡ x
    → list_any test (if b then [] ∷ each_with_first byte folders else each_with_first byte folders) ≡ (if b then x || y else y)
pick true x y folders byte test e f = rw (f, any_each test byte folders, e) refl
pick false x y folders byte test e f = any_each test byte folders ∙ e

held_step : (test : List ℕ → Bool) (i : ℕ) (name : List ℕ) → i < length name
    → held_from test i name ≡ (if get_or name i 0 == 47 then test (take i name) || held_from test (i + 1) name else held_from test (i + 1) name)
unfolding held_from proper_folders_of
held_step test i name lt =
    let byte = get_or name i 0 in
    let rest = drop (i + 1) name in
    let here : drop i name ≡ byte ∷ rest = rw add-one (drop-cons name i 0 lt) in
    let same : (λ (folder : List ℕ). test (take i name ++ byte ∷ folder)) ≡ (λ (folder : List ℕ). test (take (i + 1) name ++ folder)) = λ k folder. moved test name i lt folder k in
    rw here (pick (byte == 47) (test (take i name)) (list_any (λ folder. test (take (i + 1) name ++ folder)) (proper_folders_of rest)) (proper_folders_of rest) byte (λ folder. test (take i name ++ folder)) (ap (λ (t : List ℕ → Bool). list_any t (proper_folders_of rest)) same) (ap test (append-nil (take i name))))

pub held_slash : (test : List ℕ → Bool) (i : ℕ) (name : List ℕ) → i < length name → get_or name i 0 ≡ 47 → held_from test i name ≡ (test (take i name) || held_from test (i + 1) name)
held_slash test i name lt e = held_step test i name lt ∙ rw e refl

pub held_other : (test : List ℕ → Bool) (i : ℕ) (name : List ℕ) → i < length name → get_or name i 0 ≢ 47 → held_from test i name ≡ held_from test (i + 1) name
held_other test i name lt ne = let no : (get_or name i 0 == 47) ≡ false = grind (arith, nat_tests) in held_step test i name lt ∙ rw no refl

pub held_end : (test : List ℕ → Bool) (i : ℕ) (name : List ℕ) → length name ≤ i → held_from test i name ≡ false
unfolding held_from proper_folders_of
held_end test i name le = rw (drop_of_length-le name {i = i} le) refl

-- ---- a loop's ends

pub held_here : (test : List ℕ → Bool) (i : ℕ) (name : List ℕ) → i < length name → get_or name i 0 ≡ 47 → test (take i name) ≡ true → true ≡ held_from test i name
held_here test i name lt e held = sym (held_slash test i name lt e ∙ ap (λ (b : Bool). b || held_from test (i + 1) name) held)

pub held_later : (test : List ℕ → Bool) (i : ℕ) (name : List ℕ) → i < length name → get_or name i 0 ≡ 47 → test (take i name) ≡ false → held_from test i name ≡ held_from test (i + 1) name
held_later test i name lt e free = held_slash test i name lt e ∙ ap (λ (b : Bool). b || held_from test (i + 1) name) free
