-- Names of which none is refused are relative, ascend, and none is a folder of another.
use Rattle.std.proofs.Common.{◌≡◌, ℕ, zero, suc, ◌+◌, ◌<◌, ◌≤◌, Bool, true, false, ◌&&◌, not, ◌==◌, if◌then◌else◌, List, [], ◌∷◌, ◌++◌, length, get_or, take, drop, All, Option, Some, None, refl, sym, ap, subst, ◌∙◌, inl, inr, arith}
use Rattle.std.specs.List.{list_any, AllByRecursion}
use Rattle.std.specs.List.Sorted.{IsSortedByKey}
use Rattle.std.specs.Ordering.{nat_cmp, is_lt, ordering_then}
use Rattle.std.specs.declared.cmp.Ordering.{Ordering}
use Rattle.std.specs.declared.cmp.Ordering.TheVariants.{Less, Equal, Greater}
use Rattle.std.specs.Cmp.Lexicographic.{slice_cmp, bytes_decides, nat_list_cmp_total}
use Rattle.std.proofs.lemmas.Bool.{cases_lt, false_from_ne_true, or_parts}
use Rattle.std.proofs.lemmas.Bool.Decides.{nat_tests}
use Rattle.std.proofs.lemmas.List.{take-append-drop, take_all, length-drop, get_or-drop, get_or_default, get_or-map}
use Rattle.std.proofs.lemmas.List.Folds.{list_any-append, list_any_none}
use Rattle.std.proofs.lemmas.List.Sorted.{sorted_far, ranks_by}
use Rattle.cook_bits.specs.Names.{is_relative_name, is_same_name, holds_folder_of, proper_folders_of, each_with_first}
use Rattle.reversal.specs.declared.record.Kind.TheVariants.{Other}
use Rattle.reversal.specs.declared.record.FileRecord.{FileRecord}
use Rattle.reversal.specs.SideData.{names_of, AreNames}
use Rattle.reversal.specs.SideReading.{is_above_last, is_good_name, first_bad_name}
use Rattle.reversal.specs.Lengths.{names_long}
use Rattle.reversal.proofs.NameFaults.{bad_from, bad_start, bad_step, bad_end, map_append, sorted_none, sorted_more, above_before, both_false}

-- ---- none is refused from any place on

picked : (good : Bool) (later : Option (List ℕ)) (name : List ℕ) → (if good then later else Some name) ≡ None → (good ≡ true) × (later ≡ None)
picked true later name e = (refl, e)
picked false later name e = absurd cc

-- the record at a place, as one that reads there
at_itself : (records : List FileRecord) (at : ℕ) (d : FileRecord) → at < length records → get_or records at d ≡ get_or records at (get_or records at d)
at_itself records at d lt = get_or_default records at d (get_or records at d) lt

step_of : (records : List FileRecord) (at : ℕ) (d : FileRecord) → at < length records → bad_from records at ≡ None → (is_good_name (names_of (take at records)) (get_or records at d).name ≡ true) × (bad_from records (at + 1) ≡ None)
step_of records at d lt none = picked _ _ _ (sym (bad_step records at (get_or records at d) lt (at_itself records at d lt)) ∙ none)

none_from : (records : List FileRecord) (at : ℕ) (d : FileRecord) → first_bad_name (names_of records) ≡ None → bad_from records at ≡ None
none_from records zero d none = bad_start records ∙ none
none_from records (suc at) d none =
    elim (cases_lt at (length records)) [
      | inl lt ↦ let next : at + 1 ≡ suc at = omega arith in subst (λ (n : ℕ). bad_from records n ≡ None) next (step_of records at d lt (none_from records at d none)).1
      | inr le ↦ bad_end records (suc at) (omega arith)
    ]

module _ (records : List FileRecord) (none : first_bad_name (names_of records) ≡ None) where
  good_at : (at : ℕ) (d : FileRecord) → at < length records → is_good_name (names_of (take at records)) (get_or records at d).name ≡ true
  good_at at d lt = (step_of records at d lt (none_from records at d none)).0

  sorted_to : (at : ℕ) (d : FileRecord) → at ≤ length records → IsSortedByKey (λ r. r.name) (slice_cmp nat_cmp) (take at records)
  sorted_to zero d le = sorted_none records
  sorted_to (suc at) d le =
      let lt : at < length records = omega arith in
      let next : at + 1 ≡ suc at = omega arith in
      subst (λ (n : ℕ). IsSortedByKey (λ r. r.name) (slice_cmp nat_cmp) (take n records)) next (sorted_more records at (get_or records at d) lt (at_itself records at d lt) (good_at at d lt) (sorted_to at d (omega arith)))

  sorted_all : (d : FileRecord) → IsSortedByKey (λ r. r.name) (slice_cmp nat_cmp) records
  sorted_all d = subst (λ (rs : List FileRecord). IsSortedByKey (λ r. r.name) (slice_cmp nat_cmp) rs) (take_all (length records) records (omega arith)) (sorted_to (length records) d (omega arith))

-- ---- a folder of a name is below it

folders_with : (byte : ℕ) (rest : List ℕ) (folders : List (List ℕ)) → AllByRecursion (λ folder. slice_cmp nat_cmp folder rest ≡ Less) folders → AllByRecursion (λ folder. slice_cmp nat_cmp folder (byte ∷ rest) ≡ Less) (each_with_first byte folders)
folders_with byte rest [] below = tt
folders_with byte rest (folder ∷ folders) below =
    let same : nat_cmp byte byte ≡ Equal = grind (arith, nat_tests) in
    (ap (λ (o : Ordering). ordering_then o (slice_cmp nat_cmp folder rest)) same ∙ below.0, folders_with byte rest folders below.1)

folders_if : (P : List ℕ → Type 0) (slash : Bool) (folders : List (List ℕ)) → P [] → AllByRecursion P folders → AllByRecursion P (if slash then [] ∷ folders else folders)
folders_if P true folders p all = (p, all)
folders_if P false folders p all = all

folders_below : (name : List ℕ) → AllByRecursion (λ folder. slice_cmp nat_cmp folder name ≡ Less) (proper_folders_of name)
unfolding proper_folders_of
folders_below [] = tt
folders_below (byte ∷ rest) = folders_if (λ folder. slice_cmp nat_cmp folder (byte ∷ rest) ≡ Less) (byte == 47) (each_with_first byte (proper_folders_of rest)) refl (folders_with byte rest (proper_folders_of rest) (folders_below rest))

-- ---- so none of the names from a place on is a folder of the name there

none_same : (name folder : List ℕ) (others : List (List ℕ)) → All (λ other. is_lt (slice_cmp nat_cmp other name) ≡ false) others → slice_cmp nat_cmp folder name ≡ Less → list_any (is_same_name folder) others ≡ false
none_same name folder others above below = list_any_none (is_same_name folder) others (λ k d lt. false_from_ne_true _ (λ e.
    let same : folder ≡ get_or others k d = (bytes_decides folder (get_or others k d)).0 e in
    let here : is_lt (slice_cmp nat_cmp (get_or others k d) name) ≡ true = subst (λ (x : List ℕ). is_lt (slice_cmp nat_cmp x name) ≡ true) same (ap is_lt below) in
    let never : true ≡ false = sym here ∙ above k d lt in
    absurd (cc)))

joined : (name : List ℕ) (before others : List (List ℕ)) (folders : List (List ℕ)) → AllByRecursion (λ folder. slice_cmp nat_cmp folder name ≡ Less) folders → All (λ other. is_lt (slice_cmp nat_cmp other name) ≡ false) others
    → list_any (λ folder. list_any (is_same_name folder) before) folders ≡ false → list_any (λ folder. list_any (is_same_name folder) (before ++ others)) folders ≡ false
joined name before others [] below above free = refl
joined name before others (folder ∷ folders) below above free =
    let parts = or_parts (list_any (is_same_name folder) before) (list_any (λ f. list_any (is_same_name f) before) folders) free in
    both_false _ _ (list_any-append (is_same_name folder) before others ∙ both_false _ _ parts.0 (none_same name folder others above below.0)) (joined name before others folders below.1 above parts.1)

still_free : (before others : List (List ℕ)) (name : List ℕ) → All (λ other. is_lt (slice_cmp nat_cmp other name) ≡ false) others → holds_folder_of before name ≡ false → holds_folder_of (before ++ others) name ≡ false
unfolding holds_folder_of
still_free before others name above free = joined name before others (proper_folders_of name) (folders_below name) above free

-- ---- what is said of each name

parts_of : (a b c : Bool) → (a && (b && not c)) ≡ true → record { first : a ≡ true; second : b ≡ true; third : c ≡ false }
parts_of true true false e = record { first = refl; second = refl; third = refl }
parts_of true true true e = absurd (cc)
parts_of true false c e = absurd (cc)
parts_of false b c e = absurd (cc)

is_less : (o : Ordering) → is_lt o ≡ true → o ≡ Less
is_less Less e = refl
is_less Equal e = absurd (cc)
is_less Greater e = absurd (cc)

module _ (records : List FileRecord) (none : first_bad_name (names_of records) ≡ None) where
  good_parts : (at : ℕ) (d : FileRecord) → at < length records → record { first : is_relative_name (get_or records at d).name ≡ true; second : is_above_last (names_of (take at records)) (get_or records at d).name ≡ true; third : holds_folder_of (names_of (take at records)) (get_or records at d).name ≡ false }
  good_parts at d lt = parts_of _ _ _ (good_at records none at d lt)

  others_above : (at : ℕ) (d : FileRecord) → at < length records → All (λ other. is_lt (slice_cmp nat_cmp other (get_or records at d).name) ≡ false) (names_of (drop at records))
  others_above at d lt k e within =
      let short : k < length (drop at records) = omega (arith, names_long (drop at records)) in
      let far = sorted_far _ (ranks_by nat_list_cmp_total (λ r. r.name)) records (sorted_all records none d) at (at + k) d (omega arith) (omega (arith, length-drop at records)) in
      let there : get_or (names_of (drop at records)) k e ≡ (get_or records (at + k) d).name = get_or-map (λ r. r.name) (drop at records) k d e short ∙ ap (λ (r : FileRecord). r.name) (get_or-drop at records k d) in
      rw there far

  apart_at : (at : ℕ) (d : FileRecord) → at < length records → holds_folder_of (names_of records) (get_or records at d).name ≡ false
  apart_at at d lt =
      let parts : names_of (take at records) ++ names_of (drop at records) ≡ names_of records = sym (map_append (take at records) (drop at records)) ∙ ap names_of (take-append-drop at records) in
      subst (λ (names : List (List ℕ)). holds_folder_of names (get_or records at d).name ≡ false) parts (still_free (names_of (take at records)) (names_of (drop at records)) (get_or records at d).name (others_above at d lt) (good_parts at d lt).third)

  rising_at : (k : ℕ) (d : FileRecord) → k + 1 < length records → slice_cmp nat_cmp (get_or records k d).name (get_or records (k + 1) d).name ≡ Less
  rising_at k d lt = is_less _ (above_before records k (get_or records (k + 1) d) d lt (good_parts (k + 1) d lt).second)

nobody : FileRecord
nobody = record { name = []; kind = Other; length = 0; md5 = []; head = []; pads = []; tail = [] }

name_there : (records : List FileRecord) (k : ℕ) (e : List ℕ) → k < length records → get_or (names_of records) k e ≡ (get_or records k nobody).name
name_there records k e lt = get_or-map (λ r. r.name) records k nobody e lt

pub are_named : (records : List FileRecord) → first_bad_name (names_of records) ≡ None → AreNames (names_of records)
are_named records none = record {
  relative = λ k e lt.
      let there : k < length records = omega (arith, names_long records) in
      subst (λ (x : List ℕ). is_relative_name x ≡ true) (sym (name_there records k e there)) (good_parts records none k nobody there).first;
  ascending = λ k e lt.
      let there : k + 1 < length records = omega (arith, names_long records) in
      rw (name_there records k e (omega arith), name_there records (k + 1) e there) (rising_at records none k nobody there);
  apart = λ k e lt.
      let there : k < length records = omega (arith, names_long records) in
      subst (λ (x : List ℕ). holds_folder_of (names_of records) x ≡ false) (sym (name_there records k e there)) (apart_at records none k nobody there);
}
