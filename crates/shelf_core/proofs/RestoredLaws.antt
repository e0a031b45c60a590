-- Files that are added one after another under a root that had none.
use Rattle.std.proofs.Common.{◌≡◌, ℕ, zero, suc, ◌+◌, ◌-◌, ◌<◌, List, [], ◌∷◌, ◌++◌, length, map, take, get_or, All, refl, sym, ap, ◌∙◌, subst, arith, add-one, length-take}
use Rattle.std.specs.List.{AllAdjacentBelow}
use Rattle.std.specs.Ordering.{nat_cmp}
use Rattle.std.specs.declared.cmp.Ordering.TheVariants.{Less, Equal}
use Rattle.std.specs.Cmp.{tied_itself}
use Rattle.std.specs.Cmp.Lexicographic.{slice_cmp, nat_list_cmp_total}
use Rattle.std.proofs.Math.Seq.{take-suc, take-length}
use Rattle.std.proofs.Math.ListN.{get_or-map}
use Rattle.std.proofs.lemmas.List.{get_or-take, length-map}
use Rattle.cook_bits.specs.Names.{File, IsRelativeName, full_name}
use Rattle.shelf_core.specs.Told.{Told, IsTold, HasFile, IsFree, no_file, under, with_file, with_files}
use Rattle.shelf_core.specs.FileLaws.{IsTold-stays, IsApart-different, IsFree-with_file, IsFree-not_there}
use Rattle.shelf_core.proofs.UnderLaws.{IsFree-empty_relative}

-- ---- one file after another

-- a file more at the end
pub with_files-push : (told : Told) (root : List ℕ) (files : List File) (file : File) → with_files told root (files ++ file ∷ []) ≡ with_file (with_files told root files) (full_name root file.0) file.1
unfolding with_files
with_files-push told root [] file = refl
with_files-push told root (other ∷ files) file = with_files-push (with_file told (full_name root other.0) other.1) root files file

pub with_files-one_more : (told : Told) (root : List ℕ) (files : List File) (k : ℕ) → k < length files
    → with_files told root (take (k + 1) files) ≡ with_file (with_files told root (take k files)) (full_name root (get_or files k no_file).0) (get_or files k no_file).1
with_files-one_more told root files k inside = ap (with_files told root) (rw add-one (take-suc files k no_file inside)) ∙ with_files-push told root (take k files) (get_or files k no_file)

pub with_files-none : (told : Told) (root : List ℕ) (files : List File) → with_files told root (take 0 files) ≡ told
unfolding with_files
with_files-none told root files = refl

pub with_files-all : (told : Told) (root : List ℕ) (files : List File) → with_files told root (take (length files) files) ≡ with_files told root files
with_files-all told root files = ap (with_files told root) (take-length files)

pub IsTold-with_files_stays : (told : Told) (root : List ℕ) (files : List File) → IsTold told → IsTold (with_files told root files)
unfolding with_files
IsTold-with_files_stays told root [] known = known
IsTold-with_files_stays told root (file ∷ files) known = IsTold-with_files_stays (with_file told (full_name root file.0) file.1) root files (IsTold-stays told _ _ known)

-- ---- names that rise

abbrev pub IsBelow : List ℕ → List ℕ → Type 0
IsBelow name next = slice_cmp nat_cmp name next ≡ Less

-- the names of files, in their order
abbrev pub names_in : List File → List (List ℕ)
names_in files = map (λ (file : File). file.0) files

name-in : (files : List File) (k : ℕ) → get_or (names_in files) k [] ≡ (get_or files k no_file).0
name-in files k = get_or-map (λ (file : File). file.0) files k no_file

-- names each above the one before are each above all before
names-below : (names : List (List ℕ)) (d : List ℕ) (i n : ℕ) → AllAdjacentBelow IsBelow names (length names) → i + suc n < length names → IsBelow (get_or names i d) (get_or names (i + suc n) d)
names-below names d i zero up inside = up i d (omega arith)
names-below names d i (suc n) up inside =
    let last : i + suc n + 1 ≡ i + suc (suc n) = omega arith in
    nat_list_cmp_total.trans (get_or names i d) (get_or names (i + suc n) d) (get_or names (i + suc (suc n)) d) (names-below names d i n up (omega arith)) (subst (λ m. IsBelow (get_or names (i + suc n) d) (get_or names m d)) last (up (i + suc n) d (omega arith)))

below-different : (name next : List ℕ) → IsBelow name next → name ≡ next → ⊥
below-different name next below same =
    let tied : slice_cmp nat_cmp name name ≡ Equal = tied_itself nat_list_cmp_total name in
    let less : slice_cmp nat_cmp name name ≡ Less = subst (λ (other : List ℕ). IsBelow name other) (sym same) below in
    cc

-- so no name comes twice
names-different : (files : List File) (i k : ℕ) → AllAdjacentBelow IsBelow (names_in files) (length (names_in files)) → i < k → k < length files → (get_or files i no_file).0 ≡ (get_or files k no_file).0 → ⊥
names-different files i k up before inside same =
    let gap : i + suc (k - suc i) ≡ k = omega arith in
    let below : IsBelow (get_or (names_in files) i []) (get_or (names_in files) (i + suc (k - suc i)) []) = names-below (names_in files) [] i (k - suc i) up (omega (arith, length-map files (λ (file : File). file.0))) in
    below-different (get_or (names_in files) i []) (get_or (names_in files) (i + suc (k - suc i)) []) below (name-in files i ∙ same ∙ sym (name-in files k) ∙ ap (λ m. get_or (names_in files) m []) (sym gap))

same_behind : (root a b : List ℕ) → full_name root a ≡ full_name root b → a ≡ b
same_behind [] a b same = cc
same_behind (byte ∷ root) a b same = same_behind root a b (cc)

-- ---- each name is free until its file is added

IsFree-apart_files : (told : Told) (root name : List ℕ) (files : List File) → IsFree told name → ((i : ℕ) → i < length files → name ≡ full_name root (get_or files i no_file).0 → ⊥) → IsFree (with_files told root files) name
unfolding with_files
IsFree-apart_files told root name [] free apart = free
IsFree-apart_files told root name (file ∷ files) free apart =
    IsFree-apart_files (with_file told (full_name root file.0) file.1) root name files
    (IsFree-with_file told (full_name root file.0) file.1 name free (IsApart-different told name (full_name root file.0) (apart 0 (omega arith))))
    (λ i inside. apart (suc i) (omega arith))

name_relative : (files : List File) (k : ℕ) → All IsRelativeName (names_in files) → k < length files → IsRelativeName (get_or files k no_file).0
name_relative files k relative inside = subst IsRelativeName (name-in files k) (relative k [] (omega (arith, length-map files (λ (file : File). file.0))))

pub IsFree-with_files : (told : Told) (root : List ℕ) (files : List File) (k : ℕ) → under told root ≡ [] → All IsRelativeName (names_in files) → AllAdjacentBelow IsBelow (names_in files) (length (names_in files)) → k < length files
    → IsFree (with_files told root (take k files)) (full_name root (get_or files k no_file).0)
IsFree-with_files told root files k none relative up inside =
    IsFree-apart_files told root (full_name root (get_or files k no_file).0) (take k files) (IsFree-empty_relative told root _ none (name_relative files k relative inside))
    (λ i within same. let before : i < k = omega (arith, length-take k files) in
    names-different files i k up before inside (ap (λ (file : File). file.0) (sym (get_or-take k files i no_file before)) ∙ sym (same_behind root _ _ same)))

-- so it is not there
pub not_there-with_files : (told : Told) (root : List ℕ) (files : List File) (k : ℕ) → under told root ≡ [] → All IsRelativeName (names_in files) → AllAdjacentBelow IsBelow (names_in files) (length (names_in files)) → k < length files
    → HasFile (with_files told root (take k files)) (full_name root (get_or files k no_file).0) → IsTold told → ⊥
not_there-with_files told root files k none relative up inside there known =
    IsFree-not_there _ _ (IsTold-with_files_stays told root (take k files) known) (IsFree-with_files told root files k none relative up inside) there
