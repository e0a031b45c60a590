-- Why a name is refused, by what the tree holds.
use Rattle.std.specs.Prelude.{nat_le, nat_eq}
use Rattle.std.proofs.Common.{◌≡◌, ◌≢◌, ℕ, zero, suc, ◌<◌, ◌≤◌, Bool, true, false, not, ◌&&◌, ◌||◌, ◌==◌, if◌then◌else◌, List, [], ◌∷◌, ◌++◌, length, get_or, refl, sym, ap, ◌∙◌, arith, Some, None}
use Rattle.std.proofs.lemmas.Bool.Decides.{nat_tests}
use Rattle.std.proofs.lemmas.List.{append-nil}
use Rattle.std.proofs.lemmas.List.Folds.{list_any_at, list_any_none}
use Rattle.std.specs.List.{list_any, list_all}
use Rattle.std.specs.Cmp.Lexicographic.{bytes_decides}
use Rattle.cook_bits.specs.Names.{is_same_name, each_with_first, with_first, is_plain_segment, segments_of, is_relative_name, proper_folders_of, holds_folder_of}
use Rattle.name_tree.specs.Held.{is_among, is_folder_among, refusal_of}
use Rattle.name_tree.specs.Tree.{IsFolderKey}
use Rattle.name_tree.specs.declared.error.NameError.TheVariants.{Bad, Exists, UnderFile, OverFolder}

decided : (b : Bool) → (b ≡ true → ⊥) → b ≡ false
decided true f = absurd (f refl)
decided false f = refl

pub same_name : (a b : List ℕ) → a ≡ b → is_same_name a b ≡ true
same_name a b e = (bytes_decides a b).1 e

pub other_name : (a b : List ℕ) → a ≢ b → is_same_name a b ≡ false
other_name a b ne = decided (is_same_name a b) (λ h. ne ((bytes_decides a b).0 h))

pub among : (names : List (List ℕ)) (name : List ℕ) (m : ℕ) → m < length names → get_or names m [] ≡ name → is_among names name ≡ true
among names name m lt e = list_any_at (is_same_name name) names m [] lt (same_name name (get_or names m []) (sym e))

default_free : (names : List (List ℕ)) (m : ℕ) (d : List ℕ) → m < length names → get_or names m d ≡ get_or names m []
default_free [] m d lt = absurd (omega arith)
default_free (x ∷ names) zero d lt = refl
default_free (x ∷ names) (suc m) d lt = default_free names m d (omega arith)

pub not_among : (names : List (List ℕ)) (name : List ℕ) → ((m : ℕ) → m < length names → get_or names m [] ≢ name) → is_among names name ≡ false
not_among names name none = list_any_none (is_same_name name) names (λ m d lt. other_name name (get_or names m d) (λ e. none m lt (sym (default_free names m d lt) ∙ sym e)))

-- ---- proper folders

any_each : (test : List ℕ → Bool) (byte : ℕ) (names : List (List ℕ)) → list_any test (each_with_first byte names) ≡ list_any (λ name. test (byte ∷ name)) names
any_each test byte [] = refl
any_each test byte (name ∷ names) = ap (λ (b : Bool). test (byte ∷ name) || b) (any_each test byte names)

or_right : (a : Bool) → (a || true) ≡ true
or_right true = refl
or_right false = refl

chosen : (slash : Bool) (test : List ℕ → Bool) (folders : List (List ℕ)) → list_any test folders ≡ true → list_any test (if slash then [] ∷ folders else folders) ≡ true
chosen true test folders e = ap (λ (b : Bool). test [] || b) e ∙ or_right (test [])
chosen false test folders e = e

-- a test that holds of some proper folder
pub some_folder : (test : List ℕ → Bool) (name front rest : List ℕ) → name ≡ (front ++ 47 ∷ []) ++ rest → test front ≡ true → list_any test (proper_folders_of name) ≡ true
unfolding proper_folders_of
some_folder test [] [] rest e good = cc
some_folder test [] (y ∷ front) rest e good = cc
some_folder test (byte ∷ name) [] rest e good =
    let slash : byte ≡ 47 = cc in
    let is : (byte == 47) ≡ true = grind (arith, nat_tests) in
    rw is (ap (λ (b : Bool). b || list_any test (each_with_first byte (proper_folders_of name))) good)
some_folder test (byte ∷ name) (y ∷ front) rest e good =
    let first : byte ≡ y = cc in
    let more : name ≡ (front ++ 47 ∷ []) ++ rest = cc in
    let here : test (byte ∷ front) ≡ true = ap (λ (x : ℕ). test (x ∷ front)) first ∙ good in
    chosen (byte == 47) test (each_with_first byte (proper_folders_of name)) (any_each test byte (proper_folders_of name) ∙ some_folder (λ f. test (byte ∷ f)) name front rest more here)

passed : (slash : Bool) (test : List ℕ → Bool) (folders : List (List ℕ)) → (slash ≡ true → test [] ≡ false) → list_any test folders ≡ false → list_any test (if slash then [] ∷ folders else folders) ≡ false
passed true test folders none e = ap (λ (b : Bool). b || list_any test folders) (none refl) ∙ e
passed false test folders none e = e

-- a test that holds of no proper folder
pub no_folder : (test : List ℕ → Bool) (name : List ℕ) → ((front rest : List ℕ) → name ≡ (front ++ 47 ∷ []) ++ rest → test front ≡ false) → list_any test (proper_folders_of name) ≡ false
unfolding proper_folders_of
no_folder test [] none = refl
no_folder test (byte ∷ name) none =
    passed (byte == 47) test (each_with_first byte (proper_folders_of name))
    (λ h. let slash : byte ≡ 47 = grind (arith, nat_tests) in none [] name (λ i. slash i ∷ name))
    (any_each test byte (proper_folders_of name) ∙ no_folder (λ f. test (byte ∷ f)) name (λ front rest e. none (byte ∷ front) rest (λ i. byte ∷ e i)))

-- ---- names that are held

-- the name has a slash behind the other
pub IsUnder : List ℕ → List ℕ → Type 0
IsUnder folder name = (rest : List ℕ) × (name ≡ (folder ++ 47 ∷ []) ++ rest)

pub holds : (names : List (List ℕ)) (name : List ℕ) (m : ℕ) (rest : List ℕ) → m < length names → name ≡ (get_or names m [] ++ 47 ∷ []) ++ rest → holds_folder_of names name ≡ true
unfolding holds_folder_of
holds names name m rest lt e = some_folder (λ folder. is_among names folder) name (get_or names m []) rest e (among names (get_or names m []) m lt refl)

pub holds_none : (names : List (List ℕ)) (name : List ℕ) → ((m : ℕ) (rest : List ℕ) → m < length names → name ≢ (get_or names m [] ++ 47 ∷ []) ++ rest) → holds_folder_of names name ≡ false
unfolding holds_folder_of
holds_none names name none = no_folder (λ folder. is_among names folder) name (λ front rest e. not_among names front (λ m lt same. none m rest lt (e ∙ ap (λ (f : List ℕ). (f ++ 47 ∷ []) ++ rest) (sym same))))

is_among_by : (folders : List (List ℕ)) (name : List ℕ) → is_among folders name ≡ list_any (is_same_name name) folders
is_among_by folders name = refl

pub over : (names : List (List ℕ)) (name : List ℕ) (m : ℕ) (rest : List ℕ) → m < length names → get_or names m [] ≡ (name ++ 47 ∷ []) ++ rest → is_folder_among names name ≡ true
over names name m rest lt e = list_any_at (λ held. is_among (proper_folders_of held) name) names m [] lt (some_folder (is_same_name name) (get_or names m []) name rest e (same_name name name refl))

pub over_none : (names : List (List ℕ)) (name : List ℕ) → ((m : ℕ) (rest : List ℕ) → m < length names → get_or names m [] ≢ (name ++ 47 ∷ []) ++ rest) → is_folder_among names name ≡ false
over_none names name none = list_any_none (λ held. is_among (proper_folders_of held) name) names
    (λ m d lt. no_folder (is_same_name name) (get_or names m d) (λ front rest e. other_name name front (λ same. none m rest lt (sym (default_free names m d lt) ∙ e ∙ ap (λ (f : List ℕ). (f ++ 47 ∷ []) ++ rest) (sym same)))))

-- ---- the refusal

pub refused_bad : (names : List (List ℕ)) (name : List ℕ) → is_relative_name name ≡ false → refusal_of names name ≡ Some Bad
unfolding refusal_of
refused_bad names name a = rw a refl

pub refused_exists : (names : List (List ℕ)) (name : List ℕ) → is_relative_name name ≡ true → is_among names name ≡ true → refusal_of names name ≡ Some Exists
unfolding refusal_of
refused_exists names name a b = rw (a, b) refl

pub refused_under : (names : List (List ℕ)) (name : List ℕ) → is_relative_name name ≡ true → is_among names name ≡ false → holds_folder_of names name ≡ true → refusal_of names name ≡ Some UnderFile
unfolding refusal_of
refused_under names name a b d = rw (a, b, d) refl

pub refused_over : (names : List (List ℕ)) (name : List ℕ) → is_relative_name name ≡ true → is_among names name ≡ false → holds_folder_of names name ≡ false → is_folder_among names name ≡ true → refusal_of names name ≡ Some OverFolder
unfolding refusal_of
refused_over names name a b d e = rw (a, b, d, e) refl

pub not_refused : (names : List (List ℕ)) (name : List ℕ) → is_relative_name name ≡ true → is_among names name ≡ false → holds_folder_of names name ≡ false → is_folder_among names name ≡ false → refusal_of names name ≡ None
unfolding refusal_of
not_refused names name a b d e = rw (a, b, d, e) refl

-- ---- relative names

abbrev tail_plain : List (List ℕ) → Bool
tail_plain [] = true
tail_plain (s ∷ segments) = list_all is_plain_segment segments

tail_first : (x : ℕ) (segments : List (List ℕ)) → tail_plain (with_first x segments) ≡ tail_plain segments
tail_first x [] = refl
tail_first x (s ∷ segments) = refl

both_right : (a b : Bool) → (a && b) ≡ true → b ≡ true
both_right true b e = e
both_right false b e = cc

all_tail : (segments : List (List ℕ)) → list_all is_plain_segment segments ≡ true → tail_plain segments ≡ true
all_tail [] e = refl
all_tail (s ∷ segments) e = both_right (is_plain_segment s) (list_all is_plain_segment segments) e

plain_tail : (x : ℕ) (front rest : List ℕ) → IsFolderKey (x ∷ front) → tail_plain (segments_of (x ∷ front ++ rest)) ≡ true → list_all is_plain_segment (segments_of rest) ≡ true
unfolding segments_of
plain_tail x [] rest f e = let is : (x == 47) ≡ true = grind (arith, nat_tests) in rw is at e
plain_tail x (y ∷ front) rest f e = plain_tail y front rest f (step (x == 47) (segments_of (y ∷ front ++ rest)) e)
  where
    step : (slash : Bool) (segments : List (List ℕ)) → tail_plain (if slash then [] ∷ segments else with_first x segments) ≡ true → tail_plain segments ≡ true
    step true segments e = all_tail segments e
    step false segments e = sym (tail_first x segments) ∙ e

pub plain_rest : (front rest : List ℕ) → IsFolderKey front → list_all is_plain_segment (segments_of (front ++ rest)) ≡ true → list_all is_plain_segment (segments_of rest) ≡ true
plain_rest [] rest f e = e
plain_rest (x ∷ front) rest f e = plain_tail x front rest f (all_tail (segments_of (x ∷ front ++ rest)) e)

pub plain_some : (rest : List ℕ) → list_all is_plain_segment (segments_of rest) ≡ true → (rest ≢ []) × ((x : ℕ) (more : List ℕ) → rest ≡ x ∷ more → x ≢ 47)
unfolding segments_of
plain_some [] e = cc
plain_some (x ∷ more) e = ((λ h. cc), λ y ys same h. slash_no y ys same h)
  where
    slash_no : (y : ℕ) (ys : List ℕ) → x ∷ more ≡ y ∷ ys → y ≡ 47 → ⊥
    slash_no y ys same h =
        let is : x ≡ 47 = cc in
        let b : (x == 47) ≡ true = grind (arith, nat_tests) in
        let no : list_all is_plain_segment (if x == 47 then [] ∷ segments_of more else with_first x (segments_of more)) ≡ true = e in
        let n2 = rw b at no in cc

pub relative_plain : (name : List ℕ) → is_relative_name name ≡ true → list_all is_plain_segment (segments_of name) ≡ true
unfolding is_relative_name
relative_plain name e = both_right _ (list_all is_plain_segment (segments_of name)) (both_right _ _ e)

pub not_folder : (name : List ℕ) → list_all is_plain_segment (segments_of name) ≡ true → IsFolderKey name → ⊥
not_folder name e f = (plain_some [] (plain_rest name [] f (ap (λ (l : List ℕ). list_all is_plain_segment (segments_of l)) (append-nil name) ∙ e))).0 refl

both_left : (a b : Bool) → (a && b) ≡ true → a ≡ true
both_left true b e = refl
both_left false b e = e

within_from : (m n : ℕ) → nat_le m n ≡ true → m ≤ n
within_from m n e = grind (arith, nat_tests)

pub relative_short : (name : List ℕ) → is_relative_name name ≡ true → length name ≤ 1024
unfolding is_relative_name
relative_short name e = let h : nat_le (length name) 1024 ≡ true = both_left (nat_le (length name) 1024) (not (list_any (nat_eq 0) name) && list_all is_plain_segment (segments_of name)) e in within_from (length name) 1024 h

-- a name that was added is held
pub last_among : (names more : List (List ℕ)) (name : List ℕ) → more ≡ names ++ name ∷ [] → is_among more name ≡ true
last_among [] more name e = ap (λ (l : List (List ℕ)). is_among l name) e ∙ ap (λ (b : Bool). b || false) (same_name name name refl)
last_among (x ∷ names) more name e = ap (λ (l : List (List ℕ)). is_among l name) e ∙ ap (λ (b : Bool). is_same_name name x || b) (last_among names (names ++ name ∷ []) name refl) ∙ or_right (is_same_name name x)
