-- Names relative to a root, and the files under it as a list grows.
use Rattle.std.proofs.Common.{◌≡◌, ◌≢◌, ℕ, ◌+◌, ◌<◌, Bool, true, false, List, [], ◌∷◌, ◌++◌, length, take, map, get_or, Option, Some, None, refl, sym, ap, subst, ◌∙◌, arith, eqb, if◌then◌else◌, append-nil, add-one}
use Rattle.std.specs.Option.{MatchOption, option_copied, option_and_then, option_to_list}
use Rattle.std.specs.Str.Pattern.{FindsTextPrefix, StripsPrefix}
use denote.Ref.{Bor}
use Rattle.std.proofs.lemmas.Bool.Decides.{nat_tests}
use Rattle.std.proofs.lemmas.List.{map-append}
use Rattle.std.proofs.lemmas.List.Elements.{filter_map-append}
use Rattle.std.specs.List.{filter_map, cons_option}
use Rattle.std.proofs.Math.Seq.{take-suc, take-length}
use Rattle.cook_bits.specs.Names.{File, rest_behind, files_under, relative_to, renamed, non_empty}
use Rattle.shelf_core.specs.Listing.{plain_entry, plain_entries}

-- what stands behind a front that is there
pub rest_behind-there : (front rest : List ℕ) → rest_behind front (front ++ rest) ≡ Some rest
unfolding rest_behind
rest_behind-there [] rest = refl
rest_behind-there (a ∷ front) rest = grind (arith, nat_tests, rest_behind-there front rest)

-- nothing stands behind a front that is not there
rest_behind-lacks : (front name : List ℕ) → ((rest : List ℕ) → name ≢ front ++ rest) → rest_behind front name ≡ None
unfolding rest_behind
rest_behind-lacks [] name lacks = absurd (lacks name refl)
rest_behind-lacks (a ∷ front) [] lacks = refl
rest_behind-lacks (a ∷ front) (b ∷ name) lacks =
    let rest_lacks : a ≡ b → rest_behind front name ≡ None = λ same. rest_behind-lacks front name (λ rest is. lacks rest (cc)) in
    grind (arith, nat_tests, rest_lacks)

-- what `strip_prefix` answers is what stands behind the front
pub stripped : (front name : List ℕ) (r : Option (Bor (List ℕ))) → MatchOption r (FindsTextPrefix front name None) (λ x. StripsPrefix (FindsTextPrefix front) name x.now) → option_copied r ≡ rest_behind front name
stripped front name None lacks = sym (rest_behind-lacks front name lacks)
stripped front name (Some x) strips =
    let found = strips.1 in
    let is : name ≡ front ++ x.now = found.1 ∙ ap (λ (back : List ℕ). front ++ back) (sym strips.2)
    in subst (λ whole. Some x.now ≡ rest_behind front whole) (sym is) (sym (rest_behind-there front x.now))

-- a front in two parts
rest_behind-append : (front back name : List ℕ) → rest_behind (front ++ back) name ≡ option_and_then (rest_behind back) (rest_behind front name)
unfolding rest_behind
rest_behind-append [] back name = refl
rest_behind-append (a ∷ front) back [] = refl
rest_behind-append (a ∷ front) back (b ∷ name) = elim (eqb a b) as (λ (same : Bool). (if same then rest_behind (front ++ back) name else None) ≡ option_and_then (rest_behind back) (if same then rest_behind front name else None)) [
  | true ↦ rest_behind-append front back name
  | false ↦ refl
]

-- the name relative to a root, in two steps
pub under_root : (root name path : List ℕ) → Some path ≡ rest_behind root name → relative_to root name ≡ non_empty (rest_behind (47 ∷ []) path)
under_root root name path is = ap non_empty (rest_behind-append root (47 ∷ []) name ∙ ap (option_and_then (rest_behind (47 ∷ []))) (sym is))

pub not_under : (root name : List ℕ) → None ≡ rest_behind root name → relative_to root name ≡ None
not_under root name is = ap non_empty (rest_behind-append root (47 ∷ []) name ∙ ap (option_and_then (rest_behind (47 ∷ []))) (sym is))

filter_map-one : {X Y : Type 0} (f : X → Option Y) (x : X) → filter_map f (x ∷ []) ≡ option_to_list (f x)
filter_map-one {X} {Y} f x = elim (f x) as (λ (o : Option Y). cons_option o [] ≡ option_to_list o) [ None ↦ refl | Some y ↦ refl ]

-- a file more is listed by its relative name, where it has one
more_listed : (root : List ℕ) (files : List File) (i : ℕ) (d : File) → i < length files → plain_entries (files_under root (take (i + 1) files)) ≡ plain_entries (files_under root (take i files)) ++ map plain_entry (option_to_list (renamed (relative_to root (get_or files i d).0) (get_or files i d).1))
unfolding files_under
more_listed root files i d lt =
    let relative : File → Option File = λ file. renamed (relative_to root file.0) file.1 in
    ap (λ (some : List File). map plain_entry (filter_map relative some)) (rw add-one (take-suc files i d lt))
    ∙ ap (map plain_entry) (filter_map-append relative (take i files) (get_or files i d ∷ []))
    ∙ map-append plain_entry (filter_map relative (take i files)) (filter_map relative (get_or files i d ∷ []))
    ∙ ap (λ (last : List File). map plain_entry (filter_map relative (take i files)) ++ map plain_entry last) (filter_map-one relative (get_or files i d))

pub listed_more : (root : List ℕ) (files : List File) (i : ℕ) (d : File) (name : List ℕ) → i < length files → Some name ≡ relative_to root (get_or files i d).0 → plain_entries (files_under root (take (i + 1) files)) ≡ plain_entries (files_under root (take i files)) ++ plain_entry (name, (get_or files i d).1) ∷ []
listed_more root files i d name lt is = more_listed root files i d lt ∙ ap (λ (o : Option (List ℕ)). plain_entries (files_under root (take i files)) ++ map plain_entry (option_to_list (renamed o (get_or files i d).1))) (sym is)

pub listed_same : (root : List ℕ) (files : List File) (i : ℕ) (d : File) → i < length files → None ≡ relative_to root (get_or files i d).0 → plain_entries (files_under root (take (i + 1) files)) ≡ plain_entries (files_under root (take i files))
listed_same root files i d lt is = more_listed root files i d lt ∙ ap (λ (o : Option (List ℕ)). plain_entries (files_under root (take i files)) ++ map plain_entry (option_to_list (renamed o (get_or files i d).1))) (sym is) ∙ append-nil _

pub listed_none : (root : List ℕ) → plain_entries (files_under root []) ≡ []
unfolding files_under
listed_none root = refl

pub listed_all : (root : List ℕ) (files : List File) → plain_entries (files_under root (take (length files) files)) ≡ plain_entries (files_under root files)
listed_all root files = ap (λ (all : List File). plain_entries (files_under root all)) (take-length files)

pub ruleset relative_laws = (under_root, not_under)

pub ruleset listing_laws = (listed_none, listed_more, listed_same, listed_all)
