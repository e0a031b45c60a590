-- Laws of what a shelf tells, for the crates above: files that grow, names apart, and pieces one after another.
use Rattle.std.proofs.Common.{◌≡◌, ℕ, ◌+◌, Bool, true, false, not, cond, List, [], ◌∷◌, ◌++◌, length, take, Option, Some, None, IsSome, Contains, refl, sym, ap, ◌∙◌, subst, arith, append_assoc, append-nil, length-append}
use Rattle.std.specs.Option.{option_map, unwrap_or}
use Rattle.std.specs.Ordering.{nat_cmp, eq_by_cmp}
use Rattle.std.specs.Cmp.{Equal-is}
use Rattle.std.specs.Cmp.Lexicographic.{slice_cmp, nat_list_cmp_total}
use Rattle.std.specs.FinMap.{get, insert, get-insert, same_map, nat_cmp-IsAntisymmetric, slice_cmp-IsAntisymmetric}
use Rattle.std.proofs.lemmas.Cmp.{eq_by_cmp_equiv}
use Rattle.std.proofs.lemmas.List.{take-append-le}
use Rattle.std.proofs.Math.Seq.{take-append-add}
use Rattle.std.proofs.lemmas.List.Elements.{filter-append, Contains-push, Contains-append_right}
use Rattle.std.specs.List.{filter}
use Rattle.cook_bits.specs.Names.{is_same_name}
use Rattle.std.specs.Cmp.Lexicographic.{texts_ties}
use Rattle.shelf_core.specs.Told.{Files, Told, IsTold, HasFile, IsFree, IsApart, content, length_of, with_file, grown, GrewPartly, Unsealed, IsUnsealedIn, IsNotUnsealed, with_unsealed, without_unsealed}

-- ---- names as keys

same_key : List ℕ → List ℕ → Bool
same_key = eq_by_cmp (slice_cmp nat_cmp)

same_key-itself : (x : List ℕ) → same_key x x ≡ true
unfolding same_key
same_key-itself x = (eq_by_cmp_equiv nat_list_cmp_total).refl x

same_key-means : (x y : List ℕ) → same_key x y ≡ true → x ≡ y
unfolding same_key
same_key-means x y e = slice_cmp-IsAntisymmetric nat_cmp-IsAntisymmetric x y ((Equal-is (slice_cmp nat_cmp x y)).0 e)

same_key-apart : (x y : List ℕ) → (x ≡ y → ⊥) → same_key x y ≡ false
same_key-apart x y apart = by_cases (same_key x y) refl
  where
    by_cases : (b : Bool) → same_key x y ≡ b → same_key x y ≡ false
    by_cases true e = absurd (apart (same_key-means x y e))
    by_cases false e = e

get-insert_files : (files : Files) (name bytes other : List ℕ) → get (insert files name bytes) other ≡ cond (same_key other name) (Some bytes) (get files other)
unfolding same_key
get-insert_files files name bytes other = get-insert nat_list_cmp_total files name bytes other

get-insert_same : (files : Files) (name bytes : List ℕ) → get (insert files name bytes) name ≡ Some bytes
get-insert_same files name bytes = rw (get-insert_files, same_key-itself) refl

get-insert_apart : (files : Files) (name bytes other : List ℕ) → (other ≡ name → ⊥) → get (insert files name bytes) other ≡ get files other
get-insert_apart files name bytes other apart = rw (get-insert_files, same_key-apart other name apart) refl

insert-insert : (files : Files) (name a b : List ℕ) → insert (insert files name a) name b ≡ insert files name b
insert-insert files name a b = same_map nat_list_cmp_total (slice_cmp-IsAntisymmetric nat_cmp-IsAntisymmetric) _ _ at
  where
    shadowed : (t : Bool) (x : Option (List ℕ)) → cond t (Some b) (cond t (Some a) x) ≡ cond t (Some b) x
    shadowed true x = refl
    shadowed false x = refl

    at : (other : List ℕ) → get (insert (insert files name a) name b) other ≡ get (insert files name b) other
    at other = rw (get-insert_files (insert files name a) name b other, get-insert_files files name a other, get-insert_files files name b other) (shadowed (same_key other name) (get files other))

-- ---- one file that grows

pub with_file-with_file : (told : Told) (name a b : List ℕ) → with_file (with_file told name a) name b ≡ with_file told name b
unfolding with_file
with_file-with_file None name a b = refl
with_file-with_file (Some files) name a b = ap Some (insert-insert files name a b)

pub content-with_file : (told : Told) (name bytes : List ℕ) → IsTold told → content (with_file told name bytes) name ≡ bytes
unfolding with_file content IsTold
content-with_file None name bytes known = absurd known
content-with_file (Some files) name bytes known = rw (get-insert_same files name bytes) refl

pub grown-with_file : (told : Told) (name a b : List ℕ) → grown (with_file told name a) name b ≡ with_file told name (a ++ b)
unfolding with_file content
grown-with_file None name a b = refl
grown-with_file (Some files) name a b = rw (get-insert_same files name a) (ap Some (insert-insert files name a (a ++ b)))

pub grown-grown : (told : Told) (name a b : List ℕ) → grown (grown told name a) name b ≡ grown told name (a ++ b)
grown-grown told name a b = grown-with_file told name (content told name ++ a) b ∙ ap (with_file told name) (append_assoc (content told name) a b)

-- ---- another file stays

pub content-apart : (told : Told) (name bytes other : List ℕ) → IsApart told other name → content (with_file told name bytes) other ≡ content told other
unfolding with_file content IsApart
content-apart None name bytes other apart = refl
content-apart (Some files) name bytes other apart = rw (get-insert_apart files name bytes other apart) refl

pub length_of-apart : (told : Told) (name bytes other : List ℕ) → IsApart told other name → length_of (with_file told name bytes) other ≡ length_of told other
unfolding with_file length_of IsApart
length_of-apart None name bytes other apart = refl
length_of-apart (Some files) name bytes other apart = rw (get-insert_apart files name bytes other apart) refl

pub IsApart-with_file : (told : Told) (name bytes other third : List ℕ) → IsApart told other third → IsApart (with_file told name bytes) other third
unfolding with_file IsApart
IsApart-with_file None name bytes other third apart = tt
IsApart-with_file (Some files) name bytes other third apart = apart

pub HasFile-with_file : (told : Told) (name bytes other : List ℕ) → HasFile told other → HasFile (with_file told name bytes) other
unfolding with_file HasFile
HasFile-with_file None name bytes other there = tt
HasFile-with_file (Some files) name bytes other there = by_cases (same_key other name) refl
  where
    by_cases : (b : Bool) → same_key other name ≡ b → IsSome (get (insert files name bytes) other)
    by_cases true e = rw (get-insert_files files name bytes other, e) refl
    by_cases false e = rw (get-insert_files files name bytes other, e) there

pub HasFile-itself : (told : Told) (name bytes : List ℕ) → HasFile (with_file told name bytes) name
unfolding with_file HasFile
HasFile-itself None name bytes = tt
HasFile-itself (Some files) name bytes = rw (get-insert_same files name bytes) refl

pub IsApart-there : (told : Told) (name other : List ℕ) → HasFile told other → IsFree told name → IsApart told other name
unfolding HasFile IsFree IsApart
IsApart-there None name other there free = tt
IsApart-there (Some files) name other there free = λ same. not_both (get files name) (subst (λ n. IsSome (get files n)) same there) free
  where
    not_both : (o : Option (List ℕ)) → IsSome o → o ≡ None → ⊥
    not_both o some none = cc

-- two names that differ
pub IsApart-different : (told : Told) (name other : List ℕ) → (name ≡ other → ⊥) → IsApart told name other
unfolding IsApart
IsApart-different None name other different = tt
IsApart-different (Some files) name other different = different

-- a name that another file leaves free
pub IsFree-with_file : (told : Told) (name bytes other : List ℕ) → IsFree told other → IsApart told other name → IsFree (with_file told name bytes) other
unfolding with_file IsFree IsApart
IsFree-with_file None name bytes other free apart = tt
IsFree-with_file (Some files) name bytes other free apart = get-insert_apart files name bytes other apart ∙ free

pub IsFree-not_there : (told : Told) (name : List ℕ) → IsTold told → IsFree told name → HasFile told name → ⊥
unfolding HasFile IsFree IsTold
IsFree-not_there None name known free there = known
IsFree-not_there (Some files) name known free there = not_both (get files name) there free
  where
    not_both : (o : Option (List ℕ)) → IsSome o → o ≡ None → ⊥
    not_both o some none = cc

pub IsTold-with_file : (told : Told) (name bytes : List ℕ) → IsTold (with_file told name bytes) → IsTold told
unfolding with_file IsTold
IsTold-with_file None name bytes known = known
IsTold-with_file (Some files) name bytes known = tt

pub IsTold-stays : (told : Told) (name bytes : List ℕ) → IsTold told → IsTold (with_file told name bytes)
unfolding with_file IsTold
IsTold-stays None name bytes known = known
IsTold-stays (Some files) name bytes known = tt

-- ---- lengths

pub length_of-some : (told : Told) (name : List ℕ) (n : ℕ) → IsTold told → Some n ≡ length_of told name → n ≡ length (content told name)
unfolding length_of content IsTold
length_of-some None name n known is = absurd known
length_of-some (Some files) name n known is = by_cases (get files name) is
  where
    by_cases : (o : Option (List ℕ)) → Some n ≡ option_map length o → n ≡ length (unwrap_or o [])
    by_cases None e = cc
    by_cases (Some bytes) e = cc

pub HasFile-length_of : (told : Told) (name : List ℕ) (n : ℕ) → (IsTold told → Some n ≡ length_of told name) → HasFile told name
unfolding length_of HasFile IsTold
HasFile-length_of None name n is = tt
HasFile-length_of (Some files) name n is = by_cases (get files name) (is tt)
  where
    by_cases : (o : Option (List ℕ)) → Some n ≡ option_map length o → IsSome o
    by_cases None e = absurd (cc)
    by_cases (Some bytes) e = refl

-- ---- a part of the bytes was added

pub grown-nothing : (told : Told) (name : List ℕ) → HasFile told name → grown told name [] ≡ told
unfolding with_file content HasFile
grown-nothing None name there = refl
grown-nothing (Some files) name there = ap Some (by_cases (get files name) refl there)
  where
    kept : (b : Bool) (bytes : List ℕ) (q : List ℕ) → same_key q name ≡ b → get files name ≡ Some bytes → cond b (Some (bytes ++ [])) (get files q) ≡ get files q
    kept true bytes q e is = ap Some (append-nil bytes) ∙ sym is ∙ ap (get files) (sym (same_key-means q name e))
    kept false bytes q e is = refl

    by_cases : (o : Option (List ℕ)) → get files name ≡ o → IsSome o → insert files name (unwrap_or o [] ++ []) ≡ files
    by_cases None e some = absurd (cc)
    by_cases (Some bytes) e some = same_map nat_list_cmp_total (slice_cmp-IsAntisymmetric nat_cmp-IsAntisymmetric) _ _ (λ q. get-insert_files files name (bytes ++ []) q ∙ kept (same_key q name) bytes q refl e)

pub GrewPartly-sooner : (told after : Told) (name a b : List ℕ) → GrewPartly told name a after → GrewPartly told name (a ++ b) after
GrewPartly-sooner told after name a b part = record {
  count = part.count;
  within = omega (arith, length-append a b, part.within);
  is = part.is ∙ ap (grown told name) (sym (take-append-le part.count a b part.within));
}

pub GrewPartly-later : (told between after : Told) (name a b : List ℕ) → between ≡ grown told name a → GrewPartly between name b after → GrewPartly told name (a ++ b) after
GrewPartly-later told between after name a b is part = record {
  count = length a + part.count;
  within = omega (arith, length-append a b, part.within);
  is = part.is ∙ ap (λ t. grown t name (take part.count b)) is ∙ grown-grown told name a (take part.count b) ∙ ap (grown told name) (sym (take-append-add a b part.count));
}

-- ---- files that are being written

pub IsUnsealedIn-with_unsealed : (unsealed_before : Unsealed) (name : List ℕ) → IsUnsealedIn (with_unsealed unsealed_before name) name
unfolding with_unsealed IsUnsealedIn
IsUnsealedIn-with_unsealed None name = tt
IsUnsealedIn-with_unsealed (Some names) name = Contains-push names name

pub is_same_name-itself : (name : List ℕ) → is_same_name name name ≡ true
unfolding same_key
is_same_name-itself name = texts_ties name name ∙ same_key-itself name

pub is_same_name-means : (x y : List ℕ) → is_same_name x y ≡ true → x ≡ y
unfolding same_key
is_same_name-means x y e = same_key-means x y (sym (texts_ties x y) ∙ e)

without_absent_step : (b : Bool) (x : List ℕ) (names kept : List (List ℕ)) (name : List ℕ) → is_same_name name x ≡ b → (name ≡ x → ⊥) → kept ≡ names → cond (not b) (x ∷ kept) kept ≡ x ∷ names
without_absent_step true x names kept name e absent rest = absurd (absent (is_same_name-means name x e))
without_absent_step false x names kept name e absent rest = ap (λ l. x ∷ l) rest

absent_behind : (x : List ℕ) (names : List (List ℕ)) (name : List ℕ) → (Contains (x ∷ names) name → ⊥) → Contains names name → ⊥
absent_behind x names name absent there = absent (Contains-append_right (x ∷ []) names name there)

absent_at_front : (x : List ℕ) (names : List (List ℕ)) (name : List ℕ) → (Contains (x ∷ names) name → ⊥) → name ≡ x → ⊥
absent_at_front x names name absent same = absent (0, omega arith, sym same)

without_absent : (names : List (List ℕ)) (name : List ℕ) → (Contains names name → ⊥) → filter (λ other. not (is_same_name name other)) names ≡ names
without_absent [] name absent = refl
without_absent (x ∷ names) name absent =
    without_absent_step (is_same_name name x) x names _ name refl (absent_at_front x names name absent) (without_absent names name (absent_behind x names name absent))

pub without-with_unsealed : (unsealed_before : Unsealed) (name : List ℕ) → IsNotUnsealed unsealed_before name → without_unsealed (with_unsealed unsealed_before name) name ≡ unsealed_before
unfolding with_unsealed without_unsealed IsNotUnsealed
without-with_unsealed None name rest = refl
without-with_unsealed (Some names) name rest = ap Some (filter-append _ names (name ∷ []) ∙ last (is_same_name name name) (is_same_name-itself name))
  where
    last : (b : Bool) → b ≡ true → filter (λ other. not (is_same_name name other)) names ++ cond (not b) (name ∷ []) [] ≡ names
    last true e = append-nil _ ∙ without_absent names name rest
    last false e = absurd (cc)

-- the laws that callers' goals want
pub ruleset file_laws = (grown-with_file, grown-grown, with_file-with_file, content-apart, length_of-apart, IsApart-with_file, HasFile-with_file, HasFile-itself, IsApart-there, IsTold-with_file, IsTold-stays, length_of-some, HasFile-length_of, GrewPartly-sooner, GrewPartly-later, IsUnsealedIn-with_unsealed, without-with_unsealed)
