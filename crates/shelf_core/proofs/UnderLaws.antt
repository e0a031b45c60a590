-- The files under a root, by their relative names: they stand in byte order, and each is found by its full name.
use Rattle.std.proofs.Common.{◌≡◌, ℕ, zero, suc, ◌+◌, ◌<◌, Bool, true, false, cond, ◌&&◌, ◌==◌, if◌then◌else◌, T, List, [], ◌∷◌, ◌++◌, length, get_or, Option, Some, None, option_map, refl, sym, ap, ◌∙◌, subst, arith, append_assoc, add-one}
use Rattle.std.specs.Ordering.{is_lt, is_eq, ordering_then}
use Rattle.std.specs.declared.cmp.Ordering.{Ordering}
use Rattle.std.specs.declared.cmp.Ordering.TheVariants.{Less, Equal, Greater}
use Rattle.std.specs.Cmp.{tied_itself, nat_cmp_total}
use Rattle.std.specs.Cmp.Lexicographic.{nat_list_cmp_total}
use Rattle.std.specs.FinMap.{entries, entries_sorted, get-entries, nat_cmp-IsAntisymmetric, slice_cmp-IsAntisymmetric}
use Rattle.std.specs.FinMap.Entries.{find, is_sorted, below_all}
use Rattle.std.specs.List.{cons_option}
use Rattle.std.proofs.lemmas.List.{get_or-map, length-map}
use Rattle.std.specs.Option.{unwrap_or}
use Rattle.std.proofs.lemmas.Bool.Decides.{nat_tests}
use Rattle.cook_bits.specs.Bits.{AreBytes}
use Rattle.cook_bits.specs.Names.{File, IsRelativeName, is_relative_name, segments_of, full_name, rest_behind, non_empty, relative_to, renamed, files_under}
use Rattle.shelf_core.specs.Store.{byte_order}
use Rattle.shelf_core.specs.Laws.{ContentsUnderAreBytes}
use Rattle.shelf_core.specs.Listing.{plain_entry, plain_entries}
use Rattle.shelf_core.specs.declared.shelf.Entry.{Entry}
use Rattle.shelf_core.specs.Told.{Told, IsFree, no_file, under, length_of, content}
use Rattle.shelf_core.proofs.Relative.{rest_behind-there}

-- ---- tests that are joined

both : (a b : Bool) → T a → T b → T (a && b)
both true b p q = q
both false b p q = p

first : (a b : Bool) → T (a && b) → T a
first true b p = tt
first false b p = p

second : (a b : Bool) → T (a && b) → T b
second true b p = p
second false b p = absurd p

less : (o : Ordering) → T (is_lt o) → o ≡ Less
less Less p = refl
less Equal p = absurd p
less Greater p = absurd p

-- ---- names relative to a root

rest-by : (t : Bool) (a b : ℕ) (front name rest : List ℕ) → (a == b) ≡ t → (rest_behind front name ≡ Some rest → name ≡ front ++ rest) → (if t then rest_behind front name else None) ≡ Some rest → b ∷ name ≡ a ∷ (front ++ rest)
rest-by true a b front name rest same behind found = let same_byte : b ≡ a = grind (arith, nat_tests) in rw same_byte (ap (λ l. a ∷ l) (behind found))
rest-by false a b front name rest same behind found = absurd (cc)

rest-is : (front name rest : List ℕ) → rest_behind front name ≡ Some rest → name ≡ front ++ rest
unfolding rest_behind
rest-is [] name rest e = cc
rest-is (a ∷ front) [] rest e = absurd (cc)
rest-is (a ∷ front) (b ∷ name) rest e = rest-by (a == b) a b front name rest refl (λ found. rest-is front name rest found) e

non_empty-is : (o : Option (List ℕ)) (rest : List ℕ) → non_empty o ≡ Some rest → o ≡ Some rest
non_empty-is None rest e = absurd (cc)
non_empty-is (Some []) rest e = absurd (cc)
non_empty-is (Some (byte ∷ name)) rest e = e

pub relative_to-is : (root name rest : List ℕ) → relative_to root name ≡ Some rest → name ≡ full_name root rest
relative_to-is root name rest e = rest-is (root ++ 47 ∷ []) name rest (non_empty-is _ rest e) ∙ append_assoc root (47 ∷ []) rest

order-behind : (front a b : List ℕ) → byte_order (front ++ a) (front ++ b) ≡ byte_order a b
order-behind [] a b = refl
order-behind (x ∷ front) a b = ap (λ o. ordering_then o (byte_order (front ++ a) (front ++ b))) (tied_itself nat_cmp_total x) ∙ order-behind front a b

order-full : (root a b : List ℕ) → byte_order (full_name root a) (full_name root b) ≡ byte_order a b
order-full root a b = order-behind root (47 ∷ a) (47 ∷ b) ∙ order-behind (47 ∷ []) a b

-- ---- the files stand in byte order

below-by : (o : Option (List ℕ)) (root name rest : List ℕ) (e : File) (files : List File) → name ≡ full_name root rest → relative_to root e.0 ≡ o → T (is_lt (byte_order name e.0)) → T (below_all byte_order rest files) → T (below_all byte_order rest (cons_option (renamed o e.1) files))
below-by None root name rest e files is found below behind = behind
below-by (Some other) root name rest e files is found below behind =
    let here : byte_order name e.0 ≡ byte_order rest other = ap (byte_order name) (relative_to-is root e.0 other found) ∙ ap (λ n. byte_order n (full_name root other)) is ∙ order-full root rest other in
    both _ _ (subst (λ o. T (is_lt o)) here below) behind

below_files : (root name rest : List ℕ) (es : List File) → name ≡ full_name root rest → T (below_all byte_order name es) → T (below_all byte_order rest (files_under root es))
unfolding files_under
below_files root name rest [] is below = tt
below_files root name rest (e ∷ es) is below = below-by (relative_to root e.0) root name rest e (files_under root es) is refl (first _ _ below) (below_files root name rest es is (second _ _ below))

sorted-by : (o : Option (List ℕ)) (root : List ℕ) (e : File) (files : List File) → relative_to root e.0 ≡ o → ((rest : List ℕ) → e.0 ≡ full_name root rest → T (below_all byte_order rest files)) → T (is_sorted byte_order files) → T (is_sorted byte_order (cons_option (renamed o e.1) files))
sorted-by None root e files found below up = up
sorted-by (Some rest) root e files found below up = both _ _ (below rest (relative_to-is root e.0 rest found)) up

files_sorted : (root : List ℕ) (es : List File) → T (is_sorted byte_order es) → T (is_sorted byte_order (files_under root es))
unfolding files_under
files_sorted root [] up = tt
files_sorted root (e ∷ es) up = sorted-by (relative_to root e.0) root e (files_under root es) refl (λ rest is. below_files root e.0 rest es is (first _ _ up)) (files_sorted root es (second _ _ up))

adjacent : (files : List File) (k : ℕ) → T (is_sorted byte_order files) → suc k < length files → byte_order (get_or files k no_file).0 (get_or files (suc k) no_file).0 ≡ Less
adjacent [] k up inside = absurd (omega arith)
adjacent (e ∷ []) zero up inside = absurd (omega arith)
adjacent (e ∷ f ∷ files) zero up inside = less _ (first _ _ (first _ _ up))
adjacent (e ∷ files) (suc k) up inside = adjacent files k (second _ _ up) (omega arith)

pub under-ascending : (told : Told) (root : List ℕ) (k : ℕ) → k + 1 < length (under told root) → byte_order (get_or (under told root) k no_file).0 (get_or (under told root) (k + 1) no_file).0 ≡ Less
unfolding under
under-ascending None root k inside = absurd (omega arith)
under-ascending (Some files) root k inside = rw add-one (adjacent (files_under root (entries files)) k (files_sorted root (entries files) (entries_sorted files)) (omega arith))

-- the first of them stands below each later one
below-at : (name : List ℕ) (files : List File) (k : ℕ) → T (below_all byte_order name files) → k < length files → byte_order name (get_or files k no_file).0 ≡ Less
below-at name [] k below inside = absurd (omega arith)
below-at name (e ∷ files) zero below inside = less _ (first _ _ below)
below-at name (e ∷ files) (suc k) below inside = below-at name files k (second _ _ below) (omega arith)

above_first : (files : List File) (k : ℕ) → T (is_sorted byte_order files) → 0 < k → k < length files → byte_order (get_or files 0 no_file).0 (get_or files k no_file).0 ≡ Less
above_first [] k up later inside = absurd (omega arith)
above_first (e ∷ files) zero up later inside = absurd (omega arith)
above_first (e ∷ files) (suc k) up later inside = below-at e.0 files k (first _ _ up) (omega arith)

pub under-above_first : (told : Told) (root : List ℕ) (k : ℕ) → 0 < k → k < length (under told root) → byte_order (get_or (under told root) 0 no_file).0 (get_or (under told root) k no_file).0 ≡ Less
unfolding under
under-above_first None root k later inside = absurd (omega arith)
under-above_first (Some files) root k later inside = above_first (files_under root (entries files)) k (files_sorted root (entries files) (entries_sorted files)) later inside

-- the same of what a listing shows
pub listed-above_first : (told : Told) (root : List ℕ) (k : ℕ) (d : Entry) → 0 < k → k < length (plain_entries (under told root)) → byte_order (get_or (plain_entries (under told root)) 0 d).name (get_or (plain_entries (under told root)) k d).name ≡ Less
listed-above_first told root k d later inside =
    let within : k < length (under told root) = omega (arith, length-map (under told root) plain_entry) in
    let here : byte_order (get_or (under told root) 0 no_file).0 (get_or (under told root) k no_file).0 ≡ Less = under-above_first told root k later within in
    rw (get_or-map plain_entry (under told root) 0 no_file d (omega arith), get_or-map plain_entry (under told root) k no_file d within) here

-- ---- each is found by its full name

tied-not_below : (q x key : List ℕ) → byte_order q key ≡ Equal → byte_order x key ≡ Less → is_eq (byte_order q x) ≡ false
tied-not_below q x key tied below = by_cases (byte_order q x) refl
  where
    by_cases : (o : Ordering) → byte_order q x ≡ o → is_eq o ≡ false
    by_cases Less e = refl
    by_cases Greater e = refl
    by_cases Equal e = let same : byte_order q key ≡ byte_order x key = nat_list_cmp_total.congr q x key e in absurd (cc)

equal : (o : Ordering) → is_eq o ≡ true → o ≡ Equal
equal Less e = absurd (cc)
equal Equal e = refl
equal Greater e = absurd (cc)

behind-by : (t : Bool) (q x : List ℕ) (e : File) (found_in : Option (List ℕ)) (bytes : List ℕ) → is_eq (byte_order q e.0) ≡ t → T (is_lt (byte_order x e.0)) → (found_in ≡ Some bytes → is_eq (byte_order q x) ≡ false) → cond t (Some e.1) found_in ≡ Some bytes → is_eq (byte_order q x) ≡ false
behind-by true q x e found_in bytes tied below behind found = tied-not_below q x e.0 (equal _ tied) (less _ below)
behind-by false q x e found_in bytes apart below behind found = behind found

found-behind : (q x : List ℕ) (es : List File) (bytes : List ℕ) → T (below_all byte_order x es) → find byte_order q es ≡ Some bytes → is_eq (byte_order q x) ≡ false
found-behind q x [] bytes below found = absurd (cc)
found-behind q x (e ∷ es) bytes below found = behind-by (is_eq (byte_order q e.0)) q x e (find byte_order q es) bytes refl (first _ _ below) (λ later. found-behind q x es bytes (second _ _ below) later) found

itself : (name : List ℕ) → is_eq (byte_order name name) ≡ true
itself name = ap is_eq (tied_itself nat_list_cmp_total name)

found-later : (e : File) (es : List File) (q bytes : List ℕ) → T (is_sorted byte_order (e ∷ es)) → find byte_order q es ≡ Some bytes → find byte_order q (e ∷ es) ≡ Some bytes
found-later e es q bytes up found = ap (λ t. cond t (Some e.1) (find byte_order q es)) (found-behind q e.0 es bytes (first _ _ up) found) ∙ found

found-here : (e : File) (es : List File) (q : List ℕ) → e.0 ≡ q → find byte_order q (e ∷ es) ≡ Some e.1
found-here e es q same = ap (λ t. cond t (Some e.1) (find byte_order q es)) (ap (λ n. is_eq (byte_order q n)) same ∙ itself q)

-- the file at a place of a list is found by its full name
IsFoundAt : List ℕ → List File → List File → ℕ → Type 0
IsFoundAt root es files i = find byte_order (full_name root (get_or files i no_file).0) es ≡ Some (get_or files i no_file).1

found-by : (o : Option (List ℕ)) (root : List ℕ) (e : File) (es files : List File) → relative_to root e.0 ≡ o → T (is_sorted byte_order (e ∷ es)) → ((i : ℕ) → i < length files → IsFoundAt root es files i) → (i : ℕ) → i < length (cons_option (renamed o e.1) files) → IsFoundAt root (e ∷ es) (cons_option (renamed o e.1) files) i
unfolding IsFoundAt
found-by None root e es files found up behind i inside = found-later e es _ _ up (behind i inside)
found-by (Some rest) root e es files found up behind zero inside = found-here e es (full_name root rest) (relative_to-is root e.0 rest found)
found-by (Some rest) root e es files found up behind (suc i) inside = found-later e es _ _ up (behind i (omega arith))

found_all : (root : List ℕ) (es : List File) → T (is_sorted byte_order es) → (i : ℕ) → i < length (files_under root es) → IsFoundAt root es (files_under root es) i
unfolding files_under
found_all root [] up = λ i inside. absurd (omega arith)
found_all root (e ∷ es) up = λ i inside. found-by (relative_to root e.0) root e es (files_under root es) refl up (found_all root es (second _ _ up)) i inside

found_at : (root : List ℕ) (es : List File) (i : ℕ) → T (is_sorted byte_order es) → i < length (files_under root es)
    → find byte_order (full_name root (get_or (files_under root es) i no_file).0) es ≡ Some (get_or (files_under root es) i no_file).1
unfolding IsFoundAt
found_at root es i up inside = found_all root es up i inside

-- the length and the content of the i-th file under a root
pub length_of-under : (told : Told) (root : List ℕ) (i : ℕ) → i < length (under told root) → length_of told (full_name root (get_or (under told root) i no_file).0) ≡ Some (length (get_or (under told root) i no_file).1)
unfolding under length_of
length_of-under None root i inside = absurd (omega arith)
length_of-under (Some files) root i inside = ap (option_map length) (get-entries files _ ∙ found_at root (entries files) i (entries_sorted files) inside)

pub content-under : (told : Told) (root : List ℕ) (i : ℕ) → i < length (under told root) → content told (full_name root (get_or (under told root) i no_file).0) ≡ (get_or (under told root) i no_file).1
unfolding under content
content-under None root i inside = absurd (omega arith)
content-under (Some files) root i inside = ap (λ o. unwrap_or o []) (get-entries files _ ∙ found_at root (entries files) i (entries_sorted files) inside)

at-any : (files : List File) (i : ℕ) (d e : File) → i < length files → get_or files i d ≡ get_or files i e
at-any [] i d e inside = absurd (omega arith)
at-any (file ∷ files) zero d e inside = refl
at-any (file ∷ files) (suc i) d e inside = at-any files i d e (omega arith)

-- the contents under a root are contents of the shelf
pub contents_under-bytes : ContentsUnderAreBytes
contents_under-bytes told root holds i d inside =
    subst AreBytes (content-under told root i inside ∙ ap (λ (file : File). file.1) (at-any (under told root) i no_file d inside)) (holds (full_name root (get_or (under told root) i no_file).0))

-- ---- a root with no files

relative_to-full : (root name : List ℕ) → 0 < length name → relative_to root (full_name root name) ≡ Some name
relative_to-full root name filled = ap non_empty (ap (rest_behind (root ++ 47 ∷ [])) (sym (append_assoc root (47 ∷ []) name)) ∙ rest_behind-there (root ++ 47 ∷ []) name) ∙ shown name filled
  where
    shown : (name : List ℕ) → 0 < length name → non_empty (Some name) ≡ Some name
    shown [] filled = absurd (omega arith)
    shown (byte ∷ rest) filled = refl

nothing-behind : (o : Option (List ℕ)) (e : File) (files : List File) → cons_option (renamed o e.1) files ≡ [] → files ≡ []
nothing-behind None e files is = is
nothing-behind (Some rest) e files is = absurd (cc)

nothing-here : (o : Option (List ℕ)) (e : File) (files : List File) → cons_option (renamed o e.1) files ≡ [] → o ≡ None
nothing-here None e files is = refl
nothing-here (Some rest) e files is = absurd (cc)

absent-by : (t : Bool) (root name : List ℕ) (e : File) (found_in : Option (List ℕ)) → is_eq (byte_order (full_name root name) e.0) ≡ t → relative_to root e.0 ≡ None → 0 < length name → found_in ≡ None → cond t (Some e.1) found_in ≡ None
absent-by false root name e found_in tied unlisted filled none = none
absent-by true root name e found_in tied unlisted filled none =
    let same : full_name root name ≡ e.0 = slice_cmp-IsAntisymmetric nat_cmp-IsAntisymmetric (full_name root name) e.0 (equal _ tied) in
    let listed : relative_to root e.0 ≡ Some name = ap (relative_to root) (sym same) ∙ relative_to-full root name filled in
    absurd (cc)

absent : (root name : List ℕ) (es : List File) → files_under root es ≡ [] → 0 < length name → find byte_order (full_name root name) es ≡ None
unfolding files_under
absent root name [] none filled = refl
absent root name (e ∷ es) none filled = absent-by (is_eq (byte_order (full_name root name) e.0)) root name e (find byte_order (full_name root name) es) refl (nothing-here (relative_to root e.0) e (files_under root es) none) filled (absent root name es (nothing-behind (relative_to root e.0) e (files_under root es) none) filled)

-- no file has a full name under it
pub IsFree-empty : (told : Told) (root name : List ℕ) → under told root ≡ [] → 0 < length name → IsFree told (full_name root name)
unfolding under IsFree
IsFree-empty None root name none filled = tt
IsFree-empty (Some files) root name none filled = get-entries files (full_name root name) ∙ absent root name (entries files) none filled

pub filled-relative : (name : List ℕ) → IsRelativeName name → 0 < length name
unfolding is_relative_name segments_of
filled-relative [] relative = absurd (cc)
filled-relative (byte ∷ rest) relative = omega arith

pub IsFree-empty_relative : (told : Told) (root name : List ℕ) → under told root ≡ [] → IsRelativeName name → IsFree told (full_name root name)
IsFree-empty_relative told root name none relative = IsFree-empty told root name none (filled-relative name relative)
