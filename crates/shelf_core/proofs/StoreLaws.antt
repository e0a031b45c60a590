-- Laws of files in memory, in the words that a shelf tells.
use Rattle.std.proofs.Common.{◌≡◌, ℕ, zero, suc, ◌+◌, ◌<◌, Bool, true, false, cond, List, [], ◌∷◌, ◌++◌, length, take, drop, get_or, set, Option, Some, None, IsSome, is_some, not, refl, sym, ap, subst, ◌∙◌, arith}
use Rattle.std.specs.Cmp.{IsTotalOrder, tied_itself}
use Rattle.std.specs.Cmp.Lexicographic.{nat_list_cmp_total}
use Rattle.std.specs.FinMap.{from_sorted, find, put, entries-from_sorted, entries-insert, same_entries_map}
use Rattle.std.specs.FinMap.Entries.{is_sorted-put, find-put}
use Rattle.std.specs.List.{filter}
use Rattle.std.specs.Option.{option_map, unwrap_or}
use Rattle.std.specs.Ordering.{is_eq, eq_by_cmp}
use Rattle.std.proofs.lemmas.Bool.{and_parts}
use Rattle.std.proofs.lemmas.List.{take_more}
use Rattle.std.proofs.lemmas.List.Elements.{All-append, All-drop, All-nil, All-push, All-set, All-take}
use Rattle.cook_bits.specs.Bits.{AreBytes}
use Rattle.cook_bits.specs.Names.{File, files_under, is_same_name}
use Rattle.shelf_core.specs.Told.{HasFile, IsFree, content, length_of, with_file, grown, under, IsUnsealedIn, IsNotUnsealed, IsRead, with_unsealed, without_unsealed, GrewPartly}
use Rattle.shelf_core.specs.StoreTold.{made, shown, both, found, has-told, told-has, unsealed-found, unsealed-has, no-bytes}
use Rattle.shelf_core.specs.PieceLaws.{GrewPartly-nothing}
use Rattle.shelf_core.specs.Store.{byte_order, IsAscending, AreOfBytes, AreThere, are_there, told_of, bytes_in, put_in, StandsAt, BelongsAt}

total : IsTotalOrder byte_order
total = nat_list_cmp_total

-- the names still rise
pub ascending-put : (files : List File) (name bytes : List ℕ) → IsAscending files → IsAscending (put_in files name bytes)
unfolding put_in
ascending-put files name bytes sorted = made _ (is_sorted-put byte_order total name bytes files (shown _ sorted))

-- to put a file among those that a shelf holds is to tell it
pub told-put : (files : List File) (name bytes : List ℕ) → IsAscending files → told_of (put_in files name bytes) ≡ with_file (told_of files) name bytes
unfolding told_of put_in with_file
told-put files name bytes sorted = ap Some (same_entries_map _ _ (
    entries-from_sorted byte_order (put byte_order name bytes files) (shown _ (ascending-put files name bytes sorted))
    ∙ ap (put byte_order name bytes) (sym (entries-from_sorted byte_order files (shown _ sorted)))
    ∙ sym (entries-insert total (from_sorted files) name bytes)))

pub content-told : (files : List File) (name : List ℕ) → IsAscending files → content (told_of files) name ≡ unwrap_or (bytes_in files name) []
unfolding told_of content
content-told files name sorted = ap (λ (o : Option (List ℕ)). unwrap_or o []) (found files name sorted)

pub length-told : (files : List File) (name : List ℕ) → IsAscending files → length_of (told_of files) name ≡ option_map length (bytes_in files name)
unfolding told_of length_of
length-told files name sorted = ap (option_map length) (found files name sorted)

pub free-told : (files : List File) (name : List ℕ) → IsAscending files → bytes_in files name ≡ None → IsFree (told_of files) name
unfolding told_of IsFree
free-told files name sorted none = found files name sorted ∙ none

pub under-told : (files : List File) (root : List ℕ) → IsAscending files → under (told_of files) root ≡ files_under root files
unfolding told_of under
under-told files root sorted = ap (files_under root) (entries-from_sorted byte_order files (shown _ sorted))

-- names stay among files as one is put there
found-put : (files : List File) (name bytes other : List ℕ) → is_some (bytes_in files other) ≡ true → is_some (bytes_in (put_in files name bytes) other) ≡ true
unfolding bytes_in put_in
found-put files name bytes other is = ap is_some (find-put byte_order total other name bytes files) ∙ either (eq_by_cmp byte_order other name)
  where
    either : (b : Bool) → is_some (cond b (Some bytes) (find byte_order other files)) ≡ true
    either true = refl
    either false = is

pub there-put : (names : List (List ℕ)) (files : List File) (name bytes : List ℕ) → AreThere names files → AreThere names (put_in files name bytes)
unfolding are_there bytes_in
there-put [] files name bytes there = refl
there-put (other ∷ names) files name bytes there = both _ _ (found-put files name bytes other (and_parts _ _ there).0) (there-put names files name bytes (and_parts _ _ there).1)

-- the names of a list with one more
there-more : (names : List (List ℕ)) (files : List File) (name : List ℕ) → AreThere names files → is_some (bytes_in files name) ≡ true → AreThere (names ++ name ∷ []) files
unfolding are_there bytes_in
there-more [] files name there is = both _ _ is refl
there-more (other ∷ names) files name there is = both _ _ (and_parts _ _ there).0 (there-more names files name (and_parts _ _ there).1 is)

put-found : (files : List File) (name bytes : List ℕ) → is_some (bytes_in (put_in files name bytes) name) ≡ true
unfolding bytes_in put_in
put-found files name bytes = ap is_some (find-put byte_order total name name bytes files ∙ ap (λ r. cond (is_eq r) (Some bytes) (find byte_order name files)) (tied_itself total name))

pub there-added : (names : List (List ℕ)) (files : List File) (name bytes : List ℕ) → AreThere names files → AreThere (names ++ name ∷ []) (put_in files name bytes)
there-added names files name bytes there = there-more names (put_in files name bytes) name (there-put names files name bytes there) (put-found files name bytes)

-- and of one with some left out
pub there-filter : (p : List ℕ → Bool) (names : List (List ℕ)) (files : List File) → AreThere names files → AreThere (filter p names) files
unfolding are_there
there-filter p [] files there = refl
there-filter p (name ∷ names) files there = elim (p name) as (λ (b : Bool). AreThere (cond b (name ∷ filter p names) (filter p names)) files) [
  | true ↦ both _ _ (and_parts _ _ there).0 (there-filter p names files (and_parts _ _ there).1)
  | false ↦ there-filter p names files (and_parts _ _ there).1
]

-- so a name that no file has isn't one of them
pub not_unsealed : (names : List (List ℕ)) (files : List File) (name : List ℕ) → AreThere names files → bytes_in files name ≡ None → IsNotUnsealed (Some names) name
unfolding IsNotUnsealed IsUnsealedIn
not_unsealed names files name there none contains =
    let some : IsSome (bytes_in files name) = unsealed-found names files name there contains in
    cc

-- a file was added at its place
pub ascending-added : (files after : List File) (name bytes : List ℕ) (place : ℕ) → IsAscending files → BelongsAt files name place → after ≡ take place files ++ (name, bytes) ∷ drop place files → IsAscending after
ascending-added files after name bytes place sorted belongs is = subst (λ (now : List File). IsAscending now) (belongs.put bytes ∙ sym is) (ascending-put files name bytes sorted)

pub told-added : (files after : List File) (name bytes : List ℕ) (place : ℕ) → IsAscending files → BelongsAt files name place → after ≡ take place files ++ (name, bytes) ∷ drop place files → told_of after ≡ with_file (told_of files) name bytes
told-added files after name bytes place sorted belongs is = ap told_of (is ∙ sym (belongs.put bytes)) ∙ told-put files name bytes sorted

pub there-after : (names : List (List ℕ)) (files after : List File) (name bytes : List ℕ) (place : ℕ) → AreThere names files → BelongsAt files name place → after ≡ take place files ++ (name, bytes) ∷ drop place files → AreThere (names ++ name ∷ []) after
there-after names files after name bytes place there belongs is = subst (λ (now : List File). AreThere (names ++ name ∷ []) now) (belongs.put bytes ∙ sym is) (there-added names files name bytes there)

-- bytes were added at the end of the file at a place
pub ascending-grown : (files after : List File) (name bytes : List ℕ) (place : ℕ) → IsAscending files → StandsAt files name place → after ≡ set files place (name, bytes) → IsAscending after
ascending-grown files after name bytes place sorted stands is = subst (λ (now : List File). IsAscending now) (stands.put bytes ∙ sym is) (ascending-put files name bytes sorted)

pub there-grown : (names : List (List ℕ)) (files after : List File) (name bytes : List ℕ) (place : ℕ) → AreThere names files → StandsAt files name place → after ≡ set files place (name, bytes) → AreThere names after
there-grown names files after name bytes place there stands is = subst (λ (now : List File). AreThere names now) (stands.put bytes ∙ sym is) (there-put names files name bytes there)

pub told-grown : (files after : List File) (name held bytes : List ℕ) (place : ℕ) → IsAscending files → StandsAt files name place → ((file : File) → (get_or files place file).1 ≡ held) → after ≡ set files place (name, held ++ bytes) → told_of after ≡ grown (told_of files) name bytes
told-grown files after name held bytes place sorted stands holds is =
    let there : content (told_of files) name ≡ held = content-told files name sorted ∙ ap (λ (o : Option (List ℕ)). unwrap_or o []) (stands.holds ([], [])) ∙ holds ([], []) in
    ap told_of (is ∙ sym (stands.put (held ++ bytes))) ∙ told-put files name (held ++ bytes) sorted ∙ ap (λ (front : List ℕ). with_file (told_of files) name (front ++ bytes)) (sym there)

-- whether a file is there, by the files as a slice
pub stands-has : (files slice : List File) (name : List ℕ) (place : ℕ) → slice ≡ files → IsAscending files → StandsAt slice name place → HasFile (told_of files) name
stands-has files slice name place same sorted stands = has-told files name sorted (subst (λ (all : List File). IsSome (bytes_in all name)) same (ap is_some (stands.holds ([], []))))

pub belongs-free : {A : Type 0} (files slice : List File) (name : List ℕ) (place : ℕ) → slice ≡ files → IsAscending files → BelongsAt slice name place → HasFile (told_of files) name → A
belongs-free files slice name place same sorted belongs has = let some : IsSome (bytes_in files name) = told-has files name sorted has in let none : bytes_in files name ≡ None = subst (λ (all : List File). bytes_in all name ≡ None) same belongs.free in absurd (let clash : ⊥ = cc in clash)

-- no name is always there
pub there-none : (files : List File) → AreThere [] files
unfolding are_there
there-none files = refl

-- what was read of the bytes that were found is read of the file
pub read-found : (files slice : List File) (name held buffer : List ℕ) (at room count : ℕ) → slice ≡ files → IsAscending files → Some held ≡ bytes_in slice name → IsRead held at room buffer count → IsRead (content (told_of files) name) at room buffer count
read-found files slice name held buffer at room count same sorted is read =
    let there : Some held ≡ bytes_in files name = is ∙ ap (λ (all : List File). bytes_in all name) same in
    subst (λ (bytes : List ℕ). IsRead bytes at room buffer count) (sym (content-told files name sorted ∙ ap (λ (o : Option (List ℕ)). unwrap_or o []) (sym there))) read

pub read-missed : (files slice : List File) (name buffer : List ℕ) (at room count : ℕ) → slice ≡ files → IsAscending files → None ≡ bytes_in slice name → HasFile (told_of files) name → IsRead (content (told_of files) name) at room buffer count
read-missed files slice name buffer at room count same sorted is has =
    let some : IsSome (bytes_in files name) = told-has files name sorted has in
    let none : None ≡ bytes_in files name = is ∙ ap (λ (all : List File). bytes_in all name) same in
    absurd (let clash : ⊥ = cc in clash)

-- the names that are being written, with one more, and with one left out
pub unsealed_more : (names after : List (List ℕ)) (name : List ℕ) → after ≡ names ++ name ∷ [] → Some after ≡ with_unsealed (Some names) name
unfolding with_unsealed
unsealed_more names after name is = ap Some is

pub unsealed_fewer : (names after : List (List ℕ)) (name : List ℕ) → after ≡ filter (λ other. not (is_same_name name other)) names → Some after ≡ without_unsealed (Some names) name
unfolding without_unsealed
unsealed_fewer names after name is = ap Some is

-- where nothing was added, none of the bytes were
pub grew_none : (files : List File) (name bytes : List ℕ) → HasFile (told_of files) name → GrewPartly (told_of files) name bytes (told_of files)
grew_none files name bytes has = GrewPartly-nothing (told_of files) (told_of files) name bytes has refl

-- ---- contents are bytes

OfBytes : File → Type 0
OfBytes file = AreBytes file.1

bytes-append : (front rest : List ℕ) → AreBytes front → AreBytes rest → AreBytes (front ++ rest)
bytes-append [] rest here behind i = behind i
bytes-append (byte ∷ front) rest here behind zero = here 0
bytes-append (byte ∷ front) rest here behind (suc i) = bytes-append front rest (λ k. here (suc k)) behind i

-- an empty file was added
pub bytes-added : (files after : List File) (name : List ℕ) (place : ℕ) → AreOfBytes files → after ≡ take place files ++ (name, []) ∷ drop place files → AreOfBytes after
unfolding OfBytes
bytes-added files after name place are is =
    subst AreOfBytes (sym is) (All-append OfBytes (take place files) ((name, []) ∷ drop place files) (All-take OfBytes place files are)
    (All-append OfBytes ((name, []) ∷ []) (drop place files) (All-push OfBytes [] (name, []) (All-nil OfBytes) no-bytes) (All-drop OfBytes place files are)))

-- bytes were added at the end of the file at a place
pub bytes-grown : (files after : List File) (name held bytes : List ℕ) (place : ℕ) → AreOfBytes files → AreBytes bytes → place < length files → ((file : File) → (get_or files place file).1 ≡ held) → after ≡ set files place (name, held ++ bytes) → AreOfBytes after
unfolding OfBytes
bytes-grown files after name held bytes place are more within holds is =
    subst AreOfBytes (sym is) (All-set OfBytes files place (name, held ++ bytes) (bytes-append held bytes (subst AreBytes (holds ([], [])) (are place ([], []) within)) more) are)

-- one file more was looked at
pub bytes-next : (files : List File) (k : ℕ) (file : File) (bytes : List ℕ) → k < length files → file ≡ get_or files k file → bytes ≡ file.1 → AreBytes bytes → AreOfBytes (take k files) → AreOfBytes (take (k + 1) files)
unfolding OfBytes
bytes-next files k file bytes inside at of are so_far =
    subst AreOfBytes (sym (take_more files k file inside ∙ ap (λ (f : File). take k files ++ f ∷ []) (sym at))) (All-push OfBytes (take k files) file so_far (subst AreBytes of are))

-- what the methods of a store need
pub ruleset store_facts = (unsealed-has, not_unsealed, there-none, there-filter, under-told, length-told, free-told, unsealed_more, unsealed_fewer, grew_none)

pub ruleset store_laws = (ascending-added, told-added, there-after, ascending-grown, there-grown, told-grown, bytes-added, bytes-grown)
