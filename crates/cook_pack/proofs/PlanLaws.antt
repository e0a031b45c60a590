-- Laws of a plan that is made entry by entry, in byte order of names.
use Rattle.std.proofs.Common.{◌≡◌, ℕ, zero, suc, ◌+◌, ◌^◌, ◌<◌, ◌≤◌, Bool, true, false, cond, nat_le, nat_lt, List, [], ◌∷◌, ◌++◌, length, take, drop, map, get_or, sum, sum_by, IsUtf8, All, Contains, Option, Some, None, refl, sym, ap, ◌∙◌, subst, arith, add-one, drop-cons, length-append, zero-add}
use Rattle.std.proofs.Math.Seq.{take-suc, take-length}
use Rattle.std.proofs.Math.ListN.{drop_of_length-le, get_or-map as get_or-mapped}
use Rattle.std.proofs.lemmas.List.{length-map, get_or-map, map-append, take-map, take_more, map_more}
use Rattle.std.proofs.lemmas.List.Sums.{sum_by-append, sum_by-cons, sum-map}
use Rattle.std.proofs.lemmas.Bool.Decides.{nat_tests}
use Rattle.std.specs.Option.{option_or}
use Rattle.std.specs.Ordering.{nat_cmp, is_lt, is_eq, ordering_reverse}
use Rattle.std.specs.declared.cmp.Ordering.{Ordering}
use Rattle.std.specs.declared.cmp.Ordering.TheVariants.{Less, Equal, Greater}
use Rattle.std.specs.Cmp.Lexicographic.{slice_cmp, texts_ties, nat_list_cmp_total}
use Rattle.cook_bits.specs.Names.{File, is_relative_name, is_same_name, holds_folder_of, full_name}
use Rattle.shelf_core.specs.Causes.{Rose}
use Rattle.shelf_core.specs.Listing.{plain_entry, plain_entries}
use Rattle.shelf_core.specs.Reads.{Tells, OnlyReads}
use Rattle.shelf_core.specs.Told.{Told, IsTold, no_file, under, length_of}
use Rattle.shelf_core.specs.declared.shelf.Entry.{Entry}
use Rattle.shelf_core.specs.declared.shelf.Shelf.{Ghosts}
use Rattle.cook_pack.specs.declared.error.RefuseWhy.{RefuseWhy}
use Rattle.cook_pack.specs.declared.error.RefuseWhy.TheVariants.{BadName, UnderFile, TooManyFiles, TooLarge, Unbuilt}
use Rattle.cook_pack.specs.Film.{is_film_or_sound}
use Rattle.cook_pack.specs.declared.error.PackError.{PackError}
use Rattle.cook_pack.specs.declared.error.PackError.TheVariants.{Refused, InTheWay, Changed, Missing, Failed, NoMemory}
use Rattle.cook_pack.specs.Offence.{Listed, listed, names_of, first_offence, broken_by_listing, broken_by_file, broken_rules, or_later, offence_from, offence_of_directory, ends_with_name, IsOfPlainFile}
use Rattle.cook_pack.specs.declared.planned_file.PlannedFile.{PlannedFile}
use Rattle.cook_pack.specs.Planned.{IsBefore, IsSound, Fits, IsNotPlanned, directory_of, lengths_planned, names_planned, planned_file}
use Rattle.cook_pack.specs.Entries.{Admits, name_of, entry_names, AreInOrder, entry_at, fault_by_listing, fault_by_file, IsBarred, Lists, NamesEntry, planned}
use Rattle.cook_pack.proofs.OffenceLaws.{first_offence-append, by_listing, by_file, by_file-none, IsAdmitted, admitted, ends_with_name-some}
use Rattle.std.proofs.lemmas.List.Elements.{Contains-get_or}
use Rattle.reversal.specs.SideData.{AreNames}
use Rattle.shelf_core.proofs.UnderLaws.{under-ascending, length_of-under}
use borrow.Author.Count.{below_more}

-- ---- for any shelf: the entries before a place break no rule

pub record Passed (entries : List Entry) (files : List PlannedFile) (total index : ℕ) : Type 0 where
  pub counted : length files ≡ index
  pub named : names_planned files ≡ take index (entry_names entries)
  pub adds : sum (lengths_planned files) ≡ total
  pub small : total ≤ 2 ^ 50
  pub passed : (k : ℕ) → k < index → fault_by_listing entries k ≡ None
  pub texts : (k : ℕ) → k < index → IsUtf8 (entry_at entries k).name

pub passed-none : (entries : List Entry) → Passed entries [] 0 0
passed-none entries = record { counted = refl; named = refl; adds = refl; small = omega arith; passed = λ k below. absurd (omega arith); texts = λ k below. absurd (omega arith) }

sum-push : (lengths : List ℕ) (len : ℕ) → sum (lengths ++ len ∷ []) ≡ sum lengths + len
sum-push lengths len = sum_by-append (λ x. x) lengths (len ∷ []) ∙ ap (λ n. sum lengths + n) (zero-add len)

planned_name : PlannedFile → List ℕ
planned_name file = file.name

planned_length : PlannedFile → ℕ
planned_length file = file.length

named-more : (entries : List Entry) (files : List PlannedFile) (index : ℕ) (file : PlannedFile) → index < length entries → names_planned files ≡ take index (entry_names entries) → file.name ≡ (entry_at entries index).name
    → names_planned (files ++ file ∷ []) ≡ take (index + 1) (entry_names entries)
unfolding planned_name
named-more entries files index file inside so_far named =
    map-append planned_name files (file ∷ []) ∙ (λ i. so_far i ++ named i ∷ [])
    ∙ ap (λ n. take index (entry_names entries) ++ n ∷ []) (sym (get_or-map name_of entries index _ [] inside))
    ∙ sym (take_more (entry_names entries) index [] (omega (arith, length-map entries name_of)))

pub passed-more : (entries : List Entry) (files : List PlannedFile) (total index : ℕ) (file : PlannedFile) → index < length entries → Passed entries files total index
    → file.name ≡ (entry_at entries index).name → IsUtf8 file.name → fault_by_listing entries index ≡ None → fault_by_file total file.name file.length ≡ None
    → Passed entries (files ++ file ∷ []) (total + file.length) (index + 1)
unfolding planned_length
passed-more entries files total index file inside so_far named text listing filed = record {
  counted = omega (arith, so_far.counted, length-append files (file ∷ []));
  named = named-more entries files index file inside so_far.named named;
  adds = ap sum (map-append planned_length files (file ∷ [])) ∙ sum-push (lengths_planned files) file.length ∙ ap (λ n. n + file.length) so_far.adds;
  small = by_file-none total file.name file.length filed;
  passed = below_more (λ k. fault_by_listing entries k ≡ None) index so_far.passed listing;
  texts = below_more (λ k. IsUtf8 (entry_at entries k).name) index so_far.texts (subst IsUtf8 named text);
}

-- ---- a plan of entries that all pass is sound

name_at : (entries : List Entry) (k : ℕ) (d : List ℕ) → k < length (entry_names entries) → get_or (entry_names entries) k d ≡ (entry_at entries k).name
name_at entries k d inside = get_or-map name_of entries k _ d (omega (arith, length-map entries name_of))

count_names : (entries : List Entry) → length (entry_names entries) ≡ length entries
count_names entries = length-map entries name_of

before-is : (name other : List ℕ) → is_lt (slice_cmp nat_cmp other name) ≡ false → is_same_name name other ≡ false → IsBefore name other
before-is name other up apart = by_cases (slice_cmp nat_cmp name other) refl
  where
    by_cases : (o : Ordering) → slice_cmp nat_cmp name other ≡ o → o ≡ Less
    by_cases Less e = refl
    by_cases Equal e = let same : is_same_name name other ≡ true = texts_ties name other ∙ ap is_eq e in absurd (cc)
    by_cases Greater e = let down : slice_cmp nat_cmp other name ≡ Less = nat_list_cmp_total.antisymm other name ∙ ap ordering_reverse e in let below : is_lt (slice_cmp nat_cmp other name) ≡ true = ap is_lt down in absurd (cc)

few_names : (entries : List Entry) (n : ℕ) → length entries ≡ n → ((k : ℕ) → k < n → IsAdmitted entries k) → n ≤ 1000000
few_names entries zero e pass = omega arith
few_names entries (suc n) e pass = let few : nat_le 1000000 n ≡ false = (pass n (omega arith)).few in grind (arith, nat_tests)

ascends : (entries : List Entry) → AreInOrder entries → ((k : ℕ) → k < length entries → IsAdmitted entries k) → (k : ℕ) → k + 1 < length entries → IsBefore (entry_at entries k).name (entry_at entries (k + 1)).name
ascends entries order pass k inside =
    let names = entry_names entries in
    let last = ends_with_name-some names k (entry_at entries (k + 1)).name (omega (arith, count_names entries)) in
    let once = (pass (k + 1) inside).once in
    let apart : is_same_name (get_or names k []) (entry_at entries (k + 1)).name ≡ false = sym last ∙ rw (← add-one) once in
    before-is (entry_at entries k).name (entry_at entries (k + 1)).name (order k (record { name = []; plain = true }) (omega arith) inside) (ap (λ n. is_same_name n (entry_at entries (k + 1)).name) (sym (name_at entries k [] (omega (arith, count_names entries)))) ∙ apart)

pub sound-is : (root : List ℕ) (entries : List Entry) (files : List PlannedFile) (total index : ℕ) → AreInOrder entries → index ≡ length entries → Passed entries files total index → IsSound (planned root files)
sound-is root entries files total index order whole so_far =
    let pass : (k : ℕ) → k < length entries → IsAdmitted entries k = λ k inside. admitted entries k inside (so_far.passed k (omega arith)) in
    let names : entry_names entries ≡ names_planned files = sym (so_far.named ∙ ap (λ n. take n (entry_names entries)) (whole ∙ sym (count_names entries)) ∙ take-length (entry_names entries)) in
    record {
      few = omega (arith, few_names entries (length entries) refl pass, so_far.counted);
      texts = subst (λ l. All IsUtf8 l) names (λ k d inside. subst IsUtf8 (sym (name_at entries k d inside)) (so_far.texts k (omega (arith, count_names entries))));
      named = subst AreNames names (record {
        relative = λ k d inside. subst (λ n. is_relative_name n ≡ true) (sym (name_at entries k d inside)) (pass k (omega (arith, count_names entries))).relative;
        ascending = λ k d inside.
            subst (λ n. IsBefore n (get_or (entry_names entries) (k + 1) d)) (sym (name_at entries k d (omega arith)))
            (subst (λ n. IsBefore (entry_at entries k).name n) (sym (name_at entries (k + 1) d inside)) (ascends entries order pass k (omega (arith, count_names entries))));
        apart = λ k d inside. subst (λ n. holds_folder_of (entry_names entries) n ≡ false) (sym (name_at entries k d inside)) (pass k (omega (arith, count_names entries))).apart;
      });
      small = omega (arith, so_far.adds, so_far.small);
    }

-- ---- where the shelf tells: the search for the offence has come so far

pub record Followed (files : List File) (planned : List PlannedFile) (index : ℕ) : Type 0 where
  pub offence : offence_from (map listed files) (take index (map listed files)) (drop index (map listed files)) ≡ offence_of_directory files
  pub are : planned ≡ map planned_file (take index files)

pub followed-none : (files : List File) → Followed files [] 0
unfolding offence_of_directory
followed-none files = record { offence = refl; are = refl }

lengths-files : (files : List File) → lengths_planned (map planned_file files) ≡ map (λ file. length file.1) files
lengths-files [] = refl
lengths-files (file ∷ files) = ap (λ lengths. length file.1 ∷ lengths) (lengths-files files)

names-same : (files : List File) → names_of (map listed files) ≡ entry_names (plain_entries files)
names-same [] = refl
names-same (file ∷ files) = ap (λ names. file.0 ∷ names) (names-same files)

total-by : (files : List File) → sum_by (λ e. length e.bytes) (map listed files) ≡ sum_by (λ (file : File). length file.1) files
total-by [] = refl
total-by (file ∷ files) = sum_by-cons (λ (e : Listed). length e.bytes) (listed file) (map listed files) ∙ ap (λ n. length file.1 + n) (total-by files) ∙ sym (sum_by-cons (λ (file : File). length file.1) file files)

total-same : (files : List File) → sum_by (λ e. length e.bytes) (map listed files) ≡ sum (map (λ file. length file.1) files)
total-same files = total-by files ∙ sym (sum-map (λ (file : File). length file.1) files)

listed_at : (files : List File) (index : ℕ) → get_or (map listed files) index (listed no_file) ≡ listed (get_or files index no_file)
listed_at files index = get_or-mapped listed files index no_file

entry_at-file : (files : List File) (index : ℕ) → entry_at (plain_entries files) index ≡ plain_entry (get_or files index no_file)
entry_at-file files index = get_or-mapped plain_entry files index no_file

fault_at : List File → ℕ → Option RefuseWhy
fault_at files index = option_or (fault_by_listing (plain_entries files) index) (fault_by_file (sum (map (λ file. length file.1) (take index files))) (get_or files index no_file).0 (length (get_or files index no_file).1))

rules_at : (files : List File) (index : ℕ) → first_offence (broken_rules (map listed files) (take index (map listed files)) (listed (get_or files index no_file))) ≡ fault_at files index
unfolding fault_at fault_by_listing fault_by_file
rules_at files index =
    let file = get_or files index no_file in
    let before : names_of (take index (map listed files)) ≡ take index (entry_names (plain_entries files)) = sym (take-map (λ (e : Listed). e.name) index (map listed files)) ∙ ap (take index) (names-same files) in
    let total : sum_by (λ (e : Listed). length e.bytes) (take index (map listed files)) ≡ sum (map (λ (file : File). length file.1) (take index files)) = ap (sum_by (λ (e : Listed). length e.bytes)) (take-map listed index files) ∙ total-same (take index files) in
    first_offence-append _ _
    ∙ ap (λ o. option_or o (first_offence (broken_by_file (sum_by (λ (e : Listed). length e.bytes) (take index (map listed files))) file.0 (length file.1))))
    (ap (λ names. first_offence (broken_by_listing names (names_of (take index (map listed files))) file.0 true)) (names-same files)
    ∙ ap (λ names. first_offence (broken_by_listing (entry_names (plain_entries files)) names file.0 true)) before
    ∙ ap (λ (e : Entry). first_offence (broken_by_listing (entry_names (plain_entries files)) (take index (entry_names (plain_entries files))) e.name e.plain)) (sym (entry_at-file files index)))
    ∙ ap (λ n. option_or (first_offence (broken_by_listing (entry_names (plain_entries files)) (take index (entry_names (plain_entries files))) (entry_at (plain_entries files) index).name (entry_at (plain_entries files) index).plain)) (first_offence (broken_by_file n file.0 (length file.1)))) total

offence_at : (files : List File) (index : ℕ) → index < length files
    → offence_from (map listed files) (take index (map listed files)) (drop index (map listed files))
    ≡ or_later (fault_at files index) (get_or files index no_file).0 (offence_from (map listed files) (take (index + 1) (map listed files)) (drop (index + 1) (map listed files)))
unfolding offence_from
offence_at files index inside =
    let all = map listed files in
    let within : index < length all = omega (arith, length-map files listed) in
    let here : drop index all ≡ listed (get_or files index no_file) ∷ drop (suc index) all = drop-cons all index (listed no_file) within ∙ ap (λ e. e ∷ drop (suc index) all) (listed_at files index) in
    let next : take index all ++ listed (get_or files index no_file) ∷ [] ≡ take (suc index) all = ap (λ e. take index all ++ e ∷ []) (sym (listed_at files index)) ∙ sym (take-suc all index (listed no_file) within) in
    rw add-one (ap (offence_from all (take index all)) here
    ∙ ap (λ o. or_later o (get_or files index no_file).0 (offence_from all (take index all ++ listed (get_or files index no_file) ∷ []) (drop (suc index) all))) (rules_at files index)
    ∙ ap (λ b. or_later (fault_at files index) (get_or files index no_file).0 (offence_from all b (drop (suc index) all))) next)

-- the faults of the entry at a place, in the terms of the code
fault_at-is : (files : List File) (entries : List Entry) (planned : List PlannedFile) (total index len : ℕ) → entries ≡ plain_entries files → len ≡ length (get_or files index no_file).1 → sum (lengths_planned planned) ≡ total → planned ≡ map planned_file (take index files)
    → option_or (fault_by_listing entries index) (fault_by_file total (entry_at entries index).name len) ≡ fault_at files index
unfolding fault_at
fault_at-is files entries planned total index len are is adds so_far =
    let sums : total ≡ sum (map (λ (file : File). length file.1) (take index files)) = sym adds ∙ ap (λ l. sum (lengths_planned l)) so_far ∙ ap sum (lengths-files (take index files)) in
    rw (are, is, sums) (ap (λ (e : Entry). option_or (fault_by_listing (plain_entries files) index) (fault_by_file (sum (map (λ (file : File). length file.1) (take index files))) e.name (length (get_or files index no_file).1))) (entry_at-file files index))

pub followed-more : (files : List File) (entries : List Entry) (planned : List PlannedFile) (total index : ℕ) (file : PlannedFile) → entries ≡ plain_entries files → index < length files → file ≡ planned_file (get_or files index no_file)
    → sum (lengths_planned planned) ≡ total → fault_by_listing entries index ≡ None → fault_by_file total (entry_at entries index).name file.length ≡ None → Followed files planned index → Followed files (planned ++ file ∷ []) (index + 1)
unfolding planned_length
followed-more files entries planned total index file are inside is adds listing filed so_far =
    let none : fault_at files index ≡ None = sym (fault_at-is files entries planned total index file.length are (ap planned_length is) adds so_far.are) ∙ rw (listing, filed) refl in
    record {
      offence = sym (offence_at files index inside ∙ ap (λ o. or_later o (get_or files index no_file).0 (offence_from (map listed files) (take (index + 1) (map listed files)) (drop (index + 1) (map listed files)))) none) ∙ so_far.offence;
      are = (λ i. so_far.are i ++ is i ∷ []) ∙ sym (map_more planned_file files index no_file inside);
    }

followed-refused : (files : List File) (entries : List Entry) (planned : List PlannedFile) (total index : ℕ) (why : RefuseWhy) → entries ≡ plain_entries files → index < length files → sum (lengths_planned planned) ≡ total
    → option_or (fault_by_listing entries index) (fault_by_file total (entry_at entries index).name (length (get_or files index no_file).1)) ≡ Some why
    → Followed files planned index → offence_of_directory files ≡ Some ((get_or files index no_file).0, why)
followed-refused files entries planned total index why are inside adds broken so_far =
    let some : fault_at files index ≡ Some why = sym (fault_at-is files entries planned total index _ are refl adds so_far.are) ∙ broken in
    sym so_far.offence ∙ offence_at files index inside ∙ ap (λ o. or_later o (get_or files index no_file).0 (offence_from (map listed files) (take (index + 1) (map listed files)) (drop (index + 1) (map listed files)))) some

-- ---- the answers

rose-earlier : (first before now : ℕ) → first ≤ before → Rose before now → Rose first now
rose-earlier first before now earlier rose = omega arith

count_files : (files : List File) → length (plain_entries files) ≡ length files
count_files files = length-map files plain_entry

-- a told file is plain and stands once, so its faults are others
once-told : (told : Told) (root : List ℕ) (index : ℕ) → index < length (under told root)
    → ends_with_name (take index (entry_names (plain_entries (under told root)))) (entry_at (plain_entries (under told root)) index).name ≡ false
once-told told root zero inside = refl
once-told told root (suc k) inside =
    let files = under told root in
    let entries = plain_entries files in
    let before : (get_or files k no_file).0 ≡ get_or (entry_names entries) k [] = ap name_of (sym (entry_at-file files k)) ∙ sym (name_at entries k [] (omega (arith, count_names entries, count_files files))) in
    let after : (get_or files (suc k) no_file).0 ≡ (entry_at entries (suc k)).name = ap name_of (sym (entry_at-file files (suc k))) in
    let up : slice_cmp nat_cmp (get_or files k no_file).0 (get_or files (suc k) no_file).0 ≡ Less = rw (← add-one) (under-ascending told root k (omega arith)) in
    ends_with_name-some (entry_names entries) k (entry_at entries (suc k)).name (omega (arith, count_names entries, count_files files))
    ∙ ap (λ n. is_same_name n (entry_at entries (suc k)).name) (sym before)
    ∙ ap (is_same_name (get_or files k no_file).0) (sym after)
    ∙ texts_ties (get_or files k no_file).0 (get_or files (suc k) no_file).0
    ∙ ap is_eq up

some-of_plain : (reason why : RefuseWhy) → IsOfPlainFile reason → Some reason ≡ Some why → IsOfPlainFile why
some-of_plain reason why plain e = let same : reason ≡ why = cc in subst IsOfPlainFile same plain

of_plain : (relative under many large film : Bool) (why : RefuseWhy)
    → option_or (cond relative (cond under (Some UnderFile) (cond many (Some TooManyFiles) None)) (Some BadName)) (cond large (Some TooLarge) (cond film (Some Unbuilt) None)) ≡ Some why → IsOfPlainFile why
of_plain false under many large film why e = some-of_plain BadName why tt e
of_plain true true many large film why e = some-of_plain UnderFile why tt e
of_plain true false true large film why e = some-of_plain TooManyFiles why tt e
of_plain true false false true film why e = some-of_plain TooLarge why tt e
of_plain true false false false true why e = some-of_plain Unbuilt why tt e
of_plain true false false false false why e = absurd (cc)

told-of_plain : (told : Told) (root : List ℕ) (index total : ℕ) (name : List ℕ) (len : ℕ) (why : RefuseWhy) → index < length (under told root)
    → option_or (fault_by_listing (plain_entries (under told root)) index) (fault_by_file total name len) ≡ Some why → IsOfPlainFile why
told-of_plain told root index total name len why inside broken =
    let files = under told root in
    let plain = ap (λ (e : Entry). e.plain) (entry_at-file files index) in
    let listing = by_listing (plain_entries files) index true _ false _ _ (omega (arith, count_files files)) plain refl (once-told told root index inside) refl refl in
    let file = by_file total name len _ _ refl refl in
    of_plain (is_relative_name (entry_at (plain_entries files) index).name) (holds_folder_of (entry_names (plain_entries files)) (entry_at (plain_entries files) index).name) (nat_le 1000000 index) (nat_lt (2 ^ 50) (total + len)) (is_film_or_sound name) why
    (rw (← listing, ← file) broken)

pub stopped-is : {S : Type 0} (g : Ghosts S) (old between new : S) (root : List ℕ) (entries : List Entry) (files : List PlannedFile) (total index : ℕ) (error : PackError) → OnlyReads g old between → Lists g old root entries → index < length entries
    → sum (lengths_planned files) ≡ total → (Tells g old → Followed (directory_of g old root) files index) → IsBarred g between new root entries index total error → IsNotPlanned g old new root error
stopped-is g old between new root entries files total index (Refused name why) only are inside adds so_far barred = λ known.
    let told = g.files old in
    let listed = under told root in
    let within : index < length listed = omega (arith, ap length (are known), count_files listed) in
    let here : (entry_at entries index).name ≡ (get_or listed index no_file).0 = ap (λ es. (entry_at es index).name) (are known) ∙ ap name_of (entry_at-file listed index) in
    let measured : length_of (g.files between) (full_name root name) ≡ Some (length (get_or listed index no_file).1) = rw (only.files, barred.named, here) (length_of-under told root index within) in
    let broken = barred.broken (subst IsTold (sym only.files) known) _ measured in
    record {
      first = followed-refused listed entries files total index why (are known) within adds (ap (λ n. option_or (fault_by_listing entries index) (fault_by_file total n (length (get_or listed index no_file).1))) (sym barred.named) ∙ broken) (so_far known)
          ∙ ap (λ n. Some (n, why)) (sym here ∙ sym barred.named);
      plain = told-of_plain told root index total name (length (get_or listed index no_file).1) why within (ap (λ es. option_or (fault_by_listing es index) (fault_by_file total name (length (get_or listed index no_file).1))) (sym (are known)) ∙ broken);
    }
stopped-is g old between new root entries files total index (Missing name) only are inside adds so_far barred = record {
  untold = λ known.
      let told = g.files old in
      let listed = under told root in
      let within : index < length listed = omega (arith, ap length (are known), count_files listed) in
      let here : (entry_at entries index).name ≡ (get_or listed index no_file).0 = ap (λ es. (entry_at es index).name) (are known) ∙ ap name_of (entry_at-file listed index) in
      let measured : length_of (g.files between) (full_name root name) ≡ Some (length (get_or listed index no_file).1) = rw (only.files, barred.named, here) (length_of-under told root index within) in
      let missing = barred.none (subst IsTold (sym only.files) known) in
      absurd (cc);
  relative = subst (λ n. is_relative_name n ≡ true) (sym barred.named) (admitted entries index inside barred.listed).relative;
}
stopped-is g old between new root entries files total index Failed only are inside adds so_far barred = rose-earlier (g.faults old) (g.faults between) (g.faults new) only.faults barred
stopped-is g old between new root entries files total index NoMemory only are inside adds so_far barred = tt
stopped-is g old between new root entries files total index (InTheWay name) only are inside adds so_far barred = barred
stopped-is g old between new root entries files total index (Changed name was len) only are inside adds so_far barred = barred

-- a file that isn't there has the name of an entry
pub names_entry : {S : Type 0} (g : Ghosts S) (between new : S) (root : List ℕ) (entries : List Entry) (total index : ℕ) (error : PackError) → index < length entries → IsBarred g between new root entries index total error → NamesEntry entries error
names_entry g between new root entries total index (Missing name) inside barred =
    subst (Contains (entry_names entries)) (name_at entries index [] (omega (arith, count_names entries)) ∙ sym barred.named) (Contains-get_or (entry_names entries) index [] (omega (arith, count_names entries)))
names_entry g between new root entries total index (Refused name why) inside barred = tt
names_entry g between new root entries total index Failed inside barred = tt
names_entry g between new root entries total index NoMemory inside barred = tt
names_entry g between new root entries total index (InTheWay name) inside barred = tt
names_entry g between new root entries total index (Changed name was len) inside barred = tt

-- one more entry passed, on a shelf that tells
pub followed-next : {S : Type 0} (g : Ghosts S) (old between : S) (root : List ℕ) (entries : List Entry) (files : List PlannedFile) (total index : ℕ) (file : PlannedFile) → OnlyReads g old between → Lists g old root entries → index < length entries
    → sum (lengths_planned files) ≡ total → Admits g between root entries index total file → (Tells g old → Followed (directory_of g old root) files index) → Tells g old → Followed (directory_of g old root) (files ++ file ∷ []) (index + 1)
followed-next g old between root entries files total index file only are inside adds admits so_far known =
    let told = g.files old in
    let listed = under told root in
    let within : index < length listed = omega (arith, ap length (are known), count_files listed) in
    let here : file.name ≡ (get_or listed index no_file).0 = admits.named ∙ ap (λ es. (entry_at es index).name) (are known) ∙ ap name_of (entry_at-file listed index) in
    let whole : length_of (g.files between) (full_name root file.name) ≡ Some (length (get_or listed index no_file).1) = rw (only.files, here) (length_of-under told root index within) in
    let long : file.length ≡ length (get_or listed index no_file).1 = some_same _ _ (sym (admits.measured (subst IsTold (sym only.files) known)) ∙ whole) in
    let filed : fault_by_file total (entry_at entries index).name file.length ≡ None = ap (λ n. fault_by_file total n file.length) (sym admits.named) ∙ admits.filed in
    followed-more listed entries files total index file (are known) within (λ i. record { name = here i; length = long i; kind = admits.kept i }) adds admits.listed filed (so_far known)
  where
    some_same : (x y : ℕ) → Some x ≡ Some y → x ≡ y
    some_same x y e = cc

pub fits-is : (told : Told) (root : List ℕ) (entries : List Entry) (files : List PlannedFile) (index : ℕ) → entries ≡ plain_entries (under told root) → index ≡ length entries → Followed (under told root) files index → Fits told (planned root files)
unfolding offence_from
fits-is told root entries files index are whole so_far =
    let listed_files = under told root in
    let count : index ≡ length listed_files = omega (arith, ap length are, count_files listed_files) in
    let all = map listed listed_files in
    let none : drop index all ≡ [] = drop_of_length-le all {i = index} (omega (arith, length-map listed_files listed)) in
    record {
      in_profile = sym so_far.offence ∙ ap (offence_from all (take index all)) none;
      files = so_far.are ∙ ap (λ n. map planned_file (take n listed_files)) count ∙ ap (map planned_file) (take-length listed_files);
    }

-- a told listing stands in order
not_less : (a b : List ℕ) → slice_cmp nat_cmp a b ≡ Less → is_lt (slice_cmp nat_cmp b a) ≡ false
not_less a b up = ap is_lt (nat_list_cmp_total.antisymm b a ∙ ap ordering_reverse up)

file_name_at : (files : List File) (k : ℕ) (d : Entry) → k < length (plain_entries files) → name_of (get_or (plain_entries files) k d) ≡ (get_or files k no_file).0
file_name_at files k d inside = ap name_of (get_or-map plain_entry files k no_file d (omega (arith, count_files files)))

told_up : (told : Told) (root : List ℕ) (k : ℕ) (d : Entry) → k + 1 < length (plain_entries (under told root))
    → is_lt (slice_cmp nat_cmp (name_of (get_or (plain_entries (under told root)) (k + 1) d)) (name_of (get_or (plain_entries (under told root)) k d))) ≡ false
told_up told root k d inside =
    let files = under told root in
    let before = file_name_at files k d (omega arith) in
    let after = file_name_at files (k + 1) d inside in
    let up = under-ascending told root k (omega (arith, count_files files)) in
    ap (λ n. is_lt (slice_cmp nat_cmp n (name_of (get_or (plain_entries files) k d)))) after
    ∙ ap (λ n. is_lt (slice_cmp nat_cmp (get_or files (k + 1) no_file).0 n)) before
    ∙ not_less (get_or files k no_file).0 (get_or files (k + 1) no_file).0 up

pub told-in_order : (told : Told) (root : List ℕ) → AreInOrder (plain_entries (under told root))
told-in_order told root = λ k d low inside. told_up told root k d inside
