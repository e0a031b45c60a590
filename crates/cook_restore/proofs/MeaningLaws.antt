-- Laws of the meaning of a package: its files one by one, by their records, and the order of their names.
use Rattle.std.proofs.Common.{◌≡◌, ℕ, zero, suc, ◌+◌, ◌<◌, ◌≤◌, Bool, true, false, ◌||◌, List, [], ◌∷◌, length, map, take, drop, get_or, Option, Some, None, Result, Ok, Err, All, refl, sym, ap, ◌∙◌, subst, arith, length-take}
use Rattle.std.specs.List.{list_any}
use Rattle.std.specs.Ordering.{nat_cmp}
use Rattle.std.specs.declared.cmp.Ordering.TheVariants.{Less}
use Rattle.std.specs.Cmp.Lexicographic.{slice_cmp}
use Rattle.std.proofs.lemmas.List.{get_or-take, take-append-drop}
use Rattle.std.proofs.lemmas.List.Elements.{All-take}
use Rattle.std.proofs.lemmas.List.Folds.{list_any-append}
use Rattle.cook_bits.specs.Names.{File, IsRelativeName, holds_folder_of, is_same_name, proper_folders_of}
use Rattle.shelf_core.specs.Told.{no_file}
use Rattle.reversal.specs.SideData.{AreNames, names_of}
use Rattle.reversal.specs.declared.record.FileRecord.{FileRecord}
use Rattle.reversal.specs.declared.error.SideError.{SideError}
use Rattle.reversal.proofs.Found.{names_in_order}
use Rattle.cook_restore.specs.Plain.{plain_read}
use Rattle.cook_restore.proofs.PlainLaws.{plain-read}
use Rattle.cook_restore.specs.Meaning.{Meaning, meaning_of, outline_meant, side_meant, records_meant, files_meant, with_file_meant, content_meant, side_seen}
use Rattle.matroska_read.specs.Outline.{places_of, outline_of}
use Rattle.matroska_read.specs.Places.{Places, Attached, Outline, outline_at}
use Rattle.cook_restore.specs.Restoring.{AreSideRecords, IsMeant, IsEnd}
use Rattle.matroska_read.specs.declared.error.OutlineFault.{OutlineFault}
use Rattle.cook_restore.specs.declared.error.FileWhy.{FileWhy}
use Rattle.cook_restore.specs.declared.error.PackageWhy.{PackageWhy}
use Rattle.cook_restore.specs.declared.error.PackageWhy.TheVariants as faults
use Rattle.matroska_read.specs.PlacesLaws.{outline-is}

abbrev pub Find : Type 0
Find = FileRecord → Result (List ℕ) FileWhy

-- ---- the files of records, one by one

first-meant : (r : FileRecord) (o : Result (List ℕ) FileWhy) (rest : Meaning) (content : List ℕ) → o ≡ Ok content → (0 < length (with_file_meant r o rest).files) × (get_or (with_file_meant r o rest).files 0 no_file ≡ (r.name, content))
unfolding with_file_meant
first-meant r (Ok found) rest content is = (omega arith, cc)
first-meant r (Err why) rest content is = absurd cc

later-meant : (r : FileRecord) (o : Result (List ℕ) FileWhy) (rest : Meaning) (k : ℕ) (file : File) → suc k ≤ length (with_file_meant r o rest).files → (k ≤ length rest.files → (k < length rest.files) × (get_or rest.files k no_file ≡ file))
    → (suc k < length (with_file_meant r o rest).files) × (get_or (with_file_meant r o rest).files (suc k) no_file ≡ file)
unfolding with_file_meant
later-meant r (Ok found) rest k file sound behind = let next = behind (omega (arith, sound)) in (omega (arith, next.0), next.1)
later-meant r (Err why) rest k file sound behind = absurd (omega (arith, sound))

-- a record whose file is good is the next of the meaning
pub meant-next : (find : Find) (records : List FileRecord) (k : ℕ) (d : FileRecord) (content : List ℕ) → k < length records → k ≤ length (files_meant find records).files → find (get_or records k d) ≡ Ok content → IsMeant (files_meant find records) k (get_or records k d).name content
unfolding files_meant
meant-next find [] k d content inside sound found = absurd (omega arith)
meant-next find (r ∷ records) zero d content inside sound found = let next = first-meant r (find r) (files_meant find records) content found in record { within = next.0; is = next.1 }
meant-next find (r ∷ records) (suc k) d content inside sound found =
    let next = later-meant r (find r) (files_meant find records) k ((get_or records k d).name, content) sound (λ s. let behind = meant-next find records k d content (omega arith) s found in (behind.within, behind.is)) in
    record { within = next.0; is = next.1 }

first-end : (r : FileRecord) (o : Result (List ℕ) FileWhy) (rest : Meaning) (why : FileWhy) → o ≡ Err why → IsEnd (with_file_meant r o rest) 0 (Some (faults.File r.name why))
unfolding with_file_meant
first-end r (Ok found) rest why is = absurd cc
first-end r (Err other) rest why is = record { files = refl; end = let same : other ≡ why = cc in ap (λ w. Some (faults.File r.name w)) same }

later-end : (r : FileRecord) (o : Result (List ℕ) FileWhy) (rest : Meaning) (k : ℕ) (last : Option PackageWhy) → suc k ≤ length (with_file_meant r o rest).files → (k ≤ length rest.files → IsEnd rest k last) → IsEnd (with_file_meant r o rest) (suc k) last
unfolding with_file_meant
later-end r (Ok found) rest k last sound behind = let end = behind (omega (arith, sound)) in record { files = omega (arith, end.files); end = end.end }
later-end r (Err why) rest k last sound behind = absurd (omega (arith, sound))

-- a record whose file is faulty is the end of it
pub meant-fault : (find : Find) (records : List FileRecord) (k : ℕ) (d : FileRecord) (why : FileWhy) → k < length records → k ≤ length (files_meant find records).files → find (get_or records k d) ≡ Err why → IsEnd (files_meant find records) k (Some (faults.File (get_or records k d).name why))
unfolding files_meant
meant-fault find [] k d why inside sound found = absurd (omega arith)
meant-fault find (r ∷ records) zero d why inside sound found = first-end r (find r) (files_meant find records) why found
meant-fault find (r ∷ records) (suc k) d why inside sound found =
    later-end r (find r) (files_meant find records) k _ sound (λ s. meant-fault find records k d why (omega arith) s found)

-- behind all records it is whole
pub meant-whole : (find : Find) (records : List FileRecord) (k : ℕ) → length records ≤ k → k ≤ length (files_meant find records).files → IsEnd (files_meant find records) k None
unfolding files_meant
meant-whole find [] k through sound = record { files = omega (arith, sound); end = refl }
meant-whole find (r ∷ records) zero through sound = absurd (omega (arith, through))
meant-whole find (r ∷ records) (suc k) through sound = later-end r (find r) (files_meant find records) k None sound (λ s. meant-whole find records k (omega (arith, through)) s)

-- ---- the names of the files

names-with : (r : FileRecord) (o : Result (List ℕ) FileWhy) (rest : Meaning) (names : List (List ℕ)) → map (λ (file : File). file.0) rest.files ≡ take (length rest.files) names
    → map (λ (file : File). file.0) (with_file_meant r o rest).files ≡ take (length (with_file_meant r o rest).files) (r.name ∷ names)
unfolding with_file_meant
names-with r (Ok found) rest names is = ap (λ l. r.name ∷ l) is
names-with r (Err why) rest names is = refl

-- they are those of the first records
names-meant : (find : Find) (records : List FileRecord) → map (λ (file : File). file.0) (files_meant find records).files ≡ take (length (files_meant find records).files) (names_of records)
unfolding files_meant
names-meant find [] = refl
names-meant find (r ∷ records) = names-with r (find r) (files_meant find records) (names_of records) (names-meant find records)

neither : (a b : Bool) → (a || b) ≡ false → (a ≡ false) × (b ≡ false)
neither true b is = absurd cc
neither false b is = (refl, is)

none-in-front : (p : List ℕ → Bool) (n : ℕ) (names : List (List ℕ)) → list_any p names ≡ false → list_any p (take n names) ≡ false
none-in-front p n names none =
    (neither (list_any p (take n names)) (list_any p (drop n names)) (sym (list_any-append p (take n names) (drop n names)) ∙ ap (list_any p) (take-append-drop n names) ∙ none)).0

no-folder-in-front : (n : ℕ) (names folders : List (List ℕ)) → list_any (λ folder. list_any (is_same_name folder) names) folders ≡ false → list_any (λ folder. list_any (is_same_name folder) (take n names)) folders ≡ false
no-folder-in-front n names [] none = refl
no-folder-in-front n names (folder ∷ folders) none =
    let both = neither (list_any (is_same_name folder) names) (list_any (λ f. list_any (is_same_name f) names) folders) none in
    rw (none-in-front (is_same_name folder) n names both.0) (no-folder-in-front n names folders both.1)

holds-front : (n : ℕ) (names : List (List ℕ)) (name : List ℕ) → holds_folder_of names name ≡ false → holds_folder_of (take n names) name ≡ false
unfolding holds_folder_of
holds-front n names name none = no-folder-in-front n names (proper_folders_of name) none

All-map : {A : Type 0} (P Q : A → Type 0) (xs : List A) → ((x : A) → P x → Q x) → All P xs → All Q xs
All-map P Q xs step all = λ i d inside. step (get_or xs i d) (all i d inside)

-- the first of some names in order are in order
front-in-order : (n : ℕ) (names : List (List ℕ)) → AreNames names → AreNames (take n names)
front-in-order n names are = record {
  relative = All-take IsRelativeName n names are.relative;
  ascending = λ i d inside.
      let short : length (take n names) ≤ length names = omega (arith, length-take n names) in
      let within : i + 1 < n = omega (arith, inside, length-take n names) in
      subst (λ a. slice_cmp nat_cmp a (get_or (take n names) (i + 1) d) ≡ Less) (sym (get_or-take n names i d (omega arith)))
      (subst (λ b. slice_cmp nat_cmp (get_or names i d) b ≡ Less) (sym (get_or-take n names (i + 1) d within)) (are.ascending i d (omega (arith, inside, short))));
  apart = All-map (λ name. holds_folder_of names name ≡ false) (λ name. holds_folder_of (take n names) name ≡ false) (take n names) (λ name none. holds-front n names name none) (All-take (λ name. holds_folder_of names name ≡ false) n names are.apart);
}

no-names : AreNames []
no-names = front-in-order 0 [] (record { relative = λ i d inside. absurd (omega arith); ascending = λ i d inside. absurd (omega arith); apart = λ i d inside. absurd (omega arith) })

abbrev AreInOrder : Meaning → Type 0
AreInOrder meaning = AreNames (map (λ (file : File). file.0) meaning.files)

records-in-order : (outline : Outline) (side : List ℕ) (o : Result (List FileRecord) SideError) → plain_read side ≡ o → AreInOrder (records_meant outline o)
unfolding records_meant
records-in-order outline side (Ok records) is = subst AreNames (sym (names-meant (content_meant outline) records)) (front-in-order _ (names_of records) (names_in_order side records (plain-read side records is)))
records-in-order outline side (Err error) is = no-names

side-in-order : (outline : Outline) (o : Option Attached) → AreInOrder (side_meant outline o)
unfolding side_meant
side-in-order outline None = no-names
side-in-order outline (Some side) = records-in-order outline side.content (plain_read side.content) refl

outline-in-order : (o : Result Outline OutlineFault) → AreInOrder (outline_meant o)
unfolding outline_meant
outline-in-order (Ok outline) = side-in-order outline (side_seen outline.files)
outline-in-order (Err fault) = no-names

-- the names of the files that a package means are relative, rise, and none is under another
pub files_in_order : (bytes : List ℕ) → AreNames (map (λ (file : File). file.0) (meaning_of bytes).files)
unfolding meaning_of
files_in_order bytes = outline-in-order (outline_of bytes)

-- ---- the meaning by the outline and the records

pub meaning-by : (bytes : List ℕ) (outline : Outline) (records : List FileRecord) → outline_of bytes ≡ Ok outline → AreSideRecords outline records → meaning_of bytes ≡ files_meant (content_meant outline) records
unfolding meaning_of outline_meant side_meant records_meant
meaning-by bytes outline records outlined are = rw (outlined, are.is_side, are.read) refl

pub meaning-is : (bytes : List ℕ) (places : Places) (records : List FileRecord) → places_of bytes ≡ Ok places → AreSideRecords (outline_at places bytes) records → meaning_of bytes ≡ files_meant (content_meant (outline_at places bytes)) records
meaning-is bytes places records outlined are = meaning-by bytes (outline_at places bytes) records (outline-is bytes places outlined) are
