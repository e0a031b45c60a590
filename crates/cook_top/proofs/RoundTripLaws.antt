-- What the package of a directory gives back.
use Rattle.std.proofs.Common.{◌≡◌, ℕ, ◌≤◌, true, false, List, [], ◌∷◌, ◌++◌, length, map, Some, None, Result, Ok, IsUtf8, refl, sym, ap, ◌∙◌, subst, arith, ◌==◌}
use Rattle.std.proofs.lemmas.Bool.Decides.{nat_tests}
use Rattle.std.specs.Ordering.{nat_cmp, is_eq}
use Rattle.std.specs.declared.cmp.Ordering.TheVariants.{Less}
use Rattle.std.specs.Cmp.{tied_itself}
use Rattle.std.specs.Cmp.Lexicographic.{slice_cmp, nat_list_cmp_total, texts_ties}
use Rattle.std.specs.List.{AllByRecursion}
use Rattle.std.specs.List.Sorted.{IsStrictlySortedBy}
use Rattle.std.proofs.lemmas.List.{length-map}
use Rattle.std.proofs.lemmas.List.Elements.{All-from_recursion, recursion_from_All}
use Rattle.std.proofs.lemmas.Map.Keys.{sorted_from_all_adjacent}
use Rattle.md5.specs.Md5.{md5}
use Rattle.md5.proofs.StandardFacts.{length-md5}
use Rattle.cook_bits.specs.Names.{File, is_same_name}
use Rattle.reversal.specs.declared.record.FileRecord.{FileRecord}
use Rattle.reversal.specs.SideData.{HasShape, IsOther, FitsTypes, AreNames, AreRecords, names_of, side_data_of}
use Rattle.reversal.proofs.Round.{read_again}
use Rattle.cook_restore.specs.Plain.{plain_read}
use Rattle.cook_restore.proofs.PlainLaws.{plain-all}
use Rattle.cook_pack.specs.Offence.{IsInProfile}
use Rattle.cook_pack.specs.Package.{package_of, other_record}
use Rattle.cook_pack.proofs.PlannedLaws.{others-all}
use Rattle.matroska_read.specs.Places.{Attached, Outline}
use Rattle.cook_restore.specs.declared.error.FileWhy.{FileWhy}
use Rattle.cook_restore.specs.Meaning.{side_seen, others_seen, seen_as, checked, content_of_file, content_meant, with_file_meant, files_meant, records_meant, side_meant, outline_meant, meaning_of}
use Rattle.matroska_read.specs.Outline.{outline_of}
use Rattle.cook_top.specs.RoundTrip.{file_names, IsDirectory, shown_file, shown_side, outline_shown}
use Rattle.cook_top.proofs.ProfileLaws.{Keeps, keeps}
use Rattle.cook_top.proofs.AttachmentLengths.{IsSmall, small_files, names-recorded}
use Rattle.matroska_read.specs.Spelled.{SpelledIsOutline}
use Rattle.cook_top.proofs.PackageLaws.{package_shows}

-- ---- the side data is apart from the files

side_last : (directory : List File) (records : List FileRecord) → side_seen (map shown_file directory ++ shown_side records ∷ []) ≡ Some (shown_side records)
unfolding side_seen
side_last [] records = refl
side_last (file ∷ directory) records = side_last directory records

others_last : (directory : List File) (records : List FileRecord) → others_seen (map shown_file directory ++ shown_side records ∷ []) ≡ map shown_file directory
unfolding others_seen
others_last [] records = refl
others_last (file ∷ directory) records = ap (λ (l : List Attached). shown_file file ∷ l) (others_last directory records)

-- ---- each file is found by its name

same_name : (name : List ℕ) → is_same_name name name ≡ true
same_name name = texts_ties name name ∙ ap is_eq (tied_itself nat_list_cmp_total name)

other_name : (name other : List ℕ) → slice_cmp nat_cmp name other ≡ Less → is_same_name name other ≡ false
other_name name other before = texts_ties name other ∙ ap is_eq before

-- what is attached under the name of a file is the file
IsFound : List Attached → File → Type 0
IsFound files file = seen_as file.0 files ≡ Some (shown_file file)

found_here : (file : File) (files : List Attached) → IsFound (shown_file file ∷ files) file
unfolding IsFound seen_as
found_here file files = rw (same_name file.0) refl

found_behind : (first file : File) (files : List Attached) → is_same_name first.0 file.0 ≡ false → IsFound files file → IsFound (shown_file first ∷ files) file
unfolding IsFound seen_as
found_behind first file files apart found = rw apart found

all_behind : (first : File) (files : List Attached) (directory : List File) → AllByRecursion (λ other. slice_cmp nat_cmp first.0 other ≡ Less) (file_names directory) → AllByRecursion (IsFound files) directory → AllByRecursion (IsFound (shown_file first ∷ files)) directory
all_behind first files [] before found = tt
all_behind first files (file ∷ directory) before found = (found_behind first file files (other_name first.0 file.0 before.0) found.0, all_behind first files directory before.1 found.1)

all_found : (directory : List File) → IsStrictlySortedBy (slice_cmp nat_cmp) (file_names directory) → AllByRecursion (IsFound (map shown_file directory)) directory
unfolding IsStrictlySortedBy
all_found [] sorted = tt
all_found (file ∷ directory) sorted = (found_here file (map shown_file directory), all_behind file (map shown_file directory) directory sorted.0 (all_found directory sorted.1))

-- ---- each file is given back

content_checked : (file : File) → checked (other_record file) file.1 ≡ Ok file.1
unfolding checked
content_checked file =
    let same : (length file.1 == length file.1) ≡ true = grind (arith, nat_tests) in
    rw (same, same_name (md5 file.1)) refl

Gives : (FileRecord → Result (List ℕ) FileWhy) → File → Type 0
Gives find file = find (other_record file) ≡ Ok file.1

content_given : (outline : Outline) (files : List Attached) (file : File) → others_seen outline.files ≡ files → IsFound files file → Gives (content_meant outline) file
unfolding content_meant content_of_file IsFound Gives
content_given outline files file others found = rw (others, found) (content_checked file)

all_given : (outline : Outline) (files : List Attached) (directory : List File) → others_seen outline.files ≡ files → AllByRecursion (IsFound files) directory → AllByRecursion (Gives (content_meant outline)) directory
all_given outline files [] others found = tt
all_given outline files (file ∷ directory) others found = (content_given outline files file others found.0, all_given outline files directory others found.1)

files_given : (find : FileRecord → Result (List ℕ) FileWhy) (directory : List File) → AllByRecursion (Gives find) directory → files_meant find (map other_record directory) ≡ record { files = directory; end = None }
unfolding files_meant with_file_meant Gives
files_given find [] given = refl
files_given find (file ∷ directory) given = rw (given.0, files_given find directory given.1) refl

-- ---- the side data is read

plain : (directory : List File) → AllByRecursion IsOther (map other_record directory)
plain [] = tt
plain (file ∷ directory) = (refl, plain directory)

shapes : (directory : List File) → AllByRecursion IsSmall directory → AllByRecursion HasShape (map other_record directory)
shapes [] small = tt
shapes (file ∷ directory) small = (record { parts = record { no_head = refl; no_pads = refl; no_tail = refl }; in_two = let short = small.0.name in omega arith }, shapes directory small.1)

types : (directory : List File) → AllByRecursion IsSmall directory → AllByRecursion IsUtf8 (file_names directory) → AllByRecursion FitsTypes (map other_record directory)
types [] small texts = tt
types (file ∷ directory) small texts =
    (record { text = texts.0; in_eight = let short = small.0.content in omega arith; sixteen = length-md5 file.1; head_in_eight = omega arith; tail_in_eight = omega arith }, types directory small.1 texts.1)

records_named : (directory : List File) → IsDirectory directory → Keeps directory → AreNames (names_of (map other_record directory))
records_named directory is keeps =
    subst AreNames (sym (names-recorded directory)) (record { relative = keeps.relative; ascending = is.ascending; apart = keeps.apart })

are_records : (directory : List File) → IsDirectory directory → Keeps directory → AreRecords (map other_record directory)
are_records directory is keeps = record {
  few = omega (arith, keeps.few, length-map directory other_record);
  shaped = All-from_recursion HasShape _ (shapes directory (small_files directory keeps));
  named = records_named directory is keeps;
}

side_read_again : (directory : List File) → IsDirectory directory → Keeps directory → plain_read (side_data_of (map other_record directory)) ≡ Ok (map other_record directory)
side_read_again directory is keeps =
    plain-all (side_data_of (map other_record directory)) (map other_record directory) (plain directory)
    (read_again (map other_record directory) (are_records directory is keeps) (All-from_recursion FitsTypes _ (types directory (small_files directory keeps) (recursion_from_All IsUtf8 _ is.texts))))

-- ---- the whole

meaning_by : (bytes : List ℕ) (outline : Outline) (side : Attached) (records : List FileRecord) → outline_of bytes ≡ Ok outline → side_seen outline.files ≡ Some side → plain_read side.content ≡ Ok records → meaning_of bytes ≡ files_meant (content_meant outline) records
unfolding meaning_of outline_meant side_meant records_meant
meaning_by bytes outline side records outlined of_side read = rw (outlined, of_side, read) refl

-- what a package shows whose files all are attached
shown_files : (directory : List File) (rate : ℕ) → (outline_shown directory rate).files ≡ map shown_file directory ++ shown_side (map other_record directory) ∷ []
unfolding outline_shown
shown_files directory rate = ap (λ (l : List File). map shown_file l ++ shown_side (map other_record directory) ∷ []) (others-all directory)

shown_means : (bytes : List ℕ) (directory : List File) (rate : ℕ) → IsDirectory directory → Keeps directory → outline_of bytes ≡ Ok (outline_shown directory rate) → meaning_of bytes ≡ record { files = directory; end = None }
shown_means bytes directory rate is keeps shown =
    let outline = outline_shown directory rate in
    let records = map other_record directory in
    let of_side = ap side_seen (shown_files directory rate) ∙ side_last directory records in
    let others = ap others_seen (shown_files directory rate) ∙ others_last directory records in
    let sorted = sorted_from_all_adjacent nat_list_cmp_total (file_names directory) [] (λ k h. is.ascending k [] h) in
    meaning_by bytes outline (shown_side records) records shown of_side (side_read_again directory is keeps)
    ∙ files_given (content_meant outline) directory (all_given outline (map shown_file directory) directory others (all_found directory sorted))

pub package_means : SpelledIsOutline → (directory : List File) (rate : ℕ) → IsDirectory directory → IsInProfile directory → 1 ≤ rate → rate ≤ 240 → meaning_of (package_of directory rate) ≡ record { files = directory; end = None }
package_means spelled directory rate is profile low high = shown_means (package_of directory rate) directory rate is (keeps directory profile) (package_shows spelled directory rate profile low high)
