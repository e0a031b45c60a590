-- Lengths of the attachments of a package.
use Rattle.std.proofs.Common.{◌≡◌, ℕ, ◌+◌, ◌*◌, ◌^◌, ◌≤◌, Bool, true, false, List, [], ◌∷◌, ◌++◌, length, map, All, refl, ap, arith, length-append}
use Rattle.std.specs.List.{sum_by, AllByRecursion}
use Rattle.std.proofs.lemmas.List.{length-map}
use Rattle.std.proofs.lemmas.List.Elements.{All-map, All-from_recursion, recursion_from_All}
use Rattle.std.proofs.lemmas.List.Sums.{sum_by-cons, sum_by-le}
use Rattle.md5.proofs.StandardFacts.{length-md5}
use Rattle.cook_bits.specs.Names.{File, IsRelativeName}
use Rattle.ebml_core.specs.Element.{element}
use Rattle.ebml_core.specs.Heads.{length-element, length-head_of-le, length-uint_element-le}
use Rattle.matroska_names.specs.declared.ids.TheConstants.{ATTACHED_FILE, FILE_DATA, FILE_MEDIA_TYPE, FILE_NAME, FILE_UID}
use Rattle.matroska_names.specs.declared.texts.TheConstants.{SIDE_NAME}
use Rattle.matroska_write.specs.Attached.{media_type, attached_fields, attached_file}
use Rattle.matroska_write.specs.AttachedLaws.{length-attached_fields}
use Rattle.reversal.specs.SideData.{HasSum, IsOther, names_of, side_data_len, side_data_of}
use Rattle.reversal.specs.Lengths.{length_of_others}
use Rattle.cook_pack.specs.Package.{attached_from, attachments_of, other_record}
use Rattle.cook_pack.proofs.PlannedLaws.{others-all, short_name}
use Rattle.cook_top.specs.RoundTrip.{file_names}
use Rattle.cook_top.proofs.ProfileLaws.{Keeps}

-- ---- of one attachment

pub short_media : (side : Bool) → length (media_type side) ≤ 24
short_media true = let count : length (media_type true) ≡ 22 = refl in omega arith
short_media false = let count : length (media_type false) ≡ 24 = refl in omega arith

-- the content of an AttachedFile
abbrev pub attached_content : List ℕ → Bool → ℕ → List ℕ → List ℕ
attached_content name side uid content = attached_fields name side uid ++ element FILE_DATA content

pub length-attached_content-le : (name : List ℕ) (side : Bool) (uid : ℕ) (content : List ℕ) → length (attached_content name side uid content) ≤ length name + length content + 80
length-attached_content-le name side uid content =
    omega (
      arith,
      length-append (attached_fields name side uid) (element FILE_DATA content),
      length-attached_fields name side uid,
      length-element FILE_DATA content,
      short_media side,
      length-head_of-le FILE_NAME (length name) (omega arith),
      length-head_of-le FILE_MEDIA_TYPE (length (media_type side)) (omega arith),
      length-uint_element-le FILE_UID uid (omega arith),
      length-head_of-le FILE_DATA (length content) (omega arith),
    )

pub length-attached_file-le : (name : List ℕ) (side : Bool) (uid : ℕ) (content : List ℕ) → length (attached_file name side uid content) ≤ length name + length content + 92
unfolding attached_file
length-attached_file-le name side uid content =
    omega (arith, length-element ATTACHED_FILE (attached_content name side uid content), length-head_of-le ATTACHED_FILE (length (attached_content name side uid content)) (omega arith), length-attached_content-le name side uid content)

-- ---- of all

content_len : File → ℕ
content_len file = length file.1

-- a file whose name and content are short enough for an attachment
pub record IsSmall (file : File) : Type 0 where
  pub name : length file.0 ≤ 1024
  pub content : length file.1 ≤ 2 ^ 50

are_small : (directory : List File) → AllByRecursion IsRelativeName (file_names directory) → sum_by content_len directory ≤ 2 ^ 50 → AllByRecursion IsSmall directory
unfolding content_len
are_small [] relative small = tt
are_small (file ∷ files) relative small =
    let adds : sum_by content_len (file ∷ files) ≡ length file.1 + sum_by content_len files = sum_by-cons content_len file files in
    (record { name = short_name file.0 relative.0; content = omega arith }, are_small files relative.1 (omega arith))

length-attached_from-le : (uid : ℕ) (directory : List File) → AllByRecursion IsSmall directory → length (attached_from uid directory) ≤ sum_by content_len directory + 1116 * length directory
unfolding attached_from content_len
length-attached_from-le uid [] small = omega arith
length-attached_from-le uid (file ∷ files) small =
    let adds : sum_by content_len (file ∷ files) ≡ length file.1 + sum_by content_len files = sum_by-cons content_len file files in
    omega (arith, small.0.name, length-append (attached_file file.0 false uid file.1) (attached_from (uid + 1) files), length-attached_file-le file.0 false uid file.1, length-attached_from-le (uid + 1) files small.1)

pub names-recorded : (directory : List File) → names_of (map other_record directory) ≡ file_names directory
names-recorded [] = refl
names-recorded (file ∷ files) = ap (λ rest. file.0 ∷ rest) (names-recorded files)

named_len : List ℕ → ℕ
named_len name = 27 + length name

short_names : (names : List (List ℕ)) → AllByRecursion IsRelativeName names → AllByRecursion (λ name. named_len name ≤ 1051) names
unfolding named_len
short_names [] relative = tt
short_names (name ∷ names) relative = ((let short = short_name name relative.0 in omega arith), short_names names relative.1)

side_data_len-le : (names : List (List ℕ)) → AllByRecursion IsRelativeName names → side_data_len names ≤ 12 + length names * 1051
unfolding side_data_len named_len
side_data_len-le names relative =
    let adds : sum_by named_len names ≤ length names * 1051 = sum_by-le named_len 1051 names (All-from_recursion (λ name. named_len name ≤ 1051) names (short_names names relative)) in
    omega (arith, adds)

pub length-side_data-le : (directory : List File) → All IsRelativeName (file_names directory) → length (side_data_of (map other_record directory)) ≤ 12 + length directory * 1051
length-side_data-le directory relative =
    let others : All IsOther (map other_record directory) = All-map IsOther other_record directory (λ k d h. refl) in
    let summed : All HasSum (map other_record directory) = All-map HasSum other_record directory (λ k d h. length-md5 _) in
    let count : length (file_names directory) ≡ length directory = length-map directory (λ (file : File). file.0) in
    let most = side_data_len-le (file_names directory) (recursion_from_All IsRelativeName _ relative) in
    omega (arith, length_of_others (map other_record directory) others summed, ap side_data_len (names-recorded directory))

-- ---- the side data behind them

-- the side data as the content of an AttachedFile
abbrev pub side_content : List File → List ℕ
side_content directory = attached_content SIDE_NAME.now true (length directory + 1) (side_data_of (map other_record directory))

-- at this stage each file is attached as it is
unfoldable pub with_side : (directory others : List File) → List ℕ
with_side directory others = attached_from 1 others ++ attached_file SIDE_NAME.now true (length others + 1) (side_data_of (map other_record directory))

pub attachments-flat : (directory : List File) → attachments_of directory ≡ with_side directory directory
unfolding attachments_of with_side
attachments-flat directory = ap (with_side directory) (others-all directory)

pub length-side_content-le : (directory : List File) → Keeps directory → length (side_content directory) ≤ 1051000100
length-side_content-le directory keeps =
    let count : length SIDE_NAME.now ≡ 8 = refl in
    omega (arith, keeps.few, length-side_data-le directory keeps.relative, length-attached_content-le SIDE_NAME.now true (length directory + 1) (side_data_of (map other_record directory)))

pub small_files : (directory : List File) → Keeps directory → AllByRecursion IsSmall directory
unfolding content_len
small_files directory keeps = are_small directory (recursion_from_All IsRelativeName _ keeps.relative) keeps.small

pub length-attachments-le : (directory : List File) → Keeps directory → length (attachments_of directory) ≤ 2 ^ 51
unfolding with_side content_len
length-attachments-le directory keeps =
    let count : length SIDE_NAME.now ≡ 8 = refl in
    omega (
      arith,
      ap length (attachments-flat directory),
      keeps.few,
      keeps.small,
      length-attached_from-le 1 directory (small_files directory keeps),
      length-side_data-le directory keeps.relative,
      length-append (attached_from 1 directory) (attached_file SIDE_NAME.now true (length directory + 1) (side_data_of (map other_record directory))),
      length-attached_file-le SIDE_NAME.now true (length directory + 1) (side_data_of (map other_record directory)),
    )
