-- Laws of the side data as an attachment, of the records behind it, and of a package that is appended in parts.
use Rattle.std.proofs.Common.{◌≡◌, ℕ, suc, ◌+◌, ◌*◌, ◌<◌, ◌≤◌, ◌^◌, true, List, [], ◌∷◌, ◌++◌, length, map, All, sum_by, refl, sym, ap, ◌∙◌, subst, arith, lit≤}
use Rattle.std.proofs.lemmas.List.{length-map}
use Rattle.std.proofs.lemmas.List.Sums.{sum_by-cons}
use Rattle.matroska_names.specs.declared.texts.TheConstants.{SIDE_NAME}
use Rattle.cook_bits.specs.Names.{File, IsRelativeName}
use Rattle.shelf_core.specs.Told.{Told, IsTold, content}
use Rattle.reversal.specs.declared.record.FileRecord.{FileRecord}
use Rattle.reversal.specs.SideData.{AreRecords, AreNames, names_of, side_data_len, side_data_of}
use Rattle.reversal.specs.Lengths.{names_long, plain-shapes}
use Rattle.ebml_core.specs.Element.{element, head_of, uint_element, uint_bytes, size_bytes, shortest_size, byte_count, least_from}
use Rattle.ebml_core.specs.Heads.{length-head_of-le}
use Rattle.matroska_names.specs.declared.ids.TheConstants.{ATTACHMENTS}
use Rattle.cook_pack.specs.declared.planned_file.PlannedFile.{PlannedFile}
use Rattle.cook_pack.specs.Attaching.{AreTheRecords, file_of, planned_files}
use Rattle.matroska_write.specs.Attached.{attached_head, attached_file, attachments_head}
use Rattle.matroska_write.specs.Header.{header_bytes, ebml_content, info_content}
use Rattle.cook_pack.specs.Planned.{Planned, IsSound, names_planned}
use Rattle.cook_pack.specs.Package.{attached_from, attachments_bytes, attachments_of, others_of, other_record, package_of, records_of, side_attached}
use Rattle.matroska_write.specs.AttachedLaws.{attached_file-is}
use Rattle.cook_pack.proofs.PlannedLaws.{short_name, others-all}

short_step : (len total count : ℕ) → len ≤ 1024 → total ≤ 1051 * count → 27 + len + total ≤ 1051 * suc count
short_step len total count short rest = omega arith

short_sum : (names : List (List ℕ)) → All IsRelativeName names → sum_by (λ name. 27 + length name) names ≤ 1051 * length names
short_sum [] relative = omega arith
short_sum (name ∷ names) relative = rw (sum_by-cons (λ (n : List ℕ). 27 + length n) name names) (short_step (length name) (sum_by (λ n. 27 + length n) names) (length names) (short_name name (relative 0 name (omega arith))) (short_sum names (λ k d h. relative (suc k) d (omega arith))))

-- side data is short
pub side_data_len-le : (names : List (List ℕ)) → All IsRelativeName names → length names ≤ 1000000 → side_data_len names < 2 ^ 52
unfolding side_data_len
side_data_len-le names relative few = omega (arith, short_sum names relative)

-- the head and the side data are the attachment
pub side_attached-is : (uid len : ℕ) (records : List FileRecord) (head side : List ℕ) → head ≡ attached_head SIDE_NAME.now true uid len → len ≡ length side → side ≡ side_data_of records → head ++ side ≡ side_attached uid records
side_attached-is uid len records head side is long spelled =
    ap (λ h. h ++ side) (is ∙ ap (attached_head SIDE_NAME.now true uid) long)
    ∙ sym (attached_file-is SIDE_NAME.now true uid side) ∙ ap (attached_file SIDE_NAME.now true uid) spelled

-- ---- the records

pub names-planned : (told : Told) (plan : Planned) → map (λ file. file.0) (planned_files told plan) ≡ names_planned plan.files
unfolding planned_files
names-planned told plan = back plan.files
  where
    back : (files : List PlannedFile) → map (λ (file : File). file.0) (map (file_of told plan.root) files) ≡ names_planned files
    back [] = refl
    back (file ∷ files) = ap (λ rest. file.name ∷ rest) (back files)

names-others : (told : Told) (plan : Planned) (records : List FileRecord) → AreTheRecords told (others_of (planned_files told plan)) records → names_of records ≡ names_planned plan.files
names-others told plan records of = of.named ∙ ap (map (λ (file : File). file.0)) (others-all (planned_files told plan)) ∙ names-planned told plan

pub length-records : (told : Told) (plan : Planned) (records : List FileRecord) → AreTheRecords told (others_of (planned_files told plan)) records → length records ≡ length (others_of (planned_files told plan))
length-records told plan records of = sym (names_long records) ∙ ap length of.named ∙ length-map (others_of (planned_files told plan)) (λ (file : File). file.0)

pub few-records : (told : Told) (plan : Planned) (records : List FileRecord) → IsSound plan → AreTheRecords told (others_of (planned_files told plan)) records → length records ≤ 1000000
few-records told plan records sound of = omega (arith, names_long records, ap length (names-others told plan records of), length-map plan.files (λ (file : PlannedFile). file.name), sound.few)

-- they have a spelling
pub records-are : (told : Told) (plan : Planned) (records : List FileRecord) → IsSound plan → AreTheRecords told (others_of (planned_files told plan)) records → AreRecords records
records-are told plan records sound of = record {
  few = omega (arith, few-records told plan records sound of);
  shaped = plain-shapes records of.plain;
  named = subst AreNames (sym (names-others told plan records of)) sound.named;
}

-- those of the other files are all
pub records-whole : (told : Told) (files : List File) (records : List FileRecord) → AreTheRecords told (others_of files) records → IsTold told → records ≡ records_of files
records-whole told files records of known = of.whole known ∙ ap (map other_record) (others-all files)

-- ---- the parts

-- both parts are the attachments
pub attachments-is : (files : List File) (uid : ℕ) (records : List FileRecord) → uid ≡ length (others_of files) + 1 → records ≡ records_of files → attached_from 1 (others_of files) ++ side_attached uid records ≡ attachments_of files
unfolding attachments_of
attachments-is files uid records numbered is = λ i. attached_from 1 (others_of files) ++ side_attached (numbered i) (is i)

-- the head and the attachments are the element
pub attachments_bytes-is : (files : List File) (content : ℕ) (head : List ℕ) → head ≡ attachments_head content → content ≡ length (attachments_of files) → head ++ attachments_of files ≡ attachments_bytes files
unfolding attachments_bytes element
attachments_bytes-is files content head is long = ap (λ h. h ++ attachments_of files) (is ∙ ap (head_of ATTACHMENTS) long)

-- the header and the Attachments are the package
pub package-is : (files : List File) (rate : ℕ) (header : List ℕ) → header ≡ header_bytes → header ++ attachments_bytes files ≡ package_of files rate
unfolding package_of
package-is files rate header is = ap (λ h. h ++ attachments_bytes files) is

short_header : length header_bytes ≤ 88
unfolding header_bytes ebml_content info_content element uint_element head_of uint_bytes size_bytes shortest_size byte_count least_from
short_header = lit≤ tt

pub short_header-is : (header : List ℕ) → header ≡ header_bytes → length header ≤ 88
short_header-is header is = rw is short_header

pub short_attachments_head : (content : ℕ) (head : List ℕ) → head ≡ attachments_head content → length head ≤ 12
short_attachments_head content head is = rw is (length-head_of-le ATTACHMENTS content (omega arith))
