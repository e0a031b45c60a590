-- How many names there are, and how long side data is.
use Rattle.std.proofs.Common.{◌≡◌, ℕ, ◌+◌, List, [], ◌∷◌, ◌++◌, length, All, sum_by, refl, ap, sym, subst, get_or, arith, length-append}
use Rattle.std.specs.List.{flat_map, AllByRecursion}
use Rattle.std.specs.Int.{bytes_high_first}
use Rattle.std.proofs.lemmas.List.{length-map}
use Rattle.std.proofs.lemmas.List.Concat.{flat_map-cons}
use Rattle.std.proofs.lemmas.List.Elements.{recursion_from_All}
use Rattle.std.proofs.lemmas.List.Sums.{sum_by-cons}
use Rattle.reversal.specs.declared.record.Kind.{Kind}
use Rattle.reversal.specs.declared.record.Kind.TheVariants.{Other, Frame, Wave}
use Rattle.reversal.specs.declared.record.FileRecord.{FileRecord}
use Rattle.reversal.specs.SideData.{HasParts, HasShape, HasSum, IsOther, IsPlain, all_parts_len, block_bytes, common_bytes, names_of, mark, parts_bytes, parts_len, record_bytes, side_data_of, side_data_len}

pub names_long : (records : List FileRecord) → length (names_of records) ≡ length records
names_long records = length-map records (λ r. r.name)

block_length : (bytes : List ℕ) → length (block_bytes bytes) ≡ 8 + length bytes
block_length bytes = length-append (bytes_high_first 8 (length bytes)) bytes

parts_length : (kind : Kind) (head pads tail : List ℕ) → length (parts_bytes kind head pads tail) ≡ parts_len kind head pads tail
parts_length Other head pads tail = refl
parts_length (Frame track index) head pads tail =
    omega (arith, length-append (bytes_high_first 4 index ++ block_bytes head ++ pads) (block_bytes tail), length-append (bytes_high_first 4 index ++ block_bytes head) pads, length-append (bytes_high_first 4 index) (block_bytes head), block_length head, block_length tail)
parts_length (Wave track) head pads tail = omega (arith, length-append (block_bytes head) (block_bytes tail), block_length head, block_length tail)

record_length : (r : FileRecord) → HasSum r → length (record_bytes r) ≡ (27 + length r.name) + parts_len r.kind r.head r.pads r.tail
record_length r fits = omega (arith, length-append (common_bytes r) (parts_bytes r.kind r.head r.pads r.tail), parts_length r.kind r.head r.pads r.tail, length-append (bytes_high_first 2 (length r.name) ++ r.name ++ bytes_high_first 8 r.length) r.md5, length-append (bytes_high_first 2 (length r.name) ++ r.name) (bytes_high_first 8 r.length), length-append (bytes_high_first 2 (length r.name)) r.name, fits)

records_length : (records : List FileRecord) → AllByRecursion HasSum records → length (flat_map record_bytes records) ≡ sum_by (λ name. 27 + length name) (names_of records) + all_parts_len records
unfolding all_parts_len
records_length [] fits = refl
records_length (r ∷ records) fits =
    let here = record_length r fits.0 in
    let there = records_length records fits.1 in
    let named = sum_by-cons (λ (name : List ℕ). 27 + length name) r.name (names_of records) in
    let parted = sum_by-cons (λ (x : FileRecord). parts_len x.kind x.head x.pads x.tail) r records in
    omega (arith, ap length (flat_map-cons record_bytes r records), length-append (record_bytes r) (flat_map record_bytes records), here, there, named, parted)

pub length_is : (records : List FileRecord) → All HasSum records → length (side_data_of records) ≡ side_data_len (names_of records) + all_parts_len records
unfolding side_data_of side_data_len
length_is records fits =
    omega (arith, length-append (mark ++ bytes_high_first 4 (length records)) (flat_map record_bytes records), records_length records (recursion_from_All HasSum records fits))

-- attached files have nothing of a frame or a wave
no_parts : (records : List FileRecord) → AllByRecursion IsOther records → all_parts_len records ≡ 0
unfolding all_parts_len
no_parts [] others = refl
no_parts (r ∷ records) others =
    let here : parts_len r.kind r.head r.pads r.tail ≡ 0 = ap (λ (kind : Kind). parts_len kind r.head r.pads r.tail) others.0 in
    omega (arith, sum_by-cons (λ (x : FileRecord). parts_len x.kind x.head x.pads x.tail) r records, here, no_parts records others.1)

pub others_have_no_parts : (records : List FileRecord) → All IsOther records → all_parts_len records ≡ 0
others_have_no_parts records others = no_parts records (recursion_from_All IsOther records others)

-- so the length of their side data follows from their names
pub length_of_others : (records : List FileRecord) → All IsOther records → All HasSum records → length (side_data_of records) ≡ side_data_len (names_of records)
length_of_others records others fits = omega (arith, length_is records fits, others_have_no_parts records others)

-- records of attached files have their shape
plain-shape : (r : FileRecord) → IsPlain r → HasShape r
plain-shape r plain = record {
  parts = subst (λ (kind : Kind). HasParts kind r.head r.pads r.tail) (sym plain.other) (record { no_head = plain.no_head; no_pads = plain.no_pads; no_tail = plain.no_tail });
  in_two = plain.in_two;
}

pub plain-shapes : (records : List FileRecord) → All IsPlain records → All HasShape records
plain-shapes records plain k d lt = plain-shape (get_or records k d) (plain k d lt)
