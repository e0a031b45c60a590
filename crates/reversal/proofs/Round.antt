-- What was written is read again.
use Rattle.std.proofs.Common.{◌≡◌, ℕ, zero, suc, ◌+◌, ◌^◌, ◌<◌, Bool, true, false, ◌&&◌, if◌then◌else◌, not, nat_lt, List, [], ◌∷◌, ◌++◌, length, get_or, take, drop, All, None, Ok, Err, IsUtf8, refl, sym, ap, subst, ◌∙◌, append_assoc, length-append, arith}
use Rattle.std.specs.Prelude.{nat_le}
use Rattle.std.specs.List.{flat_map, list_any, AllByRecursion}
use Rattle.std.specs.Int.{bytes_high_first}
use Rattle.std.specs.Ordering.{nat_cmp, is_lt}
use Rattle.std.specs.declared.cmp.Ordering.TheVariants.{Less}
use Rattle.std.specs.Cmp.Lexicographic.{slice_cmp}
use Rattle.std.proofs.lemmas.Bool.{le-leb, le-ltb, or_parts}
use Rattle.std.proofs.lemmas.List.{take_at, drop_at, append-nil, take-append-drop, length-take, get_or-take, get_or_default}
use Rattle.std.proofs.lemmas.List.Concat.{flat_map-cons}
use Rattle.std.proofs.lemmas.List.Elements.{recursion_from_All}
use Rattle.std.proofs.lemmas.List.Folds.{list_any-append}
use Rattle.byteorder.specs.Endian.{big_number}
use Rattle.byteorder.specs.Numbers.{big_number-reads_back, length-bytes_high_first}
use Rattle.cook_bits.specs.Names.{is_relative_name, is_same_name, holds_folder_of, proper_folders_of}
use Rattle.dpx_packing.specs.PadForms.{IsPadForm}
use Rattle.dpx_packing.specs.FormEnds.{form_ends}
use Rattle.reversal.specs.declared.record.Kind.{Kind}
use Rattle.reversal.specs.declared.record.Kind.TheVariants.{Other, Frame, Wave}
use Rattle.reversal.specs.declared.parts.Tag.{Tag}
use Rattle.reversal.specs.declared.parts.Tag.TheVariants as tags
use Rattle.reversal.specs.declared.record.FileRecord.{FileRecord}
use Rattle.reversal.specs.SideData.{names_of, mark, kind_number, parts_bytes, record_bytes, side_data_of, HasFrame, HasNone, HasParts, HasShape, HasWave, IsTrack, FitsTypes, AreNames, AreRecords}
use Rattle.reversal.specs.SideReading.{piece_at, number_at, name_at, tag_at, track_at, block_at, form_at, frame_at, wave_at, parts_at, record_at, records_at, mark_at, side_at, side_read, is_above_last, is_good_name, first_bad_name}
use Rattle.reversal.proofs.Texts.{good_text}
use Rattle.reversal.specs.Lengths.{names_long}
use Rattle.reversal.proofs.NameFaults.{last_decides, bad_from, bad_start, bad_later, bad_end, map_append, both_false}

-- ---- fields

piece_again : (left : ℕ) (text rest : List ℕ) (len : ℕ) → length text ≡ len → piece_at left len (text ++ rest) ≡ Ok (text, rest)
piece_again left text rest len e =
    let long : nat_lt (length (text ++ rest)) len ≡ false = le-ltb _ _ (omega (arith, length-append text rest)) in
    rw (long, take_at text rest len e, drop_at text rest len e) refl

number_again : (len n : ℕ) (rest : List ℕ) → n < 256 ^ len → number_at len (bytes_high_first len n ++ rest) ≡ Ok (n, rest)
number_again len n rest lt =
    let back : big_number len (bytes_high_first len n) ≡ n = ap (big_number len) (sym (append-nil (bytes_high_first len n))) ∙ big_number-reads_back len n [] lt in
    rw (piece_again (length (bytes_high_first len n ++ rest)) (bytes_high_first len n) rest len (length-bytes_high_first len n), back) refl

name_again : (name rest : List ℕ) → length name < 2 ^ 16 → IsUtf8 name → name_at (bytes_high_first 2 (length name) ++ (name ++ rest)) ≡ Ok (name, rest)
unfolding name_at
name_again name rest lt text =
    let left = length (bytes_high_first 2 (length name) ++ (name ++ rest)) in
    rw (number_again 2 (length name) (name ++ rest) lt, piece_again left name rest (length name) refl, good_text left name text) refl

-- ---- fields of frames and waves

both_hold : (a b : Bool) (left : ℕ) (x : ℕ × List ℕ) → a ≡ true → b ≡ true → (if a && b then Ok x else Err left) ≡ Ok x
both_hold a b left x e f = rw (e, f) refl

track_again : (track : ℕ) (rest : List ℕ) → IsTrack track → track_at (track ∷ rest) ≡ Ok (track, rest)
track_again track rest listed = both_hold (nat_le 1 track) (nat_le track 126) (suc (length rest)) (track, rest) (le-leb 1 track listed.low) (le-leb track 126 listed.high)

block_again : (text rest : List ℕ) → length text < 2 ^ 64 → block_at (bytes_high_first 8 (length text) ++ (text ++ rest)) ≡ Ok (text, rest)
unfolding block_at
block_again text rest lt =
    let left = length (bytes_high_first 8 (length text) ++ (text ++ rest)) in
    rw (number_again 8 (length text) (text ++ rest) lt, piece_again left text rest (length text) refl) refl

form_again : (form rest : List ℕ) → IsPadForm form → form_at (form ++ rest) ≡ Ok (form, rest)
unfolding form_at
form_again form rest whole = rw (form_ends form rest whole, take_at form rest (length form) refl, drop_at form rest (length form) refl) refl

-- ---- what a record has by its kind

tag_of : Kind → Tag
tag_of Other = tags.Other
tag_of (Frame track index) = tags.Frame
tag_of (Wave track) = tags.Wave

tag_again : (kind : Kind) (rest : List ℕ) → tag_at (kind_number kind ∷ rest) ≡ Ok (tag_of kind, rest)
unfolding tag_of
tag_again Other rest = refl
tag_again (Frame track index) rest = refl
tag_again (Wave track) rest = refl

frame_grouped : (place before head pads behind tail rest : List ℕ) → (((place ++ (before ++ head)) ++ pads) ++ (behind ++ tail)) ++ rest ≡ place ++ (before ++ (head ++ (pads ++ (behind ++ (tail ++ rest)))))
frame_grouped place before head pads behind tail rest = simp append_assoc

frame_again : (track index : ℕ) (head pads tail rest : List ℕ) → HasFrame track index pads → length head < 2 ^ 64 → length tail < 2 ^ 64
    → frame_at (parts_bytes (Frame track index) head pads tail ++ rest) ≡ Ok (record { kind = Frame track index; head = head; pads = pads; tail = tail }, rest)
unfolding frame_at
frame_again track index head pads tail rest has short small =
    let place = bytes_high_first 4 index in
    let before = bytes_high_first 8 (length head) in
    let behind = bytes_high_first 8 (length tail) in
    let regrouped : parts_bytes (Frame track index) head pads tail ++ rest ≡ track ∷ (place ++ (before ++ (head ++ (pads ++ (behind ++ (tail ++ rest)))))) = ap (λ (x : List ℕ). track ∷ x) (frame_grouped place before head pads behind tail rest) in
    ap frame_at regrouped
    ∙ rw (track_again track (place ++ (before ++ (head ++ (pads ++ (behind ++ (tail ++ rest)))))) has.listed, number_again 4 index (before ++ (head ++ (pads ++ (behind ++ (tail ++ rest))))) has.in_four, block_again head (pads ++ (behind ++ (tail ++ rest))) short, form_again pads (behind ++ (tail ++ rest)) has.form, block_again tail rest small) refl

wave_again : (track : ℕ) (head pads tail rest : List ℕ) → HasWave track pads → length head < 2 ^ 64 → length tail < 2 ^ 64
    → wave_at (parts_bytes (Wave track) head pads tail ++ rest) ≡ Ok (record { kind = Wave track; head = head; pads = pads; tail = tail }, rest)
unfolding wave_at
wave_again track head pads tail rest has short small =
    let before = bytes_high_first 8 (length head) in
    let behind = bytes_high_first 8 (length tail) in
    let regrouped : parts_bytes (Wave track) head pads tail ++ rest ≡ track ∷ (before ++ (head ++ (behind ++ (tail ++ rest)))) = ap (λ (x : List ℕ). track ∷ x) (simp append_assoc) in
    ap wave_at regrouped
    ∙ rw (track_again track (before ++ (head ++ (behind ++ (tail ++ rest)))) has.listed, block_again head (behind ++ (tail ++ rest)) short, block_again tail rest small) (ap (λ (p : List ℕ). Ok (record { kind = Wave track; head = head; pads = p; tail = tail }, rest)) (sym has.no_pads))

other_again : (head pads tail rest : List ℕ) → HasNone head pads tail → parts_at tags.Other rest ≡ Ok (record { kind = Other; head = head; pads = pads; tail = tail }, rest)
other_again head pads tail rest has = λ i. Ok (record { kind = Other; head = sym has.no_head i; pads = sym has.no_pads i; tail = sym has.no_tail i }, rest)

parts_again : (kind : Kind) (head pads tail rest : List ℕ) → HasParts kind head pads tail → length head < 2 ^ 64 → length tail < 2 ^ 64
    → parts_at (tag_of kind) (parts_bytes kind head pads tail ++ rest) ≡ Ok (record { kind = kind; head = head; pads = pads; tail = tail }, rest)
unfolding tag_of
parts_again Other head pads tail rest has short small = other_again head pads tail rest has
parts_again (Frame track index) head pads tail rest has short small = frame_again track index head pads tail rest has short small
parts_again (Wave track) head pads tail rest has short small = wave_again track head pads tail rest has short small

record_grouped : (size name len sum parts rest : List ℕ) → ((((size ++ name) ++ len) ++ sum) ++ parts) ++ rest ≡ size ++ (name ++ (len ++ (sum ++ (parts ++ rest))))
record_grouped size name len sum parts rest = simp append_assoc

record_again : (r : FileRecord) (rest : List ℕ) → HasShape r → FitsTypes r → record_at (record_bytes r ++ rest) ≡ Ok (r, rest)
unfolding record_at
record_again r rest shape fits =
    let len = bytes_high_first 8 r.length in
    let size = bytes_high_first 2 (length r.name) in
    let parts = parts_bytes r.kind r.head r.pads r.tail in
    let behind : List ℕ = size ++ (r.name ++ (len ++ (r.md5 ++ (parts ++ rest)))) in
    let regrouped : record_bytes r ++ rest ≡ kind_number r.kind ∷ behind = ap (λ (x : List ℕ). kind_number r.kind ∷ x) (record_grouped size r.name len r.md5 parts rest) in
    ap record_at regrouped
    ∙ rw (tag_again r.kind behind, name_again r.name (len ++ (r.md5 ++ (parts ++ rest))) shape.in_two fits.text, number_again 8 r.length (r.md5 ++ (parts ++ rest)) fits.in_eight, piece_again (length (r.md5 ++ (parts ++ rest))) r.md5 (parts ++ rest) 16 fits.sixteen, parts_again r.kind r.head r.pads r.tail rest shape.parts fits.head_in_eight fits.tail_in_eight) refl

records_again : (records : List FileRecord) (rest : List ℕ) → AllByRecursion HasShape records → AllByRecursion FitsTypes records → records_at (length records) (flat_map record_bytes records ++ rest) ≡ Ok (records, rest)
unfolding records_at
records_again [] rest shaped fits = refl
records_again (r ∷ records) rest shaped fits =
    let regrouped : flat_map record_bytes (r ∷ records) ++ rest ≡ record_bytes r ++ (flat_map record_bytes records ++ rest) = ap (λ (x : List ℕ). x ++ rest) (flat_map-cons record_bytes r records) ∙ append_assoc (record_bytes r) (flat_map record_bytes records) rest in
    ap (records_at (suc (length records))) regrouped ∙ rw (record_again r (flat_map record_bytes records ++ rest) shaped.0 fits.0, records_again records rest shaped.1 fits.1) refl

mark_again : (rest : List ℕ) → mark_at (mark ++ rest) ≡ Ok rest
mark_again rest = rw (piece_again (length (mark ++ rest)) mark rest 8 refl) refl

side_again : (records : List FileRecord) → AreRecords records → All FitsTypes records → side_at (side_data_of records) ≡ Ok records
unfolding side_at side_data_of
side_again records are fits =
    let count = bytes_high_first 4 (length records) in
    let spelled = flat_map record_bytes records in
    let regrouped : (mark ++ count) ++ spelled ≡ mark ++ (count ++ spelled) = append_assoc mark count spelled in
    let rest : records_at (length records) spelled ≡ Ok (records, []) = ap (records_at (length records)) (sym (append-nil spelled)) ∙ records_again records [] (recursion_from_All HasShape records are.shaped) (recursion_from_All FitsTypes records fits) in
    ap side_at regrouped ∙ rw (mark_again (count ++ spelled), number_again 4 (length records) spelled are.few, rest) refl

-- ---- names

fewer : (xs ys folders : List (List ℕ)) → list_any (λ folder. list_any (is_same_name folder) (xs ++ ys)) folders ≡ false → list_any (λ folder. list_any (is_same_name folder) xs) folders ≡ false
fewer xs ys [] e = refl
fewer xs ys (folder ∷ folders) e =
    let parts = or_parts (list_any (is_same_name folder) (xs ++ ys)) (list_any (λ f. list_any (is_same_name f) (xs ++ ys)) folders) e in
    let front = or_parts (list_any (is_same_name folder) xs) (list_any (is_same_name folder) ys) (sym (list_any-append (is_same_name folder) xs ys) ∙ parts.0) in
    both_false _ _ front.0 (fewer xs ys folders parts.1)

fewer_hold : (xs ys : List (List ℕ)) (name : List ℕ) → holds_folder_of (xs ++ ys) name ≡ false → holds_folder_of xs name ≡ false
unfolding holds_folder_of
fewer_hold xs ys name free = fewer xs ys (proper_folders_of name) free

name_at_place : (records : List FileRecord) (at : ℕ) (d : FileRecord) → get_or (names_of records) at d.name ≡ (get_or records at d).name
name_at_place [] at d = refl
name_at_place (r ∷ records) zero d = refl
name_at_place (r ∷ records) (suc at) d = name_at_place records at d

all_good : (a b c : Bool) → a ≡ true → b ≡ true → c ≡ false → (a && (b && not c)) ≡ true
all_good a b c e f g = rw (e, f, g) refl

is_above : (records : List FileRecord) (at : ℕ) (d : FileRecord) → AreNames (names_of records) → at < length records → is_above_last (names_of (take at records)) (get_or records at d).name ≡ true
is_above records zero d are lt = refl
is_above records (suc k) d are lt =
    let last = get_or records k d in
    let long : k + 1 ≡ length (take (suc k) records) = omega (arith, length-take (suc k) records) in
    let same : last ≡ get_or (take (suc k) records) k last = get_or_default records k d last (omega arith) ∙ sym (get_or-take (suc k) records k last (omega arith)) in
    let next : suc k ≡ k + 1 = omega arith in
    let rise = are.ascending k d.name (omega (arith, names_long records)) in
    let rise' : slice_cmp nat_cmp last.name (get_or records (k + 1) d).name ≡ Less = subst (λ (x : List ℕ). slice_cmp nat_cmp x (get_or records (k + 1) d).name ≡ Less) (name_at_place records k d) (subst (λ (x : List ℕ). slice_cmp nat_cmp (get_or (names_of records) k d.name) x ≡ Less) (name_at_place records (k + 1) d) rise) in
    let rise'' : slice_cmp nat_cmp last.name (get_or records (suc k) d).name ≡ Less = subst (λ (n : ℕ). slice_cmp nat_cmp last.name (get_or records n d).name ≡ Less) (sym next) rise' in
    last_decides (take (suc k) records) k last (get_or records (suc k) d).name long same ∙ ap is_lt rise''

is_good : (records : List FileRecord) (at : ℕ) (d : FileRecord) → AreNames (names_of records) → at < length records → is_good_name (names_of (take at records)) (get_or records at d).name ≡ true
is_good records at d are lt =
    let within : at < length (names_of records) = omega (arith, names_long records) in
    let relative = subst (λ (x : List ℕ). is_relative_name x ≡ true) (name_at_place records at d) (are.relative at d.name within) in
    let apart = subst (λ (x : List ℕ). holds_folder_of (names_of records) x ≡ false) (name_at_place records at d) (are.apart at d.name within) in
    let parts : names_of records ≡ names_of (take at records) ++ names_of (drop at records) = ap names_of (sym (take-append-drop at records)) ∙ map_append (take at records) (drop at records) in
    let free = fewer_hold (names_of (take at records)) (names_of (drop at records)) (get_or records at d).name (subst (λ (names : List (List ℕ)). holds_folder_of names (get_or records at d).name ≡ false) parts apart) in
    all_good _ _ _ relative (is_above records at d are lt) free

nothing : FileRecord
nothing = record { name = []; kind = Other; length = 0; md5 = []; head = []; pads = []; tail = [] }

none_from : (records : List FileRecord) (more at : ℕ) → AreNames (names_of records) → at + more ≡ length records → bad_from records at ≡ None
none_from records zero at are e = bad_end records at (omega arith)
none_from records (suc more) at are e =
    let lt : at < length records = omega arith in
    bad_later records at (get_or records at nothing) lt (get_or_default records at nothing (get_or records at nothing) lt) (is_good records at nothing are lt) ∙ none_from records more (at + 1) are (omega arith)

pub read_again : (records : List FileRecord) → AreRecords records → All FitsTypes records → side_read (side_data_of records) ≡ Ok records
unfolding side_read
read_again records are fits =
    let no_fault : first_bad_name (names_of records) ≡ None = sym (bad_start records) ∙ none_from records (length records) 0 are.named (omega arith) in
    rw (side_again records are fits, no_fault) refl
