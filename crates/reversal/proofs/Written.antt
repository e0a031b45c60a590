-- What writing adds, and what is known of the records that were written.
use Rattle.std.proofs.Common.{◌≡◌, ℕ, ◌+◌, ◌<◌, ◌≤◌, List, [], ◌∷◌, ◌++◌, length, take, get_or, All, sym, ap, subst, ◌∙◌, append_assoc, append-nil, take_all}
use Rattle.std.specs.Int.{bytes_high_first}
use Rattle.std.specs.List.{flat_map}
use Rattle.std.proofs.lemmas.List.{take_more}
use Rattle.std.proofs.lemmas.List.Concat.{flat_map-append, flat_map-cons}
use Rattle.reversal.specs.declared.record.Kind.{Kind}
use Rattle.reversal.specs.declared.record.Kind.TheVariants.{Frame}
use Rattle.reversal.specs.declared.record.FileRecord.{FileRecord}
use Rattle.reversal.specs.SideData.{HasSum, all_parts_len, block_bytes, mark, names_of, parts_bytes, record_bytes, side_data_len, side_data_of}
use Rattle.reversal.specs.Lengths.{length_is}

grouped : (out track place head pads tail : List ℕ) → ((((out ++ track) ++ place) ++ head) ++ pads) ++ tail ≡ out ++ (track ++ (((place ++ head) ++ pads) ++ tail))
grouped out track place head pads tail = simp append_assoc

-- the parts of a frame, added one by one
pub frame_put : (kind : Kind) (track index : ℕ) (head pads tail out a b c d e place form : List ℕ) → kind ≡ Frame track index
    → a ≡ out ++ (track ∷ []) → place ≡ bytes_high_first 4 index → b ≡ a ++ place → c ≡ b ++ block_bytes head → form ≡ pads → d ≡ c ++ form → e ≡ d ++ block_bytes tail
    → e ≡ out ++ parts_bytes kind head pads tail
frame_put kind track index head pads tail out a b c d e place form is of_track of_place with_place with_head of_form with_form with_tail =
    with_tail
    ∙ (λ i. (with_form ∙ (λ j. (with_head ∙ (λ k. (with_place ∙ (λ l. of_track l ++ of_place l)) k ++ block_bytes head)) j ++ of_form j)) i ++ block_bytes tail)
    ∙ grouped out (track ∷ []) (bytes_high_first 4 index) (block_bytes head) pads (block_bytes tail)
    ∙ ap (λ (k : Kind). out ++ parts_bytes k head pads tail) (sym is)

-- a record more
pub more_written : (records : List FileRecord) (at : ℕ) (entry : FileRecord) (front out now : List ℕ) → at < length records → entry ≡ get_or records at entry
    → out ≡ front ++ flat_map record_bytes (take at records) → now ≡ out ++ record_bytes entry → now ≡ front ++ flat_map record_bytes (take (at + 1) records)
more_written records at entry front out now lt is so_far more =
    let next : take (at + 1) records ≡ take at records ++ entry ∷ [] = take_more records at entry lt ∙ ap (λ (e : FileRecord). take at records ++ e ∷ []) (sym is) in
    let one : flat_map record_bytes (entry ∷ []) ≡ record_bytes entry = flat_map-cons record_bytes entry [] ∙ append-nil (record_bytes entry) in
    let added : flat_map record_bytes (take (at + 1) records) ≡ flat_map record_bytes (take at records) ++ record_bytes entry =
    ap (flat_map record_bytes) next ∙ flat_map-append record_bytes (take at records) (entry ∷ []) ∙ ap (λ (x : List ℕ). flat_map record_bytes (take at records) ++ x) one in
    more ∙ ap (λ (o : List ℕ). o ++ record_bytes entry) so_far ∙ append_assoc front (flat_map record_bytes (take at records)) (record_bytes entry) ∙ ap (λ (x : List ℕ). front ++ x) (sym added)

-- all of them
pub written_long : (records : List FileRecord) (at : ℕ) (out : List ℕ) → length records ≤ at → out ≡ mark ++ bytes_high_first 4 (length records) ++ flat_map record_bytes (take at records) → All HasSum (take at records)
    → length out ≡ side_data_len (names_of records) + all_parts_len records
unfolding side_data_of
written_long records at out past spelled summed =
    let all : take at records ≡ records = take_all at records past in
    ap length (spelled ∙ ap (λ (rs : List FileRecord). mark ++ bytes_high_first 4 (length records) ++ flat_map record_bytes rs) all) ∙ length_is records (subst (All HasSum) all summed)
