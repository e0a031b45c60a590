-- Laws of the places of contents: what the files of a package add, by their names.
use Rattle.std.proofs.Common.{◌≡◌, ℕ, ◌+◌, ◌-◌, ◌<◌, ◌≤◌, suc, Bool, true, false, not, nat_lt, cond, if◌then◌else◌, List, [], ◌∷◌, ◌++◌, length, get_or, take, drop, map, Option, Some, None, unwrap_or, refl, sym, ap, ◌∙◌, arith, ⊎_elim}
use Rattle.std.proofs.lemmas.List.{drop_more, at_drop_all, map_more, take_rest}
use Rattle.std.proofs.lemmas.List.Sums.{prefix_len-le-length}
use Rattle.std.proofs.lemmas.Bool.{cases_Bool}
use Rattle.std.proofs.lemmas.Bool.Decides.{nat_tests}
use Rattle.std.specs.List.{position, position_or_len}
use Rattle.cook_bits.specs.Names.{is_same_name}
use Rattle.reversal.specs.declared.record.FileRecord.{FileRecord}
use Rattle.cook_restore.specs.Contents.{attached_as, others_of, place_of, place_or, content_place, content_places}
use Rattle.cook_restore.specs.declared.contents.Content.{Content}
use Rattle.matroska_read.specs.declared.files.FileAt.{FileAt}

-- ---- a file more

-- no file adds nothing
pub names-none : (old : Option Content) (name : List ℕ) (files : List FileAt) → old ≡ place_or old (attached_as name (drop (length files) files))
unfolding place_or attached_as
names-none old name files = sym (at_drop_all (λ rest. place_or old (attached_as name rest)) files (length files) (omega arith))

place_or-first : (same : Bool) (old : Option Content) (file : FileAt) (other : Option FileAt) → cond same (Some (place_of file)) (place_or old other) ≡ place_or old (if same then Some file else other)
unfolding place_or
place_or-first true old file other = refl
place_or-first false old file other = refl

-- a file counts before those behind it
names-first : (old : Option Content) (name : List ℕ) (file : FileAt) (rest : List FileAt) → cond (is_same_name file.name name) (Some (place_of file)) (place_or old (attached_as name rest)) ≡ place_or old (attached_as name (file ∷ rest))
unfolding attached_as
names-first old name file rest = place_or-first (is_same_name file.name name) old file (attached_as name rest)

pub names-more : (files : List FileAt) (left : ℕ) (file : FileAt) (name bytes : List ℕ) (old now after : Option Content) → 0 < left → left ≤ length files → file ≡ get_or files (left - 1) file → bytes ≡ file.name
    → now ≡ place_or old (attached_as name (drop left files)) → after ≡ cond (is_same_name bytes name) (Some (place_of file)) now → after ≡ place_or old (attached_as name (drop (left - 1) files))
names-more files left file name bytes old now after some inside is named so_far put =
    let back : (left - 1) + 1 ≡ left = omega (arith, some) in
    let opened : drop (left - 1) files ≡ get_or files (left - 1) file ∷ drop left files = drop_more files (left - 1) file (omega (arith, some, inside)) ∙ ap (λ k. get_or files (left - 1) file ∷ drop k files) back in
    let here : drop (left - 1) files ≡ file ∷ drop left files = opened ∙ ap (λ f. f ∷ drop left files) (sym is) in
    put ∙ ap (λ b. cond (is_same_name b name) (Some (place_of file)) now) named ∙ ap (cond (is_same_name file.name name) (Some (place_of file))) so_far ∙ names-first old name file (drop left files) ∙ ap (λ l. place_or old (attached_as name l)) (sym here)

-- ---- all files but the side data

others-first : (side : Bool) (file : FileAt) (files others : List FileAt) (n : ℕ) → others ≡ take n files ++ drop (n + 1) files
    → (if side then files else file ∷ others) ≡ take (cond (not side) (1 + n) 0) (file ∷ files) ++ drop (cond (not side) (1 + n) 0 + 1) (file ∷ files)
others-first true file files others n is = refl
others-first false file files others n is =
    let one : 1 + n ≡ suc n = omega arith in
    let two : 1 + n + 1 ≡ suc (n + 1) = omega arith in
    let front : take (1 + n) (file ∷ files) ≡ file ∷ take n files = ap (λ k. take k (file ∷ files)) one in
    let behind : drop (1 + n + 1) (file ∷ files) ≡ drop (n + 1) files = ap (λ k. drop k (file ∷ files)) two in
    ap (λ l. file ∷ l) is ∙ sym (λ i. front i ++ behind i)

others-split : (files : List FileAt) → others_of files ≡ take (position_or_len (λ file. file.side) files) files ++ drop (position_or_len (λ file. file.side) files + 1) files
unfolding others_of
others-split [] = refl
others-split (file ∷ files) = others-first file.side file files (others_of files) (position_or_len (λ file. file.side) files) (others-split files)

position-within : {X : Type 0} (p : X → Bool) (xs : List X) → position_or_len p xs ≤ length xs
position-within p xs = prefix_len-le-length (λ x. not (p x)) xs

position-or : {X : Type 0} (p : X → Bool) (xs : List X) (number : Option ℕ) (place : ℕ) → number ≡ position p xs → place ≡ unwrap_or number (length xs) → place ≡ position_or_len p xs
position-or p xs number place is or =
    let within = position-within p xs in
    let here : place ≡ unwrap_or (position p xs) (length xs) = or ∙ ap (λ n. unwrap_or n (length xs)) is in
    ⊎_elim
    (λ yes. here ∙ ap (λ b. unwrap_or (cond b (Some (position_or_len p xs)) None) (length xs)) yes)
    (λ no. here ∙ ap (λ b. unwrap_or (cond b (Some (position_or_len p xs)) None) (length xs)) no ∙ grind (arith, nat_tests))
    (cases_Bool (nat_lt (position_or_len p xs) (length xs)))

-- files count before those behind them
pub names-append : (old : Option Content) (name : List ℕ) (front back : List FileAt) → place_or old (attached_as name (front ++ back)) ≡ place_or (place_or old (attached_as name back)) (attached_as name front)
unfolding attached_as place_or
names-append old name [] back = refl
names-append old name (file ∷ front) back = ⊎_elim (λ yes. rw yes refl) (λ no. rw no (names-append old name front back)) (cases_Bool (is_same_name file.name name))

-- the names of the files behind the side data, and then of those before it
pub names-others : (files : List FileAt) (name : List ℕ) (number : Option ℕ) (side : ℕ) (behind all : Option Content) → number ≡ position (λ file. file.side) files → side ≡ unwrap_or number (length files)
    → behind ≡ place_or None (attached_as name (drop (side + 1) files)) → all ≡ place_or behind (attached_as name (take side files)) → all ≡ place_or None (attached_as name (others_of files))
names-others files name number side behind all is or from_behind from_all =
    let here : side ≡ position_or_len (λ file. file.side) files = position-or (λ file. file.side) files number side is or in
    let split : others_of files ≡ take side files ++ drop (side + 1) files = others-split files ∙ ap (λ n. take n files ++ drop (n + 1) files) (sym here) in
    from_all ∙ ap (λ old. place_or old (attached_as name (take side files))) from_behind ∙ sym (names-append None name (take side files) (drop (side + 1) files)) ∙ ap (λ l. place_or None (attached_as name l)) (sym split)

-- the files behind the side data, added to no file
pub names-behind : (files : List FileAt) (name : List ℕ) (side : ℕ) (start put behind : Option Content) → behind ≡ put → put ≡ place_or start (attached_as name (take (length files - (side + 1)) (drop (side + 1) files))) → start ≡ None
    → behind ≡ place_or None (attached_as name (drop (side + 1) files))
names-behind files name side start put behind is from_put none =
    is ∙ from_put ∙ ap (λ old. place_or old (attached_as name (take (length files - (side + 1)) (drop (side + 1) files)))) none ∙ ap (λ l. place_or None (attached_as name l)) (take_rest files (side + 1))

-- behind the last file there is none
pub names-beyond : (files : List FileAt) (name : List ℕ) (side : ℕ) (behind : Option Content) → length files ≤ side → behind ≡ None → behind ≡ place_or None (attached_as name (drop (side + 1) files))
unfolding attached_as place_or
names-beyond files name side behind past none = none ∙ sym (at_drop_all (λ rest. place_or None (attached_as name rest)) files (side + 1) (omega (arith, past)))

-- ---- all records

-- no record has no place
pub places-none : (files : List FileAt) (places : List (Option Content)) → places ≡ [] → places ≡ content_places files []
unfolding content_places
places-none files places none = none

-- a record more has its place
pub places-more : (files : List FileAt) (records : List FileRecord) (index : ℕ) (said : FileRecord) (name : List ℕ) (before after : List (Option Content)) (place : Option Content) → index < length records → said ≡ get_or records index said → name ≡ said.name
    → before ≡ content_places files (take index records) → place ≡ place_or None (attached_as name (others_of files)) → after ≡ before ++ place ∷ [] → after ≡ content_places files (take (index + 1) records)
unfolding content_places content_place
places-more files records index said name before after place inside is named so_far found pushed =
    let here : place ≡ content_place files (get_or records index said) = found ∙ ap (λ n. place_or None (attached_as n (others_of files))) named ∙ ap (content_place files) is in
    pushed ∙ ap (λ l. l ++ place ∷ []) so_far ∙ ap (λ p. map (content_place files) (take index records) ++ p ∷ []) here ∙ sym (map_more (content_place files) records index said inside)
