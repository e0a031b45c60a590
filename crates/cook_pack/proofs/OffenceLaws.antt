-- Laws of the rules: which is broken first, at an entry of a listing and by a file.
use Rattle.std.proofs.Common.{◌≡◌, ℕ, zero, suc, ◌+◌, ◌-◌, ◌^◌, ◌<◌, ◌≤◌, Bool, true, false, not, cond, nat_le, nat_lt, List, [], ◌∷◌, ◌++◌, length, take, get_or, Some, None, refl, sym, ap, ◌∙◌, arith, length-take}
use Rattle.std.proofs.lemmas.List.{length-map, get_or-map, get_or_default}
use Rattle.std.specs.Option.{option_or}
use Rattle.std.proofs.lemmas.Bool.Decides.{nat_tests}
use Rattle.cook_bits.specs.Names.{is_relative_name, is_same_name, holds_folder_of}
use Rattle.shelf_core.specs.declared.shelf.Entry.{Entry}
use Rattle.cook_pack.specs.declared.error.RefuseWhy.{RefuseWhy}
use Rattle.cook_pack.specs.declared.error.RefuseWhy.TheVariants.{NotPlain, BadName, Twice, UnderFile, TooManyFiles, TooLarge, Unbuilt}
use Rattle.cook_pack.specs.Film.{is_film_or_sound}
use Rattle.cook_pack.specs.Offence.{first_offence, broken_by_listing, broken_by_file, ends_with_name}
use Rattle.cook_pack.specs.Entries.{name_of, entry_names, entry_at, fault_by_listing, fault_by_file}

pub first_offence-append : (rules others : List (Bool × RefuseWhy)) → first_offence (rules ++ others) ≡ option_or (first_offence rules) (first_offence others)
unfolding first_offence
first_offence-append [] others = refl
first_offence-append ((true, why) ∷ rules) others = refl
first_offence-append ((false, why) ∷ rules) others = first_offence-append rules others

-- ---- by a file

file_faults : (large film : Bool) → first_offence ((large, TooLarge) ∷ (film, Unbuilt) ∷ []) ≡ cond large (Some TooLarge) (cond film (Some Unbuilt) None)
unfolding first_offence
file_faults true film = refl
file_faults false true = refl
file_faults false false = refl

pub by_file : (total : ℕ) (name : List ℕ) (len : ℕ) (large film : Bool) → nat_lt (2 ^ 50) (total + len) ≡ large → is_film_or_sound name ≡ film → fault_by_file total name len ≡ cond large (Some TooLarge) (cond film (Some Unbuilt) None)
unfolding fault_by_file broken_by_file
by_file total name len large film e f = rw (e, f) (file_faults large film)

pub by_file-large : (total : ℕ) (name : List ℕ) (len : ℕ) → total ≤ 2 ^ 50 → 2 ^ 50 - total < len → fault_by_file total name len ≡ Some TooLarge
by_file-large total name len small large = by_file total name len true (is_film_or_sound name) (grind (arith, nat_tests)) refl

pub by_file-small : (total : ℕ) (name : List ℕ) (len : ℕ) (film : Bool) → total ≤ 2 ^ 50 → len ≤ 2 ^ 50 - total → is_film_or_sound name ≡ film → fault_by_file total name len ≡ cond film (Some Unbuilt) None
by_file-small total name len film small fits e = by_file total name len false film (grind (arith, nat_tests)) e

-- a file that breaks no rule leaves the sum small
pub by_file-none : (total : ℕ) (name : List ℕ) (len : ℕ) → fault_by_file total name len ≡ None → total + len ≤ 2 ^ 50
by_file-none total name len none = by_cases (nat_lt (2 ^ 50) (total + len)) refl
  where
    by_cases : (large : Bool) → nat_lt (2 ^ 50) (total + len) ≡ large → total + len ≤ 2 ^ 50
    by_cases true e = let broken = by_file total name len true (is_film_or_sound name) e refl in absurd (cc)
    by_cases false e = grind (arith, nat_tests)

-- ---- by the listing

listing_faults : (plain relative twice under many : Bool) → first_offence ((not plain, NotPlain) ∷ (not relative, BadName) ∷ (twice, Twice) ∷ (under, UnderFile) ∷ (many, TooManyFiles) ∷ [])
    ≡ cond plain (cond relative (cond twice (Some Twice) (cond under (Some UnderFile) (cond many (Some TooManyFiles) None))) (Some BadName)) (Some NotPlain)
unfolding first_offence
listing_faults false relative twice under many = refl
listing_faults true false twice under many = refl
listing_faults true true true under many = refl
listing_faults true true false true many = refl
listing_faults true true false false true = refl
listing_faults true true false false false = refl

pub by_listing : (entries : List Entry) (index : ℕ) (plain relative twice under many : Bool) → index < length entries
    → (entry_at entries index).plain ≡ plain → is_relative_name (entry_at entries index).name ≡ relative
    → ends_with_name (take index (entry_names entries)) (entry_at entries index).name ≡ twice
    → holds_folder_of (entry_names entries) (entry_at entries index).name ≡ under → nat_le 1000000 index ≡ many
    → fault_by_listing entries index ≡ cond plain (cond relative (cond twice (Some Twice) (cond under (Some UnderFile) (cond many (Some TooManyFiles) None))) (Some BadName)) (Some NotPlain)
unfolding fault_by_listing broken_by_listing
by_listing entries index plain relative twice under many inside a b c d e =
    let count : length (take index (entry_names entries)) ≡ index = omega (arith, length-take index (entry_names entries), length-map entries name_of) in
    rw (count, a, b, c, d, e) (listing_faults plain relative twice under many)

-- what holds of an entry that breaks no rule by the listing
pub record IsAdmitted (entries : List Entry) (index : ℕ) : Type 0 where
  pub plain : (entry_at entries index).plain ≡ true
  pub relative : is_relative_name (entry_at entries index).name ≡ true
  pub once : ends_with_name (take index (entry_names entries)) (entry_at entries index).name ≡ false
  pub apart : holds_folder_of (entry_names entries) (entry_at entries index).name ≡ false
  pub few : nat_le 1000000 index ≡ false

all_pass : (plain relative twice under many : Bool) → cond plain (cond relative (cond twice (Some Twice) (cond under (Some UnderFile) (cond many (Some TooManyFiles) None))) (Some BadName)) (Some NotPlain) ≡ None
    → (plain ≡ true) × (relative ≡ true) × (twice ≡ false) × (under ≡ false) × (many ≡ false)
all_pass false relative twice under many e = absurd (cc)
all_pass true false twice under many e = absurd (cc)
all_pass true true true under many e = absurd (cc)
all_pass true true false true many e = absurd (cc)
all_pass true true false false true e = absurd (cc)
all_pass true true false false false e = (refl, refl, refl, refl, refl)

pub admitted : (entries : List Entry) (index : ℕ) → index < length entries → fault_by_listing entries index ≡ None → IsAdmitted entries index
admitted entries index inside none =
    let passes = all_pass _ _ _ _ _ (sym (by_listing entries index _ _ _ _ _ inside refl refl refl refl refl) ∙ none) in
    record { plain = passes.0; relative = passes.1; once = passes.2; apart = passes.3; few = passes.4 }

-- ---- the name before

pub ends_with_name-some : (names : List (List ℕ)) (k : ℕ) (name : List ℕ) → k < length names → ends_with_name (take (suc k) names) name ≡ is_same_name (get_or names k []) name
ends_with_name-some [] k name inside = absurd (omega arith)
ends_with_name-some (first ∷ names) zero name inside = refl
ends_with_name-some (first ∷ []) (suc k) name inside = absurd (omega arith)
ends_with_name-some (first ∷ next ∷ names) (suc k) name inside = ends_with_name-some (next ∷ names) k name (omega arith)

-- the entry that is read at a place
pub entry_at-is : (entries : List Entry) (index : ℕ) (entry : Entry) → index < length entries → entry ≡ get_or entries index entry → entry_at entries index ≡ entry
entry_at-is entries index entry inside read = get_or_default entries index _ entry inside ∙ sym read

pub twice-is : (entries : List Entry) (index : ℕ) (d e : Entry) → 0 < index → index < length entries
    → is_same_name (get_or entries (index - 1) d).name (get_or entries index e).name ≡ ends_with_name (take index (entry_names entries)) (entry_at entries index).name
twice-is entries index d e positive inside =
    let here : index ≡ suc (index - 1) = omega arith in
    let before : get_or (entry_names entries) (index - 1) [] ≡ (get_or entries (index - 1) d).name = get_or-map name_of entries (index - 1) d [] (omega arith) in
    sym (ap (λ i. ends_with_name (take i (entry_names entries)) (entry_at entries index).name) here
    ∙ ends_with_name-some (entry_names entries) (index - 1) (entry_at entries index).name (omega (arith, length-map entries name_of))
    ∙ ap (λ n. is_same_name n (entry_at entries index).name) before
    ∙ ap (λ (x : Entry). is_same_name (get_or entries (index - 1) d).name x.name) (get_or_default entries index _ e inside))

-- the rules at the entry that is read at a place, with its name
pub by_entry : (entries : List Entry) (index : ℕ) (entry : Entry) (name : List ℕ) (plain relative twice under many : Bool) → index < length entries → entry ≡ get_or entries index entry → name ≡ entry.name
    → entry.plain ≡ plain → is_relative_name name ≡ relative
    → ends_with_name (take index (entry_names entries)) (entry_at entries index).name ≡ twice
    → holds_folder_of (entry_names entries) name ≡ under → nat_le 1000000 index ≡ many
    → cond plain (cond relative (cond twice (Some Twice) (cond under (Some UnderFile) (cond many (Some TooManyFiles) None))) (Some BadName)) (Some NotPlain) ≡ fault_by_listing entries index
by_entry entries index entry name plain relative twice under many inside read named a b c d e =
    let here = entry_at-is entries index entry inside read in
    let same : (entry_at entries index).name ≡ name = ap name_of here ∙ sym named in
    sym (by_listing entries index plain relative twice under many inside (ap (λ x. x.plain) here ∙ a) (ap is_relative_name same ∙ b) c (ap (holds_folder_of (entry_names entries)) same ∙ d) e)
