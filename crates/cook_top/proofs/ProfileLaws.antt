-- What holds of a directory in the profile.
use Rattle.std.proofs.Common.{◌≡◌, ℕ, ◌+◌, ◌^◌, ◌<◌, ◌≤◌, Bool, true, false, not, List, [], ◌∷◌, ◌++◌, length, map, All, Option, Some, None, refl, sym, ap, ◌∙◌, subst, arith, length-append}
use Rattle.std.specs.List.{sum_by, AllByRecursion}
use Rattle.std.proofs.lemmas.Bool.{leb-false, ltb-false}
use Rattle.std.proofs.lemmas.List.{length-map}
use Rattle.std.proofs.lemmas.List.Elements.{All-from_recursion}
use Rattle.std.proofs.lemmas.List.Sums.{sum_by-cons, sum_by_push}
use Rattle.cook_bits.specs.Names.{File, IsRelativeName, holds_folder_of}
use Rattle.cook_pack.specs.declared.error.RefuseWhy.{RefuseWhy}
use Rattle.cook_pack.specs.Offence.{Listed, listed, names_of, broken_by_listing, broken_by_file, broken_rules, first_offence, or_later, offence_from, offence_of_directory, IsInProfile}
use Rattle.cook_top.specs.RoundTrip.{file_names}

-- what the rules of the profile say of a whole directory
pub record Keeps (directory : List File) : Type 0 where
  pub relative : All IsRelativeName (file_names directory)
  pub apart : All (λ name. holds_folder_of (file_names directory) name ≡ false) (file_names directory)
  pub few : length directory ≤ 1000000
  pub small : sum_by (λ file. length file.1) directory ≤ 2 ^ 50

-- ---- an entry that breaks no rule

rule_passes : (broken : Bool) (why : RefuseWhy) (rules : List (Bool × RefuseWhy)) → first_offence ((broken, why) ∷ rules) ≡ None → (broken ≡ false) × (first_offence rules ≡ None)
unfolding first_offence
rule_passes true why rules none = absurd (cc)
rule_passes false why rules none = (refl, none)

none_later : (here : Option RefuseWhy) (name : List ℕ) (later : Option (List ℕ × RefuseWhy)) → or_later here name later ≡ None → (here ≡ None) × (later ≡ None)
none_later None name later none = (refl, none)
none_later (Some why) name later none = absurd (cc)

not_false : (b : Bool) → not b ≡ false → b ≡ true
not_false true e = refl
not_false false e = absurd (cc)

bytes_of : Listed → ℕ
bytes_of entry = length entry.bytes

-- what the rules say of an entry, by those before it
record Passes (listing before : List Listed) (entry : Listed) : Type 0 where
  relative : IsRelativeName entry.name
  apart : holds_folder_of (names_of listing) entry.name ≡ false
  few : length before < 1000000
  small : sum_by bytes_of before + bytes_of entry ≤ 2 ^ 50

passes : (listing before : List Listed) (entry : Listed) → first_offence (broken_rules listing before entry) ≡ None → Passes listing before entry
unfolding broken_by_listing broken_by_file bytes_of
passes listing before entry none =
    let plain = rule_passes _ _ _ none in
    let relative = rule_passes _ _ _ plain.1 in
    let once = rule_passes _ _ _ relative.1 in
    let apart = rule_passes _ _ _ once.1 in
    let few = rule_passes _ _ _ apart.1 in
    let small = rule_passes _ _ _ few.1 in
    record {
      relative = not_false _ relative.0;
      apart = apart.0;
      few = let least = leb-false _ _ few.0 in omega (arith, length-map before (λ (e : Listed). e.name));
      small = ltb-false _ _ small.0;
    }

-- ---- the entries of a listing

record Kept (listing before entries : List Listed) : Type 0 where
  relative : AllByRecursion IsRelativeName (names_of entries)
  apart : AllByRecursion (λ name. holds_folder_of (names_of listing) name ≡ false) (names_of entries)
  few : length before ≤ 1000000 → length before + length entries ≤ 1000000
  small : sum_by bytes_of before ≤ 2 ^ 50 → sum_by bytes_of before + sum_by bytes_of entries ≤ 2 ^ 50

kept : (listing before entries : List Listed) → offence_from listing before entries ≡ None → Kept listing before entries
unfolding offence_from
kept listing before [] none = record { relative = tt; apart = tt; few = λ h. omega arith; small = λ h. omega arith }
kept listing before (entry ∷ entries) none =
    let parts = none_later _ _ _ none in
    let here = passes listing before entry parts.0 in
    let later = kept listing (before ++ entry ∷ []) entries parts.1 in
    let count : length (before ++ entry ∷ []) ≡ length before + 1 = length-append before (entry ∷ []) in
    let adds : sum_by bytes_of (before ++ entry ∷ []) ≡ sum_by bytes_of before + bytes_of entry = sum_by_push bytes_of before entry in
    let first : sum_by bytes_of (entry ∷ entries) ≡ bytes_of entry + sum_by bytes_of entries = sum_by-cons bytes_of entry entries in
    let less : length before < 1000000 = here.few in
    let within : sum_by bytes_of before + bytes_of entry ≤ 2 ^ 50 = here.small in
    record {
      relative = (here.relative, later.relative);
      apart = (here.apart, later.apart);
      few = λ h. (let whole = later.few (omega arith) in omega arith);
      small = λ h. (let whole = later.small (omega arith) in omega arith);
    }

-- ---- the directory

names-listed : (directory : List File) → names_of (map listed directory) ≡ file_names directory
names-listed [] = refl
names-listed (file ∷ files) = ap (λ names. file.0 ∷ names) (names-listed files)

sums-listed : (directory : List File) → sum_by bytes_of (map listed directory) ≡ sum_by (λ file. length file.1) directory
unfolding bytes_of
sums-listed [] = refl
sums-listed (file ∷ files) = sum_by-cons bytes_of (listed file) (map listed files) ∙ ap (λ n. length file.1 + n) (sums-listed files) ∙ sym (sum_by-cons (λ (f : File). length f.1) file files)

pub keeps : (directory : List File) → IsInProfile directory → Keeps directory
unfolding offence_of_directory
keeps directory profile =
    let all = kept (map listed directory) [] (map listed directory) profile in
    let names = names-listed directory in
    let count : length (map listed directory) ≡ length directory = length-map directory listed in
    let whole = all.few (omega arith) in
    let sums = all.small (omega arith) in
    record {
      relative = subst (All IsRelativeName) names (All-from_recursion IsRelativeName _ all.relative);
      apart = subst (λ (n : List (List ℕ)). All (λ name. holds_folder_of n name ≡ false) n) names (All-from_recursion (λ name. holds_folder_of (names_of (map listed directory)) name ≡ false) _ all.apart);
      few = omega arith;
      small = omega (arith, sums-listed directory);
    }
