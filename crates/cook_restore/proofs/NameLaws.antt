-- The names of records, held in a tree.
use Rattle.std.proofs.Common.{◌≡◌, ◌≢◌, ℕ, ◌+◌, ◌<◌, true, List, [], ◌∷◌, ◌++◌, length, take, get_or, Some, None, Err, refl, sym, ap, subst, ◌∙◌, arith, add-one}
use Rattle.std.proofs.Math.Seq.{take-suc}
use Rattle.std.proofs.lemmas.List.{get_or-map, get_or_default, length-map, map-append, take-map}
use Rattle.std.proofs.lemmas.List.Folds.{list_any_at}
use Rattle.std.specs.Cmp.Lexicographic.{bytes_decides}
use Rattle.cook_bits.specs.Names.{is_same_name}
use Rattle.name_tree.specs.declared.error.NameError.{NameError}
use Rattle.name_tree.specs.declared.error.NameError.TheVariants as errors
use Rattle.name_tree.specs.Held.{Answers, is_among, refusal_of}
use Rattle.name_tree.specs.Laws.{TakesInOrder}
use Rattle.reversal.specs.SideData.{AreNames, names_of}
use Rattle.reversal.specs.declared.record.FileRecord.{FileRecord}
use Rattle.cook_restore.specs.Restoring.{no_record}

-- the name at a place
name_is : (records : List FileRecord) (at : ℕ) (r : FileRecord) → at < length records → r ≡ get_or records at r → get_or (names_of records) at [] ≡ r.name
name_is records at r lt is = get_or-map (λ r. r.name) records at r [] lt ∙ ap (λ (x : FileRecord). x.name) (sym is)

-- the next name is taken beside those before it
pub is_taken : TakesInOrder → (records : List FileRecord) (at : ℕ) (r : FileRecord) → AreNames (names_of records) → at < length records → r ≡ get_or records at r → refusal_of (names_of (take at records)) r.name ≡ None
is_taken law records at r named lt is =
    let there : at < length (names_of records) = omega (arith, length-map records (λ r. r.name)) in
    let taken = law (names_of records) at [] named.relative named.ascending named.apart there in
    subst (λ (names : List (List ℕ)). refusal_of names r.name ≡ None) (take-map (λ r. r.name) at records) (subst (λ (name : List ℕ). refusal_of (take at (names_of records)) name ≡ None) (name_is records at r lt is) taken)

pub one_more : (records : List FileRecord) (at : ℕ) (r : FileRecord) → at < length records → r ≡ get_or records at r → names_of (take at records) ++ r.name ∷ [] ≡ names_of (take (at + 1) records)
one_more records at r lt is = sym (rw add-one (ap names_of (take-suc records at r lt ∙ ap (λ (x : FileRecord). take at records ++ x ∷ []) (sym is)) ∙ map-append (λ r. r.name) (take at records) (r ∷ [])))

-- the name of a record is among those of all
pub is_listed : (records : List FileRecord) (at : ℕ) (r : FileRecord) → at < length records → r ≡ get_or records at r → is_among (names_of records) r.name ≡ true
is_listed records at r lt is =
    let there : at < length (names_of records) = omega (arith, length-map records (λ r. r.name)) in
    list_any_at (is_same_name r.name) (names_of records) at [] there ((bytes_decides r.name (get_or (names_of records) at [])).1 (sym (name_is records at r lt is)))

-- a tree that takes a name refuses it for want of memory alone
pub never_refused : (held : List (List ℕ)) (name : List ℕ) (why : NameError) → Answers {X = Unit {0}} (Err why) (refusal_of held name) → why ≢ errors.NoMemory → refusal_of held name ≡ None → ⊥
never_refused held name errors.Bad answer memory none = let e : Some errors.Bad ≡ None = sym answer ∙ none in absurd (cc)
never_refused held name errors.Exists answer memory none = let e : Some errors.Exists ≡ None = sym answer ∙ none in absurd (cc)
never_refused held name errors.UnderFile answer memory none = let e : Some errors.UnderFile ≡ None = sym answer ∙ none in absurd (cc)
never_refused held name errors.OverFolder answer memory none = let e : Some errors.OverFolder ≡ None = sym answer ∙ none in absurd (cc)
never_refused held name errors.NoMemory answer memory none = memory refl

-- the name of a record of a restorer is in its tree
pub listed-in : (records : List FileRecord) (held : List (List ℕ)) (at : ℕ) (said : FileRecord) → held ≡ names_of records → at < length records → said ≡ get_or records at no_record → is_among held said.name ≡ true
listed-in records held at said is lt same =
    let here : said ≡ get_or records at said = same ∙ get_or_default records at no_record said lt in
    subst (λ (names : List (List ℕ)). is_among names said.name ≡ true) (sym is) (is_listed records at said lt here)
