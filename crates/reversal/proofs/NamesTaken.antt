-- A name is good behind others exactly where a tree of them takes it.
use Rattle.std.proofs.Common.{◌≡◌, ◌≢◌, ℕ, ◌+◌, ◌-◌, ◌<◌, Bool, true, false, ◌&&◌, not, if◌then◌else◌, List, [], ◌∷◌, length, get_or, All, Option, Some, None, Err, refl, sym, ◌∙◌, arith}
use Rattle.std.specs.List.Sorted.{IsSortedByKey}
use Rattle.std.specs.Ordering.{nat_cmp, is_lt, ordering_reverse}
use Rattle.std.specs.declared.cmp.Ordering.{Ordering}
use Rattle.std.specs.declared.cmp.Ordering.TheVariants.{Less, Equal, Greater}
use Rattle.std.specs.Cmp.Lexicographic.{slice_cmp, nat_list_cmp_total}
use Rattle.std.proofs.lemmas.List.{get_or_default, get_or-map}
use Rattle.std.proofs.lemmas.List.Sorted.{sorted_far, ranks_by}
use Rattle.cook_bits.specs.Names.{is_relative_name, holds_folder_of}
use Rattle.name_tree.specs.declared.error.NameError.{NameError}
use Rattle.name_tree.specs.declared.error.NameError.TheVariants as errors
use Rattle.name_tree.specs.Held.{Answers, refusal_of}
use Rattle.name_tree.specs.Laws.{IsBelow, RefusesBehind}
use Rattle.reversal.specs.declared.record.FileRecord.{FileRecord}
use Rattle.reversal.specs.SideData.{names_of}
use Rattle.reversal.specs.SideReading.{is_above_last, is_good_name}
use Rattle.reversal.specs.Lengths.{names_long}
use Rattle.reversal.proofs.NameFaults.{last_decides}

is_less : (o : Ordering) → is_lt o ≡ true → o ≡ Less
is_less Less e = refl
is_less Equal e = absurd (cc)
is_less Greater e = absurd (cc)

-- what is not above another is below what that is below
low_enough : (o p q : Ordering) → o ≡ ordering_reverse p → is_lt p ≡ false → (o ≡ Less → q ≡ Less) → (o ≡ Equal → q ≡ Less) → q ≡ Less
low_enough Less p q e ge less same = less refl
low_enough Equal p q e ge less same = same refl
low_enough Greater Less q e ge less same = absurd (cc)
low_enough Greater Equal q e ge less same = absurd (cc)
low_enough Greater Greater q e ge less same = absurd (cc)

below : (a b c : List ℕ) → is_lt (slice_cmp nat_cmp b a) ≡ false → IsBelow b c → IsBelow a c
below a b c low less = low_enough (slice_cmp nat_cmp a b) (slice_cmp nat_cmp b a) (slice_cmp nat_cmp a c) (nat_list_cmp_total.antisymm a b) low
    (λ e. nat_list_cmp_total.trans a b c e less)
    (λ e. nat_list_cmp_total.congr a b c e ∙ less)

-- records in order stand below a name above the last
pub all_below : (held : List FileRecord) (name : List ℕ) → IsSortedByKey (λ r. r.name) (slice_cmp nat_cmp) held → is_above_last (names_of held) name ≡ true → All (λ other. IsBelow other name) (names_of held)
all_below [] name sorted above k e within = absurd (omega arith)
all_below (first ∷ held) name sorted above k e within =
    let all = first ∷ held in
    let long : k < length all = omega (arith, names_long all) in
    let is : (length all - 1) + 1 ≡ length all = omega arith in
    let last = get_or all (length all - 1) first in
    let itself : last ≡ get_or all (length all - 1) last = get_or_default all (length all - 1) first last (omega arith) in
    let end : IsBelow last.name name = is_less _ (sym (last_decides all (length all - 1) last name is itself) ∙ above) in
    let far = sorted_far _ (ranks_by nat_list_cmp_total (λ r. r.name)) all sorted k (length all - 1) first (omega arith) (omega arith) in
    let there : get_or (names_of all) k e ≡ (get_or all k first).name = get_or-map (λ r. r.name) all k first e long in
    rw there (below (get_or all k first).name last.name name far end)

-- ---- what the tree answers

abbrev refusal : Bool → Bool → Option NameError
refusal relative under = if not relative then Some errors.Bad else if under then Some errors.UnderFile else None

good_of : (relative under above : Bool) → above ≡ true → refusal relative under ≡ None → (relative && (above && not under)) ≡ true
good_of true true above a e = absurd (cc)
good_of true false above a e = rw a refl
good_of false under above a e = absurd (cc)

bad_of : (relative under above : Bool) (why : NameError) → refusal relative under ≡ Some why → (relative && (above && not under)) ≡ false
bad_of true true true why e = refl
bad_of true true false why e = refl
bad_of true false above why e = absurd (cc)
bad_of false under above why e = refl

module _ (law : RefusesBehind) (held : List FileRecord) (name : List ℕ) (sorted : IsSortedByKey (λ r. r.name) (slice_cmp nat_cmp) held) (above : is_above_last (names_of held) name ≡ true) where
  refusal_is : refusal_of (names_of held) name ≡ refusal (is_relative_name name) (holds_folder_of (names_of held) name)
  refusal_is = law (names_of held) name (all_below held name sorted above)

  pub good_when : refusal_of (names_of held) name ≡ None → is_good_name (names_of held) name ≡ true
  good_when e = good_of (is_relative_name name) (holds_folder_of (names_of held) name) (is_above_last (names_of held) name) above (sym refusal_is ∙ e)

  pub bad_when : (why : NameError) → refusal_of (names_of held) name ≡ Some why → is_good_name (names_of held) name ≡ false
  bad_when why e = bad_of (is_relative_name name) (holds_folder_of (names_of held) name) (is_above_last (names_of held) name) why (sym refusal_is ∙ e)

-- the tree refuses for a rule of names, unless memory ran out
pub refused : (held : List (List ℕ)) (name : List ℕ) (why : NameError) → Answers {X = Unit {0}} (Err why) (refusal_of held name) → why ≢ errors.NoMemory → refusal_of held name ≡ Some why
refused held name errors.Bad answer memory = answer
refused held name errors.Exists answer memory = answer
refused held name errors.UnderFile answer memory = answer
refused held name errors.OverFolder answer memory = answer
refused held name errors.NoMemory answer memory = absurd (memory refl)

below_bad : (relative above under : Bool) → above ≡ false → (relative && (above && not under)) ≡ false
below_bad true above under e = rw e refl
below_bad false above under e = refl

-- a name that isn't above the last is bad
pub not_above : (before : List (List ℕ)) (name : List ℕ) → is_above_last before name ≡ false → is_good_name before name ≡ false
not_above before name e = below_bad (is_relative_name name) (is_above_last before name) (holds_folder_of before name) e
