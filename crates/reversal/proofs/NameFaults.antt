-- The names of records, one after the other.
use Rattle.std.proofs.Common.{◌≡◌, ℕ, zero, suc, ◌+◌, ◌<◌, ◌≤◌, Bool, true, false, ◌&&◌, ◌||◌, not, if◌then◌else◌, List, [], ◌∷◌, ◌++◌, length, get_or, take, drop, Option, Some, None, refl, sym, ap, subst, ◌∙◌, arith, add-one, drop-cons, inl, inr}
use Rattle.std.proofs.Math.Seq.{take-suc}
use Rattle.std.proofs.Math.ListN.{drop_of_length-le}
use Rattle.std.specs.List.{HoldsAt}
use Rattle.std.proofs.lemmas.List.Elements.{at_read}
use Rattle.std.specs.List.Sorted.{IsSortedByKey}
use Rattle.std.specs.Ordering.{nat_cmp, is_lt, ordering_reverse}
use Rattle.std.specs.declared.cmp.Ordering.{Ordering}
use Rattle.std.specs.declared.cmp.Ordering.TheVariants.{Less, Equal, Greater}
use Rattle.std.proofs.lemmas.Bool.{cases_lt}
use Rattle.std.proofs.lemmas.List.{length-take, get_or-take, get_or_default}
use Rattle.cook_bits.specs.Names.{is_relative_name, holds_folder_of}
use Rattle.std.specs.Cmp.Lexicographic.{slice_cmp, nat_list_cmp_total}
use Rattle.reversal.specs.declared.record.FileRecord.{FileRecord}
use Rattle.reversal.specs.SideData.{names_of}
use Rattle.reversal.specs.SideReading.{is_above_last, is_good_name, bad_name_after, first_bad_name}

pub both_false : (a b : Bool) → a ≡ false → b ≡ false → (a || b) ≡ false
both_false a b e f = rw (e, f) refl

pub last_decides : (held : List FileRecord) (k : ℕ) (last : FileRecord) (name : List ℕ) → k + 1 ≡ length held → last ≡ get_or held k last → is_above_last (names_of held) name ≡ is_lt (slice_cmp nat_cmp last.name name)
last_decides [] k last name e is = absurd (omega arith)
last_decides (a ∷ []) zero last name e is = ap (λ (r : FileRecord). is_lt (slice_cmp nat_cmp r.name name)) (sym is)
last_decides (a ∷ []) (suc k) last name e is = absurd (omega arith)
last_decides (a ∷ b ∷ held) zero last name e is = absurd (omega arith)
last_decides (a ∷ b ∷ held) (suc k) last name e is = last_decides (b ∷ held) k last name (omega arith) is

-- the first name from a place on that is refused
pub bad_from : List FileRecord → ℕ → Option (List ℕ)
bad_from records at = bad_name_after (names_of (take at records)) (names_of (drop at records))

pub bad_start : (records : List FileRecord) → bad_from records 0 ≡ first_bad_name (names_of records)
unfolding bad_from
bad_start records = refl

pub map_append : (xs ys : List FileRecord) → names_of (xs ++ ys) ≡ names_of xs ++ names_of ys
map_append [] ys = refl
map_append (x ∷ xs) ys = ap (λ (names : List (List ℕ)). x.name ∷ names) (map_append xs ys)

-- the names of one record more
pub one_more : (records : List FileRecord) (at : ℕ) (r : FileRecord) → at < length records → r ≡ get_or records at r → names_of (take at records) ++ r.name ∷ [] ≡ names_of (take (at + 1) records)
one_more records at r lt is = sym (rw add-one (ap names_of (take-suc records at r lt ∙ ap (λ (x : FileRecord). take at records ++ x ∷ []) (sym is)) ∙ map_append (take at records) (r ∷ [])))

pub bad_step : (records : List FileRecord) (at : ℕ) (r : FileRecord) → at < length records → r ≡ get_or records at r
    → bad_from records at ≡ (if is_good_name (names_of (take at records)) r.name then bad_from records (at + 1) else Some r.name)
unfolding bad_from bad_name_after
bad_step records at r lt is =
    let here : drop at records ≡ r ∷ drop (at + 1) records = rw add-one (drop-cons records at r lt ∙ ap (λ (x : FileRecord). x ∷ drop (suc at) records) (sym is)) in
    ap (λ (rest : List FileRecord). bad_name_after (names_of (take at records)) (names_of rest)) here
    ∙ ap (λ (held : List (List ℕ)). if is_good_name (names_of (take at records)) r.name then bad_name_after held (names_of (drop (at + 1) records)) else Some r.name) (one_more records at r lt is)

pub bad_here : (records : List FileRecord) (at : ℕ) (r : FileRecord) → at < length records → r ≡ get_or records at r → is_good_name (names_of (take at records)) r.name ≡ false → bad_from records at ≡ Some r.name
bad_here records at r lt is bad = bad_step records at r lt is ∙ ap (λ (b : Bool). if b then bad_from records (at + 1) else Some r.name) bad

pub bad_later : (records : List FileRecord) (at : ℕ) (r : FileRecord) → at < length records → r ≡ get_or records at r → is_good_name (names_of (take at records)) r.name ≡ true → bad_from records at ≡ bad_from records (at + 1)
bad_later records at r lt is good = bad_step records at r lt is ∙ ap (λ (b : Bool). if b then bad_from records (at + 1) else Some r.name) good

pub bad_end : (records : List FileRecord) (at : ℕ) → length records ≤ at → bad_from records at ≡ None
unfolding bad_from bad_name_after
bad_end records at le = ap (λ (rest : List FileRecord). bad_name_after (names_of (take at records)) (names_of rest)) (drop_of_length-le records {i = at} le)

-- what was found at the name of a record, handed out as a text, was found of the record
pub judged : (records : List FileRecord) (at : ℕ) (r : FileRecord) (text : List ℕ) (answer : Bool) → r ≡ get_or records at r → text ≡ (get_or records at r).name → is_good_name (names_of (take at records)) text ≡ answer → is_good_name (names_of (take at records)) r.name ≡ answer
judged records at r text answer is same found =
    let e : r.name ≡ text = ap (λ (x : FileRecord). x.name) is ∙ sym same in
    ap (is_good_name (names_of (take at records))) e ∙ found

pub some_at : (records : List FileRecord) (at : ℕ) (r : FileRecord) → at < length records → r ≡ get_or records at r → first_bad_name (names_of records) ≡ Some r.name → HoldsAt (λ x. first_bad_name (names_of records) ≡ Some x.name) records at
some_at records at r lt is found = at_read records (λ x. first_bad_name (names_of records) ≡ Some x.name) at r lt is found

-- ---- the names so far stay sorted

pub sorted_none : (records : List FileRecord) → IsSortedByKey (λ r. r.name) (slice_cmp nat_cmp) (take 0 records)
sorted_none records k d low lt = absurd (omega arith)

not_below : (o p : Ordering) → o ≡ ordering_reverse p → is_lt p ≡ true → is_lt o ≡ false
not_below o Less e below = ap is_lt e
not_below o Equal e below = absurd (cc)
not_below o Greater e below = absurd (cc)

ascends : (xs ys : List ℕ) → is_lt (slice_cmp nat_cmp xs ys) ≡ true → is_lt (slice_cmp nat_cmp ys xs) ≡ false
ascends xs ys below = not_below _ _ (nat_list_cmp_total.antisymm ys xs) below

both_true : (a b c : Bool) → (a && (b && c)) ≡ true → b ≡ true
both_true true true c e = refl
both_true true false c e = e
both_true false true c e = refl
both_true false false c e = e

good_is_above : (before : List (List ℕ)) (name : List ℕ) → is_good_name before name ≡ true → is_above_last before name ≡ true
good_is_above before name good = both_true (is_relative_name name) (is_above_last before name) (not (holds_folder_of before name)) good

pub above_before : (records : List FileRecord) (k : ℕ) (r d : FileRecord) → k + 1 < length records → is_above_last (names_of (take (k + 1) records)) r.name ≡ true → is_lt (slice_cmp nat_cmp (get_or records k d).name r.name) ≡ true
above_before records k r d lt above =
    let long : k + 1 ≡ length (take (k + 1) records) = omega (arith, length-take (k + 1) records) in
    let same : get_or records k d ≡ get_or (take (k + 1) records) k (get_or records k d) = get_or_default records k d (get_or records k d) (omega arith) ∙ sym (get_or-take (k + 1) records k (get_or records k d) (omega arith)) in
    sym (last_decides (take (k + 1) records) k (get_or records k d) r.name long same) ∙ above

pub sorted_more : (records : List FileRecord) (at : ℕ) (r : FileRecord) → at < length records → r ≡ get_or records at r → is_good_name (names_of (take at records)) r.name ≡ true
    → IsSortedByKey (λ r. r.name) (slice_cmp nat_cmp) (take at records) → IsSortedByKey (λ r. r.name) (slice_cmp nat_cmp) (take (at + 1) records)
sorted_more records at r lt is good so_far k d low below =
    let long = length-take (at + 1) records in
    let next = get_or-take (at + 1) records (k + 1) d (omega (arith, long)) in
    let this = get_or-take (at + 1) records k d (omega (arith, long)) in
    rw (next, this) (elim (cases_lt (k + 1) at) [
      | inl earlier ↦
          let old = so_far k d (omega arith) (omega (arith, length-take at records)) in
          let next' = get_or-take at records (k + 1) d earlier in
          let this' = get_or-take at records k d (omega arith) in
          subst (λ (x : FileRecord). is_lt (slice_cmp nat_cmp x.name (get_or records k d).name) ≡ false) next' (subst (λ (x : FileRecord). is_lt (slice_cmp nat_cmp (get_or (take at records) (k + 1) d).name x.name) ≡ false) this' old)
      | inr last ↦
          let here : at ≡ k + 1 = omega (arith, long) in
          let above : is_above_last (names_of (take (k + 1) records)) r.name ≡ true = subst (λ (n : ℕ). is_above_last (names_of (take n records)) r.name ≡ true) here (good_is_above (names_of (take at records)) r.name good) in
          let rising = ascends (get_or records k d).name r.name (above_before records k r d (omega (arith, long)) above) in
          let found : r ≡ get_or records (k + 1) d = subst (λ (n : ℕ). r ≡ get_or records n d) here (is ∙ get_or_default records at r d lt) in
          subst (λ (x : FileRecord). is_lt (slice_cmp nat_cmp x.name (get_or records k d).name) ≡ false) found rising
    ])
