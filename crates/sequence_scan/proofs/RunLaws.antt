-- The members of a run follow one another, and each frame is in one run.
use Rattle.std.proofs.Common.{◌≡◌, ℕ, zero, suc, ◌+◌, ◌<◌, ◌≤◌, Bool, true, false, cond, ◌||◌, if◌then◌else◌, List, [], ◌∷◌, ◌++◌, length, get_or, slice_get, map, Option, Some, None, is_none, nat_eq, refl, sym, ap, ◌∙◌, subst, inl, inr, arith}
use Rattle.std.specs.List.{AllByRecursion, AllAdjacentBelow, list_any, count_by}
use Rattle.std.proofs.lemmas.Bool.{cases_lt, eqb-true, eq-eqb, ne_eqb, or_from}
use Rattle.std.proofs.lemmas.List.{get_or_append_left, get_or_push, length_push}
use Rattle.std.proofs.lemmas.List.Elements.{All-from_recursion}
use Rattle.std.proofs.lemmas.List.Folds.{list_any-append}
use Rattle.std.proofs.lemmas.List.Sums.{sum_by-append, sum_by-cons}
use Rattle.sequence_scan.specs.declared.run.Run.{Run}
use Rattle.sequence_scan.specs.Numbers.{is_predecessor}
use Rattle.sequence_scan.specs.Runs.{AreFrames, name_at, predecessor_of, begins_run, first_of, places_where, in_run, run_at, runs_of}
use Rattle.sequence_scan.specs.Laws.{IsRun, MembersFollow, EachInOneRun, MembersByFirst, OnePredecessor}
use Rattle.sequence_scan.proofs.Order.{AreOneSequence, one_name}
use Rattle.sequence_scan.proofs.Back.{precedes, is_before, rises, sym_one, trans_one, found, first_here, first_before, first_begins}
use Rattle.sequence_scan.proofs.Steps.{AreOther, around, no_place, one_more, no_more, others_below}

-- the last place that passes ends the places
last_place : (test : ℕ → Bool) (p : ℕ) → test p ≡ true → (bound : ℕ) → p < bound → ((k : ℕ) → p < k → k < bound → test k ≡ false) → places_where test bound ≡ places_where test p ++ p ∷ []
last_place test p e zero lt later = absurd (omega arith)
last_place test p e (suc bound) lt later =
    elim (cases_lt p bound) [
      | inl below ↦ no_more test bound (later bound below (omega arith)) ∙ last_place test p e bound below (λ k low high. later k low (omega arith))
      | inr past ↦ let same : p ≡ bound = omega arith in subst (λ n. places_where test (suc n) ≡ places_where test p ++ p ∷ []) same (one_more test p e)
    ]

-- one more element that follows the last
adjacent_push : (R : ℕ → ℕ → Type 0) (xs : List ℕ) (x y : ℕ) → AllAdjacentBelow R (xs ++ x ∷ []) (length (xs ++ x ∷ [])) → R x y → AllAdjacentBelow R (xs ++ x ∷ [] ++ y ∷ []) (length (xs ++ x ∷ [] ++ y ∷ []))
adjacent_push R xs x y all here k d lt =
    let zs : List ℕ = xs ++ x ∷ [] in
    let long : length zs ≡ length xs + 1 = length_push xs x in
    let longer : length (zs ++ y ∷ []) ≡ length zs + 1 = length_push zs y in
    elim (cases_lt (k + 1) (length zs)) [
      | inl inside ↦
          let a : get_or (zs ++ y ∷ []) k d ≡ get_or zs k d = get_or_append_left zs (y ∷ []) d k (omega arith) in
          let b : get_or (zs ++ y ∷ []) (k + 1) d ≡ get_or zs (k + 1) d = get_or_append_left zs (y ∷ []) d (k + 1) inside in
          rw (a, b) (all k d inside)
      | inr past ↦
          let a : get_or (zs ++ y ∷ []) k d ≡ x = get_or_append_left zs (y ∷ []) d k (omega arith) ∙ get_or_push xs x d k (omega arith) in
          let b : get_or (zs ++ y ∷ []) (k + 1) d ≡ y = get_or_push zs y d (k + 1) (omega arith) in
          rw (a, b) here
    ]

module _ (names : List (List ℕ)) (frames : AreFrames names) where
  -- all frames of a run are of one sequence
  one_by : (bound place : ℕ) → place < bound → place < length names → AreOneSequence (name_at names (first_of names place)) (name_at names place)
  one_by zero place lt within = absurd (omega arith)
  one_by (suc bound) place lt within = by (predecessor_of names place) refl (λ p below inside. one_by bound p below inside)
    where
      by : (o : Option ℕ) → predecessor_of names place ≡ o → ((p : ℕ) → p < bound → p < length names → AreOneSequence (name_at names (first_of names p)) (name_at names p)) → AreOneSequence (name_at names (first_of names place)) (name_at names place)
      by None e shorter = subst (λ n. AreOneSequence (name_at names n) (name_at names place)) (sym (first_here names frames place e)) (record { before = refl; digits = refl; after = refl })
      by (Some p) e shorter =
          let h = found names frames place p within e in
          subst (λ n. AreOneSequence (name_at names n) (name_at names place)) (sym (first_before names frames place p within e))
          (trans_one names frames (name_at names (first_of names p)) (name_at names p) (name_at names place) (shorter p (omega (arith, h.0)) (omega (arith, h.0))) h.1.one)

  one_run : (j k : ℕ) → j < length names → k < length names → first_of names j ≡ first_of names k → AreOneSequence (name_at names j) (name_at names k)
  one_run j k within also same =
      trans_one names frames (name_at names j) (name_at names (first_of names j)) (name_at names k)
      (sym_one names frames (name_at names (first_of names j)) (name_at names j) (one_by (suc j) j (omega arith) within))
      (subst (λ n. AreOneSequence (name_at names n) (name_at names k)) (sym same) (one_by (suc k) k (omega arith) also))

  module _ (first : ℕ) (within : first < length names) (begins : begins_run names first ≡ true) (alone : predecessor_of names first ≡ None) where
    abbrev Follows : ℕ → ℕ → Type 0
    Follows place next = is_predecessor (name_at names place) (name_at names next) ≡ true

    none_before : places_where (in_run names first) first ≡ []
    none_before = no_place (in_run names first) first (λ k lt. ne_eqb (first_of names k) first (λ e. omega (arith, (first_begins names frames k (omega arith)).below)))

    starts : (bound : ℕ) → first < bound → slice_get (places_where (in_run names first) bound) 0 ≡ Some first
    starts bound lt =
        let split = around (in_run names first) first (eq-eqb _ _ (first_here names frames first alone)) bound lt in
        ap (λ (xs : List ℕ). slice_get xs 0) (split.is ∙ ap (λ (xs : List ℕ). xs ++ first ∷ split.rest) none_before)

    -- the last frame of the run so far is the predecessor of the next
    ends_with : (place p : ℕ) → place < length names → first_of names place ≡ first → predecessor_of names place ≡ Some p
        → places_where (in_run names first) place ≡ places_where (in_run names first) p ++ p ∷ []
    ends_with place p inside same e =
        let h = found names frames place p inside e in
        let ours : first_of names p ≡ first = sym (first_before names frames place p inside e) ∙ same in
        last_place (in_run names first) p (eq-eqb _ _ ours) place h.0 (λ k low high. ne_eqb (first_of names k) first (λ also.
        let up = rises names frames p k low (omega arith) (one_run p k (omega arith) (omega arith) (ours ∙ sym also)) in
        let on = rises names frames k place high inside (one_run k place (omega arith) inside (also ∙ sym same)) in
        omega (arith, up, on, h.1.next)))

    abbrev IsChain : List ℕ → Type 0
    IsChain places = AllAdjacentBelow Follows places (length places)

    chain_more : (bound : ℕ) → bound < length names → (b : Bool) → nat_eq (first_of names bound) first ≡ b → (o : Option ℕ) → predecessor_of names bound ≡ o
        → IsChain (places_where (in_run names first) bound) → IsChain (places_where (in_run names first) (suc bound))
    chain_more bound lt false t o e chain = subst IsChain (sym (no_more (in_run names first) bound t)) chain
    chain_more bound lt true t None e chain =
        let here : bound ≡ first = sym (first_here names frames bound e) ∙ eqb-true _ _ t in
        let nobody : places_where (in_run names first) bound ≡ [] = ap (places_where (in_run names first)) here ∙ none_before in
        let one : places_where (in_run names first) (suc bound) ≡ bound ∷ [] = one_more (in_run names first) bound t ∙ ap (λ (xs : List ℕ). xs ++ bound ∷ []) nobody in
        subst IsChain (sym one) (λ k d below. absurd (omega arith))
    chain_more bound lt true t (Some p) e chain =
        let ends = ends_with bound p lt (eqb-true _ _ t) e in
        let more = one_more (in_run names first) bound t ∙ ap (λ (xs : List ℕ). xs ++ bound ∷ []) ends in
        let h = found names frames bound p lt e in
        subst IsChain (sym more)
        (adjacent_push Follows (places_where (in_run names first) p) p bound (subst IsChain ends chain) (is_before (name_at names p) (name_at names bound) h.1))

    chain : (bound : ℕ) → bound ≤ length names → IsChain (places_where (in_run names first) bound)
    unfolding places_where
    chain zero le = λ k d below. absurd (omega arith)
    chain (suc bound) le = chain_more bound (omega arith) (nat_eq (first_of names bound) first) refl (predecessor_of names bound) refl (chain bound (omega arith))

    is_run : IsRun names (run_at names (length names) first)
    unfolding run_at
    is_run = record { first = starts (length names) within; begins = begins; follows = chain (length names) (omega arith) }

-- ---- what holds at each place that passes holds of what is made there

made_there : (P : Run → Type 0) (f : ℕ → Run) (test : ℕ → Bool) (bound : ℕ) → ((k : ℕ) → k < bound → test k ≡ true → P (f k)) → AllByRecursion P (map f (places_where test bound))
unfolding places_where
made_there P f test zero each = tt
made_there P f test (suc bound) each = by (test bound) refl (made_there P f test bound (λ k lt e. each k (omega arith) e)) (each bound (omega arith))
  where
    push : (xs : List ℕ) → AllByRecursion P (map f xs) → P (f bound) → AllByRecursion P (map f (xs ++ bound ∷ []))
    push [] all here = (here, tt)
    push (x ∷ xs) all here = (all.0, push xs all.1 here)

    by : (b : Bool) → test bound ≡ b → AllByRecursion P (map f (places_where test bound)) → (test bound ≡ true → P (f bound)) → AllByRecursion P (map f (if b then places_where test bound ++ bound ∷ [] else places_where test bound))
    by true e all here = push (places_where test bound) all (here e)
    by false e all here = all

begins_alone : (names : List (List ℕ)) (place : ℕ) → begins_run names place ≡ true → predecessor_of names place ≡ None
unfolding begins_run
begins_alone names place = by (predecessor_of names place) refl
  where
    by : (o : Option ℕ) → predecessor_of names place ≡ o → is_none o ≡ true → predecessor_of names place ≡ None
    by None e h = e
    by (Some p) e h = absurd (cc)

pub members_follow : MembersFollow
unfolding runs_of
members_follow names frames =
    All-from_recursion (IsRun names) (map (run_at names (length names)) (places_where (begins_run names) (length names)))
    (made_there (IsRun names) (run_at names (length names)) (begins_run names) (length names) (λ first lt e. is_run names frames first lt e (begins_alone names first e)))

-- ---- a frame is in the run of its first place alone

itself : (place : ℕ) → nat_eq place place ≡ true
itself place = eq-eqb place place refl

last_true : (a b c : Bool) → b ≡ true → (a || (b || c)) ≡ true
last_true true b c e = refl
last_true false b c e = ap (λ x. x || c) e

fails_there : (test : ℕ → Bool) (place : ℕ) → test place ≡ false → (bound : ℕ) → list_any (nat_eq place) (places_where test bound) ≡ false
unfolding places_where
fails_there test place e zero = refl
fails_there test place e (suc bound) = by (test bound) refl (fails_there test place e bound)
  where
    by : (b : Bool) → test bound ≡ b → list_any (nat_eq place) (places_where test bound) ≡ false → list_any (nat_eq place) (if b then places_where test bound ++ bound ∷ [] else places_where test bound) ≡ false
    by false t before = before
    by true t before =
        let apart : nat_eq place bound ≡ false = ne_eqb place bound (λ s. let never : true ≡ false = sym t ∙ ap test (sym s) ∙ e in absurd (cc)) in
        list_any-append (nat_eq place) (places_where test bound) (bound ∷ []) ∙ or_from _ _ before (or_from _ _ apart refl)

holds_there : (test : ℕ → Bool) (place bound : ℕ) → place < bound → list_any (nat_eq place) (places_where test bound) ≡ test place
holds_there test place bound lt = by (test place) refl
  where
    by : (b : Bool) → test place ≡ b → list_any (nat_eq place) (places_where test bound) ≡ b
    by false e = fails_there test place e bound
    by true e =
        let split = around test place e bound lt in
        ap (list_any (nat_eq place)) split.is ∙ list_any-append (nat_eq place) (places_where test place) (place ∷ split.rest) ∙ last_true _ _ _ (itself place)

count_map : (p : Run → Bool) (f : ℕ → Run) (q : ℕ → Bool) → ((k : ℕ) → p (f k) ≡ q k) → (xs : List ℕ) → count_by p (map f xs) ≡ count_by q xs
count_map p f q same [] = refl
count_map p f q same (x ∷ xs) =
    sum_by-cons (λ r. cond (p r) 1 0) (f x) (map f xs)
    ∙ (λ i. cond (same x i) 1 0 + count_map p f q same xs i)
    ∙ sym (sum_by-cons (λ k. cond (q k) 1 0) x xs)

count_other : (place : ℕ) (xs : List ℕ) → AreOther place xs → count_by (nat_eq place) xs ≡ 0
count_other place [] all = refl
count_other place (x ∷ xs) all = sum_by-cons (λ k. cond (nat_eq place k) 1 0) x xs ∙ (λ i. cond (all.0 i) 1 0 + count_other place xs all.1 i)

count_one : (place : ℕ) (xs ys : List ℕ) → AreOther place xs → AreOther place ys → count_by (nat_eq place) (xs ++ place ∷ ys) ≡ 1
count_one place xs ys before behind =
    sum_by-append (λ k. cond (nat_eq place k) 1 0) xs (place ∷ ys)
    ∙ (λ i. count_other place xs before i + sum_by-cons (λ k. cond (nat_eq place k) 1 0) place ys i)
    ∙ (λ i. 0 + (cond (itself place i) 1 0 + count_other place ys behind i))

pub each_in_one_run : EachInOneRun
unfolding runs_of run_at
each_in_one_run names frames place within =
    let first : ℕ = first_of names place in
    let h = first_begins names frames place within in
    let split = around (begins_run names) first h.begins (length names) (omega (arith, h.below)) in
    count_map (λ run. list_any (nat_eq place) run.members) (run_at names (length names)) (nat_eq first)
    (λ f. holds_there (in_run names f) place (length names) within) (places_where (begins_run names) (length names))
    ∙ ap (count_by (nat_eq first)) split.is
    ∙ count_one first (places_where (begins_run names) first) split.rest (others_below (begins_run names) first first (omega arith)) split.other

pub members_by_first : MembersByFirst
unfolding runs_of run_at
members_by_first names =
    All-from_recursion (λ run. (place : ℕ) → place < length names → list_any (nat_eq place) run.members ≡ nat_eq (first_of names place) run.first) (map (run_at names (length names)) (places_where (begins_run names) (length names)))
    (made_there (λ run. (place : ℕ) → place < length names → list_any (nat_eq place) run.members ≡ nat_eq (first_of names place) run.first) (run_at names (length names)) (begins_run names) (length names)
    (λ first lt e place within. holds_there (in_run names first) place (length names) within))

pub one_predecessor : OnePredecessor
one_predecessor a b name long also e f =
    let p = precedes a name e in
    let q = precedes b name f in
    one_name a b long also (record { before = p.one.before ∙ sym q.one.before; digits = p.one.digits ∙ sym q.one.digits; after = p.one.after ∙ sym q.one.after }) (omega (arith, p.next, q.next))
