-- Steps from a frame to its predecessor, in a listing in order.
use Rattle.std.proofs.Common.{◌≡◌, ℕ, zero, suc, ◌+◌, ◌-◌, ◌<◌, ◌≤◌, Bool, true, false, cond, List, [], length, get_or, position, Option, Some, None, is_none, nat_lt, refl, sym, ap, ◌∙◌, subst, inl, inr, arith}
use Rattle.std.specs.List.{position_or_len}
use Rattle.std.specs.Ordering.{nat_cmp}
use Rattle.std.specs.declared.cmp.Ordering.TheVariants.{Less}
use Rattle.std.specs.Cmp.Lexicographic.{slice_cmp, bytes_decides, nat_list_cmp_total}
use Rattle.std.proofs.lemmas.Bool.{and_parts, and_from, cases_lt, eqb-true, eq-eqb}
use Rattle.std.proofs.lemmas.Bool.Decides.{nat_tests}
use Rattle.std.proofs.lemmas.List.Quantifiers.{position-Some}
use Rattle.std.proofs.lemmas.List.Sums.{position_or_len_is, fails_before_first}
use Rattle.sequence_scan.specs.Numbers.{number_of, before_of, after_of, is_numbered, is_one_sequence, is_predecessor}
use Rattle.sequence_scan.specs.Runs.{AreFrames, name_at, predecessor_of, begins_run, back_from, first_of}
use Rattle.sequence_scan.proofs.Order.{AreOneSequence, compare_names, cmp_less}

-- ---- what the test of a predecessor says

pub record Precedes (earlier later : List ℕ) : Type 0 where
  pub numbered : is_numbered later ≡ true
  pub one : AreOneSequence earlier later
  pub next : number_of earlier + 1 ≡ number_of later

pub are_one : (earlier later : List ℕ) → is_one_sequence earlier later ≡ true → AreOneSequence earlier later
unfolding is_one_sequence
are_one earlier later e =
    let p = and_parts _ _ e in
    let q = and_parts _ _ p.1 in
    record {
      before = (bytes_decides (before_of earlier) (before_of later)).0 p.0;
      digits = eqb-true _ _ q.0;
      after = (bytes_decides (after_of earlier) (after_of later)).0 q.1;
    }

pub is_one : (earlier later : List ℕ) → AreOneSequence earlier later → is_one_sequence earlier later ≡ true
unfolding is_one_sequence
is_one earlier later one =
    and_from _ _ ((bytes_decides (before_of earlier) (before_of later)).1 one.before) (and_from _ _ (eq-eqb _ _ one.digits) ((bytes_decides (after_of earlier) (after_of later)).1 one.after))

pub precedes : (earlier later : List ℕ) → is_predecessor earlier later ≡ true → Precedes earlier later
unfolding is_predecessor
precedes earlier later e =
    let p = and_parts _ _ e in
    let q = and_parts _ _ p.1 in
    record { numbered = p.0; one = are_one earlier later q.0; next = eqb-true _ _ q.1 }

pub is_before : (earlier later : List ℕ) → Precedes earlier later → is_predecessor earlier later ≡ true
unfolding is_predecessor
is_before earlier later h = and_from _ _ h.numbered (and_from _ _ (is_one earlier later h.one) (eq-eqb _ _ h.next))

-- ---- where a search by place ends

pub none_passes : {X : Type 0} (test : X → Bool) (xs : List X) → position test xs ≡ None → (k : ℕ) (d : X) → k < length xs → test (get_or xs k d) ≡ false
none_passes test xs none k d lt =
    elim (cases_lt (position_or_len test xs) (length xs)) [
      | inl found ↦
          let t : nat_lt (position_or_len test xs) (length xs) ≡ true = grind (arith, nat_tests) in
          let never : Some (position_or_len test xs) ≡ None = sym (ap (λ b. cond b (Some (position_or_len test xs)) None) t) ∙ none in
          absurd (cc)
      | inr past ↦ fails_before_first test xs k d (omega arith)
    ]

pub found_first : {X : Type 0} (test : X → Bool) (xs : List X) (i : ℕ) (d : X) → i < length xs → ((k : ℕ) → k < i → test (get_or xs k d) ≡ false) → test (get_or xs i d) ≡ true → position test xs ≡ Some i
found_first test xs i d lt before here =
    let at : position_or_len test xs ≡ i = position_or_len_is test xs i d (omega arith) before (λ _. here) in
    let t : nat_lt (position_or_len test xs) (length xs) ≡ true = grind (arith, nat_tests) in
    ap (λ b. cond b (Some (position_or_len test xs)) None) t ∙ ap (λ n. Some n) at

pub not_found : {X : Type 0} (test : X → Bool) (xs : List X) (d : X) → ((k : ℕ) → k < length xs → test (get_or xs k d) ≡ false) → position test xs ≡ None
not_found test xs d fails =
    let at : position_or_len test xs ≡ length xs = position_or_len_is test xs (length xs) d (omega arith) fails (λ lt. absurd (omega arith)) in
    let t : nat_lt (position_or_len test xs) (length xs) ≡ false = grind (arith, nat_tests) in
    ap (λ b. cond b (Some (position_or_len test xs)) None) t

-- ---- in a listing

-- a run begins at its first place, which isn't behind the frame
pub record Begins (names : List (List ℕ)) (place : ℕ) : Type 0 where
  pub below : first_of names place ≤ place
  pub begins : begins_run names (first_of names place) ≡ true

module _ (names : List (List ℕ)) (frames : AreFrames names) where
  far : (i n : ℕ) → i + suc n < length names → slice_cmp nat_cmp (name_at names i) (name_at names (i + suc n)) ≡ Less
  far i zero lt =
      let next : i + 1 ≡ i + suc zero = omega arith in
      subst (λ k. slice_cmp nat_cmp (name_at names i) (name_at names k) ≡ Less) next (frames.ascending i [] (omega arith))
  far i (suc n) lt =
      let next : i + suc n + 1 ≡ i + suc (suc n) = omega arith in
      let last : slice_cmp nat_cmp (name_at names (i + suc n)) (name_at names (i + suc (suc n))) ≡ Less =
      subst (λ k. slice_cmp nat_cmp (name_at names (i + suc n)) (name_at names k) ≡ Less) next (frames.ascending (i + suc n) [] (omega arith)) in
      nat_list_cmp_total.trans (name_at names i) (name_at names (i + suc n)) (name_at names (i + suc (suc n))) (far i n (omega arith)) last

  -- names of one sequence rise in number from place to place
  pub rises : (i j : ℕ) → i < j → j < length names → AreOneSequence (name_at names i) (name_at names j) → number_of (name_at names i) < number_of (name_at names j)
  rises i j lt within one =
      let on : i + suc (j - i - 1) ≡ j = omega arith in
      let less : slice_cmp nat_cmp (name_at names i) (name_at names j) ≡ Less = subst (λ k. slice_cmp nat_cmp (name_at names i) (name_at names k) ≡ Less) on (far i (j - i - 1) (omega arith)) in
      cmp_less _ _ (sym (compare_names (name_at names i) (name_at names j) (frames.ended i [] (omega arith)) (frames.ended j [] within) one) ∙ less)

  pub sym_one : (a b : List ℕ) → AreOneSequence a b → AreOneSequence b a
  sym_one a b one = record { before = sym one.before; digits = sym one.digits; after = sym one.after }

  pub trans_one : (a b c : List ℕ) → AreOneSequence a b → AreOneSequence b c → AreOneSequence a c
  trans_one a b c p q = record { before = p.before ∙ q.before; digits = p.digits ∙ q.digits; after = p.after ∙ q.after }

  pub earlier : (p place : ℕ) → p < length names → place < length names → Precedes (name_at names p) (name_at names place) → p < place
  earlier p place within also h =
      elim (cases_lt p place) [
        | inl lt ↦ lt
        | inr le ↦ elim (cases_lt place p) [
          | inl after ↦ absurd (omega (arith, rises place p after within (sym_one _ _ h.one), h.next))
          | inr both ↦ let same : p ≡ place = omega arith in let number : number_of (name_at names p) ≡ number_of (name_at names place) = ap (λ k. number_of (name_at names k)) same in absurd (omega (arith, h.next))
        ]
      ]

  -- what is found is the predecessor, and stands before
  pub found : (place p : ℕ) → place < length names → predecessor_of names place ≡ Some p → (p < place) × Precedes (name_at names p) (name_at names place)
  unfolding predecessor_of
  found place p within e =
      let at = position-Some (λ other. is_predecessor other (name_at names place)) names p [] e in
      let h = precedes (name_at names p) (name_at names place) at.1 in
      (earlier p place at.0 within h, h)

  -- the predecessor is found
  pub finds : (place p : ℕ) → p < length names → place < length names → Precedes (name_at names p) (name_at names place) → predecessor_of names place ≡ Some p
  unfolding predecessor_of
  finds place p within also h =
      found_first (λ other. is_predecessor other (name_at names place)) names p [] within
      (λ k lt. other_than k lt)
      (is_before (name_at names p) (name_at names place) h)
    where
      other_than : (k : ℕ) → k < p → is_predecessor (name_at names k) (name_at names place) ≡ false
      other_than k lt = by (is_predecessor (name_at names k) (name_at names place)) refl
        where
          by : (b : Bool) → is_predecessor (name_at names k) (name_at names place) ≡ b → b ≡ false
          by false e = refl
          by true e =
              let g = precedes (name_at names k) (name_at names place) e in
              let up = rises k p lt within (trans_one _ _ _ g.one (sym_one _ _ h.one)) in
              absurd (omega (arith, up, g.next, h.next))

  pub finds_none : (place : ℕ) → ((k : ℕ) → k < length names → Precedes (name_at names k) (name_at names place) → ⊥) → predecessor_of names place ≡ None
  unfolding predecessor_of
  finds_none place never =
      not_found (λ other. is_predecessor other (name_at names place)) names [] (λ k lt. by k lt (is_predecessor (name_at names k) (name_at names place)) refl)
    where
      by : (k : ℕ) → k < length names → (b : Bool) → is_predecessor (name_at names k) (name_at names place) ≡ b → b ≡ false
      by k lt false e = refl
      by k lt true e = absurd (never k lt (precedes (name_at names k) (name_at names place) e))

  -- ---- the first place of a run

  pub first_here : (place : ℕ) → predecessor_of names place ≡ None → first_of names place ≡ place
  unfolding first_of back_from
  first_here place none = by (number_of (name_at names place))
    where
      by : (steps : ℕ) → back_from names steps place ≡ place
      by zero = refl
      by (suc steps) = rw none refl

  pub first_before : (place p : ℕ) → place < length names → predecessor_of names place ≡ Some p → first_of names place ≡ first_of names p
  unfolding first_of back_from
  first_before place p within e =
      let h = found place p within e in
      let steps : number_of (name_at names place) ≡ suc (number_of (name_at names p)) = omega (arith, h.1.next) in
      ap (λ n. back_from names n place) steps ∙ rw e refl

  pub begins : (place : ℕ) → predecessor_of names place ≡ None → begins_run names place ≡ true
  unfolding begins_run
  begins place e = ap is_none e

  pub goes_on : (place p : ℕ) → predecessor_of names place ≡ Some p → begins_run names place ≡ false
  unfolding begins_run
  goes_on place p e = ap is_none e

  first_by : (bound place : ℕ) → place < bound → place < length names → Begins names place
  first_by zero place lt within = absurd (omega arith)
  first_by (suc bound) place lt within = by (predecessor_of names place) refl (λ p below inside. first_by bound p below inside)
    where
      by : (o : Option ℕ) → predecessor_of names place ≡ o → ((p : ℕ) → p < bound → p < length names → Begins names p) → Begins names place
      by None e shorter =
          let here = first_here place e in
          record { below = omega (arith, here); begins = ap (begins_run names) here ∙ begins place e }
      by (Some p) e shorter =
          let h = found place p within e in
          let earlier_one = shorter p (omega (arith, h.0)) (omega (arith, h.0)) in
          let same = first_before place p within e in
          record { below = omega (arith, same, h.0, earlier_one.below); begins = ap (begins_run names) same ∙ earlier_one.begins }

  pub first_begins : (place : ℕ) → place < length names → Begins names place
  first_begins place within = first_by (suc place) place (omega arith) within
