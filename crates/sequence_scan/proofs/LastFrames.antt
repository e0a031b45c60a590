-- What the last frame of a sequence says of the next.
use Rattle.std.proofs.Common.{◌≡◌, ℕ, zero, suc, ◌+◌, ◌<◌, ◌≤◌, Bool, true, false, ◌&&◌, cond, if◌then◌else◌, List, [], length, Option, Some, None, option_map, unwrap_or, nat_eq, nat_le, refl, sym, ap, ◌∙◌, subst, inl, inr, arith}
use Rattle.std.proofs.lemmas.Bool.{and_parts, and_from, cases_lt, eqb-true, eq-eqb}
use Rattle.std.proofs.lemmas.List.{length-map}
use Rattle.std.specs.Cmp.Lexicographic.{bytes_decides}
use Rattle.std.specs.Map.{lookup}
use Rattle.indexmap.specs.IndexMap.{get, Updates}
use Rattle.cook_bits.specs.Names.{is_same_name}
use Rattle.sequence_scan.specs.declared.number.Sequence.{Sequence}
use Rattle.sequence_scan.specs.declared.number.NumberedName.{NumberedName}
use Rattle.sequence_scan.specs.declared.scan.LastFrame.{LastFrame}
use Rattle.sequence_scan.specs.Numbers.{number_of, digits_of, before_of, after_of, is_numbered}
use Rattle.sequence_scan.specs.Runs.{AreFrames, name_at, predecessor_of, begins_run, places_where, run_at, runs_of}
use Rattle.sequence_scan.specs.Scanning.{IsParted, AreLastBelow, LastFrames, runs_below, run_number, with_frame, begun_run, is_in, last_of, frame_at, same_sequence, run_going_on}
use Rattle.sequence_scan.proofs.Order.{AreOneSequence}
use Rattle.sequence_scan.proofs.Back.{rises, earlier, finds, finds_none, first_here, first_before, begins, sym_one, trans_one}
use Rattle.sequence_scan.proofs.Steps.{run_begins, run_goes_on}

-- ---- the last place of a sequence

pub record IsLast (names : List (List ℕ)) (bound : ℕ) (sequence : Sequence) (place : ℕ) : Type 0 where
  pub below : place < bound
  pub here : is_in sequence (name_at names place) ≡ true
  pub later : (k : ℕ) → place < k → k < bound → is_in sequence (name_at names k) ≡ false

abbrev IsLastOf : List (List ℕ) → ℕ → Sequence → Option ℕ → Type 0
IsLastOf names bound sequence None = (k : ℕ) → k < bound → is_in sequence (name_at names k) ≡ false
IsLastOf names bound sequence (Some place) = IsLast names bound sequence place

fails_more : (names : List (List ℕ)) (bound : ℕ) (sequence : Sequence) (from : ℕ) → is_in sequence (name_at names bound) ≡ false → ((k : ℕ) → from ≤ k → k < bound → is_in sequence (name_at names k) ≡ false)
    → (k : ℕ) → from ≤ k → k < suc bound → is_in sequence (name_at names k) ≡ false
fails_more names bound sequence from here before k low high =
    elim (cases_lt k bound) [
      | inl lt ↦ before k low lt
      | inr le ↦ let same : bound ≡ k = omega arith in subst (λ n. is_in sequence (name_at names n) ≡ false) same here
    ]

is_last : (names : List (List ℕ)) (bound : ℕ) (sequence : Sequence) → IsLastOf names bound sequence (last_of names bound sequence)
unfolding last_of
is_last names zero sequence = λ k lt. absurd (omega arith)
is_last names (suc bound) sequence = by (is_in sequence (name_at names bound)) refl (last_of names bound sequence) (is_last names bound sequence)
  where
    by : (b : Bool) → is_in sequence (name_at names bound) ≡ b → (o : Option ℕ) → IsLastOf names bound sequence o → IsLastOf names (suc bound) sequence (if b then Some bound else o)
    by true e o h = record { below = omega arith; here = e; later = λ k low high. absurd (omega arith) }
    by false e None h = λ k lt. fails_more names bound sequence 0 e (λ j low high. h j high) k (omega arith) lt
    by false e (Some place) h = record { below = omega (arith, h.below); here = h.here; later = λ k low high. fails_more names bound sequence (suc place) e (λ j low high. h.later j (omega arith) high) k (omega arith) high }

-- ---- which names are in the sequence of a name

module _ (name : List ℕ) (parted : NumberedName) (of : IsParted name parted) where
  pub in_one : (other : List ℕ) → is_in parted.sequence other ≡ true → AreOneSequence other name
  unfolding is_in
  in_one other e =
      let p = and_parts _ _ (and_parts _ _ e).1 in
      let q = and_parts _ _ p.1 in
      record {
        before = (bytes_decides (before_of other) parted.sequence.before.now).0 p.0 ∙ of.before;
        digits = eqb-true _ _ q.0 ∙ of.digits;
        after = (bytes_decides (after_of other) parted.sequence.after.now).0 q.1 ∙ of.after;
      }

  numbered_too : (other : List ℕ) → AreOneSequence other name → is_numbered other ≡ true
  unfolding is_numbered
  numbered_too other one = subst (λ n. (nat_le 1 n && nat_le n 18) ≡ true) (sym one.digits) of.numbered

  pub one_in : (other : List ℕ) → AreOneSequence other name → is_in parted.sequence other ≡ true
  unfolding is_in
  one_in other one =
      and_from _ _ (numbered_too other one)
      (and_from _ _ ((bytes_decides (before_of other) parted.sequence.before.now).1 (one.before ∙ sym of.before))
      (and_from _ _ (eq-eqb _ _ (one.digits ∙ sym of.digits)) ((bytes_decides (after_of other) parted.sequence.after.now).1 (one.after ∙ sym of.after))))

  -- the key of a name looks up what the name is in
  pub same_key : (other : Sequence) → same_sequence parted.sequence other ≡ is_in other name
  unfolding is_in
  same_key other =
      ap (λ (xs : List ℕ). is_same_name xs other.before.now && (nat_eq parted.sequence.digits other.digits && is_same_name parted.sequence.after.now other.after.now)) of.before
      ∙ ap (λ n. is_same_name (before_of name) other.before.now && (nat_eq n other.digits && is_same_name parted.sequence.after.now other.after.now)) of.digits
      ∙ ap (λ (xs : List ℕ). is_same_name (before_of name) other.before.now && (nat_eq (length (digits_of name)) other.digits && is_same_name xs other.after.now)) of.after
      ∙ ap (λ b. b && (is_same_name (before_of name) other.before.now && (nat_eq (length (digits_of name)) other.digits && is_same_name (after_of name) other.after.now))) (sym of.numbered)

-- ---- the run that a frame goes on with

module _ (names : List (List ℕ)) (frames : AreFrames names) (place : ℕ) (within : place < length names) where
  pub begins_unnumbered : is_numbered (name_at names place) ≡ false → predecessor_of names place ≡ None
  begins_unnumbered e = finds_none names frames place (λ k lt h. let never : true ≡ false = sym h.numbered ∙ e in absurd (cc))

  module _ (parted : NumberedName) (of : IsParted (name_at names place) parted) where
    run_by : (o : Option ℕ) → IsLastOf names place parted.sequence o → run_going_on (option_map (frame_at names) o) parted.number ≡ option_map (run_number names) (predecessor_of names place)
    unfolding run_going_on
    run_by None none =
        let alone : predecessor_of names place ≡ None = finds_none names frames place (λ k lt h.
        let before = earlier names frames k place lt within h in
        let never : true ≡ false = sym (one_in (name_at names place) parted of (name_at names k) h.one) ∙ none k before in
        absurd (cc)) in
        ap (option_map (run_number names)) (sym alone)
    run_by (Some p) h = by (nat_eq (number_of (name_at names p) + 1) parted.number) refl
      where
        one : AreOneSequence (name_at names p) (name_at names place)
        one = in_one (name_at names place) parted of (name_at names p) h.here

        by : (b : Bool) → nat_eq (number_of (name_at names p) + 1) parted.number ≡ b → (if b then Some (run_number names p) else None) ≡ option_map (run_number names) (predecessor_of names place)
        by true e =
            let next : number_of (name_at names p) + 1 ≡ number_of (name_at names place) = eqb-true _ _ e ∙ of.number in
            let it : predecessor_of names place ≡ Some p = finds names frames place p (omega (arith, h.below)) within (record { numbered = of.numbered; one = one; next = next }) in
            ap (option_map (run_number names)) (sym it)
        by false e =
            let alone : predecessor_of names place ≡ None = finds_none names frames place (λ k lt g.
            let before = earlier names frames k place lt within g in
            let inside = one_in (name_at names place) parted of (name_at names k) g.one in
            let other : number_of (name_at names p) + 1 ≡ number_of (name_at names place) → ⊥ = λ next.
            let never : true ≡ false = sym (eq-eqb _ _ (next ∙ sym of.number)) ∙ e in absurd (cc) in
            let up = rises names frames p place h.below within one in
            elim (cases_lt p k) [
              | inl after ↦ let never : true ≡ false = sym inside ∙ h.later k after before in absurd (cc)
              | inr le ↦ elim (cases_lt k p) [
                | inl lower ↦ other (omega (arith, up, g.next, rises names frames k p lower (omega (arith, h.below)) (trans_one names frames _ _ _ g.one (sym_one names frames _ _ one))))
                | inr both ↦ let same : k ≡ p = omega arith in other (ap (λ n. number_of (name_at names n) + 1) (sym same) ∙ g.next)
              ]
            ]) in
            ap (option_map (run_number names)) (sym alone)

    -- what the code finds is the run of the frame's predecessor
    pub run_found : (last : LastFrames) (run : Option ℕ) → AreLastBelow names place last → run ≡ run_going_on (get same_sequence last parted.sequence) parted.number → run ≡ option_map (run_number names) (predecessor_of names place)
    run_found last run before is =
        is
        ∙ ap (λ (o : Option LastFrame). run_going_on o parted.number) (before.each parted.sequence)
        ∙ run_by (last_of names place parted.sequence) (is_last names place parted.sequence)

  -- ---- so the runs have one frame more

  pub runs_more : runs_below names (place + 1) ≡ with_frame (runs_below names place) (option_map (run_number names) (predecessor_of names place)) place
  unfolding with_frame
  runs_more = by (predecessor_of names place) refl
    where
      by : (o : Option ℕ) → predecessor_of names place ≡ o → runs_below names (place + 1) ≡ with_frame (runs_below names place) (option_map (run_number names) o) place
      by None e = run_begins names frames place within e (begins names frames place e)
      by (Some p) e = (run_goes_on names frames place within p e (begun_run place)).is

  pub run_is : unwrap_or (option_map (run_number names) (predecessor_of names place)) (length (runs_below names place)) ≡ run_number names place
  unfolding runs_below run_number
  run_is = by (predecessor_of names place) refl
    where
      by : (o : Option ℕ) → predecessor_of names place ≡ o → unwrap_or (option_map (run_number names) o) (length (runs_below names place)) ≡ run_number names place
      by None e = length-map (places_where (begins_run names) place) (run_at names place) ∙ ap (λ n. length (places_where (begins_run names) n)) (sym (first_here names frames place e))
      by (Some p) e = ap (λ n. length (places_where (begins_run names) n)) (sym (first_before names frames place p within e))

  pub run_within : (run : ℕ) → option_map (run_number names) (predecessor_of names place) ≡ Some run → run < length (runs_below names place)
  run_within run = by (predecessor_of names place) refl
    where
      by : (o : Option ℕ) → predecessor_of names place ≡ o → option_map (run_number names) o ≡ Some run → run < length (runs_below names place)
      by None e f = absurd (cc)
      by (Some p) e f = let same : run_number names p ≡ run = cc in subst (λ n. n < length (runs_below names place)) same (run_goes_on names frames place within p e (begun_run place)).within

-- ---- and each sequence its last frame

last_here : (names : List (List ℕ)) (place : ℕ) (sequence : Sequence) → last_of names (place + 1) sequence ≡ (if is_in sequence (name_at names place) then Some place else last_of names place sequence)
unfolding last_of
last_here names place sequence = let next : place + 1 ≡ suc place = omega arith in ap (λ n. last_of names n sequence) next

chosen : (b : Bool) (f : ℕ → LastFrame) (place : ℕ) (o : Option ℕ) → cond b (Some (f place)) (option_map f o) ≡ option_map f (if b then Some place else o)
chosen true f place o = refl
chosen false f place o = refl

pub last_more : (names : List (List ℕ)) (place : ℕ) (parted : NumberedName) (run : ℕ) (old new : LastFrames)
    → IsParted (name_at names place) parted → run ≡ run_number names place → AreLastBelow names place old
    → Updates same_sequence old new parted.sequence (Some (record { run = run; number = parted.number })) → AreLastBelow names (place + 1) new
last_more names place parted run old new of is before updates = record {
  each = λ sequence.
      let frame : LastFrame = frame_at names place in
      let this : record { run = run; number = parted.number } ≡ frame = (λ i. record { run = is i; number = of.number i }) in
      updates.0 sequence
      ∙ (λ i. cond (same_key (name_at names place) parted of sequence i) (Some (this i)) (before.each sequence i))
      ∙ chosen (is_in sequence (name_at names place)) (frame_at names) place (last_of names place sequence)
      ∙ ap (option_map (frame_at names)) (sym (last_here names place sequence));
}

pub last_same : (names : List (List ℕ)) (place : ℕ) (last : LastFrames) → is_numbered (name_at names place) ≡ false → AreLastBelow names place last → AreLastBelow names (place + 1) last
unfolding is_in
last_same names place last none before = record {
  each = λ sequence.
      let out : is_in sequence (name_at names place) ≡ false = ap (λ b. b && (is_same_name (before_of (name_at names place)) sequence.before.now && (nat_eq (length (digits_of (name_at names place))) sequence.digits && is_same_name (after_of (name_at names place)) sequence.after.now))) none in
      before.each sequence
      ∙ ap (λ b. option_map (frame_at names) (if b then Some place else last_of names place sequence)) (sym out)
      ∙ ap (option_map (frame_at names)) (sym (last_here names place sequence));
}

pub last_none : (names : List (List ℕ)) (last : LastFrames) → last.entries ≡ [] → AreLastBelow names 0 last
unfolding last_of
last_none names last empty = record { each = λ sequence. ap (lookup (same_sequence sequence)) empty }

pub runs_none : (names : List (List ℕ)) → [] ≡ runs_below names 0
unfolding runs_below places_where
runs_none names = refl

pub runs_all : (names : List (List ℕ)) (bound : ℕ) → bound ≡ length names → runs_below names bound ≡ runs_of names
unfolding runs_below runs_of
runs_all names bound e = ap (runs_below names) e
