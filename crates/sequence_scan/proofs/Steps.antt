-- The runs below a bound, one frame more.
use Rattle.std.proofs.Common.{◌≡◌, ℕ, zero, suc, ◌+◌, ◌<◌, ◌≤◌, Bool, true, false, if◌then◌else◌, List, [], ◌∷◌, ◌++◌, length, get_or, set, map, Some, None, nat_eq, refl, sym, ap, ◌∙◌, subst, inl, inr, arith}
use Rattle.std.specs.List.{AllByRecursion}
use Rattle.std.proofs.lemmas.Bool.{cases_lt, eq-eqb, ne_eqb}
use Rattle.std.proofs.lemmas.List.{map-append, length-map, set_at, get_or_at, append_assoc, length-append}
use Rattle.sequence_scan.specs.declared.run.Run.{Run}
use Rattle.sequence_scan.specs.Runs.{AreFrames, predecessor_of, begins_run, first_of, places_where, in_run, run_at}
use Rattle.sequence_scan.specs.Scanning.{runs_below, run_number}
use Rattle.sequence_scan.proofs.Back.{found, first_here, first_before, first_begins, goes_on}

-- ---- the places below a bound that pass a test

pub one_more : (test : ℕ → Bool) (bound : ℕ) → test bound ≡ true → places_where test (suc bound) ≡ places_where test bound ++ bound ∷ []
unfolding places_where
one_more test bound e = ap (λ b. if b then places_where test bound ++ bound ∷ [] else places_where test bound) e

pub no_more : (test : ℕ → Bool) (bound : ℕ) → test bound ≡ false → places_where test (suc bound) ≡ places_where test bound
unfolding places_where
no_more test bound e = ap (λ b. if b then places_where test bound ++ bound ∷ [] else places_where test bound) e

pub no_place : (test : ℕ → Bool) (bound : ℕ) → ((k : ℕ) → k < bound → test k ≡ false) → places_where test bound ≡ []
unfolding places_where
no_place test zero none = refl
no_place test (suc bound) none = ap (λ b. if b then places_where test bound ++ bound ∷ [] else places_where test bound) (none bound (omega arith)) ∙ no_place test bound (λ k lt. none k (omega arith))

-- all are other places than this one
abbrev pub AreOther : ℕ → List ℕ → Type 0
AreOther place places = AllByRecursion (λ other. nat_eq place other ≡ false) places

other_more : (place other : ℕ) (places : List ℕ) → AreOther place places → (place ≡ other → ⊥) → AreOther place (places ++ other ∷ [])
other_more place other [] all n = (ne_eqb place other n, tt)
other_more place other (p ∷ ps) all n = (all.0, other_more place other ps all.1 n)

pub others_below : (test : ℕ → Bool) (place bound : ℕ) → bound ≤ place → AreOther place (places_where test bound)
unfolding places_where
others_below test place zero le = tt
others_below test place (suc bound) le = by (test bound) (others_below test place bound (omega arith))
  where
    by : (b : Bool) → AreOther place (places_where test bound) → AreOther place (if b then places_where test bound ++ bound ∷ [] else places_where test bound)
    by true all = other_more place bound (places_where test bound) all (λ e. omega arith)
    by false all = all

-- round a place that passes, the places are those before it, it, and others
pub record Around (test : ℕ → Bool) (place bound : ℕ) : Type 0 where
  pub rest : List ℕ
  pub is : places_where test bound ≡ places_where test place ++ place ∷ rest
  pub other : AreOther place rest

pub around : (test : ℕ → Bool) (place : ℕ) → test place ≡ true → (bound : ℕ) → place < bound → Around test place bound
around test place e zero lt = absurd (omega arith)
around test place e (suc bound) lt =
    elim (cases_lt place bound) [
      | inl below ↦ by (test bound) refl (around test place e bound below) below
      | inr past ↦
          let same : place ≡ bound = omega arith in
          record { rest = []; is = subst (λ n. places_where test (suc n) ≡ places_where test place ++ place ∷ []) same (one_more test place e); other = tt }
    ]
  where
    by : (b : Bool) → test bound ≡ b → Around test place bound → place < bound → Around test place (suc bound)
    by true p h below = record {
      rest = h.rest ++ bound ∷ [];
      is = one_more test bound p ∙ ap (λ (xs : List ℕ). xs ++ bound ∷ []) h.is ∙ append_assoc (places_where test place) (place ∷ h.rest) (bound ∷ []);
      other = other_more place bound h.rest h.other (λ s. omega arith);
    }
    by false p h below = record { rest = h.rest; is = no_more test bound p ∙ h.is; other = h.other }

-- ---- a frame more changes the runs of one first place alone

module _ (names : List (List ℕ)) (bound : ℕ) where
  same_run : (first : ℕ) → nat_eq (first_of names bound) first ≡ false → run_at names (suc bound) first ≡ run_at names bound first
  unfolding run_at
  same_run first e = ap (λ (xs : List ℕ). record { first = first; members = xs }) (no_more (in_run names first) bound e)

  same_runs : (firsts : List ℕ) → AreOther (first_of names bound) firsts → map (run_at names (suc bound)) firsts ≡ map (run_at names bound) firsts
  same_runs [] all = refl
  same_runs (f ∷ fs) all = (λ i. same_run f all.0 i ∷ same_runs fs all.1 i)

  grown_run : (first : ℕ) → first_of names bound ≡ first → run_at names (suc bound) first ≡ record { first = first; members = (run_at names bound first).members ++ bound ∷ [] }
  unfolding run_at
  grown_run first e = ap (λ (xs : List ℕ). record { first = first; members = xs }) (one_more (in_run names first) bound (eq-eqb (first_of names bound) first e))

-- the frame at the bound is one more member of a run
pub record GoesOn (names : List (List ℕ)) (bound run : ℕ) (d : Run) : Type 0 where
  pub within : run < length (runs_below names bound)
  pub is : runs_below names (bound + 1) ≡ set (runs_below names bound) run (record { first = (get_or (runs_below names bound) run d).first; members = (get_or (runs_below names bound) run d).members ++ bound ∷ [] })

module _ (names : List (List ℕ)) (frames : AreFrames names) (bound : ℕ) (within : bound < length names) where
  -- a frame that begins a run makes one more
  pub run_begins : predecessor_of names bound ≡ None → begins_run names bound ≡ true → runs_below names (bound + 1) ≡ runs_below names bound ++ record { first = bound; members = bound ∷ [] } ∷ []
  unfolding runs_below run_at
  run_begins none begins =
      let next : bound + 1 ≡ suc bound = omega arith in
      let here : first_of names bound ≡ bound = first_here names frames bound none in
      let firsts : List ℕ = places_where (begins_run names) bound in
      let others : AreOther (first_of names bound) firsts = others_below (begins_run names) (first_of names bound) bound (omega arith) in
      let nobody : places_where (in_run names bound) bound ≡ [] =
      no_place (in_run names bound) bound (λ k lt. ne_eqb (first_of names k) bound (λ e. omega (arith, (first_begins names frames k (omega arith)).below))) in
      let alone : run_at names (suc bound) bound ≡ record { first = bound; members = bound ∷ [] } =
      grown_run names bound bound here ∙ ap (λ (xs : List ℕ). record { first = bound; members = xs ++ bound ∷ [] }) nobody in
      ap (runs_below names) next
      ∙ ap (map (run_at names (suc bound))) (one_more (begins_run names) bound begins)
      ∙ map-append (run_at names (suc bound)) firsts (bound ∷ [])
      ∙ (λ i. same_runs names bound firsts others i ++ alone i ∷ [])

  -- any other frame goes to the end of its predecessor's
  pub run_goes_on : (p : ℕ) → predecessor_of names bound ≡ Some p → (d : Run) → GoesOn names bound (run_number names p) d
  unfolding runs_below run_number run_at
  run_goes_on p e d =
      let h = found names frames bound p within e in
      let begun = first_begins names frames p (omega (arith, h.0)) in
      let f : ℕ = first_of names p in
      let same : first_of names bound ≡ f = first_before names frames bound p within e in
      let firsts : List ℕ = places_where (begins_run names) f in
      let split : Around (begins_run names) f bound = around (begins_run names) f begun.begins bound (omega (arith, h.0, begun.below)) in
      let old : ℕ → Run = run_at names bound in
      let new : ℕ → Run = run_at names (suc bound) in
      let cut : map old (places_where (begins_run names) bound) ≡ map old firsts ++ old f ∷ map old split.rest =
      ap (map old) split.is ∙ map-append old firsts (f ∷ split.rest) in
      let long : length (map old firsts) ≡ length firsts = length-map firsts old in
      let there : get_or (map old (places_where (begins_run names) bound)) (length firsts) d ≡ old f =
      ap (λ (rs : List Run). get_or rs (length firsts) d) cut ∙ get_or_at (map old firsts) (old f) (map old split.rest) d (length firsts) long in
      let before : AreOther (first_of names bound) firsts = subst (λ n. AreOther n firsts) (sym same) (others_below (begins_run names) f f (omega arith)) in
      let behind : AreOther (first_of names bound) split.rest = subst (λ n. AreOther n split.rest) (sym same) split.other in
      let grown : new f ≡ record { first = f; members = (old f).members ++ bound ∷ [] } = grown_run names bound f same in
      let next : bound + 1 ≡ suc bound = omega arith in
      record {
        within = omega (arith, ap length cut, long, length-append (map old firsts) (old f ∷ map old split.rest));
        is = ap (runs_below names) next
            ∙ ap (map new) (no_more (begins_run names) bound (goes_on names frames bound p e) ∙ split.is)
            ∙ map-append new firsts (f ∷ split.rest)
            ∙ (λ i. same_runs names bound firsts before i ++ grown i ∷ same_runs names bound split.rest behind i)
            ∙ sym (set_at (map old firsts) (old f) (map old split.rest) (record { first = f; members = (old f).members ++ bound ∷ [] }) (length firsts) long)
            ∙ ap (λ (rs : List Run). set rs (length firsts) (record { first = f; members = (old f).members ++ bound ∷ [] })) (sym cut)
            ∙ ap (λ (r : Run). set (map old (places_where (begins_run names) bound)) (length firsts) (record { first = r.first; members = r.members ++ bound ∷ [] })) (sym there);
      }
