-- Which form is the shortest, by the number of runs.
use Rattle.std.proofs.Common.{◌≡◌, ◌≢◌, ℕ, suc, ◌+◌, ◌*◌, ◌≤◌, ◌<◌, Bool, true, false, cond, List, [], ◌∷◌, length, get_or, refl, ap, sym, ◌∙◌, arith, ◌==◌, ◌&&◌, length-append, eq-eqb, zero-add}
use Rattle.std.specs.Prelude.{nat_le}
use Rattle.std.specs.List.{flat_map, list_all}
use Rattle.std.specs.Int.{bytes_high_first}
use Rattle.std.proofs.lemmas.Bool.{and_parts, eqb-true, le-leb}
use Rattle.std.proofs.lemmas.Bool.Decides.{nat_tests}
use Rattle.byteorder.specs.Numbers.{length-bytes_high_first}
use Rattle.dpx_packing.specs.PadForms.{Run, runs_of, run_bytes, zeros_form, runs_form, values_form, shorter, pad_form_of}
use Rattle.dpx_packing.proofs.PadRuns.{runs_of-begins, count-cons, count-one}

-- whether all values are zero
abbrev pub are_zero : List ℕ → Bool
are_zero values = list_all (λ value. value == 0) values

record OneOfZero (x count : ℕ) : Type 0 where
  pub one : count ≡ 1
  pub zero_first : x ≡ 0

-- zeros are one run of zeros
one_of_zero : (x : ℕ) (xs : List ℕ) → are_zero (x ∷ xs) ≡ true → OneOfZero x (length (runs_of (x ∷ xs)))
one_of_zero x [] e = record { one = count-one x; zero_first = eqb-true x 0 (and_parts _ _ e).0 }
one_of_zero x (y ∷ ys) e =
    let first : x ≡ 0 = eqb-true x 0 (and_parts _ _ e).0 in
    let ih = one_of_zero y ys (and_parts _ _ e).1 in
    let same : (x == y) ≡ true = eq-eqb x y (first ∙ sym ih.zero_first) in
    let count : length (runs_of (x ∷ y ∷ ys)) ≡ length (runs_of (y ∷ ys)) = count-cons x y ys ∙ ap (λ (b : Bool). cond b 0 1 + length (runs_of (y ∷ ys))) same ∙ zero-add (length (runs_of (y ∷ ys))) in
    record { one = count ∙ ih.one; zero_first = first }

some : (x : ℕ) (xs : List ℕ) → 0 < length (runs_of (x ∷ xs))
some x xs = let b = runs_of-begins x xs in rw b.is (omega arith)

-- and one run of zeros is all zeros
zero_of_one : (x : ℕ) (xs : List ℕ) → length (runs_of (x ∷ xs)) ≡ 1 → x ≡ 0 → are_zero (x ∷ xs) ≡ true
zero_of_one x [] e first = rw (eq-eqb x 0 first) refl
zero_of_one x (y ∷ ys) e first =
    elim (x == y) as (λ (b : Bool). (x == y) ≡ b → are_zero (x ∷ y ∷ ys) ≡ true) [
      | true ↦ λ same.
          let count : length (runs_of (x ∷ y ∷ ys)) ≡ length (runs_of (y ∷ ys)) = count-cons x y ys ∙ ap (λ (b : Bool). cond b 0 1 + length (runs_of (y ∷ ys))) same ∙ zero-add (length (runs_of (y ∷ ys))) in
          let second : y ≡ 0 = sym (eqb-true x y same) ∙ first in
          rw (eq-eqb x 0 first, zero_of_one y ys (sym count ∙ e) second) refl
      | false ↦ λ differ.
          let count : length (runs_of (x ∷ y ∷ ys)) ≡ suc (length (runs_of (y ∷ ys))) = count-cons x y ys ∙ rw differ (omega arith) in
          absurd (omega (arith, some y ys))
    ] refl

are_zero-is : (x : ℕ) (xs : List ℕ) → are_zero (x ∷ xs) ≡ ((length (runs_of (x ∷ xs)) == 1) && (x == 0))
are_zero-is x xs =
    elim (are_zero (x ∷ xs)) as (λ (b : Bool). are_zero (x ∷ xs) ≡ b → b ≡ ((length (runs_of (x ∷ xs)) == 1) && (x == 0))) [
      | true ↦ λ e. let o = one_of_zero x xs e in rw (eq-eqb _ 1 o.one, eq-eqb x 0 o.zero_first) refl
      | false ↦ λ e.
          elim (length (runs_of (x ∷ xs)) == 1) as (λ (b : Bool). (length (runs_of (x ∷ xs)) == 1) ≡ b → false ≡ (b && (x == 0))) [
            | true ↦ λ one.
                elim (x == 0) as (λ (b : Bool). (x == 0) ≡ b → false ≡ b) [
                  | true ↦ λ first. let is : are_zero (x ∷ xs) ≡ true = zero_of_one x xs (eqb-true _ 1 one) (eqb-true x 0 first) in absurd (cc)
                  | false ↦ λ first. refl
                ] refl
            | false ↦ λ one. refl
          ] refl
    ] refl

-- the first value and the number of runs tell whether all are zero
pub are_zero-one_run : (values : List ℕ) → 1 ≤ length values → length (runs_of values) ≡ 1 → are_zero values ≡ (get_or values 0 0 == 0)
are_zero-one_run [] h one = absurd (omega arith)
are_zero-one_run (x ∷ xs) h one = are_zero-is x xs ∙ rw one refl

pub are_zero-more_runs : (values : List ℕ) → 1 ≤ length values → length (runs_of values) ≢ 1 → are_zero values ≡ false
are_zero-more_runs [] h more = absurd (omega arith)
are_zero-more_runs (x ∷ xs) h more =
    let test : (length (runs_of (x ∷ xs)) == 1) ≡ false = grind (arith, nat_tests) in
    are_zero-is x xs ∙ rw test refl

pub length-run_bytes : (runs : List Run) → length (flat_map run_bytes runs) ≡ 5 * length runs
length-run_bytes [] = refl
length-run_bytes (run ∷ runs) =
    omega (arith, length-append (run_bytes run) (flat_map run_bytes runs), length-append (bytes_high_first 4 run.times) (run.value ∷ []), length-bytes_high_first 4 run.times, length-run_bytes runs)

pub length-runs_form : (runs : List Run) → length (runs_form runs) ≡ 5 + 5 * length runs
unfolding runs_form
length-runs_form runs =
    omega (arith, length-append (bytes_high_first 4 (length runs)) (flat_map run_bytes runs), length-bytes_high_first 4 (length runs), length-run_bytes runs)

pub length-values_form : (values : List ℕ) → length (values_form values) ≡ 5 + length values
unfolding values_form
length-values_form values =
    omega (arith, length-append (bytes_high_first 4 (length values)) values, length-bytes_high_first 4 (length values))

pub shorter-first : (first second : List ℕ) → length first ≤ length second → shorter first second ≡ first
shorter-first first second h = rw (le-leb (length first) (length second) h) refl

pub shorter-second : (first second : List ℕ) → length second < length first → shorter first second ≡ second
shorter-second first second h =
    let test : nat_le (length first) (length second) ≡ false = grind (arith, nat_tests) in
    rw test refl

pub zeros_chosen : (values : List ℕ) → are_zero values ≡ true → pad_form_of values ≡ zeros_form
unfolding pad_form_of
zeros_chosen values e = rw e refl

pub runs_chosen : (values : List ℕ) → are_zero values ≡ false → 5 * length (runs_of values) ≤ length values → pad_form_of values ≡ runs_form (runs_of values)
unfolding pad_form_of
runs_chosen values e few =
    rw (e, shorter-first (runs_form (runs_of values)) (values_form values) (omega (arith, length-runs_form (runs_of values), length-values_form values))) refl

pub values_chosen : (values : List ℕ) → are_zero values ≡ false → length values < 5 * length (runs_of values) → pad_form_of values ≡ values_form values
unfolding pad_form_of
values_chosen values e many =
    rw (e, shorter-second (runs_form (runs_of values)) (values_form values) (omega (arith, length-runs_form (runs_of values), length-values_form values))) refl

pub ruleset choices = (are_zero-one_run, are_zero-more_runs, zeros_chosen, runs_chosen, values_chosen)
