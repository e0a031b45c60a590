-- What is written is read.
use Rattle.std.proofs.Common.{◌≡◌, ℕ, suc, ◌+◌, ◌*◌, ◌^◌, ◌≤◌, ◌<◌, Bool, true, false, cond, List, [], ◌∷◌, ◌++◌, length, drop, Some, refl, ap, sym, ◌∙◌, arith, ◌==◌, length-append, eq-eqb, eqb-true}
use Rattle.std.specs.Prelude.{nat_le, replicate}
use Rattle.std.specs.List.{flat_map, list_all}
use Rattle.std.specs.Int.{bytes_high_first}
use Rattle.std.proofs.lemmas.List.{length-replicate}
use Rattle.std.proofs.lemmas.Bool.{and_parts, leb-true, leb-false, lt-ltb, ltb-true}
use Rattle.byteorder.specs.Endian.{big_number}
use Rattle.byteorder.specs.Numbers.{big_number-reads_back}
use Rattle.dpx_packing.specs.PadForms.{Run, values_of, run_before, runs_of, zeros_form, run_bytes, runs_form, values_form, pad_form_of, runs_at, is_run, runs_read, values_read, pads_read}
use Rattle.dpx_packing.proofs.PadChoice.{are_zero, zeros_chosen, runs_chosen, values_chosen, length-run_bytes}

-- ---- the maximal runs of a list spell it

before-values : (value : ℕ) (runs : List Run) → values_of (run_before value runs) ≡ value ∷ values_of runs
unfolding values_of
before-values value [] = refl
before-values value (run ∷ runs) =
    elim (value == run.value) as (λ (b : Bool). (value == run.value) ≡ b → values_of (cond b (record { times = run.times + 1; value = value } ∷ runs) (record { times = 1; value = value } ∷ run ∷ runs)) ≡ value ∷ values_of (run ∷ runs)) [
      | true ↦ λ same.
          let e : value ≡ run.value = eqb-true value run.value same in
          let more : run.times + 1 ≡ suc run.times = omega arith in
          rw (more, e) refl
      | false ↦ λ differ. refl
    ] refl

pub values_of-runs_of : (values : List ℕ) → values_of (runs_of values) ≡ values
unfolding values_of runs_of
values_of-runs_of [] = refl
values_of-runs_of (value ∷ values) = before-values value (runs_of values) ∙ ap (λ (rest : List ℕ). value ∷ rest) (values_of-runs_of values)

before-each : (value : ℕ) (runs : List Run) → list_all is_run runs ≡ true → list_all is_run (run_before value runs) ≡ true
before-each value [] e = refl
before-each value (run ∷ runs) e =
    elim (value == run.value) as (λ (b : Bool). list_all is_run (cond b (record { times = run.times + 1; value = value } ∷ runs) (record { times = 1; value = value } ∷ run ∷ runs)) ≡ true) [
      | true ↦ let some : is_run (record { times = run.times + 1; value = value }) ≡ true = lt-ltb 0 (run.times + 1) (omega arith) in rw some (and_parts (is_run run) (list_all is_run runs) e).1
      | false ↦ e
    ]

pub each_of-runs_of : (values : List ℕ) → list_all is_run (runs_of values) ≡ true
unfolding runs_of
each_of-runs_of [] = refl
each_of-runs_of (value ∷ values) = before-each value (runs_of values) (each_of-runs_of values)

-- ---- runs are read as they were written

pub number_back : (number : ℕ) (rest : List ℕ) → number < 2 ^ 32 → big_number 4 (bytes_high_first 4 number ++ rest) ≡ number
number_back number rest h = big_number-reads_back 4 number rest h

length-values_of-cons : (run : Run) (runs : List Run) → length (values_of (run ∷ runs)) ≡ run.times + length (values_of runs)
unfolding values_of
length-values_of-cons run runs = omega (arith, length-append (replicate run.times run.value) (values_of runs), length-replicate run.times run.value)

pub runs_at-spelled : (runs : List Run) → length (values_of runs) < 2 ^ 32 → runs_at (length runs) (flat_map run_bytes runs) ≡ runs
unfolding runs_at
runs_at-spelled [] h = refl
runs_at-spelled (run ∷ runs) h =
    let parts = length-values_of-cons run runs in
    let first : big_number 4 (bytes_high_first 4 run.times ++ (run.value ∷ flat_map run_bytes runs)) ≡ run.times = number_back run.times (run.value ∷ flat_map run_bytes runs) (omega arith) in
    ap (λ (times : ℕ). record { times = times; value = run.value } ∷ runs_at (length runs) (flat_map run_bytes runs)) first ∙ ap (λ (rest : List Run). run ∷ rest) (runs_at-spelled runs (omega arith))

pub runs_read-is : (body : List ℕ) (count number : ℕ) (runs : List Run) → big_number 4 body ≡ number → length body ≡ 4 + 5 * number → runs_at number (drop 4 body) ≡ runs → list_all is_run runs ≡ true → length (values_of runs) ≡ count → runs_read body count ≡ Some (values_of runs)
unfolding runs_read
runs_read-is body count number runs is long at each whole =
    let size : (length body == 4 + 5 * number) ≡ true = eq-eqb _ _ long in
    let filled : (length (values_of runs) == count) ≡ true = eq-eqb _ _ whole in
    rw (is, size, at, each, filled) refl

pub values_read-is : (body : List ℕ) (count : ℕ) → big_number 4 body ≡ count → length body ≡ 4 + count → values_read body count ≡ Some (drop 4 body)
unfolding values_read
values_read-is body count is long =
    let size : (length body == 4 + count) ≡ true = eq-eqb _ _ long in
    let number : (big_number 4 body == count) ≡ true = eq-eqb _ _ is in
    rw (number, size) refl

-- ---- each form is read as what it spells

runs_form-read : (runs : List Run) → list_all is_run runs ≡ true → length (values_of runs) < 2 ^ 32 → length runs < 2 ^ 32 → pads_read (runs_form runs) (length (values_of runs)) ≡ Some (values_of runs)
unfolding pads_read runs_form
runs_form-read runs each short few =
    let long : length (bytes_high_first 4 (length runs) ++ flat_map run_bytes runs) ≡ 4 + 5 * length runs = omega (arith, length-run_bytes runs, length-append (bytes_high_first 4 (length runs)) (flat_map run_bytes runs)) in
    runs_read-is (bytes_high_first 4 (length runs) ++ flat_map run_bytes runs) (length (values_of runs)) (length runs) runs (number_back (length runs) (flat_map run_bytes runs) few) long (runs_at-spelled runs short) each refl

pub values_form-read : (values : List ℕ) → length values < 2 ^ 32 → pads_read (values_form values) (length values) ≡ Some values
unfolding pads_read values_form
values_form-read values few =
    let long : length (bytes_high_first 4 (length values) ++ values) ≡ 4 + length values = omega (arith, length-append (bytes_high_first 4 (length values)) values) in
    values_read-is (bytes_high_first 4 (length values) ++ values) (length values) (number_back (length values) values few) long

pub zeros_are_read : (count : ℕ) → pads_read zeros_form count ≡ Some (replicate count 0)
unfolding pads_read
zeros_are_read count = refl

-- runs are no more than the values that they stand for
pub fewer_runs : (runs : List Run) → list_all is_run runs ≡ true → length runs ≤ length (values_of runs)
fewer_runs [] each = omega arith
fewer_runs (run ∷ runs) each =
    let some : 0 < run.times = ltb-true 0 run.times (and_parts _ _ each).0 in
    omega (arith, length-values_of-cons run runs, fewer_runs runs (and_parts (is_run run) (list_all is_run runs) each).1)

pub runs_are_read : (runs : List Run) → list_all is_run runs ≡ true → length (values_of runs) < 2 ^ 32 → pads_read (runs_form runs) (length (values_of runs)) ≡ Some (values_of runs)
runs_are_read runs each short = runs_form-read runs each short (omega (arith, fewer_runs runs each))

zeros-are : (values : List ℕ) → are_zero values ≡ true → replicate (length values) 0 ≡ values
zeros-are [] e = refl
zeros-are (x ∷ xs) e =
    let first : x ≡ 0 = eqb-true x 0 (and_parts _ _ e).0 in
    rw (first, zeros-are xs (and_parts (x == 0) (are_zero xs) e).1) refl

zeros_form-read : (values : List ℕ) → are_zero values ≡ true → pads_read zeros_form (length values) ≡ Some values
unfolding pads_read
zeros_form-read values e = ap (λ (zeros : List ℕ). Some zeros) (zeros-are values e)

pub before-le : (value : ℕ) (runs : List Run) → length (run_before value runs) ≤ suc (length runs)
before-le value [] = omega arith
before-le value (run ∷ runs) =
    elim (value == run.value) as (λ (b : Bool). length (cond b (record { times = run.times + 1; value = value } ∷ runs) (record { times = 1; value = value } ∷ run ∷ runs)) ≤ suc (suc (length runs))) [
      | true ↦ omega arith
      | false ↦ omega arith
    ]

-- ---- the writer's form is read as the list

either_read : (values : List ℕ) → length values < 2 ^ 32 → are_zero values ≡ false → (b : Bool) → (nat_le (5 * length (runs_of values)) (length values) ≡ b) → pads_read (pad_form_of values) (length values) ≡ Some values
either_read values few some true fits =
    let chosen = runs_chosen values some (leb-true _ _ fits) in
    let spelled = values_of-runs_of values in
    let long : length (values_of (runs_of values)) ≡ length values = ap length spelled in
    let read = runs_are_read (runs_of values) (each_of-runs_of values) (omega arith) in
    ap (λ (form : List ℕ). pads_read form (length values)) chosen ∙ ap (λ (count : ℕ). pads_read (runs_form (runs_of values)) count) (sym long) ∙ read ∙ ap (λ (pads : List ℕ). Some pads) spelled
either_read values few some false fits =
    let chosen = values_chosen values some (leb-false _ _ fits) in
    ap (λ (form : List ℕ). pads_read form (length values)) chosen ∙ values_form-read values few

written : (values : List ℕ) → length values < 2 ^ 32 → (b : Bool) → are_zero values ≡ b → pads_read (pad_form_of values) (length values) ≡ Some values
written values few true zeros = ap (λ (form : List ℕ). pads_read form (length values)) (zeros_chosen values zeros) ∙ zeros_form-read values zeros
written values few false some = either_read values few some (nat_le (5 * length (runs_of values)) (length values)) refl

pub written_is_read : (values : List ℕ) → length values < 2 ^ 32 → pads_read (pad_form_of values) (length values) ≡ Some values
written_is_read values few = written values few (are_zero values) refl
