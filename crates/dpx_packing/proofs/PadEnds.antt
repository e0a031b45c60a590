-- Which forms of pads are whole.
use Rattle.std.proofs.Common.{◌≡◌, ◌≢◌, ℕ, zero, suc, ◌+◌, ◌*◌, ◌^◌, ◌<◌, Bool, true, false, cond, List, [], ◌∷◌, ◌++◌, length, drop, Option, Some, None, refl, ap, sym, subst, ◌∙◌, arith, ◌&&◌, ◌==◌, length-append}
use Rattle.std.specs.Prelude.{nat_le, replicate}
use Rattle.std.specs.List.{flat_map, list_all}
use Rattle.std.specs.Int.{bytes_high_first}
use Rattle.std.proofs.lemmas.List.Folds.{list_all-append}
use Rattle.std.proofs.lemmas.Bool.{and_parts, eqb-true, leb-true, leb-false, lt-ltb}
use Rattle.std.proofs.lemmas.Bool.Decides.{nat_tests}
use Rattle.byteorder.specs.Endian.{big_number}
use Rattle.dpx_packing.specs.PadForms.{IsPadForm, Run, filled_by, is_run, pad_form_len, pad_form_of, pads_read, run_bytes, runs_at, runs_form, runs_len, runs_of, runs_read, values_form, values_len, values_of, values_read, zeros_form}
use Rattle.dpx_packing.proofs.PadChoice.{are_zero, length-run_bytes, runs_chosen, values_chosen, zeros_chosen}
use Rattle.dpx_packing.proofs.PadFilling.{run_of, runs_at-around, runs_at-next}
use Rattle.dpx_packing.proofs.PadRound.{each_of-runs_of, fewer_runs, number_back, runs_at-spelled, values_of-runs_of}
use Rattle.dpx_packing.specs.FormEnds.{runs_len-is, values_len-is}

-- ---- the runs so far, none of which has the length zero

pub each_none : (runs : List ℕ) → list_all is_run (runs_at 0 runs) ≡ true
unfolding runs_at
each_none runs = refl

pub each_more : (runs : List ℕ) (i times : ℕ) → list_all is_run (runs_at i runs) ≡ true → times ≡ big_number 4 (drop (5 * i) runs) → times ≢ 0 → list_all is_run (runs_at (i + 1) runs) ≡ true
each_more runs i times each is some =
    let test : is_run (run_of runs i) ≡ true = lt-ltb 0 (big_number 4 (drop (5 * i) runs)) (omega (arith, is, some)) in
    ap (λ (r : List Run). list_all is_run r) (runs_at-next i runs) ∙ list_all-append is_run (runs_at i runs) (run_of runs i ∷ []) ∙ rw (each, test) refl

pub each_zero : (runs : List ℕ) (i count times : ℕ) → list_all is_run (runs_at i runs) ≡ true → i < count → times ≡ big_number 4 (drop (5 * i) runs) → times ≡ 0 → list_all is_run (runs_at count runs) ≡ false
each_zero runs i count times each h is none =
    let around = runs_at-around i count runs h in
    let zero_here : big_number 4 (drop (5 * i) runs) ≡ 0 = sym is ∙ none in
    let test : is_run (run_of runs i) ≡ false = rw zero_here refl in
    ap (λ (r : List Run). list_all is_run r) around.1 ∙ list_all-append is_run (runs_at i runs) (run_of runs i ∷ around.0) ∙ rw (each, test) refl

-- ---- what is spelled

pub zeros_whole : IsPadForm zeros_form
unfolding pad_form_len
zeros_whole = refl

pub runs_whole : (runs : List Run) → list_all is_run runs ≡ true → length (values_of runs) < 2 ^ 32 → IsPadForm (runs_form runs)
unfolding pad_form_len runs_form
runs_whole runs each short =
    let body : List ℕ = bytes_high_first 4 (length runs) ++ flat_map run_bytes runs in
    let long : length body ≡ 4 + 5 * length runs = omega (arith, length-run_bytes runs, length-append (bytes_high_first 4 (length runs)) (flat_map run_bytes runs)) in
    let few : length runs < 2 ^ 32 = omega (arith, fewer_runs runs each) in
    runs_len-is body (length runs) runs (number_back (length runs) (flat_map run_bytes runs) few) (omega (arith, long)) (runs_at-spelled runs short) each ∙ ap (λ (k : ℕ). Some k) (omega (arith, long))

pub values_whole : (values : List ℕ) → length values < 2 ^ 32 → IsPadForm (values_form values)
unfolding pad_form_len values_form
values_whole values few =
    let body : List ℕ = bytes_high_first 4 (length values) ++ values in
    let long : length body ≡ 4 + length values = omega (arith, length-append (bytes_high_first 4 (length values)) values) in
    values_len-is body (length values) (number_back (length values) values few) (omega (arith, long)) ∙ ap (λ (k : ℕ). Some k) (omega (arith, long))

either_whole : (values : List ℕ) → length values < 2 ^ 32 → are_zero values ≡ false → (b : Bool) → (nat_le (5 * length (runs_of values)) (length values) ≡ b) → IsPadForm (pad_form_of values)
either_whole values few some true fits =
    let long : length (values_of (runs_of values)) ≡ length values = ap length (values_of-runs_of values) in
    subst IsPadForm (sym (runs_chosen values some (leb-true _ _ fits))) (runs_whole (runs_of values) (each_of-runs_of values) (omega (arith, long)))
either_whole values few some false fits = subst IsPadForm (sym (values_chosen values some (leb-false _ _ fits))) (values_whole values few)

by_zeros : (values : List ℕ) → length values < 2 ^ 32 → (b : Bool) → are_zero values ≡ b → IsPadForm (pad_form_of values)
by_zeros values few true zeros = subst IsPadForm (sym (zeros_chosen values zeros)) zeros_whole
by_zeros values few false some = either_whole values few some (nat_le (5 * length (runs_of values)) (length values)) refl

pub written_whole : (values : List ℕ) → length values < 2 ^ 32 → IsPadForm (pad_form_of values)
written_whole values few = by_zeros values few (are_zero values) refl

-- ---- what is filled in is a whole form

tested : {A : Type 0} (b : Bool) (found : Option A) (x : A) → cond b found None ≡ Some x → (b ≡ true) × (found ≡ Some x)
tested true found x e = (refl, e)
tested false found x e = absurd (cc)

runs_filled : (body : List ℕ) (count : ℕ) (pads : List ℕ) → runs_read body count ≡ Some pads → runs_len body ≡ Some (suc (length body))
unfolding runs_read
runs_filled body count pads e =
    let number : ℕ = big_number 4 body in
    let runs : List Run = runs_at number (drop 4 body) in
    let sized = tested (length body == 4 + 5 * number) (filled_by runs count) pads e in
    let filled = tested (list_all is_run runs && (length (values_of runs) == count)) (Some (values_of runs)) pads sized.1 in
    let long : length body ≡ 4 + 5 * number = eqb-true _ _ sized.0 in
    runs_len-is body number runs refl (omega (arith, long)) refl (and_parts (list_all is_run runs) (length (values_of runs) == count) filled.0).0 ∙ ap (λ (k : ℕ). Some k) (omega (arith, long))

values_filled : (body : List ℕ) (count : ℕ) (pads : List ℕ) → values_read body count ≡ Some pads → values_len body ≡ Some (suc (length body))
unfolding values_read
values_filled body count pads e =
    let sized = tested ((big_number 4 body == count) && (length body == 4 + count)) (Some (drop 4 body)) pads e in
    let parts = and_parts (big_number 4 body == count) (length body == 4 + count) sized.0 in
    let long : length body ≡ 4 + count = eqb-true _ _ parts.1 in
    values_len-is body count (eqb-true _ _ parts.0) (omega (arith, long)) ∙ ap (λ (k : ℕ). Some k) (omega (arith, long))

no_pads : (kind : ℕ) (body : List ℕ) (count : ℕ) → pads_read (suc (suc (suc kind)) ∷ body) count ≡ None
unfolding pads_read
no_pads kind body count =
    let zeros : (suc (suc (suc kind)) == 0) ≡ false = grind (arith, nat_tests) in
    let runs : (suc (suc (suc kind)) == 1) ≡ false = grind (arith, nat_tests) in
    let values : (suc (suc (suc kind)) == 2) ≡ false = grind (arith, nat_tests) in
    rw (zeros, runs, values) refl

unfilled : {A : Type 0} (found : Option (List ℕ)) (pads : List ℕ) → found ≡ None → found ≡ Some pads → A
unfilled None pads none some = absurd (cc)
unfilled (Some k) pads none some = absurd (cc)

pub filled_whole : (form : List ℕ) (count : ℕ) (pads : List ℕ) → pads_read form count ≡ Some pads → IsPadForm form
unfolding pad_form_len pads_read
filled_whole [] count pads e = absurd (cc)
filled_whole (zero ∷ body) count pads e =
    let sized = tested (length body == 0) (Some (replicate count 0)) pads e in
    ap (λ (k : ℕ). Some k) (omega (arith, eqb-true (length body) 0 sized.0))
filled_whole (suc zero ∷ body) count pads e = runs_filled body count pads e
filled_whole (suc (suc zero) ∷ body) count pads e = values_filled body count pads e
filled_whole (suc (suc (suc kind)) ∷ body) count pads e = unfilled (pads_read (suc (suc (suc kind)) ∷ body) count) pads (no_pads kind body count) e
