-- No form is shorter than the one that is written.
use Rattle.std.proofs.Common.{◌≡◌, ℕ, zero, suc, ◌+◌, ◌*◌, ◌≤◌, ◌<◌, Bool, true, false, cond, List, [], ◌∷◌, ◌++◌, length, drop, Some, None, refl, ap, arith, ◌==◌, ◌&&◌, eq-eqb, eqb-true}
use Rattle.std.specs.Prelude.{nat_le, replicate}
use Rattle.std.specs.List.{list_all}
use Rattle.std.specs.Prelude.{if◌then◌else◌}
use Rattle.std.proofs.lemmas.Bool.{and_parts, leb-true, leb-false}
use Rattle.byteorder.specs.Endian.{big_number}
use Rattle.dpx_packing.specs.PadForms.{Run, values_of, runs_of, runs_form, values_form, pad_form_of, runs_at, is_run, filled_by, zeros_read, runs_read, values_read, pads_read}
use Rattle.dpx_packing.proofs.PadChoice.{are_zero, zeros_chosen, length-runs_form, length-values_form}
use Rattle.dpx_packing.proofs.PadRuns.{change, count-cons, none_of_none}
use Rattle.dpx_packing.proofs.PadRound.{before-le}

one_more : (value : ℕ) (values : List ℕ) → length (runs_of (value ∷ values)) ≤ suc (length (runs_of values))
unfolding runs_of
one_more value values = before-le value (runs_of values)

-- one run more makes at most one maximal run more
one_run_more : (times value : ℕ) (values : List ℕ) → length (runs_of (replicate times value ++ values)) ≤ suc (length (runs_of values))
one_run_more zero value values = omega arith
one_run_more (suc zero) value values = one_more value values
one_run_more (suc (suc times)) value values =
    let same : change value value ≡ 0 = rw (eq-eqb value value refl) refl in
    omega (arith, count-cons value value (replicate times value ++ values), one_run_more (suc times) value values)

-- the maximal runs of a list are no more than any runs that spell it
fewest : (runs : List Run) → length (runs_of (values_of runs)) ≤ length runs
unfolding values_of
fewest [] = rw (none_of_none [] refl) (omega arith)
fewest (run ∷ runs) = omega (arith, one_run_more run.times run.value (values_of runs), fewest runs)

length-runs_at : (count : ℕ) (bytes : List ℕ) → length (runs_at count bytes) ≡ count
unfolding runs_at
length-runs_at zero bytes = refl
length-runs_at (suc count) bytes = ap suc (length-runs_at count (drop 5 bytes))

-- ---- the shorter of two

shorter-le : (first second : List ℕ) (b : Bool) → nat_le (length first) (length second) ≡ b → (length (cond b first second) ≤ length first) × (length (cond b first second) ≤ length second)
shorter-le first second true e = (omega arith, leb-true _ _ e)
shorter-le first second false e = let less : length second < length first = leb-false _ _ e in (omega arith, omega arith)

chosen-le : (values : List ℕ) → are_zero values ≡ false → (length (pad_form_of values) ≤ length (runs_form (runs_of values))) × (length (pad_form_of values) ≤ length (values_form values))
unfolding pad_form_of
chosen-le values some = rw some (shorter-le (runs_form (runs_of values)) (values_form values) (nat_le (length (runs_form (runs_of values))) (length (values_form values))) refl)

-- ---- what a form that is read has as its length

record Given {A : Type 0} (b : Bool) (x y : A) : Type 0 where
  pub test : b ≡ true
  pub is : x ≡ y

given : {A : Type 0} (b : Bool) (x y : A) → cond b (Some x) None ≡ Some y → Given b x y
given true x y e = record { test = refl; is = cc }
given false x y e = absurd (cc)

are_zero-replicate : (count : ℕ) → are_zero (replicate count 0) ≡ true
are_zero-replicate zero = refl
are_zero-replicate (suc count) = are_zero-replicate count

zeros_only : (body values : List ℕ) (count : ℕ) → are_zero values ≡ false → zeros_read body count ≡ Some values → ⊥
zeros_only body values count some e =
    let g = given (length body == 0) (replicate count 0) values e in
    let zeros = are_zero-replicate count in
    let is = g.is in
    cc

runs_long : (body values : List ℕ) (count : ℕ) → runs_read body count ≡ Some values → 4 + 5 * length (runs_of values) ≤ length body
unfolding runs_read
runs_long body values count e =
    let number : ℕ = big_number 4 body in
    elim (length body == 4 + 5 * big_number 4 body) as (λ (b : Bool). (length body == 4 + 5 * big_number 4 body) ≡ b → cond b (filled_by (runs_at (big_number 4 body) (drop 4 body)) count) None ≡ Some values → 4 + 5 * length (runs_of values) ≤ length body) [
      | true ↦ λ long e.
          let runs : List Run = runs_at (big_number 4 body) (drop 4 body) in
          let g = given (list_all is_run (runs_at (big_number 4 body) (drop 4 body)) && (length (values_of (runs_at (big_number 4 body) (drop 4 body))) == count)) (values_of (runs_at (big_number 4 body) (drop 4 body))) values e in
          let few : length (runs_of values) ≤ big_number 4 body = rw (← g.is) (omega (arith, fewest (runs_at (big_number 4 body) (drop 4 body)), length-runs_at (big_number 4 body) (drop 4 body))) in
          let size : length body ≡ 4 + 5 * big_number 4 body = eqb-true _ _ long in
          omega arith
      | false ↦ λ long e. absurd (cc)
    ] refl e

values_long : (body values : List ℕ) (count : ℕ) → values_read body count ≡ Some values → length body ≡ 4 + count
unfolding values_read
values_long body values count e =
    let g = given ((big_number 4 body == count) && (length body == 4 + count)) (drop 4 body) values e in
    eqb-true _ _ (and_parts (big_number 4 body == count) (length body == 4 + count) g.test).1

by_kind : (kind : ℕ) (body values : List ℕ) → are_zero values ≡ false → pads_read (kind ∷ body) (length values) ≡ Some values → length (pad_form_of values) ≤ suc (length body)
unfolding pads_read
by_kind kind body values some e =
    let less = chosen-le values some in
    let runs = length-runs_form (runs_of values) in
    let plain = length-values_form values in
    elim (kind == 0) as (λ (b : Bool). cond b (zeros_read body (length values)) (if kind == 1 then runs_read body (length values) else if kind == 2 then values_read body (length values) else None) ≡ Some values → length (pad_form_of values) ≤ suc (length body)) [
      | true ↦ λ e. absurd (zeros_only body values (length values) some e)
      | false ↦ λ e.
          elim (kind == 1) as (λ (b : Bool). cond b (runs_read body (length values)) (if kind == 2 then values_read body (length values) else None) ≡ Some values → length (pad_form_of values) ≤ suc (length body)) [
            | true ↦ λ e. let long = runs_long body values (length values) e in let a = less.0 in omega arith
            | false ↦ λ e.
                elim (kind == 2) as (λ (b : Bool). cond b (values_read body (length values)) None ≡ Some values → length (pad_form_of values) ≤ suc (length body)) [
                  | true ↦ λ e. let long = values_long body values (length values) e in let a = less.1 in omega arith
                  | false ↦ λ e. absurd (cc)
                ] e
          ] e
    ] e

shortest : (values form : List ℕ) → (b : Bool) → are_zero values ≡ b → pads_read form (length values) ≡ Some values → length (pad_form_of values) ≤ length form
unfolding pads_read
shortest values [] b zeros e = absurd (cc)
shortest values (kind ∷ body) true zeros e = rw (zeros_chosen values zeros) (omega arith)
shortest values (kind ∷ body) false some e = by_kind kind body values some e

pub written_is_shortest : (values form : List ℕ) → pads_read form (length values) ≡ Some values → length (pad_form_of values) ≤ length form
written_is_shortest values form e = shortest values form (are_zero values) refl e
