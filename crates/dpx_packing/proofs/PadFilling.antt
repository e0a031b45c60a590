-- Pads filled in run after run.
use Rattle.std.proofs.Common.{◌≡◌, ◌≢◌, ℕ, zero, suc, ◌+◌, ◌-◌, ◌*◌, ◌≤◌, ◌<◌, Bool, true, false, cond, List, [], ◌∷◌, ◌++◌, length, take, drop, get_or, Some, None, refl, ap, sym, ◌∙◌, arith, ◌==◌, ◌&&◌, zero-add, append-nil, length-append, length-take, length-drop, eq-eqb}
use Rattle.std.specs.Prelude.{replicate}
use Rattle.std.specs.List.{list_all}
use Rattle.std.proofs.Math.Seq.{drop-drop}
use Rattle.std.proofs.lemmas.List.Concat.{flat_map-append}
use Rattle.std.proofs.lemmas.List.{length-replicate, take_all}
use borrow.Rule.Slice.PartMut.{put_mid}
use Rattle.std.proofs.lemmas.Slice.{take-put_mid}
use Rattle.std.proofs.lemmas.List.Folds.{list_all-append}
use Rattle.std.proofs.lemmas.Bool.{lt-ltb}
use Rattle.std.proofs.lemmas.Bool.Decides.{nat_tests}
use Rattle.byteorder.specs.Endian.{big_number}
use Rattle.dpx_packing.specs.PadForms.{Run, values_of, runs_at, is_run, filled_by}

-- the run at a place of the runs' bytes
abbrev pub run_of : List ℕ → ℕ → Run
run_of bytes i = record { times = big_number 4 (drop (5 * i) bytes); value = get_or (drop (5 * i) bytes) 4 0 }

runs_at-split : (i k : ℕ) (bytes : List ℕ) → runs_at (i + k) bytes ≡ runs_at i bytes ++ runs_at k (drop (5 * i) bytes)
unfolding runs_at
runs_at-split zero k bytes = rw (zero-add k) refl
runs_at-split (suc i) k bytes =
    let count : suc i + k ≡ suc (i + k) = omega arith in
    let rest : drop (5 * suc i) bytes ≡ drop (5 * i) (drop 5 bytes) = ap (λ (n : ℕ). drop n bytes) (omega arith) ∙ sym (drop-drop (5 * i) 5 bytes) in
    rw (count, rest, runs_at-split i k (drop 5 bytes)) refl

pub runs_at-next : (i : ℕ) (bytes : List ℕ) → runs_at (i + 1) bytes ≡ runs_at i bytes ++ run_of bytes i ∷ []
unfolding runs_at
runs_at-next i bytes = runs_at-split i 1 bytes

-- the runs before one, that one, and those after it
pub runs_at-around : (i count : ℕ) (bytes : List ℕ) → i < count → (others : List Run) × (runs_at count bytes ≡ runs_at i bytes ++ run_of bytes i ∷ others)
unfolding runs_at
runs_at-around i count bytes h =
    let n : count ≡ i + suc (count - (i + 1)) = omega arith in
    (runs_at (count - (i + 1)) (drop 5 (drop (5 * i) bytes)), ap (λ (n : ℕ). runs_at n bytes) n ∙ runs_at-split i (suc (count - (i + 1))) bytes)

values_of-append : (first others : List Run) → values_of (first ++ others) ≡ values_of first ++ values_of others
unfolding values_of
values_of-append first others = flat_map-append (λ (run : Run). replicate run.times run.value) first others

values_of-cons : (run : Run) (others : List Run) → values_of (run ∷ others) ≡ replicate run.times run.value ++ values_of others
unfolding values_of
values_of-cons run others = refl

values_of-nil : values_of [] ≡ []
unfolding values_of
values_of-nil = refl

-- the first i runs stand in the first values
pub record Filled (runs out : List ℕ) (i at : ℕ) : Type 0 where
  pub within : at ≤ length out
  pub is : take at out ≡ values_of (runs_at i runs)
  pub each : list_all is_run (runs_at i runs) ≡ true

pub filled_none : (runs out : List ℕ) → Filled runs out 0 0
unfolding runs_at
filled_none runs out = record { within = omega arith; is = sym values_of-nil; each = refl }

pub filled_more : (runs out : List ℕ) (i at times value count : ℕ) (piece : List ℕ) → Filled runs out i at → times ≡ big_number 4 (drop (5 * i) runs) → value ≡ get_or (drop (5 * i) runs) 4 0 → times ≢ 0 → times ≤ length out - at → piece ≡ replicate times value → Filled runs (put_mid at count out piece) (i + 1) (at + times)
filled_more runs out i at times value count piece f t v some room p =
    let next : runs_at (i + 1) runs ≡ runs_at i runs ++ record { times = times; value = value } ∷ [] = rw (t, v) (runs_at-next i runs) in
    let one : values_of (record { times = times; value = value } ∷ []) ≡ replicate times value = values_of-cons (record { times = times; value = value }) [] ∙ ap (λ (rest : List ℕ). replicate times value ++ rest) values_of-nil ∙ append-nil (replicate times value) in
    let after : values_of (runs_at (i + 1) runs) ≡ values_of (runs_at i runs) ++ replicate times value = ap values_of next ∙ values_of-append (runs_at i runs) (record { times = times; value = value } ∷ []) ∙ ap (λ (rest : List ℕ). values_of (runs_at i runs) ++ rest) one in
    let within = f.within in
    let long : length piece ≡ times = ap length p ∙ length-replicate times value in
    let front : take (at + times) (put_mid at count out piece) ≡ take at out ++ piece = take-put_mid at count out piece (at + times) (omega arith) within in
    let whole : at + times ≤ length (put_mid at count out piece) = omega (arith, ap length front, length-append (take at out) piece, length-take at out, length-take (at + times) (put_mid at count out piece)) in
    record {
      within = whole;
      is = rw (front, f.is, p) (sym after);
      each = rw (next, list_all-append is_run (runs_at i runs) (record { times = times; value = value } ∷ []), f.each, lt-ltb 0 times (omega arith)) refl;
    }

-- as long as the piece that a run is filled into
pub piece_len : (out : List ℕ) (at times : ℕ) → times ≤ length out - at → length (take ((at + times) - at) (drop at out)) ≡ times
piece_len out at times h = omega (arith, length-take ((at + times) - at) (drop at out), length-drop at out)

not_filled : (runs : List Run) (count : ℕ) → list_all is_run runs ≡ false → filled_by runs count ≡ None
not_filled runs count e = rw e refl

other_length : (runs : List Run) (count : ℕ) → length (values_of runs) ≢ count → filled_by runs count ≡ None
other_length runs count ne =
    let test : (length (values_of runs) == count) ≡ false = grind (arith, nat_tests) in
    elim (list_all is_run runs) as (λ (b : Bool). cond (b && (length (values_of runs) == count)) (Some (values_of runs)) None ≡ None) [
      | true ↦ rw test refl
      | false ↦ refl
    ]

-- a run of length zero
pub refused_zero : (runs out : List ℕ) (i at count : ℕ) → Filled runs out i at → i < count → big_number 4 (drop (5 * i) runs) ≡ 0 → filled_by (runs_at count runs) (length out) ≡ None
refused_zero runs out i at count f h z =
    let around = runs_at-around i count runs h in
    let test : is_run (run_of runs i) ≡ false = rw z refl in
    not_filled (runs_at count runs) (length out) (ap (λ (r : List Run). list_all is_run r) around.1 ∙ list_all-append is_run (runs_at i runs) (run_of runs i ∷ around.0) ∙ rw (f.each, test) refl)

-- a run past the end
pub refused_past : (runs out : List ℕ) (i at count : ℕ) → Filled runs out i at → i < count → length out < at + big_number 4 (drop (5 * i) runs) → filled_by (runs_at count runs) (length out) ≡ None
refused_past runs out i at count f h past =
    let around = runs_at-around i count runs h in
    let times : ℕ = big_number 4 (drop (5 * i) runs) in
    let parts : values_of (runs_at count runs) ≡ values_of (runs_at i runs) ++ (replicate (run_of runs i).times (run_of runs i).value ++ values_of around.0) =
    ap values_of around.1 ∙ values_of-append (runs_at i runs) (run_of runs i ∷ around.0) ∙ ap (λ (rest : List ℕ). values_of (runs_at i runs) ++ rest) (values_of-cons (run_of runs i) around.0) in
    let first : length (values_of (runs_at i runs)) ≡ at = omega (arith, ap length f.is, length-take at out) in
    let long = ap length parts in
    other_length (runs_at count runs) (length out)
    (omega (arith, length-append (values_of (runs_at i runs)) (replicate (run_of runs i).times (run_of runs i).value ++ values_of around.0), length-append (replicate (run_of runs i).times (run_of runs i).value) (values_of around.0), length-replicate (run_of runs i).times (run_of runs i).value))

-- runs that end before the list does
pub refused_short : (runs out : List ℕ) (count at : ℕ) → Filled runs out count at → at ≢ length out → filled_by (runs_at count runs) (length out) ≡ None
refused_short runs out count at f ne =
    let long : length (values_of (runs_at count runs)) ≡ at = omega (arith, ap length f.is, length-take at out) in
    other_length (runs_at count runs) (length out) (omega arith)

pub filled_all : (runs out : List ℕ) (count at : ℕ) → Filled runs out count at → at ≡ length out → filled_by (runs_at count runs) (length out) ≡ Some out
filled_all runs out count at f whole =
    let is : values_of (runs_at count runs) ≡ out = sym f.is ∙ take_all at out (omega arith) in
    rw (f.each, is, eq-eqb (length out) (length out) refl) refl

pub ruleset fillings = (filled_none, filled_more, refused_zero, refused_past, refused_short, filled_all)
