-- The maximal runs of a list: how many there are, and the first.
use Rattle.std.proofs.Common.{◌≡◌, ◌≢◌, ℕ, zero, suc, ◌+◌, ◌-◌, ◌≤◌, ◌<◌, Bool, true, false, cond, List, [], ◌∷◌, ◌++◌, length, take, drop, get_or, refl, ap, sym, ◌∙◌, arith, add-one, ◌==◌, eq-eqb, length-drop}
use Rattle.std.specs.Prelude.{replicate}
use Rattle.std.proofs.lemmas.List.{get_or-drop, take-append-drop}
use Rattle.std.proofs.lemmas.Bool.Decides.{nat_tests}
use Rattle.dpx_packing.specs.PadForms.{Run, run_before, runs_of}

-- what begins with a value has it in its first run
pub record Begins (value : ℕ) (runs : List Run) : Type 0 where
  pub times : ℕ
  pub others : List Run
  pub is : runs ≡ record { times = times; value = value } ∷ others

before-begins : (value : ℕ) (runs : List Run) → Begins value (run_before value runs)
before-begins value [] = record { times = 1; others = []; is = refl }
before-begins value (run ∷ runs) =
    elim (value == run.value) as (λ (b : Bool). Begins value (cond b (record { times = run.times + 1; value = value } ∷ runs) (record { times = 1; value = value } ∷ run ∷ runs))) [
      | true ↦ record { times = run.times + 1; others = runs; is = refl }
      | false ↦ record { times = 1; others = run ∷ runs; is = refl }
    ]

pub runs_of-begins : (value : ℕ) (values : List ℕ) → Begins value (runs_of (value ∷ values))
unfolding runs_of
runs_of-begins value values = before-begins value (runs_of values)

-- whether a run begins between two values
abbrev pub change : ℕ → ℕ → ℕ
change x y = cond (x == y) 0 1

before-counts : (x : ℕ) (y times : ℕ) (others : List Run) → length (run_before x (record { times = times; value = y } ∷ others)) ≡ change x y + length (record { times = times; value = y } ∷ others)
before-counts x y times others =
    elim (x == y) as (λ (b : Bool). length (cond b (record { times = times + 1; value = x } ∷ others) (record { times = 1; value = x } ∷ record { times = times; value = y } ∷ others)) ≡ cond b 0 1 + suc (length others)) [
      | true ↦ omega arith
      | false ↦ omega arith
    ]

pub count-cons : (x y : ℕ) (values : List ℕ) → length (runs_of (x ∷ y ∷ values)) ≡ change x y + length (runs_of (y ∷ values))
unfolding runs_of
count-cons x y values =
    let b = before-begins y (runs_of values) in
    rw b.is (before-counts x y b.times b.others)

pub count-one : (x : ℕ) → length (runs_of (x ∷ [])) ≡ 1
unfolding runs_of
count-one x = refl

count-more-cons : (x : ℕ) (xs : List ℕ) (j : ℕ) → j < length xs → length (runs_of (x ∷ take (suc j) xs)) ≡ length (runs_of (x ∷ take j xs)) + change (get_or (x ∷ xs) j 0) (get_or xs j 0)
count-more-cons x [] j h = absurd (omega arith)
count-more-cons x (y ∷ ys) zero h = omega (arith, count-cons x y [], count-one x, count-one y)
count-more-cons x (y ∷ ys) (suc j) h = omega (arith, count-cons x y (take (suc j) ys), count-cons x y (take j ys), count-more-cons y ys j (omega arith))

-- one more value of the list
pub count-more : (values : List ℕ) (i : ℕ) → 1 ≤ i → i < length values → length (runs_of (take (i + 1) values)) ≡ length (runs_of (take i values)) + change (get_or values (i - 1) 0) (get_or values i 0)
count-more [] i one h = absurd (omega arith)
count-more (x ∷ xs) zero one h = absurd (omega arith)
count-more (x ∷ xs) (suc j) one h =
    let before : suc j - 1 ≡ j = omega arith in
    let after : suc j + 1 ≡ suc (suc j) = omega arith in
    rw (before, after) (count-more-cons x xs j (omega arith))

pub count-first : (values : List ℕ) → 0 < length values → length (runs_of (take 1 values)) ≡ 1
count-first [] h = absurd (omega arith)
count-first (x ∷ xs) h = count-one x

pub none_of_none : (values : List ℕ) → length values ≡ 0 → runs_of values ≡ []
unfolding runs_of
none_of_none [] h = refl
none_of_none (x ∷ xs) h = absurd (omega arith)

pub ruleset run_counts = (count-more, count-first, none_of_none)

-- ---- the first run

head-differs : (value : ℕ) (rest : List ℕ) → (0 < length rest → get_or rest 0 0 ≢ value) → run_before value (runs_of rest) ≡ record { times = 1; value = value } ∷ runs_of rest
unfolding runs_of
head-differs value [] apart = refl
head-differs value (y ∷ ys) apart =
    let b = before-begins y (runs_of ys) in
    let other : (value == y) ≡ false = let ne : y ≢ value = apart (omega arith) in grind (arith, nat_tests) in
    rw (b.is, other) refl

first-is : (count value : ℕ) (rest : List ℕ) → (0 < length rest → get_or rest 0 0 ≢ value) → runs_of (replicate (suc count) value ++ rest) ≡ record { times = suc count; value = value } ∷ runs_of rest
unfolding runs_of
first-is zero value rest apart = head-differs value rest apart
first-is (suc count) value rest apart =
    let ih = first-is count value rest apart in
    let same : (value == value) ≡ true = eq-eqb value value refl in
    rw (ih, same, add-one) refl

-- a list that begins with a value so many times, and then with none or another
pub first_run_is : (values : List ℕ) (count value : ℕ) → 1 ≤ count → count ≤ length values → take count values ≡ replicate count value → (count < length values → get_or values count 0 ≢ value) → runs_of values ≡ record { times = count; value = value } ∷ runs_of (drop count values)
first_run_is values zero value one within front apart = absurd (omega arith)
first_run_is values (suc count) value one within front apart =
    let rest : List ℕ = drop (suc count) values in
    let parts : values ≡ replicate (suc count) value ++ drop (suc count) values = sym (take-append-drop (suc count) values) ∙ ap (λ (first : List ℕ). first ++ drop (suc count) values) front in
    let place : get_or (drop (suc count) values) 0 0 ≡ get_or values (suc count) 0 = get_or-drop (suc count) values 0 0 ∙ ap (λ (n : ℕ). get_or values n 0) (omega arith) in
    let more : length (drop (suc count) values) ≡ length values - suc count = length-drop (suc count) values in
    ap runs_of parts ∙ first-is count value (drop (suc count) values) (λ h same. apart (omega arith) (sym place ∙ same))
