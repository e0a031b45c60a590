-- Readings that are repeated.
use Rattle.std.proofs.Common.{◌≡◌, ℕ, suc, ◌+◌, ◌-◌, ◌<◌, ◌≤◌, List, [], ◌∷◌, ◌++◌, length, All, Result, Ok, Err, refl, sym, ap, subst, ◌∙◌, append_assoc, length-append, arith}
use Rattle.std.proofs.lemmas.List.{append-nil}
use Rattle.std.proofs.lemmas.List.Elements.{All-append, All-cons}
use Rattle.ffv1_params.specs.declared.error.ParamsWhy.{ParamsWhy}
use Rattle.ffv1_params.specs.declared.error.ParamsWhy.TheVariants.{States}
use Rattle.ffv1_params.specs.Reading.{Place, Reading, ◌>>=◌, give, handed_on, repeated, unset, no_states}
use Rattle.ffv1_params.specs.Walk.{ReaderAt, Leads, Fails}
use Rattle.ffv1_params.proofs.WalkLaws.{leads_on, leads_rest, leads_here, fails_now, fails_rest, fails_as}

-- what was read before, and what is still read
unfoldable pub front_then : {A : Type 0} → List A → Reading (List A) → Reading (List A)
front_then front reading = λ bytes place. handed_on (λ rest. give (front ++ rest)) bytes (reading bytes place)

pub read_front : {A : Type 0} (front : List A) (x : A) (bytes : List ℕ) (read : Result (List A × Place) ParamsWhy)
    → handed_on (λ rest. give (front ++ rest)) bytes (handed_on (λ rest. give (x ∷ rest)) bytes read) ≡ handed_on (λ rest. give ((front ++ x ∷ []) ++ rest)) bytes read
unfolding give
read_front {A} front x bytes (Ok (rest, place)) = ap (λ (all : List A). Ok (all, place)) (sym (append_assoc front (x ∷ []) rest))
read_front front x bytes (Err w) = refl

no_front : {A : Type 0} (bytes : List ℕ) (read : Result (List A × Place) ParamsWhy) → read ≡ handed_on (λ rest. give ([] ++ rest)) bytes read
unfolding give
no_front bytes (Ok (rest, place)) = refl
no_front bytes (Err w) = refl

pub front_none : {A : Type 0} (a : ReaderAt) (reading : Reading (List A)) → Leads a a reading (front_then [] reading)
unfolding front_then
front_none a reading = record { leads = λ bytes place is_at. record { place = place; is_at = is_at; same = no_front bytes (reading bytes place) } }

pub front_fails : {A : Type 0} (a : ReaderAt) (front : List A) (reading : Reading (List A)) (w : ParamsWhy) → Fails a reading w → Fails a (front_then front reading) w
unfolding front_then
front_fails {A} a front reading w = fails_as a a reading (front_then front reading) w (λ v here. record { refuses = λ bytes place is_at. ap (λ (read : Result (List A × Place) ParamsWhy). handed_on (λ rest. give (front ++ rest)) bytes read) (here.refuses bytes place is_at) })

-- ---- so many times

repeated_step : {A : Type 0} (a b : ReaderAt) (reading : Reading A) (x : A) (front : List A) (n : ℕ) → Leads a b reading (give x) → Leads a b (front_then front (repeated (suc n) reading)) (front_then (front ++ x ∷ []) (repeated n reading))
unfolding front_then repeated ◌>>=◌ give
repeated_step {A} a b reading x front n here = record {
  leads = λ bytes place is_at.
      let came = here.leads bytes place is_at in
      let one = ap (λ (read : Result (A × Place) ParamsWhy). handed_on (λ rest. give (front ++ rest)) bytes (handed_on (λ first. repeated n reading >>= λ others. give (first ∷ others)) bytes read)) came.same in
      record { place = came.place; is_at = came.is_at; same = one ∙ read_front front x bytes (repeated n reading bytes came.place) };
}

pub repeated_more : {A : Type 0} (a b c : ReaderAt) (reading : Reading A) (x : A) (front : List A) (count i : ℕ) → i < count → Leads a b (repeated count reading) (front_then front (repeated (count - i) reading)) → Leads b c reading (give x) → Leads a c (repeated count reading) (front_then (front ++ x ∷ []) (repeated (count - (i + 1)) reading))
repeated_more {A} a b c reading x front count i lt so_far here =
    let k : count - i ≡ suc (count - (i + 1)) = omega arith in
    let P : ℕ → Type 0 = λ n. Leads a b (repeated count reading) (front_then front (repeated n reading)) in
    leads_rest a b c (repeated count reading) (front_then front (repeated (suc (count - (i + 1))) reading)) (front_then (front ++ x ∷ []) (repeated (count - (i + 1)) reading)) (subst P k so_far) (repeated_step b c reading x front (count - (i + 1)) here)

pub repeated_fails : {A : Type 0} (a b : ReaderAt) (reading : Reading A) (front : List A) (count i : ℕ) (w : ParamsWhy) → i < count → Leads a b (repeated count reading) (front_then front (repeated (count - i) reading)) → Fails b reading w → Fails a (repeated count reading) w
unfolding repeated
repeated_fails {A} a b reading front count i w lt so_far here =
    let k : count - i ≡ suc (count - (i + 1)) = omega arith in
    let P : ℕ → Type 0 = λ n. Leads a b (repeated count reading) (front_then front (repeated n reading)) in
    fails_rest a b (repeated count reading) (front_then front (repeated (suc (count - (i + 1))) reading)) w (subst P k so_far) (front_fails b front (repeated (suc (count - (i + 1))) reading) w (fails_now b reading (λ first. repeated (count - (i + 1)) reading >>= λ others. give (first ∷ others)) w here))

ended : {A : Type 0} (b : ReaderAt) (reading : Reading A) (front : List A) → Leads b b (front_then front (repeated 0 reading)) (give front)
unfolding front_then repeated give
ended {A} b reading front = record { leads = λ bytes place is_at. record { place = place; is_at = is_at; same = ap (λ (all : List A). Ok (all, place)) (append-nil front) } }

pub repeated_done : {A : Type 0} (a b : ReaderAt) (reading : Reading A) (front : List A) (count i : ℕ) → count ≤ i → Leads a b (repeated count reading) (front_then front (repeated (count - i) reading)) → Leads a b (repeated count reading) (give front)
repeated_done {A} a b reading front count i le so_far =
    let k : count - i ≡ 0 = omega arith in
    let P : ℕ → Type 0 = λ n. Leads a b (repeated count reading) (front_then front (repeated n reading)) in
    leads_rest a b b (repeated count reading) (front_then front (repeated 0 reading)) (give front) (subst P k so_far) (ended b reading front)

-- ---- for a loop: what was read so far, so many times, and that each is as it should be
pub record Repeating {A : Type 0} (a b : ReaderAt) (reading : Reading A) (good : A → Type 0) (front : List A) (count i : ℕ) : Type 0 where
  pub leads : Leads a b (repeated count reading) (front_then front (repeated (count - i) reading))
  pub counted : length front ≡ i
  pub all_good : All good front

pub repeating_none : {A : Type 0} (a : ReaderAt) (reading : Reading A) (good : A → Type 0) (count : ℕ) → Repeating a a reading good [] count 0
repeating_none a reading good count =
    let k : count - 0 ≡ count = omega arith in
    record { leads = rw k (front_none a (repeated count reading)); counted = refl; all_good = λ k d lt. absurd (omega arith) }

pub repeating_more : {A : Type 0} (a b c : ReaderAt) (reading : Reading A) (good : A → Type 0) (x : A) (front new : List A) (count i : ℕ) → new ≡ front ++ x ∷ [] → i < count → Repeating a b reading good front count i → Leads b c reading (give x) → good x → Repeating a c reading good new count (i + 1)
repeating_more {A} a b c reading good x front new count i is lt so_far here is_good =
    let P : List A → Type 0 = λ all. Repeating a c reading good all count (i + 1) in
    let long : length (front ++ x ∷ []) ≡ i + 1 = omega (arith, length-append front (x ∷ []), so_far.counted) in
    subst P (sym is) (record { leads = repeated_more a b c reading x front count i lt so_far.leads here; counted = long; all_good = All-append good front (x ∷ []) so_far.all_good (All-cons good x [] is_good (λ k d lt. absurd (omega arith))) })

pub repeating_fails : {A : Type 0} (a b : ReaderAt) (reading : Reading A) (good : A → Type 0) (front : List A) (count i : ℕ) (w : ParamsWhy) → i < count → Repeating a b reading good front count i → Fails b reading w → Fails a (repeated count reading) w
repeating_fails a b reading good front count i w lt so_far here = repeated_fails a b reading front count i w lt so_far.leads here

pub repeating_done : {A : Type 0} (a b : ReaderAt) (reading : Reading A) (good : A → Type 0) (front : List A) (count i : ℕ) → count ≤ i → Repeating a b reading good front count i → Leads a b (repeated count reading) (give front)
repeating_done a b reading good front count i le so_far = repeated_done a b reading front count i le so_far.leads

-- ---- no initial states

pub no_states_more : (a b c : ReaderAt) (count i : ℕ) → i < count → Leads a b (no_states count) (no_states (count - i)) → Leads b c (unset States) (give tt) → Leads a c (no_states count) (no_states (count - (i + 1)))
unfolding no_states
no_states_more a b c count i lt so_far here =
    let k : count - i ≡ suc (count - (i + 1)) = omega arith in
    let P : ℕ → Type 0 = λ n. Leads a b (no_states count) (no_states n) in
    leads_rest a b c (no_states count) (no_states (suc (count - (i + 1)))) (no_states (count - (i + 1))) (subst P k so_far) (leads_on b c c (unset States) tt (λ coded. no_states (count - (i + 1))) (no_states (count - (i + 1))) here (leads_here c (no_states (count - (i + 1)))))

pub no_states_fails : (a b : ReaderAt) (count i : ℕ) (w : ParamsWhy) → i < count → Leads a b (no_states count) (no_states (count - i)) → Fails b (unset States) w → Fails a (no_states count) w
unfolding no_states
no_states_fails a b count i w lt so_far here =
    let k : count - i ≡ suc (count - (i + 1)) = omega arith in
    let P : ℕ → Type 0 = λ n. Leads a b (no_states count) (no_states n) in
    fails_rest a b (no_states count) (no_states (suc (count - (i + 1)))) w (subst P k so_far) (fails_now b (unset States) (λ coded. no_states (count - (i + 1))) w here)

pub no_states_done : (a b : ReaderAt) (count i : ℕ) → count ≤ i → Leads a b (no_states count) (no_states (count - i)) → Leads a b (no_states count) (give tt)
unfolding no_states
no_states_done a b count i le so_far =
    let k : count - i ≡ 0 = omega arith in
    let P : ℕ → Type 0 = λ n. Leads a b (no_states count) (no_states n) in
    subst P k so_far

pub ruleset no_states_laws = (no_states_more, no_states_fails, no_states_done, leads_here)

pub ruleset repeat_laws = (repeating_none, repeating_more, repeating_fails, repeating_done)
