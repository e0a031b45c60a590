-- Where forms of pads end, whatever stands behind them.
use Rattle.std.proofs.Common.{◌≡◌, ℕ, zero, suc, ◌+◌, ◌*◌, ◌≤◌, ◌<◌, Bool, true, false, cond, List, [], ◌∷◌, ◌++◌, length, take, drop, get_or, Option, Some, None, refl, ap, sym, subst, ◌∙◌, arith, ◌&&◌, ◌==◌, length-append}
use Rattle.std.specs.Prelude.{nat_le}
use Rattle.std.specs.List.{list_all}
use Rattle.std.proofs.lemmas.List.{drop-append-le, get_or_append_left, length-drop, length-take-le, take-append-drop}
use Rattle.std.proofs.lemmas.Bool.{leb-true, le-leb}
use Rattle.std.proofs.lemmas.Bool.Decides.{nat_tests}
use Rattle.byteorder.specs.Endian.{big_number}
use Rattle.byteorder.specs.Numbers.{big_from-append}
use Rattle.dpx_packing.specs.PadForms.{IsPadForm, Run, is_run, pad_form_len, runs_at, runs_len, values_len}

-- ---- what a length that is found says, and when it is found

picked : (a b : Bool) (m n : ℕ) → cond (a && b) (Some m) None ≡ Some n → (a ≡ true) × (b ≡ true) × (m ≡ n)
picked true true m n e = (refl, refl, cc)
picked true false m n e = absurd (cc)
picked false b m n e = absurd (cc)

chosen : (a : Bool) (m n : ℕ) → cond a (Some m) None ≡ Some n → (a ≡ true) × (m ≡ n)
chosen true m n e = (refl, cc)
chosen false m n e = absurd (cc)

record RunsEnd (body : List ℕ) (n : ℕ) : Type 0 where
  fits : 4 + 5 * big_number 4 body ≤ length body
  each : list_all is_run (runs_at (big_number 4 body) (drop 4 body)) ≡ true
  is : n ≡ 5 + 5 * big_number 4 body

runs_len-some : (body : List ℕ) (n : ℕ) → runs_len body ≡ Some n → RunsEnd body n
unfolding runs_len
runs_len-some body n e =
    let s = picked (nat_le (4 + 5 * big_number 4 body) (length body)) (list_all is_run (runs_at (big_number 4 body) (drop 4 body))) (5 + 5 * big_number 4 body) n e in
    record { fits = leb-true _ _ s.0; each = s.1; is = sym s.2 }

pub runs_len-is : (body : List ℕ) (number : ℕ) (runs : List Run) → big_number 4 body ≡ number → 4 + 5 * number ≤ length body → runs_at number (drop 4 body) ≡ runs → list_all is_run runs ≡ true → runs_len body ≡ Some (5 + 5 * number)
unfolding runs_len
runs_len-is body number runs is fits at each =
    let size : nat_le (4 + 5 * number) (length body) ≡ true = le-leb _ _ fits in
    rw (is, size, at, each) refl

record ValuesEnd (body : List ℕ) (n : ℕ) : Type 0 where
  fits : 4 + big_number 4 body ≤ length body
  is : n ≡ 5 + big_number 4 body

values_len-some : (body : List ℕ) (n : ℕ) → values_len body ≡ Some n → ValuesEnd body n
unfolding values_len
values_len-some body n e =
    let s = chosen (nat_le (4 + big_number 4 body) (length body)) (5 + big_number 4 body) n e in
    record { fits = leb-true _ _ s.0; is = sym s.1 }

pub values_len-is : (body : List ℕ) (number : ℕ) → big_number 4 body ≡ number → 4 + number ≤ length body → values_len body ≡ Some (5 + number)
unfolding values_len
values_len-is body number is fits =
    let size : nat_le (4 + number) (length body) ≡ true = le-leb _ _ fits in
    rw (is, size) refl

-- ---- bytes behind a form change nothing

runs_at-front : (k : ℕ) (xs rest : List ℕ) → 5 * k ≤ length xs → runs_at k (xs ++ rest) ≡ runs_at k xs
unfolding runs_at
runs_at-front zero xs rest h = refl
runs_at-front (suc k) xs rest h =
    let number : big_number 4 (xs ++ rest) ≡ big_number 4 xs = big_from-append 4 xs rest (omega arith) in
    let value : get_or (xs ++ rest) 4 0 ≡ get_or xs 4 0 = get_or_append_left xs rest 0 4 (omega arith) in
    let others : runs_at k (drop 5 (xs ++ rest)) ≡ runs_at k (drop 5 xs) = ap (runs_at k) (drop-append-le 5 xs rest (omega arith)) ∙ runs_at-front k (drop 5 xs) rest (omega (arith, length-drop 5 xs)) in
    ap (λ (times : ℕ). record { times = times; value = get_or (xs ++ rest) 4 0 } ∷ runs_at k (drop 5 (xs ++ rest))) number
    ∙ ap (λ (v : ℕ). record { times = big_number 4 xs; value = v } ∷ runs_at k (drop 5 (xs ++ rest))) value
    ∙ ap (λ (r : List Run). record { times = big_number 4 xs; value = get_or xs 4 0 } ∷ r) others

-- the runs of a body, with bytes behind it
body-runs : (body rest : List ℕ) (number : ℕ) → 4 + 5 * number ≤ length body → runs_at number (drop 4 (body ++ rest)) ≡ runs_at number (drop 4 body)
body-runs body rest number fits = ap (runs_at number) (drop-append-le 4 body rest (omega arith)) ∙ runs_at-front number (drop 4 body) rest (omega (arith, length-drop 4 body))

runs_front : (body rest : List ℕ) (n : ℕ) → runs_len body ≡ Some n → runs_len (body ++ rest) ≡ Some n
runs_front body rest n e =
    let s = runs_len-some body n e in
    let number : ℕ = big_number 4 body in
    let fits = s.fits in
    runs_len-is (body ++ rest) number (runs_at number (drop 4 body)) (big_from-append 4 body rest (omega arith)) (omega (arith, length-append body rest)) (body-runs body rest number fits) s.each ∙ ap (λ (k : ℕ). Some k) (sym s.is)

runs_back : (body rest : List ℕ) (n : ℕ) → runs_len (body ++ rest) ≡ Some n → n ≤ suc (length body) → runs_len body ≡ Some n
runs_back body rest n e within =
    let s = runs_len-some (body ++ rest) n e in
    let number : ℕ = big_number 4 (body ++ rest) in
    let long : 5 + 5 * number ≤ suc (length body) = subst (λ (k : ℕ). k ≤ suc (length body)) s.is within in
    let fits : 4 + 5 * number ≤ length body = omega arith in
    runs_len-is body number (runs_at number (drop 4 (body ++ rest))) (sym (big_from-append 4 body rest (omega arith))) fits (sym (body-runs body rest number fits)) s.each ∙ ap (λ (k : ℕ). Some k) (sym s.is)

values_front : (body rest : List ℕ) (n : ℕ) → values_len body ≡ Some n → values_len (body ++ rest) ≡ Some n
values_front body rest n e =
    let s = values_len-some body n e in
    let fits = s.fits in
    values_len-is (body ++ rest) (big_number 4 body) (big_from-append 4 body rest (omega arith)) (omega (arith, length-append body rest)) ∙ ap (λ (k : ℕ). Some k) (sym s.is)

values_back : (body rest : List ℕ) (n : ℕ) → values_len (body ++ rest) ≡ Some n → n ≤ suc (length body) → values_len body ≡ Some n
values_back body rest n e within =
    let s = values_len-some (body ++ rest) n e in
    let number : ℕ = big_number 4 (body ++ rest) in
    let long : 5 + number ≤ suc (length body) = subst (λ (k : ℕ). k ≤ suc (length body)) s.is within in
    let fits : 4 + number ≤ length body = omega arith in
    values_len-is body number (sym (big_from-append 4 body rest (omega arith))) fits ∙ ap (λ (k : ℕ). Some k) (sym s.is)

-- ---- whole forms

some_is : (a b : ℕ) → Some a ≡ Some b → a ≡ b
some_is a b e = cc

-- no form has another kind
no_kind : (kind : ℕ) (body : List ℕ) → pad_form_len (suc (suc (suc kind)) ∷ body) ≡ None
unfolding pad_form_len
no_kind kind body =
    let zeros : (suc (suc (suc kind)) == 0) ≡ false = grind (arith, nat_tests) in
    let runs : (suc (suc (suc kind)) == 1) ≡ false = grind (arith, nat_tests) in
    let values : (suc (suc (suc kind)) == 2) ≡ false = grind (arith, nat_tests) in
    rw (zeros, runs, values) refl

never : {A : Type 0} (found : Option ℕ) (n : ℕ) → found ≡ None → found ≡ Some n → A
never None n none some = absurd (cc)
never (Some k) n none some = absurd (cc)

form_front : (form rest : List ℕ) (n : ℕ) → pad_form_len form ≡ Some n → pad_form_len (form ++ rest) ≡ Some n
unfolding pad_form_len
form_front [] rest n e = absurd (cc)
form_front (zero ∷ body) rest n e = e
form_front (suc zero ∷ body) rest n e = runs_front body rest n e
form_front (suc (suc zero) ∷ body) rest n e = values_front body rest n e
form_front (suc (suc (suc kind)) ∷ body) rest n e = never (pad_form_len (suc (suc (suc kind)) ∷ body)) n (no_kind kind body) e

form_fits : (bytes : List ℕ) (n : ℕ) → pad_form_len bytes ≡ Some n → (0 < n) × (n ≤ length bytes)
unfolding pad_form_len
form_fits [] n e = absurd (cc)
form_fits (zero ∷ body) n e = let one = some_is 1 n e in (omega arith, omega arith)
form_fits (suc zero ∷ body) n e = let s = runs_len-some body n e in (omega (arith, s.is), omega (arith, s.is, s.fits))
form_fits (suc (suc zero) ∷ body) n e = let s = values_len-some body n e in (omega (arith, s.is), omega (arith, s.is, s.fits))
form_fits (suc (suc (suc kind)) ∷ body) n e = never (pad_form_len (suc (suc (suc kind)) ∷ body)) n (no_kind kind body) e

form_back : (form rest : List ℕ) (n : ℕ) → pad_form_len (form ++ rest) ≡ Some n → n ≤ length form → pad_form_len form ≡ Some n
unfolding pad_form_len
form_back [] rest n e within = absurd (omega (arith, (form_fits rest n e).0))
form_back (zero ∷ body) rest n e within = e
form_back (suc zero ∷ body) rest n e within = runs_back body rest n e within
form_back (suc (suc zero) ∷ body) rest n e within = values_back body rest n e within
form_back (suc (suc (suc kind)) ∷ body) rest n e within = never (pad_form_len (suc (suc (suc kind)) ∷ (body ++ rest))) n (no_kind kind (body ++ rest)) e

pub form_ends : (form rest : List ℕ) → IsPadForm form → pad_form_len (form ++ rest) ≡ Some (length form)
form_ends form rest whole = form_front form rest (length form) whole

pub form_cut : (bytes : List ℕ) (n : ℕ) → pad_form_len bytes ≡ Some n → (n ≤ length bytes) × IsPadForm (take n bytes)
form_cut bytes n e =
    let fits = (form_fits bytes n e).1 in
    let long : length (take n bytes) ≡ n = length-take-le n bytes fits in
    let parts : pad_form_len (take n bytes ++ drop n bytes) ≡ Some n = ap pad_form_len (take-append-drop n bytes) ∙ e in
    (fits, form_back (take n bytes) (drop n bytes) n parts (omega (arith, long)) ∙ ap (λ (k : ℕ). Some k) (sym long))
