-- What stands behind the choice that a number isn't 0, put one by one.
use Rattle.std.proofs.Common.{◌≡◌, ℕ, zero, suc, ◌+◌, ◌-◌, ◌^◌, ◌<◌, ◌≤◌, List, [], ◌∷◌, ◌++◌, Bool, true, false, Result, OnOk, OnErr, refl, sym, ap, ◌∙◌, subst, arith, append_assoc, inl, inr}
use Rattle.std.proofs.lemmas.Bool.{cases_lt, le-leb, lt-leb}
use Rattle.std.proofs.lemmas.Result.{on_ok_weaker, on_err_weaker}
use Rattle.range_coder.specs.Encoding.{Encoding}
use Rattle.range_coder.specs.Choices.{Choice}
use Rattle.range_coder.specs.Coding.{Puts, PutsFront}
use Rattle.range_coder.specs.Symbol.{choice, exponent_of, exponent_up_to, exponent_slot, ones, low_bits, sign_choices, number_choices, tail_choices, behind_choices}
use Rattle.range_coder.proofs.Codings.{puts_more, puts_then_front, front_of_more}
use Rattle.range_coder.proofs.Symbols.{HasPut, some, one_refused, number_joined}

-- the end of an exponent, the bits and the sign
abbrev end_of : ℕ → List Choice
end_of e = choice (exponent_slot e) false ∷ []

pub tail_put : (table : List ℕ) (b0 : Encoding) (s0 : List ℕ) (b1 : Encoding) (s1 : List ℕ) (b2 : Encoding) (s2 : List ℕ) (b3 : Encoding) (s3 : List ℕ) (e magnitude slot : ℕ) (negative signed : Bool) → slot ≡ exponent_slot e → Puts table b0 s0 b1 s1 (choice slot false ∷ []) → Puts table b1 s1 b2 s2 (low_bits e magnitude) → Puts table b2 s2 b3 s3 (sign_choices signed e negative) → Puts table b0 s0 b3 s3 (tail_choices e magnitude negative signed)
tail_put table b0 s0 b1 s1 b2 s2 b3 s3 e magnitude slot negative signed is p q r =
    let p' : Puts table b0 s0 b1 s1 (end_of e) = subst (λ (n : ℕ). Puts table b0 s0 b1 s1 (choice n false ∷ [])) is p in
    puts_more table b0 s0 b2 s2 b3 s3 (end_of e ++ low_bits e magnitude) (sign_choices signed e negative) (puts_more table b0 s0 b1 s1 b2 s2 (end_of e) (low_bits e magnitude) p' q) r

pub end_refused : (table : List ℕ) (b0 : Encoding) (s0 : List ℕ) (b1 : Encoding) (s1 : List ℕ) (e magnitude slot : ℕ) (negative signed : Bool) → slot ≡ exponent_slot e → PutsFront table b0 s0 b1 s1 (choice slot false ∷ []) → PutsFront table b0 s0 b1 s1 (tail_choices e magnitude negative signed)
end_refused table b0 s0 b1 s1 e magnitude slot negative signed is p =
    let p' : PutsFront table b0 s0 b1 s1 (end_of e) = subst (λ (n : ℕ). PutsFront table b0 s0 b1 s1 (choice n false ∷ [])) is p in
    front_of_more table b0 s0 b1 s1 (end_of e ++ low_bits e magnitude) (sign_choices signed e negative) (front_of_more table b0 s0 b1 s1 (end_of e) (low_bits e magnitude) p')

pub low_refused : (table : List ℕ) (b0 : Encoding) (s0 : List ℕ) (b1 : Encoding) (s1 : List ℕ) (b2 : Encoding) (s2 : List ℕ) (e magnitude slot : ℕ) (negative signed : Bool) → slot ≡ exponent_slot e → Puts table b0 s0 b1 s1 (choice slot false ∷ []) → PutsFront table b1 s1 b2 s2 (low_bits e magnitude) → PutsFront table b0 s0 b2 s2 (tail_choices e magnitude negative signed)
low_refused table b0 s0 b1 s1 b2 s2 e magnitude slot negative signed is p q =
    let p' : Puts table b0 s0 b1 s1 (end_of e) = subst (λ (n : ℕ). Puts table b0 s0 b1 s1 (choice n false ∷ [])) is p in
    front_of_more table b0 s0 b2 s2 (end_of e ++ low_bits e magnitude) (sign_choices signed e negative) (puts_then_front table b0 s0 b1 s1 b2 s2 (end_of e) (low_bits e magnitude) p' q)

pub sign_refused : (table : List ℕ) (b0 : Encoding) (s0 : List ℕ) (b1 : Encoding) (s1 : List ℕ) (b2 : Encoding) (s2 : List ℕ) (b3 : Encoding) (s3 : List ℕ) (e magnitude slot : ℕ) (negative signed : Bool) → slot ≡ exponent_slot e → Puts table b0 s0 b1 s1 (choice slot false ∷ []) → Puts table b1 s1 b2 s2 (low_bits e magnitude) → PutsFront table b2 s2 b3 s3 (sign_choices signed e negative) → PutsFront table b0 s0 b3 s3 (tail_choices e magnitude negative signed)
sign_refused table b0 s0 b1 s1 b2 s2 b3 s3 e magnitude slot negative signed is p q r =
    let p' : Puts table b0 s0 b1 s1 (end_of e) = subst (λ (n : ℕ). Puts table b0 s0 b1 s1 (choice n false ∷ [])) is p in
    puts_then_front table b0 s0 b2 s2 b3 s3 (end_of e ++ low_bits e magnitude) (sign_choices signed e negative) (puts_more table b0 s0 b1 s1 b2 s2 (end_of e) (low_bits e magnitude) p' q) r

-- an exponent that is known, and one that is more
exponent_up_to-least : (most magnitude e : ℕ) → e ≤ most → 2 ^ e ≤ magnitude → e ≤ exponent_up_to most magnitude
unfolding exponent_up_to
exponent_up_to-least zero magnitude e within low = within
exponent_up_to-least (suc most) magnitude e within low = elim (cases_lt magnitude (2 ^ suc most)) [
  | inl below ↦ (elim (cases_lt e (suc most)) [
    | inl less ↦ (let within' : e ≤ most = omega arith in rw (lt-leb (2 ^ suc most) magnitude below) (exponent_up_to-least most magnitude e within' low))
    | inr more ↦ (let is : e ≡ suc most = omega arith in let low' : 2 ^ suc most ≤ magnitude = subst (λ (n : ℕ). 2 ^ n ≤ magnitude) is low in absurd (omega arith))
  ])
  | inr above ↦ rw (le-leb (2 ^ suc most) magnitude above) within
]

pub exponent_more : (magnitude k : ℕ) → k < 31 → 2 ^ (k + 1) ≤ magnitude → k < exponent_of magnitude
exponent_more magnitude k within low =
    let least : k + 1 ≤ exponent_of magnitude = exponent_up_to-least 31 magnitude (k + 1) (omega arith) low in
    omega arith

-- behind so many ones
pub behind_put : {R E : Type 0} (r : Result R E) (table : List ℕ) (b0 : Encoding) (s0 : List ℕ) (b1 : Encoding) (s1 : List ℕ) (b2 : Encoding) (s2 : List ℕ) (k magnitude : ℕ) (negative signed : Bool) → HasPut table b0 s0 b1 s1 (ones k) → k ≡ exponent_of magnitude → OnOk r (Puts table b1 s1 b2 s2 (tail_choices k magnitude negative signed)) → OnOk r (Puts table b0 s0 b2 s2 (behind_choices magnitude negative signed))
behind_put r table b0 s0 b1 s1 b2 s2 k magnitude negative signed h is p =
    on_ok_weaker r (λ q. subst (λ (n : ℕ). Puts table b0 s0 b2 s2 (ones n ++ tail_choices n magnitude negative signed)) is (puts_more table b0 s0 b1 s1 b2 s2 (ones k) (tail_choices k magnitude negative signed) h.puts q)) p

pub behind_refused : {R E : Type 0} (r : Result R E) (table : List ℕ) (b0 : Encoding) (s0 : List ℕ) (b1 : Encoding) (s1 : List ℕ) (b2 : Encoding) (s2 : List ℕ) (k magnitude : ℕ) (negative signed : Bool) → HasPut table b0 s0 b1 s1 (ones k) → k ≡ exponent_of magnitude → OnErr r (PutsFront table b1 s1 b2 s2 (tail_choices k magnitude negative signed)) → OnErr r (PutsFront table b0 s0 b2 s2 (behind_choices magnitude negative signed))
behind_refused r table b0 s0 b1 s1 b2 s2 k magnitude negative signed h is p =
    on_err_weaker r (λ q. subst (λ (n : ℕ). PutsFront table b0 s0 b2 s2 (ones n ++ tail_choices n magnitude negative signed)) is (puts_then_front table b0 s0 b1 s1 b2 s2 (ones k) (tail_choices k magnitude negative signed) h.puts q)) p

pub behind_stopped : (table : List ℕ) (b0 : Encoding) (s0 : List ℕ) (b1 : Encoding) (s1 : List ℕ) (b2 : Encoding) (s2 : List ℕ) (k magnitude : ℕ) (negative signed : Bool) → HasPut table b0 s0 b1 s1 (ones k) → k < exponent_of magnitude → PutsFront table b1 s1 b2 s2 (choice (exponent_slot k) true ∷ []) → PutsFront table b0 s0 b2 s2 (behind_choices magnitude negative signed)
behind_stopped table b0 s0 b1 s1 b2 s2 k magnitude negative signed h more p =
    front_of_more table b0 s0 b2 s2 (ones (exponent_of magnitude)) (tail_choices (exponent_of magnitude) magnitude negative signed) (one_refused table b0 s0 b1 s1 b2 s2 k (exponent_slot k) (exponent_of magnitude) more h refl p)

-- and behind the choice that the number isn't 0
number_behind : (e magnitude : ℕ) (negative signed : Bool) → some ++ (ones e ++ tail_choices e magnitude negative signed) ≡ number_choices e magnitude negative signed
number_behind e magnitude negative signed =
    let tail : tail_choices e magnitude negative signed ≡ end_of e ++ (low_bits e magnitude ++ sign_choices signed e negative) = append_assoc (end_of e) (low_bits e magnitude) (sign_choices signed e negative) in
    ap (λ (cs : List Choice). some ++ (ones e ++ cs)) tail ∙ ap (λ (cs : List Choice). some ++ cs) (sym (append_assoc (ones e) (end_of e) (low_bits e magnitude ++ sign_choices signed e negative))) ∙ number_joined e magnitude negative signed

pub nonzero_put : {R E : Type 0} (r : Result R E) (table : List ℕ) (b0 : Encoding) (s0 : List ℕ) (b1 : Encoding) (s1 : List ℕ) (b2 : Encoding) (s2 : List ℕ) (magnitude : ℕ) (negative signed : Bool) → Puts table b0 s0 b1 s1 some → OnOk r (Puts table b1 s1 b2 s2 (behind_choices magnitude negative signed)) → OnOk r (Puts table b0 s0 b2 s2 (number_choices (exponent_of magnitude) magnitude negative signed))
nonzero_put r table b0 s0 b1 s1 b2 s2 magnitude negative signed p q =
    on_ok_weaker r (λ g. subst (λ (cs : List Choice). Puts table b0 s0 b2 s2 cs) (number_behind (exponent_of magnitude) magnitude negative signed) (puts_more table b0 s0 b1 s1 b2 s2 some (behind_choices magnitude negative signed) p g)) q

pub nonzero_refused : {R E : Type 0} (r : Result R E) (table : List ℕ) (b0 : Encoding) (s0 : List ℕ) (b1 : Encoding) (s1 : List ℕ) (b2 : Encoding) (s2 : List ℕ) (magnitude : ℕ) (negative signed : Bool) → Puts table b0 s0 b1 s1 some → OnErr r (PutsFront table b1 s1 b2 s2 (behind_choices magnitude negative signed)) → OnErr r (PutsFront table b0 s0 b2 s2 (number_choices (exponent_of magnitude) magnitude negative signed))
nonzero_refused r table b0 s0 b1 s1 b2 s2 magnitude negative signed p q =
    on_err_weaker r (λ g. subst (λ (cs : List Choice). PutsFront table b0 s0 b2 s2 cs) (number_behind (exponent_of magnitude) magnitude negative signed) (puts_then_front table b0 s0 b1 s1 b2 s2 some (behind_choices magnitude negative signed) p g)) q

pub as_many_put : (table : List ℕ) (b0 : Encoding) (s0 : List ℕ) (b1 : Encoding) (s1 : List ℕ) (k count : ℕ) → k ≡ count → HasPut table b0 s0 b1 s1 (ones k) → HasPut table b0 s0 b1 s1 (ones count)
as_many_put table b0 s0 b1 s1 k count is h = subst (λ (n : ℕ). HasPut table b0 s0 b1 s1 (ones n)) is h
