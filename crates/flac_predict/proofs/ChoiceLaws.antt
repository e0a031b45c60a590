-- The choice is one of the candidates, and no candidate has fewer bits.
use Rattle.std.proofs.Common.{◌≡◌, ℕ, zero, suc, ◌+◌, ◌*◌, ◌≤◌, cond, ltb, ℤ, List, [], ◌∷◌, ◌++◌, length, get_or, refl, sym, ◌∙◌, subst, arith, inl, inr, ◌⊎◌, lit≤}
use Rattle.std.specs.List.{All}
use Rattle.std.proofs.lemmas.Bool.{ltb-true, cases_Bool}
use Rattle.std.proofs.lemmas.List.{get_or_push}
use Rattle.std.proofs.lemmas.List.Elements.{All-nil, All-cons, All-append, All-get_or}
use Rattle.flac_predict.specs.declared.choosing.Choice.{Choice}
use Rattle.flac_predict.specs.declared.choosing.Choice.TheVariants.{Constant, Fixed, Linear, Verbatim}
use Rattle.flac_predict.specs.Fixed.{fixed_residuals}
use Rattle.flac_predict.specs.Linear.{linear_residuals}
use Rattle.flac_predict.specs.Bank.{bank_set}
use Rattle.flac_predict.specs.Rice.{best_parameter}
use Rattle.flac_predict.specs.Least.{IsFirstLeast}
use Rattle.flac_predict.specs.Choice.{all_are, constant_offer, fixed_offer, fixed_offers, linear_offer, linear_offers, candidates, candidate_bits, best_candidate, IsCandidate}
use Rattle.flac_predict.proofs.LeastLaws.{least_pushed}
use Rattle.flac_predict.proofs.RiceLaws.{parameter_within}

-- all offers but the last
abbrev front : List ℤ → List Choice
front samples = constant_offer samples ++ fixed_offers samples 5 ++ linear_offers samples 8

pub candidate_is_best : (depth : ℕ) (samples : List ℤ) → IsFirstLeast (candidate_bits depth samples) (candidates samples) (best_candidate depth samples)
unfolding candidates best_candidate
candidate_is_best depth samples = least_pushed (candidate_bits depth samples) (front samples) Verbatim Verbatim

pub best_is_light : (depth : ℕ) (samples : List ℤ) → candidate_bits depth samples (best_candidate depth samples) ≤ 8 + length samples * depth
unfolding candidates candidate_bits
best_is_light depth samples =
    let best = best_candidate depth samples in
    let e : get_or (front samples ++ Verbatim ∷ []) (length (front samples)) best ≡ Verbatim = get_or_push (front samples) Verbatim best (length (front samples)) refl in
    let h : candidate_bits depth samples best ≤ candidate_bits depth samples (get_or (front samples ++ Verbatim ∷ []) (length (front samples)) best) = (candidate_is_best depth samples).none_less (length (front samples)) in
    subst (λ (c : Choice). candidate_bits depth samples best ≤ candidate_bits depth samples c) e h

alone : (samples : List ℤ) (c : Choice) → IsCandidate samples c → All (IsCandidate samples) (c ∷ [])
alone samples c h = All-cons (IsCandidate samples) c [] h (All-nil (IsCandidate samples))

constant_is : (samples : List ℤ) (offer : List Choice) → constant_offer samples ≡ offer → (offer ≡ []) ⊎ (offer ≡ Constant ∷ []) → All (IsCandidate samples) offer
constant_is samples offer e (inl n) = subst (All (IsCandidate samples)) (sym n) (All-nil (IsCandidate samples))
constant_is samples offer e (inr o) =
    subst (All (IsCandidate samples)) (sym o) (alone samples Constant (e ∙ o))

constant_cases : (samples : List ℤ) → (constant_offer samples ≡ []) ⊎ (constant_offer samples ≡ Constant ∷ [])
unfolding constant_offer
constant_cases [] = inl refl
constant_cases (x ∷ more) =
    elim (cases_Bool (all_are x more)) as (λ _. (cond (all_are x more) (Constant ∷ []) [] ≡ []) ⊎ (cond (all_are x more) (Constant ∷ []) [] ≡ Constant ∷ [])) [
      | inl t ↦ inr (rw t refl)
      | inr t ↦ inl (rw t refl)
    ]

fixed_is : (samples : List ℤ) (order : ℕ) → order ≤ 4 → All (IsCandidate samples) (fixed_offer samples order)
unfolding fixed_offer
fixed_is samples order h =
    let best = best_parameter (fixed_residuals order samples) in
    elim (cases_Bool (ltb order (length samples))) as (λ _. All (IsCandidate samples) (cond (ltb order (length samples)) (Fixed order best ∷ []) [])) [
      | inl t ↦ rw t (alone samples (Fixed order best) (h, ltb-true order (length samples) t, refl, parameter_within (fixed_residuals order samples)))
      | inr t ↦ rw t (All-nil (IsCandidate samples))
    ]

fixed_are : (samples : List ℤ) (count : ℕ) → count ≤ 5 → All (IsCandidate samples) (fixed_offers samples count)
unfolding fixed_offers
fixed_are samples zero h = All-nil (IsCandidate samples)
fixed_are samples (suc order) h =
    All-append (IsCandidate samples) (fixed_offers samples order) (fixed_offer samples order) (fixed_are samples order (omega arith)) (fixed_is samples order (omega arith))

linear_is : (samples : List ℤ) (number : ℕ) → 1 ≤ number → number ≤ 8 → All (IsCandidate samples) (linear_offer samples number)
unfolding linear_offer
linear_is samples number l h =
    let set = bank_set number in
    let best = best_parameter (linear_residuals set samples) in
    elim (cases_Bool (ltb set.order (length samples))) as (λ _. All (IsCandidate samples) (cond (ltb set.order (length samples)) (Linear number best ∷ []) [])) [
      | inl t ↦ rw t (alone samples (Linear number best) (l, h, ltb-true set.order (length samples) t, refl, parameter_within (linear_residuals set samples)))
      | inr t ↦ rw t (All-nil (IsCandidate samples))
    ]

linear_are : (samples : List ℤ) (count : ℕ) → count ≤ 8 → All (IsCandidate samples) (linear_offers samples count)
unfolding linear_offers
linear_are samples zero h = All-nil (IsCandidate samples)
linear_are samples (suc number) h =
    All-append (IsCandidate samples) (linear_offers samples number) (linear_offer samples (suc number)) (linear_are samples number (omega arith)) (linear_is samples (suc number) (omega arith) h)

all_are_candidates : (samples : List ℤ) → All (IsCandidate samples) (candidates samples)
unfolding candidates
all_are_candidates samples =
    let a = constant_is samples (constant_offer samples) refl (constant_cases samples) in
    let b = fixed_are samples 5 (lit≤ tt) in
    let c = linear_are samples 8 (lit≤ tt) in
    let ab = All-append (IsCandidate samples) (constant_offer samples) (fixed_offers samples 5) a b in
    let abc = All-append (IsCandidate samples) (constant_offer samples ++ fixed_offers samples 5) (linear_offers samples 8) ab c in
    All-append (IsCandidate samples) (front samples) (Verbatim ∷ []) abc (alone samples Verbatim tt)

pub best_is_candidate : (depth : ℕ) (samples : List ℤ) → IsCandidate samples (best_candidate depth samples)
best_is_candidate depth samples =
    let best = best_candidate depth samples in
    let i = candidate_is_best depth samples in
    subst (IsCandidate samples) i.is (All-get_or (IsCandidate samples) (candidates samples) i.place best i.stands (all_are_candidates samples))
