-- The writer's choice for one channel: of the candidates, the one whose whole subframe (RFC 9639, section 9.2) has the
-- fewest bits, the first of these on a tie.
use Rattle.std.specs.Prelude.{◌≡◌, ℕ, zero, suc, ◌+◌, ◌*◌, ◌<◌, ◌≤◌, ◌==◌, nat_lt, if◌then◌else◌, ◌&&◌, Bool, true, false, ℤ, pos, negsuc, List, [], ◌∷◌, ◌++◌, length}
use Rattle.std.specs.Option.{unwrap_or}
use Rattle.flac_predict.specs.declared.choosing.Choice.{Choice}
use Rattle.flac_predict.specs.declared.choosing.Choice.TheVariants.{Constant, Fixed, Linear, Verbatim}
use Rattle.flac_predict.specs.Fixed.{fixed_residuals}
use Rattle.flac_predict.specs.Linear.{linear_residuals}
use Rattle.flac_predict.specs.Bank.{bank_set}
use Rattle.flac_predict.specs.Rice.{residual_bits, best_parameter}
use Rattle.flac_predict.specs.Least.{least_of}

-- constant, where all samples are equal
abbrev pub is_same : ℤ → ℤ → Bool
is_same (pos m) (pos n) = m == n
is_same (pos m) (negsuc n) = false
is_same (negsuc m) (pos n) = false
is_same (negsuc m) (negsuc n) = m == n

unfoldable pub all_are : ℤ → List ℤ → Bool
all_are sample [] = true
all_are sample (other ∷ more) = is_same other sample && all_are sample more

unfoldable pub constant_offer : List ℤ → List Choice
constant_offer [] = []
constant_offer (sample ∷ more) = if all_are sample more then Constant ∷ [] else []

-- a fixed predictor, where there are more samples than its order says, with its best parameter
unfoldable pub fixed_offer : List ℤ → ℕ → List Choice
fixed_offer samples order =
    if nat_lt order (length samples) then Fixed order (best_parameter (fixed_residuals order samples)) ∷ [] else []

-- those of the first orders, so many, from 0 on
unfoldable pub fixed_offers : List ℤ → ℕ → List Choice
fixed_offers samples zero = []
fixed_offers samples (suc order) = fixed_offers samples order ++ fixed_offer samples order

-- the bank's set of a number, where there are more samples than its order says, with its best parameter
unfoldable pub linear_offer : List ℤ → ℕ → List Choice
linear_offer samples number =
    let set = bank_set number in
    if nat_lt set.order (length samples) then Linear number (best_parameter (linear_residuals set samples)) ∷ [] else []

-- those of the first sets, so many, from 1 on
unfoldable pub linear_offers : List ℤ → ℕ → List Choice
linear_offers samples zero = []
linear_offers samples (suc number) = linear_offers samples number ++ linear_offer samples (suc number)

-- all candidates, in order
unfoldable pub candidates : List ℤ → List Choice
candidates samples =
    constant_offer samples ++ fixed_offers samples 5 ++ linear_offers samples 8 ++ Verbatim ∷ []

-- the bits of a subframe of samples of a depth: eight of the header; of a linear one four for the precision, five for the
-- shift and the coefficients beside the warm-up and the residuals
unfoldable pub candidate_bits : ℕ → List ℤ → Choice → ℕ
candidate_bits depth samples Constant = 8 + depth
candidate_bits depth samples (Fixed order parameter) =
    8 + order * depth + residual_bits parameter (fixed_residuals order samples)
candidate_bits depth samples (Linear number parameter) =
    let set = bank_set number in
    8 + set.order * depth + 4 + 5 + set.order * set.precision + residual_bits parameter (linear_residuals set samples)
candidate_bits depth samples Verbatim = 8 + length samples * depth

-- the candidate that is taken
unfoldable pub best_candidate : ℕ → List ℤ → Choice
best_candidate depth samples = unwrap_or (least_of (candidate_bits depth samples) (candidates samples)) Verbatim

-- a choice that can be a candidate for these samples, with its best parameter
abbrev pub IsCandidate : List ℤ → Choice → Type 0
IsCandidate samples Constant = constant_offer samples ≡ Constant ∷ []
IsCandidate samples (Fixed order parameter) = (order ≤ 4) × (order < length samples) × (parameter ≡ best_parameter (fixed_residuals order samples)) × (parameter ≤ 30)
IsCandidate samples (Linear number parameter) =
    let set = bank_set number in
    (1 ≤ number) × (number ≤ 8) × (set.order < length samples) × (parameter ≡ best_parameter (linear_residuals set samples)) × (parameter ≤ 30)
IsCandidate samples Verbatim = Unit {0}
