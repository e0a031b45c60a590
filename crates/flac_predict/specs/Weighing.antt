-- The least of the offers so far, with its bits, where it is below a bound that the best candidate is below.
use Rattle.std.specs.Prelude.{◌≡◌, ◌+◌, ◌≤◌, ◌<◌, ℕ, nat_lt, if◌then◌else◌, ℤ, List, length, Option, Some, None}
use Rattle.flac_predict.specs.declared.choosing.Choice.{Choice}
use Rattle.flac_predict.specs.declared.choosing.Choice.TheVariants.{Fixed}
use Rattle.flac_predict.specs.declared.choosing.Weighed.{Weighed}
use Rattle.flac_predict.specs.Fixed.{fixed_residuals}
use Rattle.flac_predict.specs.Rice.{best_parameter, residual_bits}
use Rattle.flac_predict.specs.Least.{least_of}
use Rattle.flac_predict.specs.Choice.{candidate_bits, best_candidate}

-- the bits are those of the choice
abbrev pub IsWeighed : ℕ → List ℤ → Weighed → Type 0
IsWeighed depth samples held = held.bits ≡ candidate_bits depth samples held.choice

-- the least of some offers has at least so many bits
abbrev pub IsAtLeast : ℕ → List ℤ → ℕ → Option Choice → Type 0
IsAtLeast depth samples bits None = Unit {0}
IsAtLeast depth samples bits (Some least) = bits ≤ candidate_bits depth samples least

-- what is held is the least of the offers; or it has the bits of the bound, and none of the offers has fewer
pub record Holds (depth : ℕ) (samples : List ℤ) (held : Weighed) (offers : List Choice) : Type 0 where
  pub bound : ℕ
  pub reached : candidate_bits depth samples (best_candidate depth samples) < bound
  pub small : bound ≤ 200000
  pub within : held.bits ≤ bound
  pub least : held.bits < bound → Some held.choice ≡ least_of (candidate_bits depth samples) offers
  pub weighed : held.bits < bound → IsWeighed depth samples held
  pub none : bound ≤ held.bits → IsAtLeast depth samples bound (least_of (candidate_bits depth samples) offers)

-- the one that is held, unless the next has fewer bits
abbrev pub lighter_of : Weighed → Weighed → Weighed
lighter_of held next = if nat_lt next.bits held.bits then next else held

-- the offer of a choice, or none where what is held has no more bits
abbrev pub IsOffer : ℕ → List ℤ → Weighed → Choice → Option Weighed → Type 0
IsOffer depth samples held choice None = held.bits ≤ candidate_bits depth samples choice
IsOffer depth samples held choice (Some next) = (next.choice ≡ choice) × IsWeighed depth samples next

-- the best parameter of some residuals and their bits behind a head, or none where what is held has no more bits
abbrev pub IsPricing : Weighed → ℕ → List ℤ → Option (ℕ × ℕ) → Type 0
IsPricing held head residuals None = held.bits ≤ head + residual_bits (best_parameter residuals) residuals
IsPricing held head residuals (Some found) = (found.0 ≡ best_parameter residuals) × (found.1 ≡ head + residual_bits found.0 residuals)

-- the offer of a fixed order
pub record IsOfOrder (depth : ℕ) (samples : List ℤ) (order : ℕ) (offer : Weighed) : Type 0 where
  pub small : order ≤ 4
  pub enough : order < length samples
  pub choice : offer.choice ≡ Fixed order (best_parameter (fixed_residuals order samples))
  pub weighed : IsWeighed depth samples offer
