-- A subframe: the samples of one channel (RFC 9639, section 9.2).
use Rattle.std.specs.Prelude.{ℕ, ◌+◌, ◌-◌, ◌^◌, ◌==◌, ◌&&◌, Bool, nat_le, nat_lt, if◌then◌else◌, ℤ, pos, ◌*ℤ◌, List, ◌++◌, map, drop, replicate, Result, Ok, Err}
use Rattle.flac_predict.specs.declared.sets.LinearSet.{LinearSet}
use Rattle.flac_predict.specs.Samples.{all_inside}
use Rattle.flac_predict.specs.Fixed.{fixed_restored}
use Rattle.flac_predict.specs.Linear.{linear_restored}
use Rattle.flac_frame.specs.declared.error.FlacWhy.{FlacWhy}
use Rattle.flac_frame.specs.declared.error.FlacWhy.TheVariants.{Subframe, Range}
use Rattle.flac_frame.specs.Reading.{◌>>=◌, field_at, accepted_at, expected_at, signed_at, unary_at, each_at}
use Rattle.flac_frame.specs.Residual.{residual_at}

-- the kinds (section 9.2.1): constant, verbatim, fixed of the orders 0 to 4 and linear of the orders 1 to 32. An order is
-- below the size of the block
abbrev pub is_kind : ℕ → ℕ → Bool
is_kind size kind =
    if nat_lt kind 2 then Bool.true
    else if nat_lt kind 32 then nat_le 8 kind && nat_le kind 12 && nat_lt (kind - 8) size
    else nat_lt (kind - 31) size

abbrev pub fewer : ℕ → ℕ × List Bool → Result (ℕ × List Bool) FlacWhy
fewer depth less = if nat_lt (less.0 + 1) depth then Ok (less.0 + 1, less.1) else Err Subframe

-- how many low bits of each sample aren't set, and aren't stored (section 9.2.2): fewer than the depth
unfoldable pub wasted_at : ℕ → List Bool → Result (ℕ × List Bool) FlacWhy
wasted_at depth bits = do
  flag ← field_at 1 bits
  if flag.0 == 0 then Ok (0, flag.1)
      else (unary_at flag.1 >>= fewer depth)

-- samples that were restored, each of which is inside its bits
abbrev pub inside_or_range : ℕ → List ℤ → List Bool → Result (List ℤ × List Bool) FlacWhy
inside_or_range depth samples left = if all_inside depth samples then Ok (samples, left) else Err Range

-- one sample for all (section 9.2.3)
unfoldable pub constant_at : ℕ → ℕ → List Bool → Result (List ℤ × List Bool) FlacWhy
constant_at depth size bits = do
  sample ← signed_at depth bits
  Ok (replicate size sample.0, sample.1)

-- a fixed predictor's warm-up and residuals (section 9.2.5)
unfoldable pub fixed_at : ℕ → ℕ → ℕ → List Bool → Result (List ℤ × List Bool) FlacWhy
fixed_at order depth size bits = do
  warm_up ← each_at (signed_at depth) order bits
  residuals ← residual_at order size warm_up.1
  inside_or_range depth (fixed_restored order warm_up.0 residuals.0) residuals.1

-- a set of linear coefficients, as many as its order says
abbrev pub linear_set : ℕ → ℕ → ℕ → List ℤ → LinearSet
linear_set order precision shift coefficients =
    record { order = order; precision = precision; shift = shift; coefficients = coefficients ++ drop order (replicate 32 (pos 0)) }

-- the precision less one, of which 15 is forbidden, the shift, which isn't negative, and the coefficients
unfoldable pub set_at : ℕ → List Bool → Result (LinearSet × List Bool) FlacWhy
set_at order bits = do
  less ← accepted_at 4 (λ less. nat_lt less 15) Subframe bits
  shift ← accepted_at 5 (λ shift. nat_lt shift 16) Subframe less.1
  coefficients ← each_at (signed_at (less.0 + 1)) order shift.1
  Ok (linear_set order (less.0 + 1) shift.0 coefficients.0, coefficients.1)

-- a linear predictor's warm-up, its set and the residuals (section 9.2.6)
unfoldable pub linear_at : ℕ → ℕ → ℕ → List Bool → Result (List ℤ × List Bool) FlacWhy
linear_at order depth size bits = do
  warm_up ← each_at (signed_at depth) order bits
  set ← set_at order warm_up.1
  residuals ← residual_at order size set.1
  inside_or_range depth (linear_restored set.0 warm_up.0 residuals.0) residuals.1

-- samples of a depth, by the kind
unfoldable pub content_at : ℕ → ℕ → ℕ → List Bool → Result (List ℤ × List Bool) FlacWhy
content_at kind depth size bits =
    if kind == 0 then constant_at depth size bits
    else if kind == 1 then each_at (signed_at depth) size bits
    else if nat_lt kind 32 then fixed_at (kind - 8) depth size bits
    else linear_at (kind - 31) depth size bits

-- with so many low bits that aren't set
abbrev pub with_wasted : ℕ → List ℤ → List ℤ
with_wasted wasted samples = map (λ sample. sample *ℤ pos (2 ^ wasted)) samples

-- the samples of a channel
unfoldable pub subframe_at : ℕ → ℕ → List Bool → Result (List ℤ × List Bool) FlacWhy
subframe_at depth size bits = do
  first ← expected_at 1 0 Subframe bits
  kind ← accepted_at 6 (is_kind size) Subframe first
  wasted ← wasted_at depth kind.1
  content ← content_at kind.0 (depth - wasted.0) size wasted.1
  Ok (with_wasted wasted.0 content.0, content.1)
