-- What was read of a plane, by the parameters.
use Rattle.std.proofs.Common.{◌≡◌, ℕ, List, subst}
use Rattle.std.specs.Prelude.{ℤ}
use Rattle.range_coder.specs.Reading.{Reader}
use Rattle.ffv1_params.specs.Parameters.{Parameters}
use Rattle.ffv1_slice.specs.declared.head.SliceHead.{SliceHead}
use Rattle.ffv1_slice.specs.declared.lines.Lines.{Lines}
use Rattle.ffv1_slice.specs.Got.{PlaneGot, PlaneFails, GetsPlane, FailsPlane}
use Rattle.ffv1_slice.specs.Slice.{plane_values, first_slot}

pub gets_plane : (params : Parameters) (head : SliceHead) (half width plane : ℕ) (table : List ℕ) (values : List ℤ) (first : ℕ) (r : Reader) (s : List ℕ) (r' : Reader) (s' : List ℕ) (old new : Lines) → table ≡ params.table → values ≡ plane_values params head plane → first ≡ first_slot params plane → PlaneGot table r s r' s' half values first width old new → GetsPlane params head half width plane r s r' s' old new
gets_plane params head half width plane table values first r s r' s' old new t v f g =
    subst (λ (xs : List ℕ). PlaneGot xs r s r' s' half (plane_values params head plane) (first_slot params plane) width old new) t
    (subst (λ (vs : List ℤ). PlaneGot table r s r' s' half vs (first_slot params plane) width old new) v
    (subst (λ (n : ℕ). PlaneGot table r s r' s' half values n width old new) f g))

pub fails_plane : (params : Parameters) (head : SliceHead) (half width plane : ℕ) (table : List ℕ) (values : List ℤ) (first : ℕ) (r : Reader) (s : List ℕ) (r' : Reader) (s' : List ℕ) (old : Lines) → table ≡ params.table → values ≡ plane_values params head plane → first ≡ first_slot params plane → PlaneFails table r s r' s' half values first width old → FailsPlane params head half width plane r s r' s' old
fails_plane params head half width plane table values first r s r' s' old t v f g =
    subst (λ (xs : List ℕ). PlaneFails xs r s r' s' half (plane_values params head plane) (first_slot params plane) width old) t
    (subst (λ (vs : List ℤ). PlaneFails table r s r' s' half vs (first_slot params plane) width old) v
    (subst (λ (n : ℕ). PlaneFails table r s r' s' half values n width old) f g))
