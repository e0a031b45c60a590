-- Counts of faults, and the two answers that come only where a count rose.
use Rattle.std.specs.Prelude.{◌≡◌, ℕ, ◌+◌, ◌-◌, ◌^◌, ◌≤◌, min, Result, Err}

-- a count is larger now than before, or stands at its last value
abbrev pub Rose : ℕ → ℕ → Type 0
Rose before now = min (before + 1) (2 ^ 64 - 1) ≤ now

-- No count fell. A fault is answered only where the count of faults rose, and want of memory only where the count of
-- refused growths did.
pub record HasCause {T E : Type 0} (failed no_memory : E) (faults faults_now starved starved_now : ℕ) (result : Result T E) : Type 0 where
  pub faults_kept : faults ≤ faults_now
  pub starved_kept : starved ≤ starved_now
  pub fault : result ≡ Err failed → Rose faults faults_now
  pub want : result ≡ Err no_memory → Rose starved starved_now
