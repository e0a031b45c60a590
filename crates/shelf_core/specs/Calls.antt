-- The calls that an object in memory counts, and those of them that are to fail.
use Rattle.std.specs.Prelude.{◌≡◌, ℕ, ◌+◌, ◌-◌, ◌^◌, min, Bool, ◌&&◌, IsTrue, List, nat_eq, nat_lt, if◌then◌else◌}
use Rattle.std.specs.List.{list_any}
use Rattle.shelf_core.specs.declared.calls.Calls.{Calls}

-- one more than a count, which stands still at its type's end
abbrev pub risen : ℕ → ℕ
risen count = min (count + 1) (2 ^ 64 - 1)

-- a call's number is in a list of numbers of 32 bits
abbrev pub is_among : List ℕ → ℕ → Bool
is_among failing number = nat_lt number (2 ^ 32) && list_any (λ listed. nat_eq listed number) failing

-- the next call is one of those that are to fail
abbrev pub is_listed : Calls → Bool
is_listed calls = is_among calls.failing.items (risen calls.made)

abbrev pub IsListed : Calls → Type 0
IsListed calls = IsTrue (is_listed calls)

-- One call was counted: the list stays, and the count of faults rose where the call failed, and only there.
pub record CountedOr (failed : Bool) (before after : Calls) : Type 0 where
  pub made : after.made ≡ risen before.made
  pub failing : after.failing.items ≡ before.failing.items
  pub faults : after.faults ≡ (if failed then risen before.faults else before.faults)

-- the same of a call that fails exactly where it is listed
abbrev pub Counted : Calls → Calls → Type 0
Counted before after = CountedOr (is_listed before) before after
