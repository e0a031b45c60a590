-- Testing numbers one by one.
use Rattle.std.proofs.Common.{◌≡◌, ℕ, ◌+◌, ◌<◌, ◌≤◌, ◌↔◌, Bool, ◌&&◌, nat_lt, IsTrue, List, length, get_or, take, subst, arith}
use Rattle.std.proofs.lemmas.List.{take-take, take_all, get_or-take, length-take-le}
use Rattle.std.proofs.lemmas.List.Elements.{All-more, All-take}
use Rattle.std.proofs.lemmas.Bool.Decides.{Decides-and, Decides-like, Decides-ltb}
use Rattle.dpx_packing.specs.Units.{AreBelow}

-- one more number, and the last test
pub below-more : (limit i : ℕ) (xs : List ℕ) (below : Bool) → i < length xs
    → (IsTrue below ↔ AreBelow limit (take i xs))
    → IsTrue (below && nat_lt (get_or xs i 0) limit) ↔ AreBelow limit (take (i + 1) xs)
below-more limit i xs below low so_far =
    Decides-like (below && nat_lt (get_or xs i 0) limit)
    (λ both. All-more (λ x. x < limit) xs i 0 low both.0 both.1)
    (λ all.
    let long : length (take (i + 1) xs) ≡ i + 1 = length-take-le (i + 1) xs (omega arith) in
    let at : get_or (take (i + 1) xs) i 0 < limit = all i 0 (omega arith) in (
      subst (AreBelow limit) (take-take i (i + 1) xs (omega arith)) (All-take (λ x. x < limit) i (take (i + 1) xs) all),
      subst (λ n. n < limit) (get_or-take (i + 1) xs i 0 (omega arith)) at,
    ))
    (Decides-and below (nat_lt (get_or xs i 0) limit) so_far (Decides-ltb (get_or xs i 0) limit))

pub below-all : (limit i : ℕ) (xs : List ℕ) (below : Bool) → length xs ≤ i
    → (IsTrue below ↔ AreBelow limit (take i xs)) → IsTrue below ↔ AreBelow limit xs
below-all limit i xs below high so_far =
    subst (λ l. IsTrue below ↔ AreBelow limit l) (take_all i xs high) so_far
