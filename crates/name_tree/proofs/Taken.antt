-- Names that are taken in byte order.
use Rattle.std.proofs.Common.{◌≡◌, ◌≢◌, ℕ, zero, suc, ◌+◌, ◌-◌, ◌<◌, ◌≤◌, Bool, true, false, not, if◌then◌else◌, List, [], ◌∷◌, ◌++◌, length, get_or, take, All, Some, None, refl, sym, ap, subst, ◌∙◌, arith, append_assoc}
use Rattle.std.proofs.lemmas.List.{length-take, get_or-take, get_or_default}
use Rattle.std.specs.List.{AllAdjacentBelow}
use Rattle.std.specs.Ordering.{nat_cmp}
use Rattle.std.specs.Cmp.Lexicographic.{slice_cmp}
use Rattle.cook_bits.specs.Names.{is_relative_name, IsRelativeName, holds_folder_of}
use Rattle.name_tree.specs.Held.{is_among, is_folder_among, refusal_of}
use Rattle.name_tree.specs.Laws.{IsBelow, refusal_behind, RefusesBehind, TakesInOrder}
use Rattle.name_tree.specs.Tree.{Below, AtMost}
use Rattle.name_tree.proofs.Orders.{not_below_itself, below_trans, not_both, front_at_most, below_from_less, less_from_below}
use Rattle.name_tree.proofs.Refusals.{not_among, holds, holds_none, over_none}

module _ (names : List (List ℕ)) (name : List ℕ) (behind : All (λ held. IsBelow held name) names) where
  below : (m : ℕ) → m < length names → Below (get_or names m []) name
  below m lt = below_from_less (get_or names m []) name (behind m [] lt)

  none_among : is_among names name ≡ false
  none_among = not_among names name (λ m lt e. not_below_itself name (subst (λ (l : List ℕ). Below l name) e (below m lt)))

  front : (held rest : List ℕ) → held ≡ (name ++ 47 ∷ []) ++ rest → AtMost name held
  front held rest e = subst (λ (l : List ℕ). AtMost name l) (sym (e ∙ append_assoc name (47 ∷ []) rest)) (front_at_most name ((47 ∷ []) ++ rest))

  none_over : is_folder_among names name ≡ false
  none_over = over_none names name (λ m rest lt e. not_both (get_or names m []) name (below m lt) (front (get_or names m []) rest e))

  pub refusal_is : refusal_of names name ≡ refusal_behind names name
  unfolding refusal_of
  refusal_is = rw (none_among, none_over) refl

pub refuses_behind : RefusesBehind
refuses_behind names name behind = refusal_is names name behind

-- ---- in order

rises : (names : List (List ℕ)) (k n : ℕ) (d : List ℕ) → AllAdjacentBelow IsBelow names (length names) → k + suc n < length names → Below (get_or names k d) (get_or names (k + suc n) d)
rises names k zero d ascending lt =
    let next : k + 1 ≡ k + suc zero = omega arith in
    subst (λ (j : ℕ). Below (get_or names k d) (get_or names j d)) next (below_from_less (get_or names k d) (get_or names (k + 1) d) (ascending k d (omega arith)))
rises names k (suc n) d ascending lt =
    let next : (k + suc n) + 1 ≡ k + suc (suc n) = omega arith in
    let one = below_from_less (get_or names (k + suc n) d) (get_or names ((k + suc n) + 1) d) (ascending (k + suc n) d (omega arith)) in
    subst (λ (j : ℕ). Below (get_or names k d) (get_or names j d)) next (below_trans (get_or names k d) (get_or names (k + suc n) d) (get_or names ((k + suc n) + 1) d) (rises names k n d ascending (omega arith)) one)

-- those before a name are below it
before_below : (names : List (List ℕ)) (at : ℕ) (d : List ℕ) → AllAdjacentBelow IsBelow names (length names) → at < length names → All (λ held. IsBelow held (get_or names at d)) (take at names)
before_below names at d ascending lt k e within =
    let short : k < at = omega (arith, length-take at names) in
    let there : get_or (take at names) k e ≡ get_or names k d = get_or-take at names k e short ∙ get_or_default names k e d (omega arith) in
    let far = rises names k (at - suc k) d ascending (omega arith) in
    let is : k + suc (at - suc k) ≡ at = omega arith in
    rw there (less_from_below (get_or names k d) (get_or names at d) (subst (λ (j : ℕ). Below (get_or names k d) (get_or names j d)) is far))

-- none of those before is a folder of it
still_apart : (names : List (List ℕ)) (at : ℕ) (name : List ℕ) → holds_folder_of names name ≡ false → holds_folder_of (take at names) name ≡ false
still_apart names at name apart = holds_none (take at names) name (λ m rest lt e.
    let short : m < at = omega (arith, length-take at names) in
    let within : m < length names = omega (arith, length-take at names) in
    let same : get_or (take at names) m [] ≡ get_or names m [] = get_or-take at names m [] short in
    let yes : holds_folder_of names name ≡ true = holds names name m rest within (e ∙ ap (λ (f : List ℕ). (f ++ 47 ∷ []) ++ rest) same) in
    let never : true ≡ false = sym yes ∙ apart in
    absurd (cc))

taken : (names : List (List ℕ)) (name : List ℕ) → is_relative_name name ≡ true → holds_folder_of names name ≡ false → refusal_behind names name ≡ None
taken names name relative apart = rw (relative, apart) refl

pub takes_in_order : TakesInOrder
takes_in_order names at d relative ascending apart lt =
    refusal_is (take at names) (get_or names at d) (before_below names at d ascending lt)
    ∙ taken (take at names) (get_or names at d) (relative at d lt) (still_apart names at (get_or names at d) (apart at d lt))
