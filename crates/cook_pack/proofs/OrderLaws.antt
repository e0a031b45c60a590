-- Entries in byte order of names.
use Rattle.std.proofs.Common.{◌≡◌, ◌+◌, Bool, true, false, not, List, [], get_or, refl, sym, ap, ◌∙◌, arith}
use Rattle.std.specs.List.{IsAllAdjacentAnswer}
use Rattle.std.specs.Ordering.{is_lt, is_le, ordering_reverse}
use Rattle.std.specs.declared.cmp.Ordering.{Ordering}
use Rattle.std.specs.declared.cmp.Ordering.TheVariants.{Less, Equal, Greater}
use Rattle.std.specs.Ordering.{nat_cmp}
use Rattle.std.specs.Cmp.Lexicographic.{slice_cmp, nat_list_cmp_total}
use Rattle.shelf_core.specs.declared.shelf.Entry.{Entry}
use Rattle.cook_pack.specs.Entries.{name_of, AreInOrder}

-- one entry may stand before another
abbrev pub may_precede : Entry → Entry → Bool
may_precede entry other = is_le (slice_cmp nat_cmp (name_of entry) (name_of other))

reversed : (o : Ordering) → is_le (ordering_reverse o) ≡ not (is_lt o)
reversed Less = refl
reversed Equal = refl
reversed Greater = refl

precede-is : (entry other : Entry) → may_precede entry other ≡ not (is_lt (slice_cmp nat_cmp (name_of other) (name_of entry)))
precede-is entry other = ap is_le (nat_list_cmp_total.antisymm (name_of entry) (name_of other)) ∙ reversed _

not_true : (b : Bool) → not b ≡ true → b ≡ false
not_true true e = absurd (cc)
not_true false e = refl

pub in_order : (entries : List Entry) (r : Bool) → IsAllAdjacentAnswer (λ x y b. b ≡ may_precede x y) entries r → r ≡ true → AreInOrder entries
in_order entries false answer so = absurd (cc)
in_order entries true answer so = λ k d low inside. not_true _ (sym (precede-is (get_or entries k d) (get_or entries (k + 1) d)) ∙ sym (answer k d inside))

pub is_told_in_order : (entries : List Entry) (r : Bool) → IsAllAdjacentAnswer (λ x y b. b ≡ may_precede x y) entries r → AreInOrder entries → r ≡ true
is_told_in_order entries true answer sorted = refl
is_told_in_order entries false answer sorted = absurd (clash (get_or entries answer.0 no_entry) (get_or entries (answer.0 + 1) no_entry) (answer.2 no_entry) (sorted answer.0 no_entry (omega arith) answer.1))
  where
    no_entry : Entry
    no_entry = record { name = []; plain = true }

    clash : (x y : Entry) → false ≡ may_precede x y → is_lt (slice_cmp nat_cmp (name_of y) (name_of x)) ≡ false → ⊥
    clash x y refused not_less = let passes : may_precede x y ≡ true = precede-is x y ∙ ap not not_less in cc
