-- The choice as the code makes it: one offer after another.
use Rattle.std.proofs.Common.{◌≡◌, ℕ, zero, suc, ◌+◌, ◌-◌, ◌*◌, ◌<◌, ◌≤◌, Bool, true, false, cond, ltb, ℤ, pos, negsuc, List, [], ◌∷◌, ◌++◌, length, drop, get_or, Option, Some, None, refl, sym, ap, ◌∙◌, subst, arith, inl, inr, append_assoc}
use Rattle.std.proofs.lemmas.Int.{ints}
use Rattle.std.proofs.lemmas.Bool.{lt-ltb, le-ltb, ltb-true, ltb-false, cases_lt, eq-eqb, ne_eqb, and_left}
use Rattle.std.proofs.lemmas.List.{append-nil, drop_more, drop_all, length-append, get_or_push, get_or_append_left, get_or-append-add}
use Rattle.flac_predict.specs.declared.sets.LinearSet.{LinearSet}
use Rattle.flac_predict.specs.declared.choosing.Choice.{Choice}
use Rattle.flac_predict.specs.declared.choosing.Choice.TheVariants.{Constant, Fixed, Linear, Verbatim}
use Rattle.flac_predict.specs.declared.choosing.Weighed.{Weighed}
use Rattle.flac_predict.specs.Samples.{sample_at, AreInside}
use Rattle.flac_predict.specs.Fixed.{fixed_residuals}
use Rattle.flac_predict.specs.Linear.{linear_residuals}
use Rattle.flac_predict.specs.Bank.{bank_set, set_of}
use Rattle.flac_predict.specs.Rice.{best_parameter, residual_bits, AreCodable}
use Rattle.flac_predict.specs.Least.{least_of}
use Rattle.flac_predict.specs.Choice.{is_same, all_are, constant_offer, fixed_offer, fixed_offers, linear_offer, linear_offers, candidates, candidate_bits, best_candidate}
use Rattle.flac_predict.specs.Weighing.{IsWeighed, IsAtLeast, IsOfOrder, Holds, lighter_of}
use Rattle.flac_predict.proofs.LeastLaws.{taken, least_of_push}
use Rattle.flac_predict.proofs.ChoiceLaws.{candidate_is_best}

-- an offer behind others, and what is held

-- the least of some offers has more bits than this one
abbrev IsMore : (Choice → ℕ) → Choice → Option Choice → Type 0
IsMore cost c None = Unit {0}
IsMore cost c (Some least) = cost c < cost least

taken_next : (cost : Choice → ℕ) (c : Choice) (o : Option Choice) → IsMore cost c o → taken cost o c ≡ c
taken_next cost c None h = refl
taken_next cost c (Some m) h = let t : ltb (cost c) (cost m) ≡ true = lt-ltb (cost c) (cost m) h in rw t refl

taken_held : (cost : Choice → ℕ) (c m : Choice) → cost m ≤ cost c → taken cost (Some m) c ≡ m
taken_held cost c m h = let t : ltb (cost c) (cost m) ≡ false = le-ltb (cost c) (cost m) h in rw t refl

taken_most : (cost : Choice → ℕ) (bound : ℕ) (c m : Choice) → bound ≤ cost m → bound ≤ cost c → (b : Bool) → bound ≤ cost (cond b c m)
taken_most cost bound c m h l true = l
taken_most cost bound c m h l false = h

taken_at_least : (depth : ℕ) (samples : List ℤ) (bound : ℕ) (c : Choice) (o : Option Choice) → IsAtLeast depth samples bound o → bound ≤ candidate_bits depth samples c → bound ≤ candidate_bits depth samples (taken (candidate_bits depth samples) o c)
taken_at_least depth samples bound c None h l = l
taken_at_least depth samples bound c (Some m) h l =
    taken_most (candidate_bits depth samples) bound c m h l (ltb (candidate_bits depth samples c) (candidate_bits depth samples m))

more_than : (depth : ℕ) (samples : List ℤ) (bound : ℕ) (c : Choice) (o : Option Choice) → IsAtLeast depth samples bound o → candidate_bits depth samples c < bound → IsMore (candidate_bits depth samples) c o
more_than depth samples bound c None h l = tt
more_than depth samples bound c (Some m) h l = omega (arith, h, l)

-- the least of the offers so far has more bits than one that is lighter than what is held
all_more : (depth : ℕ) (samples : List ℤ) (held : Weighed) (c : Choice) (offers : List Choice) → Holds depth samples held offers → candidate_bits depth samples c < held.bits → IsMore (candidate_bits depth samples) c (least_of (candidate_bits depth samples) offers)
all_more depth samples held c offers h l =
    elim (cases_lt held.bits h.bound) as (λ _. IsMore (candidate_bits depth samples) c (least_of (candidate_bits depth samples) offers)) [
      | inl b ↦
          let w : held.bits ≡ candidate_bits depth samples held.choice = h.weighed b in
          let m : candidate_bits depth samples c < candidate_bits depth samples held.choice = omega (arith, w, l) in
          subst (IsMore (candidate_bits depth samples) c) (h.least b) m
      | inr b ↦ more_than depth samples h.bound c _ (h.none b) (omega (arith, b, l, h.within))
    ]

holds_lighter : (depth : ℕ) (samples : List ℤ) (held next : Weighed) (offers : List Choice) → Holds depth samples held offers → IsWeighed depth samples next → next.bits < held.bits → Holds depth samples next (offers ++ next.choice ∷ [])
holds_lighter depth samples held next offers h j l =
    let cost = candidate_bits depth samples in
    let m = all_more depth samples held next.choice offers h (omega (arith, j, l)) in
    record {
      bound = h.bound;
      reached = h.reached;
      small = h.small;
      within = omega (arith, l, h.within);
      least = λ _. sym (least_of_push cost offers next.choice ∙ ap (λ (c : Choice). Some c) (taken_next cost next.choice (least_of cost offers) m));
      weighed = λ _. j;
      none = λ b. absurd (omega (arith, b, l, h.within));
    }

pub holds_kept : (depth : ℕ) (samples : List ℤ) (held : Weighed) (c : Choice) (offers more : List Choice) → Holds depth samples held offers → held.bits ≤ candidate_bits depth samples c → more ≡ offers ++ c ∷ [] → Holds depth samples held more
holds_kept depth samples held c offers more h n e =
    let cost = candidate_bits depth samples in
    let p : least_of cost more ≡ Some (taken cost (least_of cost offers) c) = ap (least_of cost) e ∙ least_of_push cost offers c in
    record {
      bound = h.bound;
      reached = h.reached;
      small = h.small;
      within = h.within;
      least = λ b.
          let w : held.bits ≡ cost held.choice = h.weighed b in
          let k : taken cost (Some held.choice) c ≡ held.choice = taken_held cost c held.choice (omega (arith, w, n)) in
          sym (p ∙ ap (λ (o : Option Choice). Some (taken cost o c)) (sym (h.least b)) ∙ ap (λ (x : Choice). Some x) k);
      weighed = h.weighed;
      none = λ b. subst (IsAtLeast depth samples h.bound) (sym p) (taken_at_least depth samples h.bound c (least_of cost offers) (h.none b) (omega (arith, b, n)));
    }

lighter_holds : (depth : ℕ) (samples : List ℤ) (held next : Weighed) (offers : List Choice) → Holds depth samples held offers → IsWeighed depth samples next → (b : Bool) → ltb next.bits held.bits ≡ b → Holds depth samples (cond b next held) (offers ++ next.choice ∷ [])
lighter_holds depth samples held next offers h j true e =
    holds_lighter depth samples held next offers h j (ltb-true next.bits held.bits e)
lighter_holds depth samples held next offers h j false e =
    holds_kept depth samples held next.choice offers _ h (omega (arith, j, ltb-false next.bits held.bits e)) refl

pub holds_more : (depth : ℕ) (samples : List ℤ) (held next best : Weighed) (offers more : List Choice) → Holds depth samples held offers → IsWeighed depth samples next → best ≡ lighter_of held next → more ≡ offers ++ next.choice ∷ [] → Holds depth samples best more
holds_more depth samples held next best offers more h j e f =
    rw (e, f) (lighter_holds depth samples held next offers h j (ltb next.bits held.bits) refl)

pub holds_same : (depth : ℕ) (samples : List ℤ) (held : Weighed) (offers more : List Choice) → Holds depth samples held offers → more ≡ offers → Holds depth samples held more
holds_same depth samples held offers more h e = subst (Holds depth samples held) (sym e) h

pub held_is_light : (depth : ℕ) (samples : List ℤ) (held : Weighed) (offers : List Choice) → Holds depth samples held offers → held.bits ≤ 200000
held_is_light depth samples held offers h = omega (arith, h.within, h.small)

-- before the first offer
pub nothing_is_held : (depth : ℕ) (samples : List ℤ) (held : Weighed) → candidate_bits depth samples (best_candidate depth samples) < held.bits → held.bits ≤ 200000 → Holds depth samples held []
unfolding least_of
nothing_is_held depth samples held r s = record {
  bound = held.bits;
  reached = r;
  small = s;
  within = omega arith;
  least = λ b. absurd (omega (arith, b));
  weighed = λ b. absurd (omega (arith, b));
  none = λ b. tt;
}

-- the offers, one order and one set more
pub no_fixed : (samples : List ℤ) (order : ℕ) (before : List Choice) → length samples ≤ order → before ++ fixed_offers samples (order + 1) ≡ before ++ fixed_offers samples order
unfolding fixed_offers fixed_offer
no_fixed samples order before h =
    let e : order + 1 ≡ suc order = omega arith in
    let t : ltb order (length samples) ≡ false = le-ltb order (length samples) h in
    rw (e, t, append-nil (fixed_offers samples order)) refl

pub one_fixed : (samples : List ℤ) (order : ℕ) (before : List Choice) (c : Choice) → order < length samples → c ≡ Fixed order (best_parameter (fixed_residuals order samples)) → before ++ fixed_offers samples (order + 1) ≡ (before ++ fixed_offers samples order) ++ c ∷ []
unfolding fixed_offers fixed_offer
one_fixed samples order before c h f =
    let e : order + 1 ≡ suc order = omega arith in
    let t : ltb order (length samples) ≡ true = lt-ltb order (length samples) h in
    rw (e, t, f) (sym (append_assoc before (fixed_offers samples order) (Fixed order (best_parameter (fixed_residuals order samples)) ∷ [])))

pub no_linear : (samples : List ℤ) (number : ℕ) (set : LinearSet) (before : List Choice) → set ≡ bank_set (number + 1) → length samples ≤ set.order → before ++ linear_offers samples (number + 1) ≡ before ++ linear_offers samples number
unfolding linear_offers linear_offer
no_linear samples number set before s h =
    let e : number + 1 ≡ suc number = omega arith in
    let b : set ≡ bank_set (suc number) = s ∙ ap bank_set e in
    let l : length samples ≤ (bank_set (suc number)).order = subst (λ (x : LinearSet). length samples ≤ x.order) b h in
    let t : ltb (bank_set (suc number)).order (length samples) ≡ false = le-ltb (bank_set (suc number)).order (length samples) l in
    rw (e, t, append-nil (linear_offers samples number)) refl

pub one_linear : (samples : List ℤ) (number : ℕ) (set : LinearSet) (before : List Choice) (c : Choice) → set ≡ bank_set (number + 1) → set.order < length samples → c ≡ Linear (number + 1) (best_parameter (linear_residuals set samples)) → before ++ linear_offers samples (number + 1) ≡ (before ++ linear_offers samples number) ++ c ∷ []
unfolding linear_offers linear_offer
one_linear samples number set before c s h f =
    let e : number + 1 ≡ suc number = omega arith in
    let b : set ≡ bank_set (suc number) = s ∙ ap bank_set e in
    let l : (bank_set (suc number)).order < length samples = subst (λ (x : LinearSet). x.order < length samples) b h in
    let t : ltb (bank_set (suc number)).order (length samples) ≡ true = lt-ltb (bank_set (suc number)).order (length samples) l in
    let g : c ≡ Linear (suc number) (best_parameter (linear_residuals (bank_set (suc number)) samples)) = f ∙ ap (λ (n : ℕ). Linear n (best_parameter (linear_residuals set samples))) e ∙ ap (λ (x : LinearSet). Linear (suc number) (best_parameter (linear_residuals x samples))) b in
    rw (e, t, g) (sym (append_assoc before (linear_offers samples number) (Linear (suc number) (best_parameter (linear_residuals (bank_set (suc number)) samples)) ∷ [])))

-- none yet of either kind
pub no_order : (samples : List ℤ) (before : List Choice) → before ++ fixed_offers samples 0 ≡ before
unfolding fixed_offers
no_order samples before = append-nil before

pub no_number : (samples : List ℤ) (before : List Choice) → before ++ linear_offers samples 0 ≡ before
unfolding linear_offers
no_number samples before = append-nil before

-- the whole list: its least is below the bound, so it is what is held
abbrev front : List ℤ → List Choice
front samples = constant_offer samples ++ fixed_offers samples 5 ++ linear_offers samples 8

least_is_best : (depth : ℕ) (samples : List ℤ) → least_of (candidate_bits depth samples) (front samples ++ Verbatim ∷ []) ≡ Some (best_candidate depth samples)
unfolding candidates best_candidate
least_is_best depth samples =
    rw (least_of_push (candidate_bits depth samples) (front samples) Verbatim) refl

some_same : (x y : Choice) → Some x ≡ Some y → x ≡ y
some_same x y e = cc

below_bound : (depth : ℕ) (samples : List ℤ) (best : Weighed) (h : Holds depth samples best (front samples ++ Verbatim ∷ [])) → best.bits < h.bound
below_bound depth samples best h =
    elim (cases_lt best.bits h.bound) as (λ _. best.bits < h.bound) [
      | inl b ↦ b
      | inr b ↦
          let l : IsAtLeast depth samples h.bound (Some (best_candidate depth samples)) = subst (IsAtLeast depth samples h.bound) (least_is_best depth samples) (h.none b) in
          absurd (omega (arith, l, h.reached))
    ]

pub best_is : (depth : ℕ) (samples : List ℤ) (best : Weighed) → Holds depth samples best (constant_offer samples ++ fixed_offers samples 5 ++ linear_offers samples 8 ++ Verbatim ∷ []) → best.choice ≡ best_candidate depth samples
best_is depth samples best h =
    some_same best.choice (best_candidate depth samples) (h.least (below_bound depth samples best h) ∙ least_is_best depth samples)

pub best_weighs : (depth : ℕ) (samples : List ℤ) (best : Weighed) → Holds depth samples best (constant_offer samples ++ fixed_offers samples 5 ++ linear_offers samples 8 ++ Verbatim ∷ []) → IsWeighed depth samples best
best_weighs depth samples best h = h.weighed (below_bound depth samples best h)

-- a fixed order is one of the candidates, so the best has no more bits
length-fixed_offers : (samples : List ℤ) (count : ℕ) → count ≤ length samples → length (fixed_offers samples count) ≡ count
unfolding fixed_offers fixed_offer
length-fixed_offers samples zero h = refl
length-fixed_offers samples (suc order) h =
    let ih = length-fixed_offers samples order (omega arith) in
    let t : ltb order (length samples) ≡ true = lt-ltb order (length samples) (omega arith) in
    rw t (length-append (fixed_offers samples order) (Fixed order (best_parameter (fixed_residuals order samples)) ∷ []) ∙ omega (arith, ih))

abbrev of_order : List ℤ → ℕ → Choice
of_order samples order = Fixed order (best_parameter (fixed_residuals order samples))

offered_last : (samples : List ℤ) (order : ℕ) → order < length samples → fixed_offers samples (suc order) ≡ fixed_offers samples order ++ of_order samples order ∷ []
unfolding fixed_offers fixed_offer
offered_last samples order h =
    let t : ltb order (length samples) ≡ true = lt-ltb order (length samples) h in rw t refl

offered_at : (samples : List ℤ) (order more : ℕ) (d : Choice) → order < length samples → (order < length (fixed_offers samples (more + suc order))) × (get_or (fixed_offers samples (more + suc order)) order d ≡ of_order samples order)
unfolding fixed_offers
offered_at samples order zero d h =
    let l : length (fixed_offers samples order) ≡ order = length-fixed_offers samples order (omega arith) in
    let z : zero + suc order ≡ suc order = omega arith in
    let e = offered_last samples order h in
    let n : length (fixed_offers samples order ++ of_order samples order ∷ []) ≡ length (fixed_offers samples order) + 1 = length-append (fixed_offers samples order) (of_order samples order ∷ []) in
    rw (z, e) (omega (arith, l, n), get_or_push (fixed_offers samples order) (of_order samples order) d order l)
offered_at samples order (suc more) d h =
    let ih = offered_at samples order more d h in
    let s : suc more + suc order ≡ suc (more + suc order) = omega arith in
    let xs = fixed_offers samples (more + suc order) in
    let ys = fixed_offer samples (more + suc order) in
    let n : length (xs ++ ys) ≡ length xs + length ys = length-append xs ys in
    rw s (omega (arith, ih.0, n), get_or_append_left xs ys d order ih.0 ∙ ih.1)

pub order_reaches : (depth : ℕ) (samples : List ℤ) (order : ℕ) (offer : Weighed) → IsOfOrder depth samples order offer → candidate_bits depth samples (best_candidate depth samples) ≤ offer.bits
unfolding candidates
order_reaches depth samples order offer i =
    let cost = candidate_bits depth samples in
    let best = best_candidate depth samples in
    let five : 4 - order + suc order ≡ 5 = omega (arith, i.small) in
    let fixed = fixed_offers samples 5 in
    let first = constant_offer samples in
    let o : (order < length fixed) × (get_or fixed order best ≡ of_order samples order) = subst (λ (n : ℕ). (order < length (fixed_offers samples n)) × (get_or (fixed_offers samples n) order best ≡ of_order samples order)) five (offered_at samples order (4 - order) best i.enough) in
    let place = length first + order in
    let a : get_or (first ++ fixed) place best ≡ of_order samples order = get_or-append-add first fixed order best ∙ o.1 in
    let n : length (first ++ fixed) ≡ length first + length fixed = length-append first fixed in
    let b : get_or (first ++ fixed ++ linear_offers samples 8) place best ≡ of_order samples order = get_or_append_left (first ++ fixed) (linear_offers samples 8) best place (omega (arith, n, o.0)) ∙ a in
    let m : length (first ++ fixed ++ linear_offers samples 8) ≡ length (first ++ fixed) + length (linear_offers samples 8) = length-append (first ++ fixed) (linear_offers samples 8) in
    let g : get_or (front samples ++ Verbatim ∷ []) place best ≡ of_order samples order = get_or_append_left (first ++ fixed ++ linear_offers samples 8) (Verbatim ∷ []) best place (omega (arith, n, m, o.0)) ∙ b in
    let least : cost best ≤ cost (get_or (front samples ++ Verbatim ∷ []) place best) = (candidate_is_best depth samples).none_less place in
    let w : cost (get_or (front samples ++ Verbatim ∷ []) place best) ≡ offer.bits = ap cost (g ∙ sym i.choice) ∙ sym i.weighed in
    omega (arith, least, w)

-- where an order is the likely one, its offer is at hand
pub of_same_order : (depth : ℕ) (samples : List ℤ) (order other : ℕ) (offer : Weighed) → IsOfOrder depth samples other offer → order ≡ other → offer.choice ≡ Fixed order (best_parameter (fixed_residuals order samples))
of_same_order depth samples order other offer i e = rw e i.choice

-- what is counted
pub fixed_weighs : (depth : ℕ) (samples : List ℤ) (order parameter bits rice : ℕ) → rice ≡ residual_bits parameter (fixed_residuals order samples) → bits ≡ 8 + order * depth + rice → bits ≡ candidate_bits depth samples (Fixed order parameter)
unfolding candidate_bits
fixed_weighs depth samples order parameter bits rice e f = rw (f, e) refl

precise : (number : ℕ) → (bank_set number).precision ≡ 8
unfolding bank_set set_of
precise number = refl

moved : (a b r : ℕ) → 17 + a + b + r ≡ 8 + a + 4 + 5 + b + r
moved a b r = omega arith

pub linear_weighs : (depth : ℕ) (samples : List ℤ) (number : ℕ) (set : LinearSet) (parameter bits rice : ℕ) → set ≡ bank_set number → rice ≡ residual_bits parameter (linear_residuals set samples) → bits ≡ 17 + set.order * depth + set.order * set.precision + rice → bits ≡ candidate_bits depth samples (Linear number parameter)
unfolding candidate_bits
linear_weighs depth samples number set parameter bits rice s e f =
    let r : rice ≡ residual_bits parameter (linear_residuals (bank_set number) samples) = e ∙ ap (λ (x : LinearSet). residual_bits parameter (linear_residuals x samples)) s in
    let o : set.order ≡ (bank_set number).order = ap (λ (x : LinearSet). x.order) s in
    let p : set.precision ≡ (bank_set number).precision = ap (λ (x : LinearSet). x.precision) s in
    let g : bits ≡ 17 + (bank_set number).order * depth + (bank_set number).order * (bank_set number).precision + residual_bits parameter (linear_residuals (bank_set number) samples) = f ∙ ap (λ (n : ℕ). 17 + n * depth + n * set.precision + rice) o ∙ ap (λ (n : ℕ). 17 + (bank_set number).order * depth + (bank_set number).order * n + rice) p ∙ ap (λ (n : ℕ). 17 + (bank_set number).order * depth + (bank_set number).order * (bank_set number).precision + n) r in
    g ∙ moved ((bank_set number).order * depth) ((bank_set number).order * (bank_set number).precision) (residual_bits parameter (linear_residuals (bank_set number) samples))

pub verbatim_weighs : (depth : ℕ) (samples : List ℤ) (bits : ℕ) → bits ≡ 8 + length samples * depth → bits ≡ candidate_bits depth samples Verbatim
unfolding candidate_bits
verbatim_weighs depth samples bits e = e

pub constant_weighs : (depth : ℕ) (samples : List ℤ) (bits : ℕ) → bits ≡ 8 + depth → bits ≡ candidate_bits depth samples Constant
unfolding candidate_bits
constant_weighs depth samples bits e = e

pub are_codable : (xs : List ℤ) → AreInside 29 xs → AreCodable xs
are_codable xs are = record { each = λ k. let i = are.each k in omega (arith, ints, i.low) }

-- all equal
same_self : (y : ℤ) → is_same y y ≡ true
same_self (pos n) = eq-eqb n n refl
same_self (negsuc n) = eq-eqb n n refl

pub same_yes : (x y : ℤ) → x ≡ y → is_same x y ≡ true
same_yes x y e = rw e (same_self y)

pub same_no : (x y : ℤ) → (x ≡ y → ⊥) → is_same x y ≡ false
same_no (pos m) (pos n) h = ne_eqb m n (λ e. h (ap pos e))
same_no (pos m) (negsuc n) h = refl
same_no (negsuc m) (pos n) h = refl
same_no (negsuc m) (negsuc n) h = ne_eqb m n (λ e. h (ap negsuc e))

pub equal_so_far : (first : ℤ) (samples : List ℤ) (place : ℕ) → place < length samples → sample_at samples place ≡ first → all_are first (drop place samples) ≡ all_are first samples → all_are first (drop (place + 1) samples) ≡ all_are first samples
unfolding all_are
equal_so_far first samples place h e r =
    let d : drop place samples ≡ sample_at samples place ∷ drop (place + 1) samples = drop_more samples place (pos 0) h in
    let s : is_same (sample_at samples place) first ≡ true = same_yes (sample_at samples place) first e in
    let t : all_are first (sample_at samples place ∷ drop (place + 1) samples) ≡ all_are first (drop (place + 1) samples) = rw s refl in
    sym t ∙ sym (ap (all_are first) d) ∙ r

pub unequal_at : (first : ℤ) (samples : List ℤ) (place : ℕ) → place < length samples → (sample_at samples place ≡ first → ⊥) → all_are first (drop place samples) ≡ all_are first samples → all_are first samples ≡ false
unfolding all_are
unequal_at first samples place h n r =
    let d : drop place samples ≡ sample_at samples place ∷ drop (place + 1) samples = drop_more samples place (pos 0) h in
    let s : is_same (sample_at samples place) first ≡ false = same_no (sample_at samples place) first n in
    let t : all_are first (sample_at samples place ∷ drop (place + 1) samples) ≡ false = and_left (is_same (sample_at samples place) first) (all_are first (drop (place + 1) samples)) s in
    sym r ∙ ap (all_are first) d ∙ t

pub equal_to_the_end : (first : ℤ) (samples : List ℤ) (place : ℕ) → length samples ≤ place → all_are first (drop place samples) ≡ all_are first samples → all_are first samples ≡ true
unfolding all_are
equal_to_the_end first samples place h r = sym r ∙ ap (all_are first) (drop_all place samples h)

-- what a constant is offered for
offer_is : (samples : List ℤ) → 1 ≤ length samples → constant_offer samples ≡ cond (all_are (sample_at samples 0) samples) (Constant ∷ []) []
unfolding constant_offer all_are
offer_is [] h = absurd (omega arith)
offer_is (x ∷ more) h = rw (same_self x) refl

pub constant_is : (samples : List ℤ) → 1 ≤ length samples → all_are (sample_at samples 0) samples ≡ true → constant_offer samples ≡ Constant ∷ []
constant_is samples h e = offer_is samples h ∙ ap (λ (b : Bool). cond b (Constant ∷ []) []) e

pub no_constant : (samples : List ℤ) → 1 ≤ length samples → all_are (sample_at samples 0) samples ≡ false → constant_offer samples ≡ []
no_constant samples h e = offer_is samples h ∙ ap (λ (b : Bool). cond b (Constant ∷ []) []) e
