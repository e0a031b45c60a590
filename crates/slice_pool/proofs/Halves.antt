-- Shares that are halved, and what their halves have.
use Rattle.std.proofs.Common.{◌≡◌, ℕ, ◌+◌, ◌-◌, ◌<◌, ◌≤◌, inl, inr, List, ◌++◌, length, take, drop, get_or, All, refl, sym, ◌∙◌, ap, subst, arith, length-append}
use Rattle.std.proofs.lemmas.Bool.{cases_lt}
use Rattle.std.proofs.lemmas.List.{get_or_append_left, get_or-append_right, take_at, drop_at}
use Rattle.std.proofs.lemmas.List.Elements.{All-take, All-drop}
use Rattle.slice_pool.specs.Tiles.{bound, IsAscending}
use Rattle.slice_pool.specs.Shares.{first_tile}
use Rattle.slice_pool.specs.Parts.{tile_in, IsSound, PartTaken, PartDone, AreShares, IsCut}
use Rattle.slice_pool.proofs.Places.{part-front, part-back, first-up}

pub cut-is : (bounds : List ℕ) (workers share shares low first count next : ℕ) → IsSound bounds workers
    → AreShares bounds workers share shares first count → first + count < length bounds → low ≤ shares
    → next ≡ first_tile (length bounds - 1) workers (share + low) → IsCut bounds first count next
cut-is bounds workers share shares low first count next sound are inside low_high is =
    let begin : first ≡ first_tile (length bounds - 1) workers share = are.begin in
    let end : first + count ≡ first_tile (length bounds - 1) workers (share + shares) = are.end in
    let up : first_tile (length bounds - 1) workers share ≤ first_tile (length bounds - 1) workers (share + low) =
    first-up (length bounds - 1) workers share (share + low) sound.workers_low (omega arith) in
    let down : first_tile (length bounds - 1) workers (share + low) ≤ first_tile (length bounds - 1) workers (share + shares) =
    first-up (length bounds - 1) workers (share + low) (share + shares) sound.workers_low (omega arith) in
    let low_is : first ≤ next = omega arith in
    let high_is : next ≤ first + count = omega arith in
    record {
      low = low_is;
      high = high_is;
      inside = omega arith;
      place_low = sound.ascending first next low_is (omega arith);
      place_high = sound.ascending next (first + count) high_is inside;
    }

pub shares-front : (bounds : List ℕ) (workers share shares low first count next front : ℕ)
    → AreShares bounds workers share shares first count → 0 < low → low ≤ shares
    → next ≡ first_tile (length bounds - 1) workers (share + low) → first + front ≡ next
    → AreShares bounds workers share low first front
shares-front bounds workers share shares low first count next front are some low_high is front_is =
    let high : share + shares ≤ workers = are.high in
    record { some = some; high = omega arith; begin = are.begin; end = front_is ∙ is }

pub shares-back : (bounds : List ℕ) (workers share shares low first count next back : ℕ)
    → AreShares bounds workers share shares first count → low < shares
    → next ≡ first_tile (length bounds - 1) workers (share + low) → next + back ≡ first + count
    → AreShares bounds workers (share + low) (shares - low) next back
shares-back bounds workers share shares low first count next back are low_high is back_is =
    let high : share + shares ≤ workers = are.high in
    let sum : share + shares ≡ share + low + (shares - low) = omega arith in
    record {
      some = omega arith;
      high = omega arith;
      begin = is;
      end = back_is ∙ are.end ∙ ap (first_tile (length bounds - 1) workers) sum;
    }

-- ---- tiles of the halves are tiles of the whole

tile-front : (bounds : List ℕ) (first next k : ℕ) (left right : List ℕ) → IsAscending bounds → next < length bounds
    → first ≤ k → k < next → length left ≡ bound bounds next - bound bounds first
    → tile_in bounds (bound bounds first) k (left ++ right) ≡ tile_in bounds (bound bounds first) k left
tile-front bounds first next k left right ascending inside low high long =
    let base_low : bound bounds first ≤ bound bounds k = ascending first k low (omega arith) in
    let order : bound bounds k ≤ bound bounds (k + 1) = ascending k (k + 1) (omega arith) (omega arith) in
    let before : bound bounds (k + 1) ≤ bound bounds next = ascending (k + 1) next (omega arith) inside in
    part-front (bound bounds k - bound bounds first) (bound bounds (k + 1) - bound bounds k) left right (omega arith)

tile-back : (bounds : List ℕ) (first next k : ℕ) (left right : List ℕ) → IsAscending bounds → k < length bounds
    → first ≤ next → next ≤ k → length left ≡ bound bounds next - bound bounds first
    → tile_in bounds (bound bounds first) k (left ++ right) ≡ tile_in bounds (bound bounds next) k right
tile-back bounds first next k left right ascending inside low high long =
    let base_low : bound bounds first ≤ bound bounds next = ascending first next low (omega arith) in
    let order : bound bounds next ≤ bound bounds k = ascending next k high inside in
    part-back (bound bounds k - bound bounds first) (bound bounds k - bound bounds next) (bound bounds (k + 1) - bound bounds k) left right (omega arith)

pub taken-front : (Takes : ℕ → List ℕ → Type 0) (bounds : List ℕ) (first count next front : ℕ) (part left right : List ℕ)
    → IsAscending bounds → PartTaken Takes bounds first count part → IsCut bounds first count next → first + front ≡ next
    → part ≡ left ++ right → length left ≡ bound bounds next - bound bounds first
    → PartTaken Takes bounds first front left
taken-front Takes bounds first count next front part left right ascending taken cut front_is whole long =
    let inside : next < length bounds = cut.inside in
    let high : next ≤ first + count = cut.high in
    record {
      is = record { inside = omega arith; size = long ∙ ap (λ n. bound bounds n - bound bounds first) (sym front_is) };
      each = λ k k_low k_high.
          subst (Takes k) (ap (tile_in bounds (bound bounds first) k) whole ∙ tile-front bounds first next k left right ascending inside k_low (omega arith) long)
          (taken.each k k_low (omega arith));
    }

pub taken-back : (Takes : ℕ → List ℕ → Type 0) (bounds : List ℕ) (first count next back : ℕ) (part left right : List ℕ)
    → IsAscending bounds → PartTaken Takes bounds first count part → IsCut bounds first count next
    → next + back ≡ first + count → part ≡ left ++ right → length left ≡ bound bounds next - bound bounds first
    → PartTaken Takes bounds next back right
taken-back Takes bounds first count next back part left right ascending taken cut back_is whole long =
    let in_bounds : first + count < length bounds = taken.is.inside in
    let low : first ≤ next = cut.low in
    let size : length part ≡ bound bounds (first + count) - bound bounds first = taken.is.size in
    let sum : length part ≡ length left + length right = ap length whole ∙ length-append left right in
    let base_low : bound bounds first ≤ bound bounds next = ascending first next low cut.inside in
    let order : bound bounds next ≤ bound bounds (first + count) = ascending next (first + count) cut.high in_bounds in
    let rest : length right ≡ bound bounds (first + count) - bound bounds next = omega arith in
    record {
      is = record { inside = omega arith; size = rest ∙ ap (λ n. bound bounds n - bound bounds next) (sym back_is) };
      each = λ k k_low k_high.
          subst (Takes k) (ap (tile_in bounds (bound bounds first) k) whole ∙ tile-back bounds first next k left right ascending (omega arith) low k_low long)
          (taken.each k (omega arith) (omega arith));
    }

carried : {A : Type 0} (Does : ℕ → List ℕ → List ℕ → A → Type 0) (k : ℕ) (old other_old new other_new : List ℕ) (answer other : A)
    → old ≡ other_old → new ≡ other_new → answer ≡ other → Does k old new answer → Does k other_old other_new other
carried {A} Does k old other_old new other_new answer other old_is new_is answer_is does =
    subst (λ (a : A). Does k other_old other_new a) answer_is
    (subst (λ (l : List ℕ). Does k other_old l answer) new_is
    (subst (λ (l : List ℕ). Does k l new answer) old_is does))

pub done-both : {A : Type 0} (Does : ℕ → List ℕ → List ℕ → A → Type 0) (bounds : List ℕ) (first count next : ℕ)
    (old new left right new_left new_right : List ℕ) (answers front back : List A)
    → IsAscending bounds → first + count < length bounds → IsCut bounds first count next
    → length left ≡ bound bounds next - bound bounds first → first + length front ≡ next → length answers ≡ count
    → old ≡ left ++ right → new ≡ new_left ++ new_right → answers ≡ front ++ back
    → PartDone Does bounds first left new_left front → PartDone Does bounds next right new_right back
    → PartDone Does bounds first old new answers
done-both {A} Does bounds first count next old new left right new_left new_right answers front back ascending in_bounds cut long front_is count_is old_is new_is answers_is done next_done =
    let inside : next < length bounds = cut.inside in
    let low : first ≤ next = cut.low in
    let new_long : length new_left ≡ bound bounds next - bound bounds first = done.size ∙ long in
    let sum : length answers ≡ length front + length back = ap length answers_is ∙ length-append front back in
    let old_sum : length old ≡ length left + length right = ap length old_is ∙ length-append left right in
    let new_sum : length new ≡ length new_left + length new_right = ap length new_is ∙ length-append new_left new_right in
    let left_size : length new_left ≡ length left = done.size in
    let right_size : length new_right ≡ length right = next_done.size in
    record {
      size = omega arith;
      each = λ k d k_low k_high.
          elim (cases_lt k next) [
            | inl before ↦
                let old_tile : tile_in bounds (bound bounds first) k old ≡ tile_in bounds (bound bounds first) k left =
                ap (tile_in bounds (bound bounds first) k) old_is ∙ tile-front bounds first next k left right ascending inside k_low before long in
                let new_tile : tile_in bounds (bound bounds first) k new ≡ tile_in bounds (bound bounds first) k new_left =
                ap (tile_in bounds (bound bounds first) k) new_is ∙ tile-front bounds first next k new_left new_right ascending inside k_low before new_long in
                let answer : get_or answers (k - first) d ≡ get_or front (k - first) d =
                ap (λ (l : List A). get_or l (k - first) d) answers_is ∙ get_or_append_left front back d (k - first) (omega arith) in
                carried Does k (tile_in bounds (bound bounds first) k left) (tile_in bounds (bound bounds first) k old) (tile_in bounds (bound bounds first) k new_left) (tile_in bounds (bound bounds first) k new) (get_or front (k - first) d) (get_or answers (k - first) d)
                (sym old_tile) (sym new_tile) (sym answer) (done.each k d k_low (omega arith))
            | inr behind ↦
                let old_tile : tile_in bounds (bound bounds first) k old ≡ tile_in bounds (bound bounds next) k right =
                ap (tile_in bounds (bound bounds first) k) old_is ∙ tile-back bounds first next k left right ascending (omega arith) low behind long in
                let new_tile : tile_in bounds (bound bounds first) k new ≡ tile_in bounds (bound bounds next) k new_right =
                ap (tile_in bounds (bound bounds first) k) new_is ∙ tile-back bounds first next k new_left new_right ascending (omega arith) low behind new_long in
                let place : k - first - length front ≡ k - next = omega arith in
                let answer : get_or answers (k - first) d ≡ get_or back (k - next) d =
                ap (λ (l : List A). get_or l (k - first) d) answers_is
                ∙ get_or-append_right front back (length front) (k - first) d refl (omega arith)
                ∙ ap (λ n. get_or back n d) place in
                carried Does k (tile_in bounds (bound bounds next) k right) (tile_in bounds (bound bounds first) k old) (tile_in bounds (bound bounds next) k new_right) (tile_in bounds (bound bounds first) k new) (get_or back (k - next) d) (get_or answers (k - first) d)
                (sym old_tile) (sym new_tile) (sym answer) (next_done.each k d behind (omega arith))
          ];
    }

-- ---- the scratches

pub all-front : {A : Type 0} (P : A → Type 0) (xs a b : List A) → All P xs → xs ≡ a ++ b → All P a
all-front {A} P xs a b all is =
    subst (All P) (ap (take (length a)) is ∙ take_at a b (length a) refl) (All-take P (length a) xs all)

pub all-back : {A : Type 0} (P : A → Type 0) (xs a b : List A) → All P xs → xs ≡ a ++ b → All P b
all-back {A} P xs a b all is =
    subst (All P) (ap (drop (length a)) is ∙ drop_at a b (length a) refl) (All-drop P (length a) xs all)
