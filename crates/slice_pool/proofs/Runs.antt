-- Tiles that are run one after the other.
use Rattle.std.proofs.Common.{◌≡◌, ℕ, ◌+◌, ◌-◌, ◌<◌, ◌≤◌, inl, inr, List, length, take, drop, set, get_or, refl, sym, ◌∙◌, ap, subst, arith}
use Rattle.std.proofs.lemmas.Bool.{cases_lt}
use Rattle.std.proofs.lemmas.List.{get_or-set_same, get_or-set_other}
use Rattle.std.proofs.lemmas.Slice.{drop-put_mid, between-put_mid}
use borrow.Rule.Slice.PartMut.{put_mid}
use Rattle.slice_pool.specs.Tiles.{bound, IsAscending}
use Rattle.slice_pool.specs.Parts.{tile_in, IsPart, PartTaken, PartDone, DoneBelow}
use Rattle.slice_pool.proofs.Places.{length-put, part-below, drop-later}

pub below-none : {A : Type 0} (Does : ℕ → List ℕ → List ℕ → A → Type 0) (bounds : List ℕ) (first : ℕ) (part : List ℕ) (answers : List A)
    → DoneBelow Does bounds first 0 part part answers
below-none Does bounds first part answers = record {
  size = refl;
  rest = refl;
  each = λ k d low high. absurd (omega arith);
}

-- where the next tile stands
pub record IsNext (bounds : List ℕ) (first i from to : ℕ) (part : List ℕ) : Type 0 where
  pub begin : from ≡ bound bounds (first + i) - bound bounds first
  pub end : to ≡ bound bounds (first + i + 1) - bound bounds first
  pub base_low : bound bounds first ≤ bound bounds (first + i)
  pub order : bound bounds (first + i) ≤ bound bounds (first + i + 1)
  pub up : from ≤ to
  pub room : to ≤ length part

pub next-is : (bounds : List ℕ) (first count i from to : ℕ) (old new : List ℕ) → IsAscending bounds
    → IsPart bounds first count old → i < count → length new ≡ length old
    → from ≡ bound bounds (first + i) - bound bounds first → to ≡ bound bounds (first + i + 1) - bound bounds first
    → IsNext bounds first i from to new
next-is bounds first count i from to old new ascending is low same begin end =
    let inside : first + count < length bounds = is.inside in
    let base_low : bound bounds first ≤ bound bounds (first + i) = ascending first (first + i) (omega arith) (omega arith) in
    let order : bound bounds (first + i) ≤ bound bounds (first + i + 1) = ascending (first + i) (first + i + 1) (omega arith) (omega arith) in
    let last : bound bounds (first + i + 1) ≤ bound bounds (first + count) = ascending (first + i + 1) (first + count) (omega arith) (omega arith) in
    let long : length old ≡ bound bounds (first + count) - bound bounds first = is.size in
    record { begin = begin; end = end; base_low = base_low; order = order; up = omega arith; room = omega arith }

-- the tile is as it was before the run
now-is : (bounds : List ℕ) (first i from to : ℕ) (old new : List ℕ) → IsNext bounds first i from to new
    → drop (bound bounds (first + i) - bound bounds first) new ≡ drop (bound bounds (first + i) - bound bounds first) old
    → tile_in bounds (bound bounds first) (first + i) old ≡ take (to - from) (drop from new)
now-is bounds first i from to old new is rest =
    let begin : from ≡ bound bounds (first + i) - bound bounds first = is.begin in
    let end : to ≡ bound bounds (first + i + 1) - bound bounds first = is.end in
    let base_low : bound bounds first ≤ bound bounds (first + i) = is.base_low in
    let size : bound bounds (first + i + 1) - bound bounds (first + i) ≡ to - from = omega arith in
    ap (take (bound bounds (first + i + 1) - bound bounds (first + i))) (sym rest)
    ∙ ap (λ n. take n (drop (bound bounds (first + i) - bound bounds first) new)) size
    ∙ ap (λ n. take (to - from) (drop n new)) (sym begin)

pub takes-now : (Takes : ℕ → List ℕ → Type 0) (bounds : List ℕ) (first count i from to : ℕ) (old new : List ℕ)
    → PartTaken Takes bounds first count old → i < count → IsNext bounds first i from to new
    → drop (bound bounds (first + i) - bound bounds first) new ≡ drop (bound bounds (first + i) - bound bounds first) old
    → Takes (first + i) (take (to - from) (drop from new))
takes-now Takes bounds first count i from to old new taken low is rest =
    subst (Takes (first + i)) (now-is bounds first i from to old new is rest) (taken.each (first + i) (omega arith) (omega arith))

-- one tile more is done
below-here : {A : Type 0} (Does : ℕ → List ℕ → List ℕ → A → Type 0) (bounds : List ℕ) (first i from to k : ℕ) (old new written : List ℕ) (answers : List A) (answer d : A)
    → IsNext bounds first i from to new
    → drop (bound bounds (first + i) - bound bounds first) new ≡ drop (bound bounds (first + i) - bound bounds first) old
    → i < length answers → Does (first + i) (take (to - from) (drop from new)) written answer → length written ≡ to - from
    → k ≡ first + i
    → Does k (tile_in bounds (bound bounds first) k old) (tile_in bounds (bound bounds first) k (put_mid from (to - from) new written)) (get_or (set answers i answer) (k - first) d)
below-here {A} Does bounds first i from to k old new written answers answer d is rest low does long at =
    let w : List ℕ = put_mid from (to - from) new written in
    let begin : from ≡ bound bounds (first + i) - bound bounds first = is.begin in
    let end : to ≡ bound bounds (first + i + 1) - bound bounds first = is.end in
    let base_low : bound bounds first ≤ bound bounds (first + i) = is.base_low in
    let up : from ≤ to = is.up in
    let room : to ≤ length new = is.room in
    let size : bound bounds (first + i + 1) - bound bounds (first + i) ≡ to - from = omega arith in
    let before : tile_in bounds (bound bounds first) (first + i) old ≡ take (to - from) (drop from new) = now-is bounds first i from to old new is rest in
    let after : tile_in bounds (bound bounds first) (first + i) (put_mid from (to - from) new written) ≡ written =
    ap (λ n. take n (drop (bound bounds (first + i) - bound bounds first) (put_mid from (to - from) new written))) size
    ∙ ap (λ n. take (to - from) (drop n (put_mid from (to - from) new written))) (sym begin)
    ∙ between-put_mid from (to - from) new written to (omega arith) long
    in
    let place : first + i - first ≡ i = omega arith in
    let answered : get_or (set answers i answer) (first + i - first) d ≡ answer =
    ap (λ n. get_or (set answers i answer) n d) place ∙ get_or-set_same answers i answer d low in
    subst (λ n. Does n (tile_in bounds (bound bounds first) n old) (tile_in bounds (bound bounds first) n (put_mid from (to - from) new written)) (get_or (set answers i answer) (n - first) d)) (sym at)
    (subst (λ (a : A). Does (first + i) (tile_in bounds (bound bounds first) (first + i) old) (tile_in bounds (bound bounds first) (first + i) (put_mid from (to - from) new written)) a) (sym answered)
    (subst (λ (l : List ℕ). Does (first + i) (tile_in bounds (bound bounds first) (first + i) old) l answer) (sym after)
    (subst (λ (l : List ℕ). Does (first + i) l written answer) (sym before) does)))

below-there : {A : Type 0} (Does : ℕ → List ℕ → List ℕ → A → Type 0) (bounds : List ℕ) (first i from to k : ℕ) (old new written : List ℕ) (answers : List A) (answer d : A)
    → IsAscending bounds → first + i < length bounds → IsNext bounds first i from to new → first ≤ k → k < first + i
    → Does k (tile_in bounds (bound bounds first) k old) (tile_in bounds (bound bounds first) k new) (get_or answers (k - first) d)
    → Does k (tile_in bounds (bound bounds first) k old) (tile_in bounds (bound bounds first) k (put_mid from (to - from) new written)) (get_or (set answers i answer) (k - first) d)
below-there {A} Does bounds first i from to k old new written answers answer d ascending inside is low high does =
    let begin : from ≡ bound bounds (first + i) - bound bounds first = is.begin in
    let up : from ≤ to = is.up in
    let room : to ≤ length new = is.room in
    let base_low : bound bounds first ≤ bound bounds k = ascending first k low (omega arith) in
    let order : bound bounds k ≤ bound bounds (k + 1) = ascending k (k + 1) (omega arith) (omega arith) in
    let before : bound bounds (k + 1) ≤ bound bounds (first + i) = ascending (k + 1) (first + i) (omega arith) inside in
    let same : tile_in bounds (bound bounds first) k (put_mid from (to - from) new written) ≡ tile_in bounds (bound bounds first) k new =
    part-below (bound bounds k - bound bounds first) (bound bounds (k + 1) - bound bounds k) from (to - from) new written (omega arith) (omega arith) in
    let other : get_or (set answers i answer) (k - first) d ≡ get_or answers (k - first) d =
    get_or-set_other answers i (k - first) answer d (λ e. absurd (omega arith)) in
    subst (λ (a : A). Does k (tile_in bounds (bound bounds first) k old) (tile_in bounds (bound bounds first) k (put_mid from (to - from) new written)) a) (sym other)
    (subst (λ (l : List ℕ). Does k (tile_in bounds (bound bounds first) k old) l (get_or answers (k - first) d)) (sym same) does)

pub below-more : {A : Type 0} (Does : ℕ → List ℕ → List ℕ → A → Type 0) (bounds : List ℕ) (first i from to : ℕ) (old new written : List ℕ) (answers : List A) (answer : A)
    → IsAscending bounds → first + i < length bounds → IsNext bounds first i from to new
    → DoneBelow Does bounds first i old new answers → i < length answers
    → Does (first + i) (take (to - from) (drop from new)) written answer → length written ≡ to - from
    → DoneBelow Does bounds first (i + 1) old (put_mid from (to - from) new written) (set answers i answer)
below-more {A} Does bounds first i from to old new written answers answer ascending inside is below low does long =
    let begin : from ≡ bound bounds (first + i) - bound bounds first = is.begin in
    let end : to ≡ bound bounds (first + i + 1) - bound bounds first = is.end in
    let up : from ≤ to = is.up in
    let room : to ≤ length new = is.room in
    let assoc : first + i + 1 ≡ first + (i + 1) = omega arith in
    let to_is : to ≡ bound bounds (first + (i + 1)) - bound bounds first = end ∙ ap (λ n. bound bounds n - bound bounds first) assoc in
    let behind : drop to (put_mid from (to - from) new written) ≡ drop to old =
    drop-put_mid from (to - from) new written to (omega arith) (omega arith) long
    ∙ drop-later from to new old up (ap (λ n. drop n new) begin ∙ below.rest ∙ ap (λ n. drop n old) (sym begin))
    in
    record {
      size = length-put from (to - from) new written (omega arith) long ∙ below.size;
      rest = ap (λ n. drop n (put_mid from (to - from) new written)) (sym to_is) ∙ behind ∙ ap (λ n. drop n old) to_is;
      each = λ k d k_low k_high.
          elim (cases_lt k (first + i)) [
            | inl before ↦ below-there Does bounds first i from to k old new written answers answer d ascending inside is k_low before (below.each k d k_low before)
            | inr here ↦ below-here Does bounds first i from to k old new written answers answer d is below.rest low does long (omega arith)
          ];
    }

pub below-all : {A : Type 0} (Does : ℕ → List ℕ → List ℕ → A → Type 0) (bounds : List ℕ) (first i : ℕ) (old new : List ℕ) (answers : List A)
    → DoneBelow Does bounds first i old new answers → length answers ≤ i → PartDone Does bounds first old new answers
below-all Does bounds first i old new answers below high = record {
  size = below.size;
  each = λ k d k_low k_high. below.each k d k_low (omega arith);
}
