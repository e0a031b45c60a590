-- All shares have all tiles.
use Rattle.std.proofs.Common.{◌≡◌, ℕ, ◌+◌, ◌-◌, ◌*◌, ◌/◌, ◌<◌, List, length, take, drop, get_or, sym, ◌∙◌, ap, subst, arith}
use Rattle.std.proofs.lemmas.Nat.{div-mul-add}
use Rattle.slice_pool.specs.Tiles.{bound, tile_of, AreBounds, AreTaken, AreDone}
use Rattle.slice_pool.specs.Shares.{first_tile}
use Rattle.slice_pool.specs.Parts.{tile_in, IsSound, PartTaken, PartDone, AreShares}

pub sound : (bounds : List ℕ) (len count workers : ℕ) → AreBounds bounds len count → 0 < workers → workers < 4294967296
    → IsSound bounds workers
sound bounds len count workers are some few =
    let size : length bounds ≡ count + 1 = are.size in
    record { some = omega arith; ascending = are.ascending; workers_low = some; workers_high = few }

pub whole-shares : (bounds : List ℕ) (len count workers : ℕ) → AreBounds bounds len count → 0 < workers
    → AreShares bounds workers 0 workers 0 count
unfolding first_tile
whole-shares bounds len count workers are some =
    let size : length bounds - 1 ≡ count = let long : length bounds ≡ count + 1 = are.size in omega arith in
    let none : 0 * (length bounds - 1) ≡ 0 * workers + 0 = omega arith in
    let begin : 0 * (length bounds - 1) / workers ≡ 0 = ap (λ n. n / workers) none ∙ div-mul-add 0 workers 0 some in
    let all : (0 + workers) * (length bounds - 1) ≡ count * workers + 0 = ap (λ n. (0 + workers) * n) size ∙ omega arith in
    let end : (0 + workers) * (length bounds - 1) / workers ≡ count = ap (λ n. n / workers) all ∙ div-mul-add count workers 0 some in
    let sum : 0 + count ≡ count = omega arith in
    record { some = some; high = omega arith; begin = sym begin; end = sum ∙ sym end }

tile-is : (bounds : List ℕ) (len count k : ℕ) (xs : List ℕ) → AreBounds bounds len count
    → tile_in bounds (bound bounds 0) k xs ≡ tile_of bounds k xs
tile-is bounds len count k xs are =
    let first : bound bounds 0 ≡ 0 = are.first in
    let place : bound bounds k - bound bounds 0 ≡ bound bounds k = omega arith in
    ap (λ n. take (bound bounds (k + 1) - bound bounds k) (drop n xs)) place

pub whole-taken : (Takes : ℕ → List ℕ → Type 0) (bounds : List ℕ) (count : ℕ) (buffer : List ℕ)
    → AreBounds bounds (length buffer) count → AreTaken Takes bounds count buffer → PartTaken Takes bounds 0 count buffer
whole-taken Takes bounds count buffer are taken =
    let size : length bounds ≡ count + 1 = are.size in
    let first : bound bounds 0 ≡ 0 = are.first in
    let last : bound bounds count ≡ length buffer = are.last in
    let sum : 0 + count ≡ count = omega arith in
    let end : bound bounds (0 + count) ≡ bound bounds count = ap (bound bounds) sum in
    record {
      is = record { inside = omega arith; size = omega arith };
      each = λ k k_low k_high. subst (Takes k) (sym (tile-is bounds (length buffer) count k buffer are)) (taken k (omega arith));
    }

pub whole-done : {A : Type 0} (Does : ℕ → List ℕ → List ℕ → A → Type 0) (bounds : List ℕ) (len count : ℕ) (old new : List ℕ) (answers : List A)
    → AreBounds bounds len count → PartDone Does bounds 0 old new answers → AreDone Does bounds old new answers
whole-done {A} Does bounds len count old new answers are done k d k_high =
    let place : k - 0 ≡ k = omega arith in
    subst (λ n. Does k (tile_of bounds k old) (tile_of bounds k new) (get_or answers n d)) place
    (subst (λ (l : List ℕ). Does k (tile_of bounds k old) l (get_or answers (k - 0) d)) (tile-is bounds len count k new are)
    (subst (λ (l : List ℕ). Does k l (tile_in bounds (bound bounds 0) k new) (get_or answers (k - 0) d)) (tile-is bounds len count k old are)
    (done.each k d (omega arith) (omega arith))))
