-- The bytes of a whole slice.
use Rattle.std.proofs.Common.{◌≡◌, ℕ, ◌*◌, ◌≤◌, List, ◌+◌, replicate, Bool, length, ap, ◌∙◌, subst, arith}
use Rattle.range_coder.specs.Choices.{decided}
use Rattle.range_coder.specs.Coding.{Puts}
use Rattle.range_coder.specs.Encoding.{Encoding}
use Rattle.range_coder.specs.Facts.{CodingsAreJoined, CodeLengths}
use Rattle.range_coder.specs.Interval.{whole, ending, coded}
use Rattle.ffv1_params.specs.QuantTables.{most_contexts}
use Rattle.ffv1_params.specs.Parameters.{Parameters, AreSound}
use Rattle.ffv1_slice.specs.declared.head.SliceHead.{SliceHead}
use Rattle.ffv1_slice.specs.Colour.{samples_of}
use Rattle.ffv1_slice.specs.Laws.{IsInside}
use Rattle.ffv1_slice.specs.Slice.{slots_of, fresh_slots, slice_states, front_choices, written_numbers, rows_choices, slice_choices, slice_decisions}
use Rattle.ffv1_slice.proofs.Lengths.{slice_few}

pub encoded : CodingsAreJoined → (table : List ℕ) (w : ℕ) (params : Parameters) (head : SliceHead) (width height : ℕ) (first : Bool) (tile : List ℕ) (before : Encoding) (states : List ℕ) (between : Encoding) (held : List ℕ) (after : Encoding) (left bytes : List ℕ) → table ≡ params.table → w ≡ width → before.interval ≡ whole → states ≡ slice_states params → Puts table before states between held (front_choices first (written_numbers head)) → Puts params.table between held after left (rows_choices params head w (samples_of params.bits w tile) height) → bytes ≡ ending after.interval → bytes ≡ coded (slice_decisions params head width height first tile)
unfolding slice_decisions
encoded joined table w params head width height first tile before states between held after left bytes t wide start fresh p' q' is =
    let p : Puts params.table before states between held (front_choices first (written_numbers head)) = subst (λ (xs : List ℕ). Puts xs before states between held (front_choices first (written_numbers head))) t p' in
    let q : Puts params.table between held after left (rows_choices params head width (samples_of params.bits width tile) height) = subst (λ (n : ℕ). Puts params.table between held after left (rows_choices params head n (samples_of params.bits n tile) height)) wide q' in
    let all : Puts params.table before states after left (slice_choices params head width height first tile) = joined.put params.table before states between held after left (front_choices first (written_numbers head)) (rows_choices params head width (samples_of params.bits width tile) height) p q in
    is ∙ joined.all_put params.table before states after left (slice_choices params head width height first tile) start all
    ∙ ap (λ (xs : List ℕ). coded (decided params.table xs (slice_choices params head width height first tile))) fresh

pub few_encoded : CodeLengths → (params : Parameters) (head : SliceHead) (width height : ℕ) (first : Bool) (tile bytes : List ℕ) → AreSound params → IsInside params head → bytes ≡ coded (slice_decisions params head width height first tile) → 105 * (width * height) ≤ 16000000 → length bytes ≤ 16001000
few_encoded law params head width height first tile bytes sound inside is small =
    let few : length (coded (slice_decisions params head width height first tile)) ≤ 16001000 = slice_few law params head width height first tile sound inside small in
    let e : length bytes ≡ length (coded (slice_decisions params head width height first tile)) = ap length is in
    omega arith

-- the states at the start
pub fresh_given : (params : Parameters) (most slots : ℕ) (items states : List ℕ) → most ≡ most_contexts params.sets → slots ≡ 33 + 64 * most → items ≡ replicate slots 128 → states ≡ items → states ≡ slice_states params
unfolding fresh_slots
fresh_given params most slots items states m n i s =
    let e : slots ≡ slots_of (most_contexts params.sets) = omega arith in
    s ∙ i ∙ ap (λ (k : ℕ). replicate k 128) e
