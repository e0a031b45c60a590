-- How many bytes a slice has.
use Rattle.std.proofs.Common.{◌≡◌, ℕ, zero, suc, ◌+◌, ◌*◌, ◌^◌, ◌<◌, ◌≤◌, List, [], ◌∷◌, ◌++◌, All, Bool, true, false, length, length-append, arith}
use Rattle.std.proofs.lemmas.List.Elements.{All-head, All-tail}
use Rattle.std.specs.Prelude.{ℤ, pos}
use Rattle.std.specs.Int.{is_negative}
use Rattle.range_coder.specs.Choices.{Choice, decided}
use Rattle.range_coder.specs.Facts.{CodeLengths}
use Rattle.range_coder.specs.Interval.{coded}
use Rattle.range_coder.specs.Symbol.{symbol_choices}
use Rattle.ffv1_params.specs.Parameters.{Parameters, AreSound}
use Rattle.ffv1_slice.specs.declared.around.Around.{Around}
use Rattle.ffv1_slice.specs.declared.head.SliceHead.{SliceHead}
use Rattle.ffv1_slice.specs.Below.{IsHalf}
use Rattle.ffv1_slice.specs.Laws.{IsInside}
use Rattle.ffv1_slice.specs.Plane.{around_at, context, prediction, difference, slot_in, sample_choices, joined}
use Rattle.ffv1_slice.specs.Colour.{samples_of}
use Rattle.ffv1_slice.specs.Slice.{number_choices, header_choices, key_choices, front_choices, written_numbers, first_slot, plane_values, line_choices, row_choices, rows_choices, slice_choices, slice_states, slice_decisions}
use Rattle.ffv1_slice.proofs.CodedSlice.{written_tell}
use Rattle.ffv1_slice.proofs.Depths.{depth_half}
use Rattle.ffv1_slice.proofs.Placing.{difference_small}

joined_len : (n most : ℕ) (f : ℕ → List Choice) → ((x : ℕ) → length (f x) ≤ most) → length (joined n f) ≤ n * most
unfolding joined
joined_len zero most f each = omega arith
joined_len (suc n) most f each =
    let front : length (joined n f) ≤ n * most = joined_len n most f each in
    let last : length (f n) ≤ most = each n in
    let both : length (joined n f ++ f n) ≡ length (joined n f) + length (f n) = length-append (joined n f) (f n) in
    omega arith

sample_len : CodeLengths → (half : ℕ) (values : List ℤ) (first : ℕ) (a : Around) (s : ℕ) → IsHalf half → length (sample_choices half values first a s) ≤ 35
sample_len law half values first a s h =
    let m : length (sample_choices half values first a s) ≡ length (symbol_choices (difference half (is_negative (context values a)) (prediction a) s) true) = law.moved (slot_in first (context values a)) (symbol_choices (difference half (is_negative (context values a)) (prediction a) s) true) in
    let d : length (symbol_choices (difference half (is_negative (context values a)) (prediction a) s) true) ≤ 35 = law.difference (difference half (is_negative (context values a)) (prediction a) s) true (difference_small half (is_negative (context values a)) (prediction a) s h) in
    omega arith

header_len : CodeLengths → (ns : List ℕ) → All (λ n. n < 2 ^ 31) ns → length (header_choices ns) ≤ 63 * length ns
unfolding header_choices
header_len law [] all = omega arith
header_len law (n ∷ ns) all =
    let small : n < 2 ^ 31 = All-head (λ n. n < 2 ^ 31) n ns all in
    let here : length (symbol_choices (pos n) false) ≤ 63 = law.number (pos n) false 30 small in
    let moved_len : length (number_choices n) ≡ length (symbol_choices (pos n) false) = law.moved 1 (symbol_choices (pos n) false) in
    let rest : length (header_choices ns) ≤ 63 * length ns = header_len law ns (All-tail (λ n. n < 2 ^ 31) n ns all) in
    let both : length (number_choices n ++ header_choices ns) ≡ length (number_choices n) + length (header_choices ns) = length-append (number_choices n) (header_choices ns) in
    omega arith

key_len : (first : Bool) → length (key_choices first true) ≤ 1
key_len true = omega arith
key_len false = omega arith

-- at most 35 decisions a sample
pub slice_few : CodeLengths → (params : Parameters) (head : SliceHead) (width height : ℕ) (first : Bool) (tile : List ℕ) → AreSound params → IsInside params head → 105 * (width * height) ≤ 16000000 → length (coded (slice_decisions params head width height first tile)) ≤ 16001000
unfolding slice_decisions
slice_few law params head width height first tile sound inside small =
    let h = depth_half params.bits sound.depth in
    let s : ℕ → ℕ → ℕ → ℕ = samples_of params.bits width tile in
    let rows : length (rows_choices params head width (samples_of params.bits width tile) height) ≤ height * (3 * (width * 35)) =
    joined_len height (3 * (width * 35)) (row_choices params head width (samples_of params.bits width tile)) (λ y.
    joined_len 3 (width * 35) (line_choices params head width (samples_of params.bits width tile) y) (λ plane.
    joined_len width 35 (λ x. sample_choices (2 ^ params.bits) (plane_values params head plane) (first_slot params plane) (around_at width (samples_of params.bits width tile plane) y x) (samples_of params.bits width tile plane y x)) (λ x.
    sample_len law (2 ^ params.bits) (plane_values params head plane) (first_slot params plane) (around_at width (samples_of params.bits width tile plane) y x) (samples_of params.bits width tile plane y x) h))) in
    let header : length (header_choices (written_numbers head)) ≤ 63 * 9 = header_len law (written_numbers head) (written_tell params head sound inside).taken.codable in
    let key : length (key_choices first true) ≤ 1 = key_len first in
    let front : length (front_choices first (written_numbers head)) ≡ length (key_choices first true) + length (header_choices (written_numbers head)) = length-append (key_choices first true) (header_choices (written_numbers head)) in
    let whole : length (slice_choices params head width height first tile) ≡ length (front_choices first (written_numbers head)) + length (rows_choices params head width (samples_of params.bits width tile) height) = length-append (front_choices first (written_numbers head)) (rows_choices params head width (samples_of params.bits width tile) height) in
    let decisions : length (decided params.table (slice_states params) (slice_choices params head width height first tile)) ≡ length (slice_choices params head width height first tile) = law.decided params.table (slice_states params) (slice_choices params head width height first tile) in
    let bytes : length (coded (decided params.table (slice_states params) (slice_choices params head width height first tile))) ≤ length (decided params.table (slice_states params) (slice_choices params head width height first tile)) + 2 = law.coded (decided params.table (slice_states params) (slice_choices params head width height first tile)) in
    let products : height * (3 * (width * 35)) ≡ 105 * (width * height) = omega arith in
    omega arith
