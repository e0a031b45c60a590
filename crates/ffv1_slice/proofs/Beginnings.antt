-- What the bytes of a slice begin with, and how many they are.
use Rattle.std.proofs.Common.{◌≡◌, ℕ, ◌+◌, ◌*◌, ◌^◌, ◌<◌, ◌≤◌, List, [], ◌++◌, All, Bool, length, refl, subst, arith, inl, inr}
use Rattle.range_coder.specs.Choices.{Choice, UseSlots}
use Rattle.range_coder.specs.Facts.{SetsOfStates}
use Rattle.range_coder.specs.Laws.{SymbolSlots, SymbolsPart, PartedAreNotBothRead, ChoicesAreOnStates}
use Rattle.range_coder.specs.Table.{IsClosed, AreLive}
use Rattle.ffv1_params.specs.Parameters.{Parameters, AreSound}
use Rattle.ffv1_slice.specs.declared.head.SliceHead.{SliceHead}
use Rattle.ffv1_slice.specs.Colour.{pixel_in, samples_of, from_green}
use Rattle.ffv1_slice.specs.Laws.{IsInside}
use Rattle.ffv1_slice.specs.Plane.{Joins}
use Rattle.ffv1_slice.specs.Slice.{slice_states, slice_choices, slice_decisions, written_numbers, front_choices, rows_choices, IsTile, TellHead, AreRows, Codes}
use Rattle.ffv1_slice.proofs.Depths.{depth_half}
use Rattle.ffv1_slice.proofs.OneTile.{fronts_apart, one_head, slice_slots}
use Rattle.std.proofs.lemmas.List.{append-nil, drop_at}
use Rattle.std.proofs.lemmas.List.Elements.{All-drop}
use Rattle.cook_bits.specs.Bits.{AreBytes}
use Rattle.range_coder.specs.Choices.{decided, states_after}
use Rattle.range_coder.specs.Interval.{Decision, Reads}
use Rattle.range_coder.specs.Laws.{OnStates, FrontIsRead, DecidedIsJoined}
use Rattle.range_coder.specs.Table.{IsState}
use Rattle.ffv1_slice.specs.Slice.{CodesHead, decided_in, front_choices}
use Rattle.ffv1_slice.proofs.CodedSlice.{pixel_within, plane_small, rows_coded, written_tell}

rest_on : (front rest : List Decision) → OnStates (front ++ rest) → OnStates rest
rest_on front rest on =
    let P : List Decision → Type 0 = λ ds. All (λ (d : Decision). IsState d.state) ds in
    record { each = subst P (drop_at front rest (length front) refl) (All-drop (λ (d : Decision). IsState d.state) (length front) (front ++ rest) on.each) }

-- the decisions of a head and a tile are on states
pub decisions_on : SymbolSlots → SetsOfStates → ChoicesAreOnStates → (params : Parameters) (head : SliceHead) (width height : ℕ) (first : Bool) (tile : List ℕ) → IsClosed params.table → AreLive params.table (slice_states params) → AreSound params → IsInside params head → 1 ≤ width → IsTile params.bits width height tile → OnStates (slice_decisions params head width height first tile)
unfolding slice_decisions
decisions_on symbols sets on params head width height first tile closed live sound inside some t =
    let h = depth_half params.bits sound.depth in
    let least : 256 ≤ 2 ^ params.bits = h.least in
    let each : (plane y x : ℕ) → samples_of params.bits width tile plane y x < 2 * 2 ^ params.bits = λ plane y x. plane_small (2 ^ params.bits) (from_green params.bits) (pixel_in tile (y * width + x)) plane (pixel_within params.bits width height tile (y * width + x) (omega arith) t) in
    let tell : TellHead params (written_numbers head) head = written_tell params head sound inside in
    let rows : AreRows params head width (samples_of params.bits width tile) height (rows_choices params head width (samples_of params.bits width tile) height) = rows_coded params head width height (samples_of params.bits width tile) h each in
    on params.table (slice_states params) (slice_choices params head width height first tile) closed live
    (slice_slots symbols sets params head first width height (written_numbers head) (samples_of params.bits width tile) (rows_choices params head width (samples_of params.bits width tile) height) sound tell rows)

-- what codes a head and a tile begins with the head
pub begins_with : FrontIsRead → DecidedIsJoined → SymbolSlots → SetsOfStates → ChoicesAreOnStates → (params : Parameters) (first : Bool) (width height : ℕ) (bytes : List ℕ) (head : SliceHead) (tile : List ℕ) → IsClosed params.table → AreLive params.table (slice_states params) → AreSound params → AreBytes bytes → Codes params first width height bytes head tile → CodesHead params first bytes head
begins_with read joined symbols sets on params first width height bytes head tile closed live sound are codes =
    let uses = slice_slots symbols sets params head first width height codes.numbers (samples_of params.bits width tile) codes.choices sound codes.tell codes.rows in
    let all : OnStates (decided_in params (front_choices first codes.numbers ++ codes.choices)) = on params.table (slice_states params) (front_choices first codes.numbers ++ codes.choices) closed live uses in
    let parts : decided_in params (front_choices first codes.numbers ++ codes.choices)
    ≡ decided_in params (front_choices first codes.numbers) ++ decided params.table (states_after params.table (slice_states params) (front_choices first codes.numbers)) codes.choices =
    joined params.table (slice_states params) (front_choices first codes.numbers) codes.choices in
    let P : List Decision → Type 0 = λ ds. OnStates ds in
    let Q : List Decision → Type 0 = λ ds. Reads bytes ds in
    record {
      numbers = codes.numbers;
      tell = codes.tell;
      reads = read bytes (decided_in params (front_choices first codes.numbers)) (decided params.table (states_after params.table (slice_states params) (front_choices first codes.numbers)) codes.choices) are
          (rest_on (decided_in params (front_choices first codes.numbers)) (decided params.table (states_after params.table (slice_states params) (front_choices first codes.numbers)) codes.choices) (subst P parts all))
          (subst Q parts codes.reads);
    }

-- ---- one head

front_slots : SymbolSlots → SetsOfStates → (params : Parameters) (head : SliceHead) (first : Bool) (numbers : List ℕ) → AreSound params → TellHead params numbers head → UseSlots (length (slice_states params)) (front_choices first numbers)
unfolding Joins
front_slots symbols sets params head first numbers sound tell =
    let P : List Choice → Type 0 = λ cs. UseSlots (length (slice_states params)) cs in
    subst P (append-nil (front_choices first numbers)) (slice_slots symbols sets params head first 1 0 numbers (λ plane y x. 0) [] sound tell refl)

pub one_beginning : SymbolsPart → SymbolSlots → SetsOfStates → PartedAreNotBothRead → (params : Parameters) (first : Bool) (bytes : List ℕ) (head head' : SliceHead) → IsClosed params.table → AreLive params.table (slice_states params) → AreSound params → AreBytes bytes → CodesHead params first bytes head → CodesHead params first bytes head' → head ≡ head'
one_beginning law symbols sets parted params first bytes head head' closed live sound are a b =
    elim (fronts_apart law params first a.numbers b.numbers head head' a.tell b.tell) as (λ _. head ≡ head') [
      | inl same ↦ one_head params a.numbers b.numbers head head' a.tell b.tell same.0
      | inr part ↦
          absurd (parted params.table (slice_states params) bytes (front_choices first a.numbers) (front_choices first b.numbers) closed live
          (front_slots symbols sets params head first a.numbers sound a.tell)
          (front_slots symbols sets params head' first b.numbers sound b.tell)
          are part a.reads b.reads)
    ]
