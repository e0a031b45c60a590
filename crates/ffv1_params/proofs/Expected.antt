-- Values that stand in coded bytes are read again.
use Rattle.std.proofs.Common.{◌≡◌, ℕ, zero, suc, ◌+◌, ◌-◌, ◌^◌, ◌<◌, ◌≤◌, Bool, true, false, nat_le, nat_eq, List, [], ◌∷◌, ◌++◌, length, sum, Result, Ok, refl, sym, ap, subst, ◌∙◌, append_assoc, arith, pos}
use Rattle.std.specs.List.{AllByRecursion}
use Rattle.std.proofs.lemmas.Bool.{le-leb, ne_eqb}
use Rattle.std.proofs.lemmas.List.{append-nil}
use Rattle.std.proofs.lemmas.List.Concat.{flat_map-cons}
use Rattle.std.proofs.lemmas.List.Sums.{sum_by-cons}
use Rattle.std.proofs.lemmas.List.Elements.{All-append}
use Rattle.range_coder.specs.Interval.{Decision, Reads, coded}
use Rattle.range_coder.specs.Choices.{Choice, decided, states_after, UseSlots}
use Rattle.range_coder.specs.Symbol.{fresh_states}
use Rattle.range_coder.specs.Table.{IsClosed, AreLive}
use Rattle.range_coder.specs.DefaultTable.{default_one_states}
use Rattle.range_coder.specs.Laws.{OnStates, CodedAreBytes}
use Rattle.ffv1_params.specs.Record.{Field, number, single, table, unsigned_choices, bit_choices, run_choices, field_decisions, states_after_field, fields_decisions}
use Rattle.ffv1_params.specs.Reading as reading
use Rattle.ffv1_params.specs.Reading.{Place, Reading, after, ◌>>=◌, give, handed_on, symbol, bit, runs_of, with_states, start_place}
use Rattle.ffv1_params.proofs.SymbolLaws.{Promises, SymbolPromises, Stands, number_next, bit_next, one_slot, on-append}

-- all that the range coder promises, with what its table and its fresh states are
pub record Given : Type 0 where
  pub promises : Promises
  pub symbols : SymbolPromises
  pub closed : IsClosed default_one_states
  pub fresh : AreLive default_one_states fresh_states
  pub count : length fresh_states ≡ 32

-- ---- slots

slots-append : (left right : List Choice) → UseSlots 32 left → UseSlots 32 right → UseSlots 32 (left ++ right)
slots-append left right l r = record { each = All-append (λ c. c.slot < 32) left right l.each r.each }

run_slots : Given → (runs : List ℕ) → UseSlots 32 (run_choices runs)
unfolding run_choices
run_slots given [] = record { each = λ k d lt. absurd (omega arith) }
run_slots given (run ∷ runs) = subst (UseSlots 32) (sym (flat_map-cons (λ r. unsigned_choices (r - 1)) run runs)) (slots-append (unsigned_choices (run - 1)) (run_choices runs) (given.symbols.slots (pos (run - 1)) false) (run_slots given runs))

abbrev record_place : List Decision → List ℕ → Place
record_place decisions states = record { decisions = decisions; states = states }

-- ---- places

-- the place after a value
place_after : Place → Field → Place
place_after place (number value) = after place (unsigned_choices value)
place_after place (single b) = after place (bit_choices b)
place_after place (table runs) = record { decisions = place.decisions ++ decided default_one_states fresh_states (run_choices runs); states = place.states }

decisions_after : (place : Place) (field : Field) → (place_after place field).decisions ≡ place.decisions ++ field_decisions place.states field
unfolding place_after after field_decisions
decisions_after place (number value) = refl
decisions_after place (single b) = refl
decisions_after place (table runs) = refl

states_after_it : (place : Place) (field : Field) → (place_after place field).states ≡ states_after_field place.states field
unfolding place_after after states_after_field
states_after_it place (number value) = refl
states_after_it place (single b) = refl
states_after_it place (table runs) = refl

stands_after : Given → (bytes : List ℕ) (place : Place) (choices : List Choice) → UseSlots 32 choices → Stands bytes place → Stands bytes (after place choices)
unfolding after
stands_after given bytes place choices slots stands =
    let T = default_one_states in
    let in_slots : UseSlots (length place.states) choices = subst (λ (n : ℕ). UseSlots n choices) (sym stands.count) slots in
    record {
      are_bytes = stands.are_bytes;
      on_states = on-append place.decisions (decided T place.states choices) stands.on_states (given.promises.on_states T place.states choices given.closed stands.live in_slots);
      live = given.promises.live T place.states choices given.closed stands.live in_slots;
      count = given.promises.count T place.states choices ∙ stands.count;
    }

stands_fresh : Given → (bytes : List ℕ) (place : Place) → Stands bytes place → Stands bytes (record_place place.decisions fresh_states)
stands_fresh given bytes place stands = record { are_bytes = stands.are_bytes; on_states = stands.on_states; live = given.fresh; count = given.count }

stands_field : Given → (bytes : List ℕ) (place : Place) (field : Field) → Stands bytes place → Stands bytes (place_after place field)
unfolding place_after after
stands_field given bytes place (number value) stands = stands_after given bytes place (unsigned_choices value) (given.symbols.slots (pos value) false) stands
stands_field given bytes place (single b) stands = stands_after given bytes place (bit_choices b) (one_slot b) stands
stands_field given bytes place (table runs) stands =
    let fresh = stands_after given bytes (record_place place.decisions fresh_states) (run_choices runs) (run_slots given runs) (stands_fresh given bytes place stands) in
    record { are_bytes = stands.are_bytes; on_states = fresh.on_states; live = stands.live; count = stands.count }

on_choices : Given → (states : List ℕ) (choices : List Choice) → UseSlots 32 choices → AreLive default_one_states states → length states ≡ 32 → OnStates (decided default_one_states states choices)
on_choices given states choices slots live count = given.promises.on_states default_one_states states choices given.closed live (subst (λ (n : ℕ). UseSlots n choices) (sym count) slots)

on_field : Given → (states : List ℕ) (field : Field) → AreLive default_one_states states → length states ≡ 32 → OnStates (field_decisions states field)
unfolding field_decisions
on_field given states (number value) live count = on_choices given states (unsigned_choices value) (given.symbols.slots (pos value) false) live count
on_field given states (single b) live count = on_choices given states (bit_choices b) (one_slot b) live count
on_field given states (table runs) live count = on_choices given fresh_states (run_choices runs) (run_slots given runs) given.fresh given.count

-- the decisions of more values are on states
on_fields : Given → (bytes : List ℕ) (place : Place) (fields : List Field) → Stands bytes place → OnStates (fields_decisions place.states fields)
unfolding fields_decisions
on_fields given bytes place [] stands = record { each = λ k d lt. absurd (omega arith) }
on_fields given bytes place (field ∷ more) stands =
    let rest = on_fields given bytes (place_after place field) more (stands_field given bytes place field stands) in
    let on_rest = subst (λ (s : List ℕ). OnStates (fields_decisions s more)) (states_after_it place field) rest in
    on-append (field_decisions place.states field) (fields_decisions (states_after_field place.states field) more) (on_field given place.states field stands.live stands.count) on_rest

-- ---- what is expected next

pub record Expects (bytes : List ℕ) (place : Place) (fields : List Field) : Type 0 where
  pub stands : Stands bytes place
  pub reads : Reads bytes (place.decisions ++ fields_decisions place.states fields)

expected_rest : Given → (bytes : List ℕ) (place : Place) (field : Field) (more : List Field) → Expects bytes place (field ∷ more) → Expects bytes (place_after place field) more
unfolding fields_decisions
expected_rest given bytes place field more expects =
    let next = place_after place field in
    let here = field_decisions place.states field in
    let all : place.decisions ++ (here ++ fields_decisions (states_after_field place.states field) more) ≡ next.decisions ++ fields_decisions next.states more
    = sym (append_assoc place.decisions here (fields_decisions (states_after_field place.states field) more)) ∙ (ap (λ (ds : List Decision). ds ++ fields_decisions (states_after_field place.states field) more) (sym (decisions_after place field)) ∙ ap (λ (s : List ℕ). next.decisions ++ fields_decisions s more) (sym (states_after_it place field))) in
    record { stands = stands_field given bytes place field expects.stands; reads = subst (Reads bytes) all expects.reads }

expected_here : Given → (bytes : List ℕ) (place : Place) (field : Field) (more : List Field) → Expects bytes place (field ∷ more) → Reads bytes (place_after place field).decisions
expected_here given bytes place field more expects =
    let next = place_after place field in
    let rest = expected_rest given bytes place field more expects in
    given.promises.front bytes next.decisions (fields_decisions next.states more) rest.stands.are_bytes (on_fields given bytes next more rest.stands) rest.reads

-- what a reading gives at a place, with the values that are expected behind it
pub record Gives {A : Type 0} (bytes : List ℕ) (place : Place) (reading : Reading A) (value : A) (more : List Field) : Type 0 where
  pub next : Place
  pub is : reading bytes place ≡ Ok (value, next)
  pub expects : Expects bytes next more

pub gives_on : {A B : Type 0} (bytes : List ℕ) (place : Place) (first : Reading A) (value : A) (on_value : A → Reading B) (result : B) (between more : List Field) → Gives bytes place first value between → ((q : Place) → Expects bytes q between → Gives bytes q (on_value value) result more) → Gives bytes place (first >>= on_value) result more
unfolding ◌>>=◌
gives_on {A} {B} bytes place first value on_value result between more here there =
    let on = there here.next here.expects in
    record { next = on.next; is = ap (λ (read : Result (A × Place) _). handed_on on_value bytes read) here.is ∙ on.is; expects = on.expects }

pub gives_it : {A : Type 0} (bytes : List ℕ) (place : Place) (value : A) (more : List Field) → Expects bytes place more → Gives bytes place (give value) value more
unfolding give
gives_it bytes place value more expects = record { next = place; is = refl; expects = expects }

pub gives_number : Given → (bytes : List ℕ) (place : Place) (n : ℕ) (more : List Field) → n < 2 ^ 31 → Expects bytes place (number n ∷ more) → Gives bytes place symbol n more
unfolding place_after
gives_number given bytes place n more lt expects = record {
  next = place_after place (number n);
  is = number_next given.promises given.symbols bytes place n given.closed lt expects.stands (expected_here given bytes place (number n) more expects);
  expects = expected_rest given bytes place (number n) more expects;
}

pub gives_bit : Given → (bytes : List ℕ) (place : Place) (b : Bool) (more : List Field) → Expects bytes place (single b ∷ more) → Gives bytes place bit b more
unfolding place_after bit
gives_bit given bytes place b more expects = record {
  next = place_after place (single b);
  is = ap (λ (x : Bool). Ok (x, after place (bit_choices x))) (bit_next given.promises bytes place b given.closed expects.stands (expected_here given bytes place (single b) more expects));
  expects = expected_rest given bytes place (single b) more expects;
}

-- ---- tables

after_none : (place : Place) → after place [] ≡ place
unfolding after decided states_after
after_none place = λ i. record { decisions = append-nil place.decisions i; states = place.states }

after_joined : Given → (place : Place) (left right : List Choice) → after place (left ++ right) ≡ after (after place left) right
unfolding after
after_joined given place left right =
    let T = default_one_states in
    let ds : place.decisions ++ decided T place.states (left ++ right) ≡ (place.decisions ++ decided T place.states left) ++ decided T (states_after T place.states left) right
    = ap (λ (d : List Decision). place.decisions ++ d) (given.promises.decides T place.states left right) ∙ sym (append_assoc place.decisions (decided T place.states left) (decided T (states_after T place.states left) right)) in
    let ss = given.promises.adapts T place.states left right in
    λ i. record { decisions = ds i; states = ss i }

front_of : Given → (bytes : List ℕ) (q1 : Place) (choices : List Choice) → UseSlots 32 choices → Stands bytes q1 → Reads bytes (after q1 choices).decisions → Reads bytes q1.decisions
unfolding after
front_of given bytes q1 choices slots stands reads = given.promises.front bytes q1.decisions (decided default_one_states q1.states choices) stands.are_bytes (on_choices given q1.states choices slots stands.live stands.count) reads

abbrev pub CanRun : ℕ → Type 0
CanRun run = (1 ≤ run) × (run < 2 ^ 31)

runs_read : Given → (bytes : List ℕ) (fuel : ℕ) (runs : List ℕ) (q : Place) → length runs ≤ fuel → AllByRecursion CanRun runs → Stands bytes q → Reads bytes (after q (run_choices runs)).decisions → runs_of fuel (sum runs) bytes q ≡ Ok (runs, after q (run_choices runs))
unfolding runs_of run_choices give ◌>>=◌
runs_read given bytes zero [] q le are stands reads = ap (λ (p : Place). Ok ([], p)) (sym (after_none q))
runs_read given bytes (suc fuel) [] q le are stands reads = ap (λ (p : Place). Ok ([], p)) (sym (after_none q))
runs_read given bytes zero (run ∷ runs) q le are stands reads = absurd (omega arith)
runs_read given bytes (suc fuel) (run ∷ runs) q le are stands reads =
    let one = unsigned_choices (run - 1) in
    let q1 = after q one in
    let split : run_choices (run ∷ runs) ≡ one ++ run_choices runs = flat_map-cons (λ r. unsigned_choices (r - 1)) run runs in
    let joined : after q (run_choices (run ∷ runs)) ≡ after q1 (run_choices runs) = ap (after q) split ∙ after_joined given q one (run_choices runs) in
    let all : Reads bytes (after q1 (run_choices runs)).decisions = subst (λ (p : Place). Reads bytes p.decisions) joined reads in
    let stands1 = stands_after given bytes q one (given.symbols.slots (pos (run - 1)) false) stands in
    let here = front_of given bytes q1 (run_choices runs) (run_slots given runs) stands1 all in
    let first = number_next given.promises given.symbols bytes q (run - 1) given.closed (omega (arith, are.0.1)) stands here in
    let rest = runs_read given bytes fuel runs q1 (omega arith) are.1 stands1 all in
    let total : sum (run ∷ runs) ≡ run + sum runs = sum_by-cons (λ x. x) run runs in
    let back : run - 1 + 1 ≡ run = omega (arith, are.0.0) in
    let left : run + sum runs - run ≡ sum runs = omega arith in
    let some : nat_eq (run + sum runs) 0 ≡ false = ne_eqb (run + sum runs) 0 (λ e. absurd (omega (arith, are.0.0))) in
    let within : nat_le run (run + sum runs) ≡ true = le-leb run (run + sum runs) (omega arith) in
    rw (total, some, first, back, within, left, rest) (ap (λ (p : Place). Ok (run ∷ runs, p)) (sym joined))

pub gives_table : Given → (bytes : List ℕ) (place : Place) (runs : List ℕ) (more : List Field) → length runs ≤ 128 → sum runs ≡ 128 → AllByRecursion CanRun runs → Expects bytes place (table runs ∷ more) → Gives bytes place reading.table runs more
unfolding place_after reading.table after
gives_table given bytes place runs more le total are expects =
    let q = record_place place.decisions fresh_states in
    let here = expected_here given bytes place (table runs) more expects in
    let read = runs_read given bytes 128 runs q le are (stands_fresh given bytes place expects.stands) here in
    record {
      next = place_after place (table runs);
      is = ap (with_states place.states) (subst (λ (n : ℕ). runs_of 128 n bytes q ≡ Ok (runs, after q (run_choices runs))) total read);
      expects = expected_rest given bytes place (table runs) more expects;
    }

-- ---- the start

pub start_stands : Given → CodedAreBytes → (decisions : List Decision) → Stands (coded decisions) start_place
start_stands given coded_bytes decisions = record { are_bytes = coded_bytes decisions; on_states = record { each = λ k d lt. absurd (omega arith) }; live = given.fresh; count = given.count }

-- all decisions of a record are on states
pub on_start : Given → CodedAreBytes → (fields : List Field) → OnStates (fields_decisions fresh_states fields)
on_start given coded_bytes fields = on_fields given (coded []) start_place fields (start_stands given coded_bytes [])
