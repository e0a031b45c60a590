-- Tables: what is tested for each of the 256 states holds of each.
use Rattle.std.proofs.Common.{◌≡◌, ℕ, zero, suc, ◌-◌, ◌<◌, ◌≤◌, List, Bool, true, false, ◌&&◌, cond, eqb, leb, slice_index, refl, sym, ap, ◌∙◌, subst, arith, inl, inr}
use Rattle.std.proofs.lemmas.Bool.{leb-true, le-leb, eqb-true, and_parts, and_from, cases_eq}
use Rattle.range_coder.specs.Table.{IsState, IsLive, IsClosed, one_state, zero_state, next_state}
use Rattle.range_coder.specs.TableFields.{IsTable}

-- whether the test passes at each number below n
abbrev pub passes_below : (ℕ → Bool) → ℕ → Bool
passes_below test zero = true
passes_below test (suc n) = test n && passes_below test n

pub passes_at : (test : ℕ → Bool) (n k : ℕ) → passes_below test n ≡ true → k < n → test k ≡ true
passes_at test zero k h below = absurd (omega arith)
passes_at test (suc n) k h below =
    let parts = and_parts (test n) (passes_below test n) h in
    elim (cases_eq k n) [
      | inl e ↦ (ap test e) ∙ parts.0
      | inr ne ↦ passes_at test n k parts.1 (omega arith)
    ]

abbrev pub is_state : ℕ → Bool
is_state state = leb 1 state && leb state 255

abbrev pub is_live : List ℕ → ℕ → Bool
is_live table state =
    is_state state && (is_state (one_state table state) && is_state (one_state table (256 - state)))

state_from : (state : ℕ) → is_state state ≡ true → IsState state
state_from state h =
    let parts = and_parts (leb 1 state) (leb state 255) h in
    record { low = leb-true 1 state parts.0; high = leb-true state 255 parts.1 }

state_test : (state : ℕ) → IsState state → is_state state ≡ true
state_test state s = and_from (leb 1 state) (leb state 255) (le-leb 1 state s.low) (le-leb state 255 s.high)

pub live_from : (table : List ℕ) (state : ℕ) → is_live table state ≡ true → IsLive table state
live_from table state h =
    let outer = and_parts (is_state state) (is_state (one_state table state) && is_state (one_state table (256 - state))) h in
    let inner = and_parts (is_state (one_state table state)) (is_state (one_state table (256 - state))) outer.1 in
    record {
      usable = state_from state outer.0;
      after_one = state_from (one_state table state) inner.0;
      mirrored = state_from (one_state table (256 - state)) inner.1;
    }

pub live_test : (table : List ℕ) (state : ℕ) → IsLive table state → is_live table state ≡ true
live_test table state l =
    and_from (is_state state) (is_state (one_state table state) && is_state (one_state table (256 - state)))
    (state_test state l.usable)
    (and_from (is_state (one_state table state)) (is_state (one_state table (256 - state))) (state_test (one_state table state) l.after_one) (state_test (one_state table (256 - state)) l.mirrored))

-- where the state is live
abbrev pub where_live : List ℕ → (ℕ → Bool) → ℕ → Bool
where_live table test state = cond (is_live table state) (test state) true

where_live_at : (table : List ℕ) (test : ℕ → Bool) → passes_below (where_live table test) 256 ≡ true → (state : ℕ) → IsLive table state → test state ≡ true
where_live_at table test h state l =
    let high : state ≤ 255 = l.usable.high in
    let passed = passes_at (where_live table test) 256 state h (omega arith) in
    let is = live_test table state l in
    subst (λ (b : Bool). cond b (test state) true ≡ true) is passed

abbrev pub stays_live : List ℕ → ℕ → Bool
stays_live table state = is_live table (one_state table state) && is_live table (zero_state table state)

next_live : (table : List ℕ) → passes_below (where_live table (stays_live table)) 256 ≡ true → (state : ℕ) (bit : Bool) → IsLive table state → IsLive table (next_state table state bit)
unfolding next_state
next_live table h state true l =
    let parts = and_parts (is_live table (one_state table state)) (is_live table (zero_state table state)) (where_live_at table (stays_live table) h state l) in
    live_from table (one_state table state) parts.0
next_live table h state false l =
    let parts = and_parts (is_live table (one_state table state)) (is_live table (zero_state table state)) (where_live_at table (stays_live table) h state l) in
    live_from table (zero_state table state) parts.1

pub closed_by_test : (table : List ℕ) → passes_below (where_live table (stays_live table)) 256 ≡ true → IsClosed table
closed_by_test table h = record { next = next_live table h }

abbrev pub is_mirrored : List ℕ → List ℕ → ℕ → Bool
is_mirrored ones zeros state = eqb (slice_index zeros state) (zero_state ones state)

pub mirrored_by_test : (ones zeros : List ℕ) → passes_below (where_live ones (is_mirrored ones zeros)) 256 ≡ true → (state : ℕ) → IsLive ones state → slice_index zeros state ≡ zero_state ones state
mirrored_by_test ones zeros h state l =
    eqb-true (slice_index zeros state) (zero_state ones state) (where_live_at ones (is_mirrored ones zeros) h state l)

pub table_by_test : (ones zeros : List ℕ) → passes_below (where_live ones (stays_live ones)) 256 ≡ true → passes_below (where_live ones (is_mirrored ones zeros)) 256 ≡ true → IsTable ones zeros
table_by_test ones zeros closed mirrored =
    record { closed = closed_by_test ones closed; mirrored = mirrored_by_test ones zeros mirrored }

-- from 8 to 248 each state is live
abbrev pub is_live_between : List ℕ → ℕ → Bool
is_live_between table state = cond (leb 8 state && leb state 248) (is_live table state) true

pub live_between : (table : List ℕ) → passes_below (is_live_between table) 256 ≡ true → (state : ℕ) → 8 ≤ state → state ≤ 248 → IsLive table state
live_between table h state low high =
    let passed = passes_at (is_live_between table) 256 state h (omega arith) in
    let within = and_from (leb 8 state) (leb state 248) (le-leb 8 state low) (le-leb state 248 high) in
    live_from table state (subst (λ (b : Bool). cond b (is_live table state) true ≡ true) within passed)

-- what the two tables in the fields tell
pub next_by_ones : (ones table : List ℕ) (slot state : ℕ) (bit : Bool) → ones ≡ table → slot ≡ state → bit ≡ true → slice_index ones slot ≡ next_state table state bit
unfolding next_state
next_by_ones ones table slot state bit same at is = rw (same, at, is) refl

pub next_by_zeros : (ones zeros table : List ℕ) (slot state : ℕ) (bit : Bool) → IsTable ones zeros → ones ≡ table → slot ≡ state → bit ≡ false → IsLive table state → slice_index zeros slot ≡ next_state table state bit
unfolding next_state
next_by_zeros ones zeros table slot state bit t same at is l =
    let there : IsLive ones state = subst (λ (xs : List ℕ). IsLive xs state) (sym same) l in
    let mirrored : slice_index zeros state ≡ zero_state ones state = t.mirrored state there in
    rw (at, is) (mirrored ∙ ap (λ (xs : List ℕ). zero_state xs state) same)

pub next_is_live : (ones zeros table : List ℕ) (state next : ℕ) (bit : Bool) → IsTable ones zeros → ones ≡ table → IsLive table state → next ≡ next_state table state bit → IsLive table next
next_is_live ones zeros table state next bit t same l is =
    let closed : IsClosed table = subst IsClosed same t.closed in
    subst (λ (n : ℕ). IsLive table n) (sym is) (closed.next state bit l)
