-- Lists of decisions, their coded bytes, and how these are read.
use Rattle.std.proofs.Common.{◌≡◌, ◌≢◌, ℕ, zero, suc, ◌+◌, ◌*◌, ◌/◌, ◌^◌, ◌<◌, ◌≤◌, List, [], ◌∷◌, ◌++◌, length, length-append, All, Bool, true, false, slice_index, refl, sym, ◌∙◌, subst, arith}
use Rattle.std.proofs.Math.Nat.{one-le-pow}
use Rattle.std.proofs.Math.ListN.{get_or-append}
use Rattle.std.proofs.lemmas.List.{get_or-append-add}
use Rattle.std.proofs.lemmas.List.Elements.{All-head, All-tail, All-cons, All-nil}
use Rattle.std.proofs.lemmas.Nat.{div_below}
use Rattle.std.specs.Int.{byte_at, bytes_high_first}
use Rattle.cook_bits.specs.Bits.{AreBytes}
use Rattle.range_coder.specs.Interval.{Decision, Interval, whole, narrow, narrowed, first_bytes, Inside, Reads, bytes_in, ending, coded}
use Rattle.range_coder.specs.Table.{IsState}
use Rattle.range_coder.specs.Reading.{Reader, ReadsOn}
use Rattle.range_coder.specs.Laws.{OnStates, ReadsOneMore}
use Rattle.range_coder.proofs.Intervals.{IsWide, whole_wide, narrow_wide, inside_narrow, one_narrow, in_part, power_more}
use Rattle.range_coder.proofs.Numbers.{length-bytes_high_first, are_bytes-bytes_high_first, first_bytes-bytes, first_bytes-past}

-- parts of lists of which each element is so
pub all_left : {X : Type 0} (P : X → Type 0) (xs ys : List X) → All P (xs ++ ys) → All P xs
all_left P xs ys h k d below =
    subst P (get_or-append xs ys d k below) (h k d (let e = length-append xs ys in omega (arith, e)))

pub all_right : {X : Type 0} (P : X → Type 0) (xs ys : List X) → All P (xs ++ ys) → All P ys
all_right P xs ys h k d below =
    subst P (get_or-append-add xs ys k d) (h (length xs + k) d (let e = length-append xs ys in omega (arith, e)))

abbrev pub HasState : Decision → Type 0
HasState d = IsState d.state

pub states_head : (d : Decision) (more : List Decision) → OnStates (d ∷ more) → IsState d.state
states_head d more o = All-head HasState d more o.each

pub states_tail : (d : Decision) (more : List Decision) → OnStates (d ∷ more) → OnStates more
states_tail d more o = record { each = All-tail HasState d more o.each }

pub states_cons : (d : Decision) (more : List Decision) → IsState d.state → OnStates more → OnStates (d ∷ more)
states_cons d more s o = record { each = All-cons HasState d more s o.each }

pub states_nil : OnStates []
states_nil = record { each = All-nil HasState }

-- decisions one after another
pub narrowed-append : (i : Interval) (left right : List Decision) → narrowed i (left ++ right) ≡ narrowed (narrowed i left) right
unfolding narrowed
narrowed-append i [] right = refl
narrowed-append i (d ∷ more) right = narrowed-append (narrow i d.state d.bit) more right

pub narrowed_one : (i : Interval) (state : ℕ) (bit : Bool) → narrowed i (record { state = state; bit = bit } ∷ []) ≡ narrow i state bit
unfolding narrowed
narrowed_one i state bit = refl

pub narrowed_wide : (i : Interval) (decisions : List Decision) → IsWide i → OnStates decisions → IsWide (narrowed i decisions)
unfolding narrowed
narrowed_wide i [] w o = w
narrowed_wide i (d ∷ more) w o =
    narrowed_wide (narrow i d.state d.bit) more (narrow_wide i d.state d.bit w (states_head d more o)) (states_tail d more o)

pub inside_narrowed : (bytes : List ℕ) (i : Interval) (decisions : List Decision) → AreBytes bytes → OnStates decisions → Inside bytes (narrowed i decisions) → Inside bytes i
unfolding narrowed
inside_narrowed bytes i [] are o inside = inside
inside_narrowed bytes i (d ∷ more) are o inside =
    inside_narrow bytes i d.state d.bit are (states_head d more o)
    (inside_narrowed bytes (narrow i d.state d.bit) more are (states_tail d more o) inside)

pub read_on_joined : (before between after : Reader) (left right : List Decision) → ReadsOn before between left → ReadsOn between after right → ReadsOn before after (left ++ right)
read_on_joined before between after left right l r = record {
  reads = λ bytes i h. rw (narrowed-append i left right) (r.reads bytes (narrowed i left) (l.reads bytes i h));
}

-- what is read as a list is read as each front of it
pub front_is_read : (bytes : List ℕ) (front rest : List Decision) → AreBytes bytes → OnStates rest → Reads bytes (front ++ rest) → Reads bytes front
front_is_read bytes front rest are o reads =
    let joined = narrowed-append whole front rest in
    let inside : Inside bytes (narrowed (narrowed whole front) rest) = subst (Inside bytes) joined reads.inside in
    record { inside = inside_narrowed bytes (narrowed whole front) rest are o inside }

-- one more decision
reads_more : (bytes : List ℕ) (decisions : List Decision) (state : ℕ) (bit : Bool) → Inside bytes (narrow (narrowed whole decisions) state bit) → Reads bytes (decisions ++ record { state = state; bit = bit } ∷ [])
reads_more bytes decisions state bit inside =
    let d : Decision = record { state = state; bit = bit } in
    let e : narrowed whole (decisions ++ d ∷ []) ≡ narrow (narrowed whole decisions) state bit = narrowed-append whole decisions (d ∷ []) ∙ narrowed_one (narrowed whole decisions) state bit in
    record { inside = subst (Inside bytes) (sym e) inside }

more_reads : (bytes : List ℕ) (decisions : List Decision) (state : ℕ) (bit : Bool) → Reads bytes (decisions ++ record { state = state; bit = bit } ∷ []) → Inside bytes (narrow (narrowed whole decisions) state bit)
more_reads bytes decisions state bit reads =
    let d : Decision = record { state = state; bit = bit } in
    let e : narrowed whole (decisions ++ d ∷ []) ≡ narrow (narrowed whole decisions) state bit = narrowed-append whole decisions (d ∷ []) ∙ narrowed_one (narrowed whole decisions) state bit in
    subst (Inside bytes) e reads.inside

-- both bits on one state aren't read
pub same_bit : (bytes : List ℕ) (i : Interval) (state : ℕ) (left right : Bool) → AreBytes bytes → Inside bytes (narrow i state left) → Inside bytes (narrow i state right) → left ≡ right
same_bit bytes i state true true are l r = refl
same_bit bytes i state false false are l r = refl
same_bit bytes i state true false are l r = absurd (one_narrow bytes i state are l r)
same_bit bytes i state false true are l r = absurd (one_narrow bytes i state are r l)

pub one_more_is_read : (bytes : List ℕ) (decisions : List Decision) (state : ℕ) → AreBytes bytes → OnStates decisions → IsState state → Reads bytes decisions → ReadsOneMore bytes decisions state
one_more_is_read bytes decisions state are o s reads =
    let i = narrowed whole decisions in
    let p = in_part bytes i state are (narrowed_wide whole decisions whole_wide o) s reads.inside in
    record {
      bit = p.bit;
      reads = reads_more bytes decisions state p.bit p.inside;
      only = λ other r. same_bit bytes i state other p.bit are (more_reads bytes decisions state other r) p.inside;
    }

-- the number in the bytes of a wide interval
pub ends_below : (i : Interval) → IsWide i → (i.low + 255) / 256 < 255 * 256 ^ i.shifts
ends_below i w =
    let least : 256 ≤ i.range = w.least in
    let within : i.low + i.range ≤ 65280 * 256 ^ i.shifts = w.within in
    div_below (i.low + 255) 256 (255 * 256 ^ i.shifts) (omega arith) (omega arith)

bytes_inside : (i : Interval) → IsWide i → Inside (bytes_in i) i
unfolding bytes_in
bytes_inside i w =
    let x : ℕ = (i.low + 255) / 256 in
    let n : ℕ = i.shifts + 1 in
    let least : 256 ≤ i.range = w.least in
    let below : (i.low + 255) / 256 < 255 * 256 ^ i.shifts = ends_below i w in
    let power = power_more i.shifts in
    let fits : (i.low + 255) / 256 < 256 ^ (i.shifts + 1) = omega arith in
    let spelled : first_bytes (i.shifts + 1) (bytes_high_first (i.shifts + 1) ((i.low + 255) / 256)) ≡ (i.low + 255) / 256 = first_bytes-bytes (i.shifts + 1) ((i.low + 255) / 256) fits in
    let past : first_bytes (i.shifts + 1 + 1) (bytes_high_first (i.shifts + 1) ((i.low + 255) / 256)) ≡ first_bytes (i.shifts + 1) (bytes_high_first (i.shifts + 1) ((i.low + 255) / 256)) * 256 = first_bytes-past (i.shifts + 1) (bytes_high_first (i.shifts + 1) ((i.low + 255) / 256)) (length-bytes_high_first (i.shifts + 1) ((i.low + 255) / 256)) in
    let e : i.shifts + 2 ≡ i.shifts + 1 + 1 = omega arith in
    record { above = rw (e, past, spelled) (omega arith); below = rw (e, past, spelled) (omega arith) }

pub sentinel_is_state : IsState 129
sentinel_is_state = record { low = omega arith; high = omega arith }

pub ending_wide : (i : Interval) → IsWide i → IsWide (narrow i 129 false)
ending_wide i w = narrow_wide i 129 false w sentinel_is_state

pub are_bytes-ending : (i : Interval) → AreBytes (ending i)
unfolding ending bytes_in
are_bytes-ending i =
    are_bytes-bytes_high_first ((narrow i 129 false).shifts + 1) (((narrow i 129 false).low + 255) / 256)

pub coded_are_bytes : (decisions : List Decision) → AreBytes (coded decisions)
unfolding coded
coded_are_bytes decisions = are_bytes-ending (narrowed whole decisions)

ending_inside : (i : Interval) → IsWide i → Inside (ending i) i
unfolding ending
ending_inside i w =
    inside_narrow (bytes_in (narrow i 129 false)) i 129 false (are_bytes-ending i) sentinel_is_state (bytes_inside (narrow i 129 false) (ending_wide i w))

pub coded_is_read : (decisions : List Decision) → OnStates decisions → Reads (coded decisions) decisions
unfolding coded
coded_is_read decisions o =
    record { inside = ending_inside (narrowed whole decisions) (narrowed_wide whole decisions whole_wide o) }

-- the first byte
first_byte : (n x : ℕ) → x < 255 * 256 ^ n → byte_at n x < 255
first_byte zero x h = omega arith
first_byte (suc n) x h =
    let high : x / 256 ^ suc n < 255 = div_below x (256 ^ suc n) 255 (let p = one-le-pow (suc n) 256 (omega arith) in omega arith) h in
    omega arith

first_of_bytes : (n x : ℕ) → x < 255 * 256 ^ n → slice_index (bytes_high_first (n + 1) x) 0 < 255
first_of_bytes n x h =
    let e : n + 1 ≡ suc n = omega arith in
    rw e (first_byte n x h)

begins_below : (i : Interval) → IsWide i → slice_index (bytes_in i) 0 < 255
unfolding bytes_in
begins_below i w = first_of_bytes i.shifts ((i.low + 255) / 256) (ends_below i w)

pub length_of_bytes : (i : Interval) → length (bytes_in i) ≡ i.shifts + 1
unfolding bytes_in
length_of_bytes i = length-bytes_high_first (i.shifts + 1) ((i.low + 255) / 256)

pub coded_begins : (decisions : List Decision) → OnStates decisions → (1 ≤ length (coded decisions)) × (slice_index (coded decisions) 0 ≢ 255)
unfolding coded ending
coded_begins decisions o =
    let i = narrow (narrowed whole decisions) 129 false in
    let w = ending_wide (narrowed whole decisions) (narrowed_wide whole decisions whole_wide o) in
    let below : slice_index (bytes_in (narrow (narrowed whole decisions) 129 false)) 0 < 255 = begins_below i w in
    let len : length (bytes_in (narrow (narrowed whole decisions) 129 false)) ≡ (narrow (narrowed whole decisions) 129 false).shifts + 1 = length_of_bytes i in
    (omega arith, λ is. omega arith)
