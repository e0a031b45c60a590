-- The runs of a table as they are read.
use Rattle.std.proofs.Common.{◌≡◌, ℕ, zero, suc, ◌+◌, ◌-◌, ◌<◌, ◌≤◌, true, false, nat_le, nat_eq, List, [], ◌∷◌, ◌++◌, length, sum, Result, Ok, refl, sym, ap, subst, ◌∙◌, length-append, arith}
use Rattle.std.proofs.lemmas.Bool.{le-leb, lt-leb, ne_eqb}
use Rattle.std.proofs.lemmas.List.{append-nil}
use Rattle.std.proofs.lemmas.List.Sums.{sum_by_push}
use Rattle.range_coder.specs.Symbol.{fresh_states}
use Rattle.range_coder.specs.Table.{AreLive}
use Rattle.range_coder.specs.Reading.{Reader}
use Rattle.range_coder.specs.DefaultTable.{default_one_states}
use Rattle.ffv1_params.specs.declared.error.ParamsWhy.{ParamsWhy}
use Rattle.ffv1_params.specs.declared.error.ParamsWhy.TheVariants.{Tables}
use Rattle.ffv1_params.specs.Reading.{Place, ◌>>=◌, give, refuse, handed_on, symbol, runs_of, table, with_states}
use Rattle.ffv1_params.specs.QuantTables.{IsTable}
use Rattle.ffv1_params.specs.Walk.{ReaderAt, reader_at, IsAt, Leads, Refuses, Fails}
use Rattle.ffv1_params.proofs.WalkLaws.{leads_rest, fails_rest, fails_as, fails}
use Rattle.ffv1_params.proofs.RepeatLaws.{front_then, front_none, front_fails, read_front}

not_zero : (left : ℕ) → 1 ≤ left → nat_eq left 0 ≡ false
not_zero left some = ne_eqb left 0 (λ e. absurd (omega arith))

-- what a symbol behind the runs so far leads to
pub run_step : (a b : ReaderAt) (less more left : ℕ) (front : List ℕ) → less + 1 ≤ left → Leads a b symbol (give less) → Leads a b (front_then front (runs_of (suc more) left)) (front_then (front ++ (less + 1) ∷ []) (runs_of more (left - (less + 1))))
unfolding front_then runs_of ◌>>=◌ give
run_step a b less more left front le here = record {
  leads = λ bytes place is_at.
      let came = here.leads bytes place is_at in
      let some : nat_eq left 0 ≡ false = not_zero left (omega arith) in
      let within : nat_le (less + 1) left ≡ true = le-leb (less + 1) left le in
      let one : runs_of (suc more) left bytes place ≡ handed_on (λ rest. give ((less + 1) ∷ rest)) bytes (runs_of more (left - (less + 1)) bytes came.place) = rw (some, came.same, within) refl in
      record { place = came.place; is_at = came.is_at; same = ap (λ (read : Result (List ℕ × Place) ParamsWhy). handed_on (λ rest. give (front ++ rest)) bytes read) one ∙ read_front front (less + 1) bytes (runs_of more (left - (less + 1)) bytes came.place) };
}

pub run_too_long : (a b : ReaderAt) (less more left : ℕ) → 1 ≤ left → left < less + 1 → Leads a b symbol (give less) → Refuses a (runs_of (suc more) left) Tables
unfolding runs_of ◌>>=◌ give refuse
run_too_long a b less more left some lt here = record {
  refuses = λ bytes place is_at.
      let came = here.leads bytes place is_at in
      let is_some : nat_eq left 0 ≡ false = not_zero left some in
      let past : nat_le (less + 1) left ≡ false = lt-leb (less + 1) left lt in
      rw (is_some, came.same, past) refl;
}

run_fails : (a : ReaderAt) (more left : ℕ) (w : ParamsWhy) → 1 ≤ left → Fails a symbol w → Fails a (runs_of (suc more) left) w
unfolding runs_of ◌>>=◌
run_fails a more left w some = fails_as a a symbol (runs_of (suc more) left) w (λ v here. record {
  refuses = λ bytes place is_at.
      let is_some : nat_eq left 0 ≡ false = not_zero left some in
      rw (is_some, here.refuses bytes place is_at) refl;
})

runs_done : (a : ReaderAt) (more : ℕ) (front : List ℕ) → Leads a a (front_then front (runs_of more 0)) (give front)
unfolding front_then runs_of give
runs_done a zero front = record { leads = λ bytes place is_at. record { place = place; is_at = is_at; same = ap (λ (all : List ℕ). Ok (all, place)) (append-nil front) } }
runs_done a (suc more) front = record { leads = λ bytes place is_at. record { place = place; is_at = is_at; same = ap (λ (all : List ℕ). Ok (all, place)) (append-nil front) } }

-- ---- for the loop over the runs

-- the runs so far, and the places that are left
pub record RunsRead (a b : ReaderAt) (runs : List ℕ) (left : ℕ) : Type 0 where
  pub leads : Leads a b (runs_of 128 128) (front_then runs (runs_of (128 - length runs) left))
  pub room : length runs + left ≤ 128
  pub covered : sum runs + left ≡ 128

pub runs_none : (a : ReaderAt) → RunsRead a a [] 128
runs_none a = record { leads = front_none a (runs_of 128 128); room = omega arith; covered = refl }

pub runs_more : (a b c : ReaderAt) (runs : List ℕ) (left less : ℕ) → RunsRead a b runs left → less + 1 ≤ left → Leads b c symbol (give less) → RunsRead a c (runs ++ (less + 1) ∷ []) (left - (less + 1))
runs_more a b c runs left less so_far le here =
    let room = so_far.room in
    let covered = so_far.covered in
    let k : 128 - length runs ≡ suc (128 - (length runs + 1)) = omega arith in
    let long : length (runs ++ (less + 1) ∷ []) ≡ length runs + 1 = omega (arith, length-append runs ((less + 1) ∷ [])) in
    let P : ℕ → Type 0 = λ n. Leads a b (runs_of 128 128) (front_then runs (runs_of n left)) in
    let Q : ℕ → Type 0 = λ n. Leads a c (runs_of 128 128) (front_then (runs ++ (less + 1) ∷ []) (runs_of (128 - n) (left - (less + 1)))) in
    record {
      leads = subst Q (sym long) (leads_rest a b c (runs_of 128 128) (front_then runs (runs_of (suc (128 - (length runs + 1))) left)) (front_then (runs ++ (less + 1) ∷ []) (runs_of (128 - (length runs + 1)) (left - (less + 1)))) (subst P k so_far.leads) (run_step b c less (128 - (length runs + 1)) left runs le here));
      room = omega (arith, long);
      covered = omega (arith, sum_by_push (λ x. x) runs (less + 1));
    }

pub runs_fail : (a b : ReaderAt) (runs : List ℕ) (left : ℕ) (w : ParamsWhy) → RunsRead a b runs left → 1 ≤ left → Fails b symbol w → Fails a (runs_of 128 128) w
runs_fail a b runs left w so_far some here =
    let room = so_far.room in
    let k : 128 - length runs ≡ suc (128 - (length runs + 1)) = omega arith in
    let P : ℕ → Type 0 = λ n. Leads a b (runs_of 128 128) (front_then runs (runs_of n left)) in
    let more = 128 - (length runs + 1) in
    fails_rest a b (runs_of 128 128) (front_then runs (runs_of (suc more) left)) w (subst P k so_far.leads) (front_fails b runs (runs_of (suc more) left) w (run_fails b more left w some here))

pub runs_too_long : (a b c : ReaderAt) (runs : List ℕ) (left less : ℕ) → RunsRead a b runs left → 1 ≤ left → left < less + 1 → Leads b c symbol (give less) → Fails a (runs_of 128 128) Tables
runs_too_long a b c runs left less so_far some lt here =
    let room = so_far.room in
    let k : 128 - length runs ≡ suc (128 - (length runs + 1)) = omega arith in
    let P : ℕ → Type 0 = λ n. Leads a b (runs_of 128 128) (front_then runs (runs_of n left)) in
    let more = 128 - (length runs + 1) in
    fails_rest a b (runs_of 128 128) (front_then runs (runs_of (suc more) left)) Tables (subst P k so_far.leads) (front_fails b runs (runs_of (suc more) left) Tables (fails b (runs_of (suc more) left) Tables (run_too_long b c less more left some lt here)))

pub runs_end : (a b : ReaderAt) (runs : List ℕ) (left : ℕ) → RunsRead a b runs left → left ≤ 0 → Leads a b (runs_of 128 128) (give runs)
runs_end a b runs left so_far le =
    let none : left ≡ 0 = omega arith in
    let P : ℕ → Type 0 = λ n. Leads a b (runs_of 128 128) (front_then runs (runs_of (128 - length runs) n)) in
    leads_rest a b b (runs_of 128 128) (front_then runs (runs_of (128 - length runs) 0)) (give runs) (subst P none so_far.leads) (runs_done b (128 - length runs) runs)

-- ---- a table among values with other states

fresh_place : (reader : Reader) (shared : List ℕ) (bytes : List ℕ) (place : Place) → AreLive default_one_states fresh_states → length fresh_states ≡ 32 → IsAt (reader_at reader shared) bytes place → IsAt (reader_at reader fresh_states) bytes (record { decisions = place.decisions; states = fresh_states })
fresh_place reader shared bytes place live count is_at = record { has_read = is_at.has_read; states = refl; are_bytes = is_at.are_bytes; on_states = is_at.on_states; live = live; count = count }

pub table_leads : (before after : Reader) (fresh left : List ℕ) (runs : List ℕ) → fresh ≡ fresh_states → AreLive default_one_states fresh → length fresh ≡ 32 → Leads (reader_at before fresh) (reader_at after left) (runs_of 128 128) (give runs) → (shared : List ℕ) → Leads (reader_at before shared) (reader_at after shared) table (give runs)
unfolding table give
table_leads before after fresh left runs is live count here shared = record {
  leads = λ bytes place is_at.
      let at_fresh = fresh_place before shared bytes place (subst (AreLive default_one_states) is live) (ap length (sym is) ∙ count) is_at in
      let came = (subst (λ (s : List ℕ). Leads (reader_at before s) (reader_at after left) (runs_of 128 128) (give runs)) is here).leads bytes (record { decisions = place.decisions; states = fresh_states }) at_fresh in
      record {
        place = record { decisions = came.place.decisions; states = place.states };
        is_at = record { has_read = came.is_at.has_read; states = is_at.states; are_bytes = is_at.are_bytes; on_states = came.is_at.on_states; live = is_at.live; count = is_at.count };
        same = ap (with_states place.states) came.same;
      };
}

pub table_fails : (before : Reader) (fresh : List ℕ) (w : ParamsWhy) → fresh ≡ fresh_states → AreLive default_one_states fresh → length fresh ≡ 32 → Fails (reader_at before fresh) (runs_of 128 128) w → (shared : List ℕ) → Fails (reader_at before shared) table w
unfolding table
table_fails before fresh w is live count here shared = fails_as (reader_at before fresh) (reader_at before shared) (runs_of 128 128) table w (λ v there. record {
  refuses = λ bytes place is_at.
      let at_fresh = fresh_place before shared bytes place (subst (AreLive default_one_states) is live) (ap length (sym is) ∙ count) is_at in
      ap (with_states place.states) ((subst (λ (s : List ℕ). Refuses (reader_at before s) (runs_of 128 128) v) is there).refuses bytes (record { decisions = place.decisions; states = fresh_states }) at_fresh);
}) here

pub table_of_runs : (a b : ReaderAt) (runs : List ℕ) (left : ℕ) → RunsRead a b runs left → left ≤ 0 → IsTable runs
table_of_runs a b [] left so_far le = absurd (omega (arith, so_far.covered))
table_of_runs a b (run ∷ runs) left so_far le = record { some = omega arith; most = omega (arith, so_far.room); whole = omega (arith, so_far.covered) }

pub ruleset run_read_laws = (table_leads, table_fails, runs_none, runs_more, runs_fail, runs_too_long, runs_end, table_of_runs)
