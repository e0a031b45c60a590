-- A whole record as it is read.
use Rattle.std.proofs.Common.{◌≡◌, ℕ, ◌<◌, ◌≤◌, Bool, true, false, ◌||◌, not, cond, nat_lt, nat_eq, List, length, slice_index, Result, Ok, Err, refl, sym, ap, subst, ◌∙◌, arith}
use Rattle.std.proofs.lemmas.Bool.{lt-ltb, le-ltb, eq-eqb, ne_eqb}
use Rattle.cook_bits.specs.Crc.{crc32_high_of}
use Rattle.range_coder.specs.Interval.{narrowed}
use Rattle.range_coder.specs.Reading.{Reader, Begins}
use Rattle.range_coder.specs.Symbol.{fresh_states}
use Rattle.range_coder.specs.Table.{AreLive}
use Rattle.range_coder.specs.DefaultTable.{default_one_states}
use Rattle.ffv1_params.specs.declared.error.ParamsWhy.{ParamsWhy}
use Rattle.ffv1_params.specs.declared.error.ParamsWhy.TheVariants.{RecordCrc, Start}
use Rattle.ffv1_params.specs.declared.error.ParamsWhy.TheVariants as why
use Rattle.ffv1_params.specs.Parameters.{Parameters}
use Rattle.ffv1_params.specs.Reading.{give, parameters, start_place, value_of, before_parity, record_read}
use Rattle.ffv1_params.specs.Walk.{ReaderAt, reader_at, IsAt, Fails, Answers, FailsRead, Gives}

pub too_short : (bytes : List ℕ) → length bytes < 4 → record_read bytes ≡ Err RecordCrc
unfolding record_read
too_short bytes lt = rw (lt-ltb (length bytes) 4 lt) refl

pub bad_parity : (bytes : List ℕ) → (crc32_high_of bytes ≡ 0 → ⊥) → record_read bytes ≡ Err RecordCrc
unfolding record_read
bad_parity bytes other = by (nat_lt (length bytes) 4)
  where
    by : (b : Bool) → cond (b || not (nat_eq (crc32_high_of bytes) 0)) (Err RecordCrc) (cond (nat_eq (slice_index (before_parity bytes) 0) 255) (Err Start) (value_of (parameters (before_parity bytes) start_place))) ≡ Err RecordCrc
    by true = refl
    by false = rw (ne_eqb (crc32_high_of bytes) 0 other) refl

pub bad_start : (bytes : List ℕ) → 4 ≤ length bytes → crc32_high_of bytes ≡ 0 → slice_index (before_parity bytes) 0 ≡ 255 → record_read bytes ≡ Err Start
unfolding record_read
bad_start bytes long none is = rw (le-ltb (length bytes) 4 long, eq-eqb (crc32_high_of bytes) 0 none, eq-eqb (slice_index (before_parity bytes) 0) 255 is) refl

pub read_on : (bytes : List ℕ) → 4 ≤ length bytes → crc32_high_of bytes ≡ 0 → (slice_index (before_parity bytes) 0 ≡ 255 → ⊥) → record_read bytes ≡ value_of (parameters (before_parity bytes) start_place)
unfolding record_read
read_on bytes long none other = rw (le-ltb (length bytes) 4 long, eq-eqb (crc32_high_of bytes) 0 none, ne_eqb (slice_index (before_parity bytes) 0) 255 other) refl

pub begins_at : (reader : Reader) (fresh : List ℕ) (bytes : List ℕ) → fresh ≡ fresh_states → AreLive default_one_states fresh → length fresh ≡ 32 → Begins reader bytes → IsAt (reader_at reader fresh_states) bytes start_place
unfolding narrowed
begins_at reader fresh bytes is live count begins = record {
  has_read = begins.has_read;
  states = refl;
  are_bytes = begins.are_bytes;
  on_states = record { each = λ k d lt. absurd (omega arith) };
  live = subst (AreLive default_one_states) is live;
  count = ap length (sym is) ∙ count;
}

fails_gives : (walk : ReaderAt) (bytes : List ℕ) (w : ParamsWhy) (total : Result Parameters ParamsWhy) → IsAt walk bytes start_place → total ≡ value_of (parameters bytes start_place) → Fails walk parameters w → FailsRead w total
unfolding Fails
fails_gives walk bytes why.RecordCrc total is_at is here = is ∙ ap value_of (here.refuses bytes start_place is_at)
fails_gives walk bytes why.Start total is_at is here = is ∙ ap value_of (here.refuses bytes start_place is_at)
fails_gives walk bytes why.Symbol total is_at is here = is ∙ ap value_of (here.refuses bytes start_place is_at)
fails_gives walk bytes why.Version total is_at is here = is ∙ ap value_of (here.refuses bytes start_place is_at)
fails_gives walk bytes why.Coder total is_at is here = is ∙ ap value_of (here.refuses bytes start_place is_at)
fails_gives walk bytes why.Colour total is_at is here = is ∙ ap value_of (here.refuses bytes start_place is_at)
fails_gives walk bytes why.Grid total is_at is here = is ∙ ap value_of (here.refuses bytes start_place is_at)
fails_gives walk bytes why.Tables total is_at is here = is ∙ ap value_of (here.refuses bytes start_place is_at)
fails_gives walk bytes why.Contexts total is_at is here = is ∙ ap value_of (here.refuses bytes start_place is_at)
fails_gives walk bytes why.States total is_at is here = is ∙ ap value_of (here.refuses bytes start_place is_at)
fails_gives walk bytes why.Ec total is_at is here = is ∙ ap value_of (here.refuses bytes start_place is_at)
fails_gives walk bytes why.NoMemory total is_at is here = tt

pub gives : (before after : ReaderAt) (bytes : List ℕ) (result : Result Parameters ParamsWhy) (total : Result Parameters ParamsWhy) → IsAt before bytes start_place → total ≡ value_of (parameters bytes start_place) → Answers before after result parameters → Gives result total
unfolding give
gives before after bytes (Ok params) total is_at is here = is ∙ ap value_of (here.leads bytes start_place is_at).same
gives before after bytes (Err w) total is_at is here = fails_gives before bytes w total is_at is here
