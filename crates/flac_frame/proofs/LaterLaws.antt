-- The later bytes of a coded number, as a loop reads them.
use Rattle.std.proofs.Common.{◌≡◌, ℕ, suc, ◌-◌, ◌+◌, ◌≤◌, ◌<◌, Bool, List, Result, Ok, Err, refl, sym, ◌∙◌, arith}
use Rattle.flac_frame.specs.declared.error.FlacWhy.{FlacWhy}
use Rattle.flac_frame.specs.declared.error.FlacWhy.TheVariants.{Header as Refused}
use Rattle.flac_frame.specs.Reading.{accepted_at}
use Rattle.flac_frame.specs.Header.{is_later, later_at}

pub goes_on : (count i byte : ℕ) (bits after : List Bool) (total : Result (List Bool) FlacWhy) → i < count → accepted_at 8 is_later Refused bits ≡ Ok (byte, after)
    → later_at (count - i) bits ≡ total → later_at (count - (i + 1)) after ≡ total
unfolding later_at
goes_on count i byte bits after total lt h so_far =
    let k : count - i ≡ suc (count - (i + 1)) = omega arith in
    let one : later_at (count - i) bits ≡ later_at (count - (i + 1)) after = rw (k, h) refl in
    sym one ∙ so_far

pub ends : (count i : ℕ) (bits : List Bool) (why : FlacWhy) (total : Result (List Bool) FlacWhy) → i < count → accepted_at 8 is_later Refused bits ≡ Err why
    → later_at (count - i) bits ≡ total → total ≡ Err why
unfolding later_at
ends count i bits why total lt h so_far =
    let k : count - i ≡ suc (count - (i + 1)) = omega arith in
    let one : later_at (count - i) bits ≡ Err why = rw (k, h) refl in
    sym so_far ∙ one

pub is_done : (count i : ℕ) (bits : List Bool) (total : Result (List Bool) FlacWhy) → count ≤ i → later_at (count - i) bits ≡ total → total ≡ Ok bits
unfolding later_at
is_done count i bits total le so_far =
    let k : count - i ≡ 0 = omega arith in
    let one : later_at (count - i) bits ≡ Ok bits = rw k refl in
    sym so_far ∙ one
