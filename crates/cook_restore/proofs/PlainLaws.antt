-- Laws of side data whose records are of attached files alone.
use Rattle.std.proofs.Common.{◌≡◌, ◌⊎◌, inl, inr, ℕ, suc, ◌+◌, ◌*◌, ◌^◌, ◌<◌, ◌≤◌, List, [], ◌∷◌, length, get_or, drop, Option, Some, None, Result, Ok, Err, refl, sym, ap, ◌∙◌, arith, add-one, drop-cons}
use Rattle.std.specs.List.{AllByRecursion}
use Rattle.std.proofs.Math.ListN.{drop_of_length-le}
use Rattle.reversal.specs.SideData.{IsOther}
use Rattle.reversal.specs.SideReading.{side_read, FailsSide}
use Rattle.reversal.specs.declared.record.Kind.{Kind}
use Rattle.reversal.specs.declared.record.Kind.TheVariants.{Other, Frame, Wave}
use Rattle.reversal.specs.declared.record.FileRecord.{FileRecord}
use Rattle.reversal.specs.declared.error.SideError.{SideError}
use Rattle.reversal.specs.declared.error.SideError.TheVariants as side
use Rattle.cook_restore.specs.Plain.{film_place, place_or, plain_of, plain_read, without_film}

-- ---- what is given back was read

without : (records items : List FileRecord) (place : Option ℕ) → without_film records place ≡ Ok items → records ≡ items
without records items None e = cc
without records items (Some place) e = absurd (cc)

of_read : (read : Result (List FileRecord) SideError) (items : List FileRecord) → plain_of read ≡ Ok items → read ≡ Ok items
unfolding plain_of
of_read (Ok records) items e = ap (λ (r : List FileRecord). Ok r) (without records items (film_place 12 records) e)
of_read (Err error) items e = absurd (cc)

pub plain-read : (bytes : List ℕ) (records : List FileRecord) → plain_read bytes ≡ Ok records → side_read bytes ≡ Ok records
unfolding plain_read
plain-read bytes records e = of_read (side_read bytes) records e

-- ---- what was read of attached files alone is given back

no-film : (place : ℕ) (records : List FileRecord) → AllByRecursion IsOther records → film_place place records ≡ None
unfolding film_place
no-film place [] others = refl
no-film place (said ∷ records) others =
    ap (λ (kind : Kind). place_or kind place (film_place (place + (27 + length said.name)) records)) others.0 ∙ no-film (place + (27 + length said.name)) records others.1

pub plain-all : (bytes : List ℕ) (records : List FileRecord) → AllByRecursion IsOther records → side_read bytes ≡ Ok records → plain_read bytes ≡ Ok records
unfolding plain_read plain_of
plain-all bytes records others read = rw (read, no-film 12 records others) refl

-- ---- the answers of a reading

pub given : (bytes : List ℕ) (records : List FileRecord) → side_read bytes ≡ Ok records → film_place 12 records ≡ None → plain_read bytes ≡ Ok records
unfolding plain_read plain_of
given bytes records read none = rw (read, none) refl

pub not-given : (bytes : List ℕ) (records : List FileRecord) (place : Option ℕ) → side_read bytes ≡ Ok records → place ≡ film_place 12 records → plain_read bytes ≡ without_film records place
unfolding plain_read plain_of
not-given bytes records place read is = rw (read, is) refl

not-read : (bytes : List ℕ) (error : SideError) → side_read bytes ≡ Err error → plain_read bytes ≡ Err error
unfolding plain_read plain_of
not-read bytes error read = rw read refl

pub not-read-so : (bytes : List ℕ) (error : SideError) → FailsSide error (side_read bytes) → FailsSide error (plain_read bytes)
not-read-so bytes side.NoMemory read = read
not-read-so bytes (side.SideBad place) read = not-read bytes (side.SideBad place) read
not-read-so bytes (side.SideNames name) read = not-read bytes (side.SideNames name) read

-- ---- looked for from the front

-- the records so far are of attached files, and fewer than a number of bytes
pub record SoFar (records : List FileRecord) (at place : ℕ) : Type 0 where
  pub later : film_place place (drop at records) ≡ film_place 12 records
  pub low : place ≤ 12 + 65563 * at

pub none-yet : (records : List FileRecord) → SoFar records 0 12
none-yet records = record { later = refl; low = omega arith }

here : (records : List FileRecord) (at : ℕ) (said : FileRecord) → at < length records → said ≡ get_or records at said → drop at records ≡ said ∷ drop (at + 1) records
here records at said lt is = rw add-one (drop-cons records at said lt ∙ ap (λ (x : FileRecord). x ∷ drop (suc at) records) (sym is))

step : (records : List FileRecord) (at place : ℕ) (said : FileRecord) → at < length records → said ≡ get_or records at said → film_place place (drop at records) ≡ place_or said.kind place (film_place (place + (27 + length said.name)) (drop (at + 1) records))
unfolding film_place
step records at place said lt is = ap (film_place place) (here records at said lt is)

pub one-more : (records : List FileRecord) (at place next : ℕ) (said : FileRecord) → SoFar records at place → at < length records → said ≡ get_or records at said → said.kind ≡ Other → length said.name < 2 ^ 16 → next ≡ place + (27 + length said.name) → SoFar records (at + 1) next
one-more records at place next said so_far lt is other short grown = record {
  later =
      ap (λ (p : ℕ). film_place p (drop (at + 1) records)) grown
      ∙ sym (step records at place said lt is ∙ ap (λ (kind : Kind). place_or kind place (film_place (place + (27 + length said.name)) (drop (at + 1) records))) other)
      ∙ so_far.later;
  low = let low = so_far.low in omega arith;
}

film-at : (kind : Kind) (place : ℕ) (later : Option ℕ) → (kind ≡ Other → ⊥) → place_or kind place later ≡ Some place
film-at Other place later film = absurd (film refl)
film-at (Frame track index) place later film = refl
film-at (Wave track) place later film = refl

is-film : (kind : Kind) → ((x : ℕ) × (y : ℕ) × kind ≡ Frame x y) ⊎ ((x : ℕ) × kind ≡ Wave x) → kind ≡ Other → ⊥
is-film kind (inl (track, index, is)) other = cc
is-film kind (inr (track, is)) other = cc

pub film-here : (records : List FileRecord) (at place : ℕ) (said : FileRecord) → SoFar records at place → at < length records → said ≡ get_or records at said → ((x : ℕ) × (y : ℕ) × said.kind ≡ Frame x y) ⊎ ((x : ℕ) × said.kind ≡ Wave x) → Some place ≡ film_place 12 records
film-here records at place said so_far lt is film =
    sym (sym so_far.later ∙ step records at place said lt is ∙ film-at said.kind place (film_place (place + (27 + length said.name)) (drop (at + 1) records)) (is-film said.kind film))

pub none-at-all : (records : List FileRecord) (at place : ℕ) → SoFar records at place → length records ≤ at → None ≡ film_place 12 records
unfolding film_place
none-at-all records at place so_far past = sym (sym so_far.later ∙ ap (film_place place) (drop_of_length-le records {i = at} past))
