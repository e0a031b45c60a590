-- Heads read one after another.
use Rattle.std.proofs.Common.{◌≡◌, ℕ, ◌+◌, ◌<◌, ◌≤◌, inl, inr, Bool, ◌==◌, List, [], length, map, take, get_or, set, All, refl, sym, ◌∙◌, ap, ap₂, subst, arith, get_or-set_same, get_or-set_other, ◌≢◌}
use Rattle.std.specs.Prelude.{slice_range}
use Rattle.std.proofs.lemmas.Bool.{cases_lt}
use Rattle.std.proofs.lemmas.List.{length-map, map-set, set-get_or, get_or-map, get_or-take, length-take-le, take-map}
use Rattle.std.proofs.lemmas.List.Elements.{All-set, All-get_or, All-from_get_or}
use Rattle.ffv1_params.specs.Parameters.{Parameters}
use Rattle.ffv1_slice.specs.declared.error.SliceWhy.{SliceWhy}
use Rattle.ffv1_slice.specs.declared.head.SliceHead.{SliceHead}
use Rattle.ffv1_slice.specs.Faults.{HeadFault}
use Rattle.ffv1_slice.specs.Slice.{CodesHead, AreCells, TellHead}
use Rattle.ffv1_frame.specs.declared.cells.Grid.{Grid}
use Rattle.ffv1_frame.specs.declared.part.Part.{Part}
use Rattle.ffv1_frame.specs.Grid.{IsGridOf, IsHeadIn}
use Rattle.ffv1_frame.specs.Parts.{coded_in, IsWithin, head_of, no_head, slice_at, AreHeads, HeadIsRefused}
use Rattle.ffv1_frame.specs.Heads.{HeadsRead}

abbrev no_part : Part
no_part = record { at = 0; len = 0; head = no_head }

-- what the code reads past its parts
abbrev pub blank_part : Part
blank_part = record { at = 0; len = 0; head = record { x = 0; y = 0; columns = 0; rows = 0; indices = [] } }

-- the heads of the first parts are read
pub record FirstRead (params : Parameters) (bytes : List ℕ) (old : List Part) (count : ℕ) (now : List Part) : Type 0 where
  pub same : map (coded_in bytes) now ≡ map (coded_in bytes) old
  pub within : All (IsWithin bytes) now
  pub each : (k : ℕ) (d : Part) → k < count → CodesHead params (k == 0) (coded_in bytes (get_or now k d)) (get_or now k d).head

pub first-none : (params : Parameters) (bytes : List ℕ) (parts : List Part) → All (IsWithin bytes) parts → FirstRead params bytes parts 0 parts
first-none params bytes parts within = record { same = refl; within = within; each = λ k d low. absurd (omega arith) }

first-with : (params : Parameters) (bytes : List ℕ) (old now : List Part) (i : ℕ) (d new : Part) → i < length now → new.at ≡ (get_or now i d).at → new.len ≡ (get_or now i d).len
    → FirstRead params bytes old i now → CodesHead params (i == 0) (coded_in bytes (get_or now i d)) new.head → FirstRead params bytes old (i + 1) (set now i new)
first-with params bytes old now i d new listed at len so_far read =
    let coded : coded_in bytes new ≡ coded_in bytes (get_or now i d) = ap₂ (λ (a l : ℕ). slice_range bytes a (a + l)) at len in
    let high : IsWithin bytes (get_or now i d) = All-get_or (IsWithin bytes) now i d listed so_far.within in
    let end : (get_or now i d).at + (get_or now i d).len ≤ length bytes = high.high in
    record {
      same =
          map-set (coded_in bytes) now i new
          ∙ ap (λ (b : List ℕ). set (map (coded_in bytes) now) i b) (coded ∙ sym (get_or-map (coded_in bytes) now i d (coded_in bytes d) listed))
          ∙ set-get_or (map (coded_in bytes) now) i (coded_in bytes d)
          ∙ so_far.same;
      within = All-set (IsWithin bytes) now i new (record { high = omega arith }) so_far.within;
      each = λ k e low.
          elim (cases_lt k i) [
            | inl below ↦
                let ne : k ≢ i = omega arith in
                let P : Part → Type 0 = λ p. CodesHead params (k == 0) (coded_in bytes p) p.head in
                subst P (sym (get_or-set_other now i k new e ne)) (so_far.each k e below)
            | inr past ↦
                let here : i ≡ k = omega arith in
                let Q : ℕ → Type 0 = λ j. CodesHead params (j == 0) (coded_in bytes (get_or (set now i new) j e)) (get_or (set now i new) j e).head in
                let P : Part → Type 0 = λ p. CodesHead params (i == 0) (coded_in bytes p) p.head in
                let R : List ℕ → Type 0 = λ b. CodesHead params (i == 0) b new.head in
                subst Q here (subst P (sym (get_or-set_same now i new e listed)) (subst R (sym coded) read))
          ];
    }

pub first-more : (params : Parameters) (bytes : List ℕ) (old now : List Part) (i : ℕ) (d : Part) (head : SliceHead) → i < length now → FirstRead params bytes old i now
    → CodesHead params (i == 0) (coded_in bytes (get_or now i d)) head
    → FirstRead params bytes old (i + 1) (set now i (record { at = (get_or now i d).at; len = (get_or now i d).len; head = head }))
first-more params bytes old now i d head listed so_far read =
    first-with params bytes old now i d (record { at = (get_or now i d).at; len = (get_or now i d).len; head = head }) listed refl refl so_far read

-- heads of the first parts are heads of the first slices
heads-of : (params : Parameters) (bytes : List ℕ) (old now : List Part) (count : ℕ) → count ≤ length now → FirstRead params bytes old count now
    → AreHeads params (take count (map (coded_in bytes) old)) (map head_of (take count now))
heads-of params bytes old now count few read =
    let size : length (take count now) ≡ count = length-take-le count now few in
    let slices : take count (map (coded_in bytes) old) ≡ map (coded_in bytes) (take count now) =
    ap (λ (ss : List (List ℕ)). take count ss) (sym read.same) ∙ take-map (coded_in bytes) count now in
    let P : List (List ℕ) → Type 0 = λ ss. AreHeads params ss (map head_of (take count now)) in
    subst P (sym slices) (record {
      count = length-map (take count now) head_of ∙ sym (length-map (take count now) (coded_in bytes));
      each = λ k low.
          let below : k < length (take count now) = let e : length (map (coded_in bytes) (take count now)) ≡ length (take count now) = length-map (take count now) (coded_in bytes) in omega arith in
          let coded : get_or (map (coded_in bytes) (take count now)) k [] ≡ coded_in bytes (get_or now k no_part) =
          get_or-map (coded_in bytes) (take count now) k no_part [] below ∙ ap (λ (p : Part). coded_in bytes p) (get_or-take count now k no_part (omega arith)) in
          let head : get_or (map head_of (take count now)) k no_head ≡ (get_or now k no_part).head =
          get_or-map head_of (take count now) k no_part no_head below ∙ ap (λ (p : Part). p.head) (get_or-take count now k no_part (omega arith)) in
          let Q : List ℕ → Type 0 = λ s. CodesHead params (k == 0) s (get_or (map head_of (take count now)) k no_head) in
          let R : SliceHead → Type 0 = λ h. CodesHead params (k == 0) (coded_in bytes (get_or now k no_part)) h in
          subst Q (sym coded) (subst R (sym head) (read.each k no_part (omega arith)));
    })

pub first-all : (params : Parameters) (bytes : List ℕ) (old now : List Part) (count : ℕ) → length now ≤ count → FirstRead params bytes old count now
    → HeadsRead params bytes old now
first-all params bytes old now count all read =
    record {
      same = read.same;
      within = read.within;
      heads = record {
        count = length-map now head_of ∙ sym (length-map now (coded_in bytes));
        each = λ k low.
            let below : k < length now = let e : length (map (coded_in bytes) now) ≡ length now = length-map now (coded_in bytes) in omega arith in
            let Q : List ℕ → Type 0 = λ s. CodesHead params (k == 0) s (get_or (map head_of now) k no_head) in
            let R : SliceHead → Type 0 = λ h. CodesHead params (k == 0) (coded_in bytes (get_or now k no_part)) h in
            subst Q (sym (get_or-map (coded_in bytes) now k no_part [] below)) (subst R (sym (get_or-map head_of now k no_part no_head below)) (read.each k no_part (omega arith)));
      };
    }

pub first-refused : (params : Parameters) (bytes : List ℕ) (old now : List Part) (i : ℕ) (d : Part) (why : SliceWhy) → i < length now → FirstRead params bytes old i now
    → HeadFault params (i == 0) (coded_in bytes (get_or now i d)) why → HeadIsRefused params (map (coded_in bytes) old) why
first-refused params bytes old now i d why listed read fault =
    let size : length (map (coded_in bytes) old) ≡ length now = ap (λ (ss : List (List ℕ)). length ss) (sym read.same) ∙ length-map now (coded_in bytes) in
    let coded : slice_at (map (coded_in bytes) old) i ≡ coded_in bytes (get_or now i d) =
    ap (λ (ss : List (List ℕ)). get_or ss i []) (sym read.same)
    ∙ get_or-map (coded_in bytes) now i d [] listed
    in
    let P : List ℕ → Type 0 = λ s. HeadFault params (i == 0) s why in
    record {
      number = i;
      heads = map head_of (take i now);
      listed = omega arith;
      before = heads-of params bytes old now i (omega arith) read;
      fault = subst P (sym coded) fault;
    }

-- the cells of a head that was read are in the grid
pub head-in : (params : Parameters) (grid : Grid) (first : Bool) (bytes : List ℕ) (head : SliceHead) → IsGridOf params grid → CodesHead params first bytes head → IsHeadIn grid head
head-in params grid first bytes head of codes =
    let tell : TellHead params codes.numbers head = codes.tell in
    let count : length codes.numbers ≡ 9 = tell.count in
    let cells : AreCells params (get_or codes.numbers 0 0) (get_or codes.numbers 1 0) (get_or codes.numbers 2 0) (get_or codes.numbers 3 0) = tell.taken.cells (omega arith) in
    let x : head.x ≡ get_or codes.numbers 0 0 = tell.x in
    let y : head.y ≡ get_or codes.numbers 1 0 = tell.y in
    let columns : head.columns ≡ get_or codes.numbers 2 0 + 1 = tell.columns in
    let rows : head.rows ≡ get_or codes.numbers 3 0 + 1 = tell.rows in
    let across : get_or codes.numbers 0 0 + (get_or codes.numbers 2 0 + 1) ≤ params.columns = cells.across in
    let down : get_or codes.numbers 1 0 + (get_or codes.numbers 3 0 + 1) ≤ params.rows = cells.down in
    let wide : grid.columns ≡ params.columns = of.columns in
    let high : grid.rows ≡ params.rows = of.rows in
    record { columns_some = omega arith; rows_some = omega arith; across = omega arith; down = omega arith }

pub heads-in : (params : Parameters) (grid : Grid) (bytes : List ℕ) (old now : List Part) → IsGridOf params grid → HeadsRead params bytes old now → All (λ (p : Part). IsHeadIn grid p.head) now
heads-in params grid bytes old now of read =
    All-from_get_or (λ (p : Part). IsHeadIn grid p.head) now no_part (λ k low.
    let listed : k < length (map (coded_in bytes) now) = let e : length (map (coded_in bytes) now) ≡ length now = length-map now (coded_in bytes) in omega arith in
    let P : SliceHead → Type 0 = λ h. IsHeadIn grid h in
    subst P (get_or-map head_of now k no_part no_head low) (head-in params grid (k == 0) (slice_at (map (coded_in bytes) now) k) (get_or (map head_of now) k no_head) of (read.heads.each k listed)))

pub ruleset head_laws = (first-none, first-more, first-all, first-refused, heads-in)
