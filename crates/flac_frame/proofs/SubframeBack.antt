-- A subframe that is written is read.
use Rattle.std.proofs.Common.{◌≡◌, ℕ, zero, suc, ◌-◌, ◌+◌, ◌^◌, ◌≤◌, ◌<◌, Bool, true, false, ◌&&◌, ◌==◌, nat_le, nat_lt, if◌then◌else◌, ℤ, pos, negsuc, ◌*ℤ◌, List, [], ◌∷◌, ◌++◌, length, take, drop, replicate, get_or, Ok, refl, sym, ap, ◌∙◌, append_assoc, arith}
use Rattle.std.proofs.lemmas.Bool.{le-leb, lt-ltb, le-ltb, eqb-true}
use Rattle.std.proofs.lemmas.Int.{ints}
use Rattle.std.proofs.lemmas.List.{length-take-le, length-append, append-nil, drop-replicate}
use Rattle.std.proofs.Math.Seq.{take-append_seam}
use Rattle.std.specs.Prelude.{slice_index_or}
use Rattle.cook_bits.specs.Bits.{low_bits}
use Rattle.cook_bits.specs.Laws.{WrittenFieldIsRead}
use Rattle.flac_predict.specs.declared.choosing.Choice.{Choice}
use Rattle.flac_predict.specs.declared.choosing.Choice.TheVariants.{Constant, Fixed, Linear, Verbatim}
use Rattle.flac_predict.specs.declared.sets.LinearSet.{LinearSet}
use Rattle.flac_predict.specs.Samples.{is_inside, all_inside, IsInside, AreInside}
use Rattle.flac_predict.specs.Rice.{zigzag}
use Rattle.flac_predict.specs.Choice.{is_same, all_are, constant_offer, IsCandidate}
use Rattle.flac_predict.specs.Fixed.{fixed_residuals, fixed_restored}
use Rattle.flac_predict.specs.Linear.{linear_residuals, linear_restored, IsLinearSet}
use Rattle.flac_predict.specs.Bank.{Row, bank_set, set_of, bank_rows, IsOfBank}
use Rattle.flac_predict.specs.Laws.{FixedIsRestored, LinearIsRestored, FixedCounts, LinearCounts, FixedIsSmall, LinearIsSmall, BankIsLinear}
use Rattle.flac_frame.specs.declared.error.FlacWhy.TheVariants.{Subframe}
use Rattle.flac_frame.specs.Reading.{each_at, signed_at}
use Rattle.flac_frame.specs.Subframe.{is_kind, wasted_at, constant_at, fixed_at, set_at, linear_at, content_at, with_wasted, subframe_at}
use Rattle.flac_frame.specs.Spelling.{signed_field, signed_bits, residual_bits_of, set_bits, kind_of, content_bits, subframe_bits}
use Rattle.flac_frame.proofs.InsideLaws.{zero_inside}
use Rattle.flac_frame.proofs.RoundLaws.{field_back, accept_back, expect_back, signed_back, signed_all_back, residual_back, other_number}

-- what is known of the layers below
pub record Known : Type 0 where
  pub field : WrittenFieldIsRead
  pub fixed : FixedIsRestored
  pub linear : LinearIsRestored
  pub fixed_counts : FixedCounts
  pub linear_counts : LinearCounts
  pub fixed_small : FixedIsSmall
  pub linear_small : LinearIsSmall
  pub bank : BankIsLinear

-- samples inside their bits pass the test
test_of : (count : ℕ) (x : ℤ) → IsInside count x → is_inside count x ≡ true
unfolding is_inside
test_of count (pos n) h = let high = h.high in lt-ltb n (2 ^ (count - 1)) (omega (arith, ints))
test_of count (negsuc n) h = let low = h.low in lt-ltb n (2 ^ (count - 1)) (omega (arith, ints))

tests_of : (count : ℕ) (xs : List ℤ) → ((k : ℕ) → k < length xs → IsInside count (get_or xs k (pos 0))) → all_inside count xs ≡ true
unfolding all_inside
tests_of count [] h = refl
tests_of count (x ∷ xs) h =
    let first : is_inside count x ≡ true = test_of count x (h 0 (omega arith)) in
    let others : all_inside count xs ≡ true = tests_of count xs (λ k lt. h (suc k) (omega arith)) in
    rw (first, others) refl

pub all_tests_of : (count : ℕ) (xs : List ℤ) → AreInside count xs → all_inside count xs ≡ true
all_tests_of count xs h = tests_of count xs (λ k lt. h.each k)

-- the first samples are inside their bits
taken_inside : (count n k : ℕ) (xs : List ℤ) → ((j : ℕ) → IsInside count (get_or xs j (pos 0))) → IsInside count (pos 0) → IsInside count (get_or (take n xs) k (pos 0))
taken_inside count zero k xs h none = none
taken_inside count (suc n) k [] h none = h k
taken_inside count (suc n) zero (x ∷ xs) h none = h 0
taken_inside count (suc n) (suc k) (x ∷ xs) h none = taken_inside count n k xs (λ j. h (suc j)) none

pub front_inside : (count n : ℕ) (xs : List ℤ) → AreInside count xs → AreInside count (take n xs)
front_inside count n xs h = record { each = λ k. taken_inside count n k xs h.each (zero_inside count) }

-- residuals of 29 bits can be written
small_zigzag : (x : ℤ) → IsInside 29 x → zigzag x ≤ 2 ^ 32 - 2
small_zigzag (pos n) h = let high = h.high in omega (arith, ints)
small_zigzag (negsuc n) h = let low = h.low in omega (arith, ints)

-- equal samples
same_is : (x y : ℤ) → is_same x y ≡ true → x ≡ y
same_is (pos m) (pos n) t = ap pos (eqb-true m n t)
same_is (pos m) (negsuc n) t = absurd (cc)
same_is (negsuc m) (pos n) t = absurd (cc)
same_is (negsuc m) (negsuc n) t = ap negsuc (eqb-true m n t)

both_parts : (a b : Bool) → (a && b) ≡ true → (a ≡ true) × (b ≡ true)
both_parts true b e = (refl, e)
both_parts false b e = absurd (cc)

all_same : (x : ℤ) (xs : List ℤ) → all_are x xs ≡ true → replicate (length xs) x ≡ xs
unfolding all_are
all_same x [] t = refl
all_same x (y ∷ ys) t =
    let p = both_parts (is_same y x) (all_are x ys) t in
    ap (λ (z : ℤ). z ∷ replicate (length ys) x) (sym (same_is y x p.0)) ∙ ap (λ (zs : List ℤ). y ∷ zs) (all_same x ys p.1)

constant_by : (x : ℤ) (xs : List ℤ) (b : Bool) → all_are x xs ≡ b → (if b then Constant ∷ [] else []) ≡ Constant ∷ [] → all_are x xs ≡ true
constant_by x xs true t e = t
constant_by x xs false t e = absurd (cc)

constant_back : WrittenFieldIsRead → (depth : ℕ) (xs : List ℤ) (rest : List Bool) → 1 ≤ depth → AreInside depth xs → constant_offer xs ≡ Constant ∷ []
    → constant_at depth (length xs) (signed_bits depth (take 1 xs) ++ rest) ≡ Ok (xs, rest)
unfolding constant_at signed_bits constant_offer
constant_back law depth [] rest some inside e = absurd (cc)
constant_back law depth (x ∷ xs) rest some inside e =
    let bits = low_bits depth (signed_field depth x) in
    let one : bits ++ [] ++ rest ≡ bits ++ rest = ap (λ (front : List Bool). front ++ rest) (append-nil bits) in
    let s = signed_back law depth x rest some (inside.each 0) in
    let all : replicate (length xs) x ≡ xs = all_same x xs (constant_by x xs (all_are x xs) refl e) in
    rw (one, s) (ap (λ (ys : List ℤ). Ok (x ∷ ys, rest)) all)

fixed_back : Known → (order parameter depth : ℕ) (xs : List ℤ) (rest : List Bool) → 1 ≤ depth → AreInside depth xs → AreInside 25 xs → order ≤ 4 → order < length xs → parameter ≤ 30
    → fixed_at order depth (length xs) (signed_bits depth (take order xs) ++ residual_bits_of parameter (fixed_residuals order xs) ++ rest) ≡ Ok (xs, rest)
unfolding fixed_at
fixed_back known order parameter depth xs rest some inside wide few enough le =
    let residuals = fixed_residuals order xs in
    let after = residual_bits_of parameter residuals ++ rest in
    let split : signed_bits depth (take order xs) ++ residual_bits_of parameter residuals ++ rest ≡ signed_bits depth (take order xs) ++ after =
    append_assoc (signed_bits depth (take order xs)) (residual_bits_of parameter residuals) rest in
    let n : length (take order xs) ≡ order = length-take-le order xs (omega arith) in
    let w : each_at (signed_at depth) order (signed_bits depth (take order xs) ++ after) ≡ Ok (take order xs, after) =
    ap (λ m. each_at (signed_at depth) m (signed_bits depth (take order xs) ++ after)) (sym n) ∙ signed_all_back known.field depth (take order xs) after some (front_inside depth order xs inside) in
    let count : length residuals ≡ length xs - order = known.fixed_counts order xs in
    let small = known.fixed_small order xs few wide in
    let r = residual_back known.field parameter order (length xs) residuals rest le (omega arith) enough (λ k. small_zigzag (get_or residuals k (pos 0)) (small.each k)) in
    let back : fixed_restored order (take order xs) residuals ≡ xs = known.fixed order xs (omega arith) in
    let t = all_tests_of depth xs inside in
    rw (split, w, r, back, t) refl

-- ---- linear subframes

pub record IsPadded (set : LinearSet) : Type 0 where
  pub enough : set.order ≤ length set.coefficients
  pub is : take set.order set.coefficients ++ drop set.order (replicate 32 (pos 0)) ≡ set.coefficients

set_back : Known → (set : LinearSet) (rest : List Bool) → IsLinearSet set → IsPadded set → set_at set.order (set_bits set ++ rest) ≡ Ok (set, rest)
unfolding set_at set_bits
set_back known set rest h p =
    let front = take set.order set.coefficients in
    let coefficients = signed_bits set.precision front ++ rest in
    let split : low_bits 4 (set.precision - 1) ++ (low_bits 5 set.shift ++ signed_bits set.precision front) ++ rest ≡ low_bits 4 (set.precision - 1) ++ (low_bits 5 set.shift ++ coefficients) =
    append_assoc (low_bits 4 (set.precision - 1)) (low_bits 5 set.shift ++ signed_bits set.precision front) rest
    ∙ ap (λ (bits : List Bool). low_bits 4 (set.precision - 1) ++ bits) (append_assoc (low_bits 5 set.shift) (signed_bits set.precision front) rest) in
    let precise = h.precise in
    let precision = h.precision in
    let shift = h.shift in
    let a = accept_back known.field 4 (set.precision - 1) (λ less. nat_lt less 15) Subframe (low_bits 5 set.shift ++ coefficients) (omega arith) (lt-ltb (set.precision - 1) 15 (omega arith)) in
    let b = accept_back known.field 5 set.shift (λ shift. nat_lt shift 16) Subframe coefficients (omega arith) (lt-ltb set.shift 16 (omega arith)) in
    let e : set.precision - 1 + 1 ≡ set.precision = omega arith in
    let n : length front ≡ set.order = length-take-le set.order set.coefficients p.enough in
    let c : each_at (signed_at set.precision) set.order coefficients ≡ Ok (front, rest) =
    ap (λ m. each_at (signed_at set.precision) m coefficients) (sym n) ∙ signed_all_back known.field set.precision front rest h.precise h.coefficients in
    rw (split, a, b, e, c) (ap (λ (cs : List ℤ). Ok (record set { coefficients = cs }, rest)) p.is)

row_padded : (row : Row) → IsPadded (set_of row)
unfolding set_of
row_padded row =
    let front = row.coefficients in
    let zeros = replicate (32 - length front) (pos 0) in
    record {
      enough = omega (arith, length-append front zeros);
      is = ap (λ (xs : List ℤ). xs ++ drop (length front) (replicate 32 (pos 0))) (take-append_seam front zeros) ∙ ap (λ (xs : List ℤ). front ++ xs) (drop-replicate (length front) 32 (pos 0));
    }

pub bank_padded : (number : ℕ) → IsPadded (bank_set number)
unfolding bank_set
bank_padded number = row_padded (slice_index_or bank_rows (number - 1) (record { shift = 0; coefficients = [] }))

linear_back : Known → (set : LinearSet) (parameter depth : ℕ) (xs : List ℤ) (rest : List Bool) → 1 ≤ depth → AreInside depth xs → AreInside 25 xs → IsOfBank set → IsPadded set
    → set.order < length xs → parameter ≤ 30
    → linear_at set.order depth (length xs) (signed_bits depth (take set.order xs) ++ (set_bits set ++ residual_bits_of parameter (linear_residuals set xs)) ++ rest) ≡ Ok (xs, rest)
unfolding linear_at
linear_back known set parameter depth xs rest some inside wide bank padded enough le =
    let order = set.order in
    let residuals = linear_residuals set xs in
    let last = residual_bits_of parameter residuals ++ rest in
    let after = set_bits set ++ last in
    let split : signed_bits depth (take order xs) ++ (set_bits set ++ residual_bits_of parameter residuals) ++ rest ≡ signed_bits depth (take order xs) ++ after =
    append_assoc (signed_bits depth (take order xs)) (set_bits set ++ residual_bits_of parameter residuals) rest
    ∙ ap (λ (bits : List Bool). signed_bits depth (take order xs) ++ bits) (append_assoc (set_bits set) (residual_bits_of parameter residuals) rest) in
    let n : length (take order xs) ≡ order = length-take-le order xs (omega arith) in
    let w : each_at (signed_at depth) order (signed_bits depth (take order xs) ++ after) ≡ Ok (take order xs, after) =
    ap (λ m. each_at (signed_at depth) m (signed_bits depth (take order xs) ++ after)) (sym n) ∙ signed_all_back known.field depth (take order xs) after some (front_inside depth order xs inside) in
    let s = set_back known set last (known.bank set bank) padded in
    let count : length residuals ≡ length xs - order = known.linear_counts set xs in
    let small = known.linear_small set xs bank wide in
    let r = residual_back known.field parameter order (length xs) residuals rest le (omega arith) enough (λ k. small_zigzag (get_or residuals k (pos 0)) (small.each k)) in
    let back : linear_restored set (take order xs) residuals ≡ xs = known.linear set xs (omega arith) in
    let t = all_tests_of depth xs inside in
    rw (split, w, s, r, back, t) refl

-- ---- by the choice

content_back : Known → (depth : ℕ) (xs : List ℤ) (choice : Choice) (rest : List Bool) → 1 ≤ depth → AreInside depth xs → AreInside 25 xs → IsCandidate xs choice
    → content_at (kind_of choice) depth (length xs) (content_bits depth xs choice ++ rest) ≡ Ok (xs, rest)
unfolding content_at content_bits
content_back known depth xs Constant rest some inside wide c = constant_back known.field depth xs rest some inside c
content_back known depth xs Verbatim rest some inside wide c = signed_all_back known.field depth xs rest some inside
content_back known depth xs (Fixed order parameter) rest some inside wide c =
    let few : order ≤ 4 = c.0 in
    let a : (8 + order == 0) ≡ false = other_number (8 + order) 0 (8 + order == 0) refl (λ e. omega arith) in
    let b : (8 + order == 1) ≡ false = other_number (8 + order) 1 (8 + order == 1) refl (λ e. omega arith) in
    let d : nat_lt (8 + order) 32 ≡ true = lt-ltb (8 + order) 32 (omega arith) in
    let e : 8 + order - 8 ≡ order = omega arith in
    rw (a, b, d, e) (fixed_back known order parameter depth xs rest some inside wide few c.1 c.3)
content_back known depth xs (Linear number parameter) rest some inside wide c =
    let set = bank_set number in
    let of_bank : IsOfBank set = record { number = number; low = c.0; high = c.1; is = refl } in
    let h = known.bank set of_bank in
    let one = h.some in
    let a : (31 + set.order == 0) ≡ false = other_number (31 + set.order) 0 (31 + set.order == 0) refl (λ e. omega arith) in
    let b : (31 + set.order == 1) ≡ false = other_number (31 + set.order) 1 (31 + set.order == 1) refl (λ e. omega arith) in
    let d : nat_lt (31 + set.order) 32 ≡ false = le-ltb (31 + set.order) 32 (omega arith) in
    let e : 31 + set.order - 31 ≡ set.order = omega arith in
    rw (a, b, d, e) (linear_back known set parameter depth xs rest some inside wide of_bank (bank_padded number) c.2 c.4)

kind_accepted : Known → (xs : List ℤ) (choice : Choice) → IsCandidate xs choice → is_kind (length xs) (kind_of choice) ≡ true
kind_accepted known xs Constant c = refl
kind_accepted known xs Verbatim c = refl
kind_accepted known xs (Fixed order parameter) c =
    let few : order ≤ 4 = c.0 in
    let enough : order < length xs = c.1 in
    let a : nat_lt (8 + order) 2 ≡ false = le-ltb (8 + order) 2 (omega arith) in
    let b : nat_lt (8 + order) 32 ≡ true = lt-ltb (8 + order) 32 (omega arith) in
    let d : nat_le 8 (8 + order) ≡ true = le-leb 8 (8 + order) (omega arith) in
    let e : nat_le (8 + order) 12 ≡ true = le-leb (8 + order) 12 (omega arith) in
    let f : nat_lt (8 + order - 8) (length xs) ≡ true = lt-ltb (8 + order - 8) (length xs) (omega arith) in
    rw (a, b, d, e, f) refl
kind_accepted known xs (Linear number parameter) c =
    let set = bank_set number in
    let h = known.bank set (record { number = number; low = c.0; high = c.1; is = refl }) in
    let one = h.some in
    let enough : set.order < length xs = c.2 in
    let a : nat_lt (31 + set.order) 2 ≡ false = le-ltb (31 + set.order) 2 (omega arith) in
    let b : nat_lt (31 + set.order) 32 ≡ false = le-ltb (31 + set.order) 32 (omega arith) in
    let d : nat_lt (31 + set.order - 31) (length xs) ≡ true = lt-ltb (31 + set.order - 31) (length xs) (omega arith) in
    rw (a, b, d) refl

kind_small : Known → (xs : List ℤ) (choice : Choice) → IsCandidate xs choice → kind_of choice < 2 ^ 6
kind_small known xs Constant c = omega arith
kind_small known xs Verbatim c = omega arith
kind_small known xs (Fixed order parameter) c = let few : order ≤ 4 = c.0 in omega arith
kind_small known xs (Linear number parameter) c =
    let h = known.bank (bank_set number) (record { number = number; low = c.0; high = c.1; is = refl }) in
    let most = h.order in
    omega arith

none_wasted : WrittenFieldIsRead → (depth : ℕ) (rest : List Bool) → wasted_at depth (low_bits 1 0 ++ rest) ≡ Ok (0, rest)
unfolding wasted_at
none_wasted law depth rest = let f = field_back law 1 0 rest (omega arith) in rw f refl

times_one : (x : ℤ) → x *ℤ pos 1 ≡ x
times_one x = omega (arith, ints)

no_wasted : (xs : List ℤ) → with_wasted 0 xs ≡ xs
no_wasted [] = refl
no_wasted (x ∷ xs) = ap (λ (y : ℤ). y ∷ with_wasted 0 xs) (times_one x) ∙ ap (λ (ys : List ℤ). x ∷ ys) (no_wasted xs)

pub subframe_back : Known → (depth : ℕ) (xs : List ℤ) (choice : Choice) (rest : List Bool) → 1 ≤ depth → depth ≤ 25 → AreInside depth xs → AreInside 25 xs → IsCandidate xs choice
    → subframe_at depth (length xs) (subframe_bits depth xs choice ++ rest) ≡ Ok (xs, rest)
unfolding subframe_at subframe_bits
subframe_back known depth xs choice rest some few inside wide c =
    let kind = kind_of choice in
    let content = content_bits depth xs choice in
    let last = low_bits 1 0 ++ (content ++ rest) in
    let split : low_bits 1 0 ++ (low_bits 6 kind ++ (low_bits 1 0 ++ content)) ++ rest ≡ low_bits 1 0 ++ (low_bits 6 kind ++ last) =
    append_assoc (low_bits 1 0) (low_bits 6 kind ++ (low_bits 1 0 ++ content)) rest
    ∙ ap (λ (bits : List Bool). low_bits 1 0 ++ bits)
    (append_assoc (low_bits 6 kind) (low_bits 1 0 ++ content) rest ∙ ap (λ (bits : List Bool). low_bits 6 kind ++ bits) (append_assoc (low_bits 1 0) content rest)) in
    let a = expect_back known.field 1 0 Subframe (low_bits 6 kind ++ last) (omega arith) in
    let b = accept_back known.field 6 kind (is_kind (length xs)) Subframe last (kind_small known xs choice c) (kind_accepted known xs choice c) in
    let w = none_wasted known.field depth (content ++ rest) in
    let d = content_back known depth xs choice rest some inside wide c in
    let n = no_wasted xs in
    let less : depth - 0 ≡ depth = omega arith in
    rw (split, a, b, w, less, d, n) refl
