-- The channels of a block as the writer stores them are restored.
use Rattle.std.proofs.Common.{◌≡◌, ℕ, zero, suc, ◌+◌, ◌≤◌, ◌<◌, Bool, true, false, IsTrue, ◌==◌, ◌||◌, nat_lt, if◌then◌else◌, ℤ, pos, List, [], ◌∷◌, length, get_or, refl, sym, ap, arith}
use Rattle.std.proofs.lemmas.Bool.{lt-ltb, eqb-true}
use Rattle.flac_predict.specs.Least.{kept, least_of}
use Rattle.flac_predict.specs.Samples.{AreInside, IsInside}
use Rattle.flac_frame.specs.declared.stream_info.StreamInfo.{StreamInfo}
use Rattle.flac_frame.specs.StreamInfo.{is_depth}
use Rattle.flac_frame.specs.Frame.{depth_of, decorrelated, two_rows}
use Rattle.flac_frame.specs.Writing.{sides, mids, first_by, second_by, pair_bits, best_code, code_of, stored_by, size_of}
use Rattle.flac_frame.proofs.RoundLaws.{other_number}
use Rattle.flac_frame.proofs.SubframeBack.{all_tests_of}
use Rattle.flac_frame.proofs.StereoBack.{left_side, side_right, mid_side, sides_len, mids_len, sides_inside, mids_inside, widened}
use Rattle.flac_frame.proofs.FrameBack.{Fits, Stored}

fit : (depth size : ℕ) (row : List ℤ) → 1 ≤ depth → depth ≤ 25 → length row ≡ size → ((k : ℕ) → IsInside depth (get_or row k (pos 0))) → Fits depth size row
fit depth size row low high count inside =
    record { low = low; high = high; count = count; inside = record { each = inside }; wide = record { each = λ k. widened depth (get_or row k (pos 0)) high (inside k) } }

-- the code of two channels is one of four
kept_by : (P : ℕ → Type 0) (x y : ℕ) (b : Bool) → P x → P y → P (if b then y else x)
kept_by P x y true px py = py
kept_by P x y false px py = px

pub best_code_has : (P : ℕ → Type 0) (depth : ℕ) (left right : List ℤ) → P 1 → P 8 → P 9 → P 10 → P (best_code depth left right)
unfolding best_code least_of kept
best_code_has P depth left right p1 p8 p9 p10 =
    let cost = pair_bits depth left right in
    let q9 = kept_by P 9 10 (nat_lt (cost 10) (cost 9)) p9 p10 in
    let l9 = if nat_lt (cost 10) (cost 9) then 10 else 9 in
    let q8 = kept_by P 8 l9 (nat_lt (cost l9) (cost 8)) p8 q9 in
    let l8 = if nat_lt (cost l9) (cost 8) then l9 else 8 in
    kept_by P 1 l8 (nat_lt (cost l8) (cost 1)) p1 q8

two_fit : (code depth size : ℕ) (x y : List ℤ) → Fits (depth_of code depth 0) size x → Fits (depth_of code depth 1) size y
    → (j : ℕ) → j < 2 → Fits (depth_of code depth (0 + j)) size (get_or (x ∷ y ∷ []) j [])
two_fit code depth size x y a b zero lt = a
two_fit code depth size x y a b (suc zero) lt = b
two_fit code depth size x y a b (suc (suc j)) lt = absurd (omega arith)

two_stored : (info : StreamInfo) (left right : List ℤ) → 2 ≡ info.channels → 8 ≤ info.bits → info.bits ≤ 24 → length right ≡ length left → AreInside info.bits left → AreInside info.bits right
    → let code = best_code info.bits left right in Stored info code (length left) (left ∷ right ∷ []) (first_by code left right ∷ second_by code left right ∷ [])
unfolding decorrelated
two_stored info left right two low high same hl hr =
    let bits = info.bits in
    let tl = all_tests_of bits left hl in
    let tr = all_tests_of bits right hr in
    let l = fit bits (length left) left (omega arith) (omega arith) refl hl.each in
    let r = fit bits (length left) right (omega arith) (omega arith) same hr.each in
    let s = fit (bits + 1) (length left) (sides left right) (omega arith) (omega arith) (sides_len left right (sym same)) (sides_inside bits left right (omega arith) hl.each hr.each) in
    let m = fit bits (length left) (mids left right) (omega arith) (omega arith) (mids_len left right (sym same)) (mids_inside bits left right hl.each hr.each) in
    best_code_has (λ code. Stored info code (length left) (left ∷ right ∷ []) (first_by code left right ∷ second_by code left right ∷ [])) bits left right
    (record { fits = two_fit 1 bits (length left) left right l r; counts = two; back = refl; coded = two; small = omega arith })
    (record { fits = two_fit 8 bits (length left) left (sides left right) l s; counts = two; back = ap two_rows (left_side bits left right (sym same) tl tr); coded = two; small = omega arith })
    (record { fits = two_fit 9 bits (length left) (sides left right) right s r; counts = two; back = ap two_rows (side_right bits left right (sym same) tl tr); coded = two; small = omega arith })
    (record { fits = two_fit 10 bits (length left) (mids left right) (sides left right) m s; counts = two; back = ap two_rows (mid_side bits left right (sym same) tl tr); coded = two; small = omega arith })

pub plain_depth : (code depth k : ℕ) → code < 8 → depth_of code depth k ≡ depth
plain_depth code depth k lt =
    let a : (code == 8) ≡ false = other_number code 8 (code == 8) refl (λ e. omega arith) in
    let b : (code == 9) ≡ false = other_number code 9 (code == 9) refl (λ e. omega arith) in
    let c : (code == 10) ≡ false = other_number code 10 (code == 10) refl (λ e. omega arith) in
    rw (a, b, c) refl

each_stored : (info : StreamInfo) (code size : ℕ) (channels : List (List ℤ)) → code + 1 ≡ info.channels → length channels ≡ info.channels → info.channels ≤ 8 → 8 ≤ info.bits → info.bits ≤ 24
    → ((k : ℕ) → k < length channels → length (get_or channels k []) ≡ size) → ((k : ℕ) → k < length channels → AreInside info.bits (get_or channels k []))
    → Stored info code size channels channels
unfolding decorrelated
each_stored info code size channels is count most low high same inside =
    let t : nat_lt code 8 ≡ true = lt-ltb code 8 (omega arith) in
    record {
      fits = λ j lt. let plain = plain_depth code info.bits (0 + j) (omega arith) in
          rw plain (fit info.bits size (get_or channels j []) (omega arith) (omega arith) (same j lt) ((inside j lt).each));
      counts = count;
      back = rw t refl;
      coded = rw t is;
      small = omega arith;
    }

pub depth_range : (bits : ℕ) (a b : Bool) → (bits == 8) ≡ a → (bits == 16) ≡ b → ((bits == 8) || (bits == 16) || (bits == 24)) ≡ true → (8 ≤ bits) × (bits ≤ 24)
depth_range bits true b ta tb t = let is : bits ≡ 8 = eqb-true bits 8 ta in (omega arith, omega arith)
depth_range bits false true ta tb t = let is : bits ≡ 16 = eqb-true bits 16 tb in (omega arith, omega arith)
depth_range bits false false ta tb t = let is : bits ≡ 24 = eqb-true bits 24 (rw (ta, tb) at t) in (omega arith, omega arith)

pub stored : (info : StreamInfo) (channels : List (List ℤ)) → is_depth info.bits ≡ true → 1 ≤ info.channels → info.channels ≤ 8 → length channels ≡ info.channels
    → ((k : ℕ) → k < length channels → length (get_or channels k []) ≡ size_of channels) → ((k : ℕ) → k < length channels → AreInside info.bits (get_or channels k []))
    → Stored info (code_of info.bits channels) (size_of channels) channels (stored_by (code_of info.bits channels) channels)
stored info [] depth some most count same inside = absurd (omega arith)
stored info (mono ∷ []) depth some most count same inside =
    let d = depth_range info.bits (info.bits == 8) (info.bits == 16) refl refl depth in
    each_stored info 0 (length mono) (mono ∷ []) count count most d.0 d.1 same inside
stored info (left ∷ right ∷ []) depth some most count same inside =
    let d = depth_range info.bits (info.bits == 8) (info.bits == 16) refl refl depth in
    two_stored info left right count d.0 d.1 (same 1 (omega arith)) (inside 0 (omega arith)) (inside 1 (omega arith))
stored info (first ∷ second ∷ third ∷ more) depth some most count same inside =
    let d = depth_range info.bits (info.bits == 8) (info.bits == 16) refl refl depth in
    each_stored info (length more + 2) (length first) (first ∷ second ∷ third ∷ more) (omega arith) count most d.0 d.1 same inside

pub is_true : (b : Bool) → IsTrue b → b ≡ true
is_true true t = refl
is_true false t = absurd (cc)
