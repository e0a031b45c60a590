-- Lines joined one after the other, and a part of a list that is written over.
use Rattle.std.proofs.Common.{◌≡◌, ℕ, zero, suc, ◌+◌, ◌-◌, ◌*◌, ◌<◌, ◌≤◌, ◌⊎◌, inl, inr, List, [], ◌++◌, length, take, drop, get_or, refl, sym, ◌∙◌, ap, ap₂, arith, add-one, length-append, length-drop}
use Rattle.std.proofs.lemmas.List.{take-append-drop, take-take, drop-take, take_all, length-take-le, get_or-take, get_or-drop, get_or_append_left, get_or-append-add}
use Rattle.std.proofs.lemmas.Slice.{take-put_mid_below, drop-put_mid, between-put_mid, take-put_mid}
use Rattle.std.proofs.lemmas.Bool.{cases_lt}
use Rattle.std.proofs.Math.Nat.{mul-le-mul_right}
use Rattle.std.specs.List.{between}
use borrow.Rule.Slice.PartMut.{put_mid}
use Rattle.dpx_packing.specs.Tiles.{lines_joined}

pub take-plus : (n m : ℕ) (xs : List ℕ) → take (n + m) xs ≡ take n xs ++ take m (drop n xs)
take-plus n m xs =
    sym (take-append-drop n (take (n + m) xs))
    ∙ ap₂ (λ (a b : List ℕ). a ++ b) (take-take n (n + m) xs (omega arith)) (drop-take n m xs)

-- ---- lines one after the other

pub joined-none : (line : ℕ → List ℕ) → lines_joined line 0 ≡ []
unfolding lines_joined
joined-none line = refl

pub joined-more : (line : ℕ → List ℕ) (n : ℕ) → lines_joined line (n + 1) ≡ lines_joined line n ++ line n
unfolding lines_joined
joined-more line n = ap (lines_joined line) (add-one n)

pub joined-same : (line other : ℕ → List ℕ) (n : ℕ) → ((r : ℕ) → r < n → line r ≡ other r)
    → lines_joined line n ≡ lines_joined other n
unfolding lines_joined
joined-same line other zero same = refl
joined-same line other (suc n) same =
    ap₂ (λ (a b : List ℕ). a ++ b) (joined-same line other n (λ r low. same r (omega arith))) (same n (omega arith))

pub length-joined : (line : ℕ → List ℕ) (wide n : ℕ) → ((r : ℕ) → r < n → length (line r) ≡ wide)
    → length (lines_joined line n) ≡ n * wide
unfolding lines_joined
length-joined line wide zero long = omega arith
length-joined line wide (suc n) long =
    let first : length (lines_joined line n) ≡ n * wide = length-joined line wide n (λ r low. long r (omega arith)) in
    let last : length (line n) ≡ wide = long n (omega arith) in
    length-append (lines_joined line n) (line n) ∙ omega arith

-- the line that stands at a place of lines of one length
pub joined-at : (line : ℕ → List ℕ) (wide n r i : ℕ) → ((r : ℕ) → r < n → length (line r) ≡ wide) → r < n → i < wide
    → get_or (lines_joined line n) (r * wide + i) 0 ≡ get_or (line r) i 0
unfolding lines_joined
joined-at line wide zero r i long r_low i_low = absurd (omega arith)
joined-at line wide (suc n) r i long r_low i_low =
    let first : length (lines_joined line n) ≡ n * wide = length-joined line wide n (λ r low. long r (omega arith)) in
    elim (cases_lt r n) [
      | inl below ↦
          let room : (r + 1) * wide ≤ n * wide = mul-le-mul_right wide (omega arith) in
          get_or_append_left (lines_joined line n) (line n) 0 (r * wide + i) (omega arith)
          ∙ joined-at line wide n r i (λ r low. long r (omega arith)) below i_low
      | inr last ↦
          let same : r ≡ n = omega arith in
          let place : r * wide + i ≡ length (lines_joined line n) + i = ap (λ k. k * wide + i) same ∙ omega arith in
          ap (λ k. get_or (lines_joined line n ++ line n) k 0) place
          ∙ get_or-append-add (lines_joined line n) (line n) i 0
          ∙ ap (λ k. get_or (line k) i 0) (sym same)
    ]

-- lines of one length are told by their joined list
pub joined-told : (line other : ℕ → List ℕ) (wide n : ℕ) → ((r : ℕ) → r < n → length (line r) ≡ wide)
    → ((r : ℕ) → r < n → length (other r) ≡ wide) → lines_joined line n ≡ lines_joined other n
    → (r i : ℕ) → r < n → i < wide → get_or (line r) i 0 ≡ get_or (other r) i 0
joined-told line other wide n long long_other same r i r_low i_low =
    sym (joined-at line wide n r i long r_low i_low)
    ∙ ap (λ xs. get_or xs (r * wide + i) 0) same
    ∙ joined-at other wide n r i long_other r_low i_low

-- ---- a part that is written over

-- what stands before the part
pub part-below : (a w b k : ℕ) (xs ys : List ℕ) → a + w ≤ b → b ≤ length xs
    → take w (drop a (put_mid b k xs ys)) ≡ take w (drop a xs)
part-below a w b k xs ys before room =
    sym (drop-take a w (put_mid b k xs ys))
    ∙ ap (drop a) (take-put_mid_below b k xs ys (a + w) before room)
    ∙ drop-take a w xs

pub part-at : (w b : ℕ) (xs ys : List ℕ) → b ≤ length xs → length ys ≡ w
    → take w (drop b (put_mid b (b + w - b) xs ys)) ≡ ys
part-at w b xs ys room long =
    let size : b + w - b ≡ w = omega arith in
    let is : between b (b + w) (put_mid b (b + w - b) xs ys) ≡ ys = between-put_mid b (b + w - b) xs ys (b + w) room (long ∙ sym size) in
    ap (λ n. take n (drop b (put_mid b (b + w - b) xs ys))) (sym size) ∙ is

pub length-put : (b k : ℕ) (xs ys : List ℕ) → b + k ≤ length xs → length ys ≡ k → length (put_mid b k xs ys) ≡ length xs
length-put b k xs ys room long =
    let front : length (take b xs) ≡ b = length-take-le b xs (omega arith) in
    let rest : length (drop k (drop b xs)) ≡ length xs - b - k = length-drop k (drop b xs) ∙ ap (λ n. n - k) (length-drop b xs) in
    length-append (take b xs) (ys ++ drop k (drop b xs))
    ∙ ap (λ n. length (take b xs) + n) (length-append ys (drop k (drop b xs)))
    ∙ omega arith

-- a place outside the part
pub place-kept : (b k i : ℕ) (xs ys : List ℕ) → b ≤ length xs → length ys ≡ k → (i < b) ⊎ (b + k ≤ i)
    → get_or (put_mid b k xs ys) i 0 ≡ get_or xs i 0
place-kept b k i xs ys room long (inl before) =
    sym (get_or-take b (put_mid b k xs ys) i 0 before)
    ∙ ap (λ l. get_or l i 0) (take-put_mid_below b k xs ys b (omega arith) room)
    ∙ get_or-take b xs i 0 before
place-kept b k i xs ys room long (inr behind) =
    let place : b + k + (i - (b + k)) ≡ i = omega arith in
    ap (λ n. get_or (put_mid b k xs ys) n 0) (sym place)
    ∙ sym (get_or-drop (b + k) (put_mid b k xs ys) (i - (b + k)) 0)
    ∙ ap (λ l. get_or l (i - (b + k)) 0) (drop-put_mid b k xs ys (b + k) (omega arith) room long)
    ∙ get_or-drop (b + k) xs (i - (b + k)) 0
    ∙ ap (λ n. get_or xs n 0) place

-- ---- the loops over a tile's lines

pub between-part : (from wide : ℕ) (xs : List ℕ) → between from (from + wide) xs ≡ take wide (drop from xs)
between-part from wide xs =
    let size : from + wide - from ≡ wide = omega arith in
    ap (λ n. take n (drop from xs)) size

pub copied-none : (line : ℕ → List ℕ) (wide : ℕ) (part : List ℕ) → take (0 * wide) part ≡ lines_joined line 0
copied-none line wide part =
    let none : 0 * wide ≡ 0 = omega arith in
    ap (λ n. take n part) none ∙ sym (joined-none line)

-- one more line is copied out
pub copied : (line : ℕ → List ℕ) (wide row from place : ℕ) (samples part new : List ℕ)
    → take (row * wide) part ≡ lines_joined line row → row * wide ≤ length part → from + wide ≤ length samples
    → new ≡ between from (from + wide) samples → from ≡ place → line row ≡ take wide (drop place samples)
    → take ((row + 1) * wide) (put_mid (row * wide) (row * wide + wide - row * wide) part new) ≡ lines_joined line (row + 1)
copied line wide row from place samples part new so_far room in_picture is at_place at_line =
    let new_is : new ≡ line row = is ∙ between-part from wide samples ∙ ap (λ n. take wide (drop n samples)) at_place ∙ sym at_line in
    let long : length new ≡ wide =
    ap length (is ∙ between-part from wide samples)
    ∙ length-take-le wide (drop from samples) (let rest : length (drop from samples) ≡ length samples - from = length-drop from samples in omega arith) in
    let end : (row + 1) * wide ≡ row * wide + length new = omega arith in
    take-put_mid (row * wide) (row * wide + wide - row * wide) part new ((row + 1) * wide) end room
    ∙ ap₂ (λ (a b : List ℕ). a ++ b) so_far new_is
    ∙ sym (joined-more line row)

-- all are
pub all-copied : (line : ℕ → List ℕ) (wide row height : ℕ) (part : List ℕ) → take (row * wide) part ≡ lines_joined line row
    → height ≤ row → row ≤ height → length part ≡ height * wide → part ≡ lines_joined line height
all-copied line wide row height part so_far high low long =
    let same : row ≡ height = omega arith in
    let whole : row * wide ≡ height * wide = ap (λ n. n * wide) same in
    let room : length part ≤ row * wide = omega arith in
    sym (take_all (row * wide) part room) ∙ so_far ∙ ap (lines_joined line) same

-- a part of a list is as long as it is wide
pub length-part : (from wide : ℕ) (xs new : List ℕ) → from + wide ≤ length xs → new ≡ between from (from + wide) xs
    → length new ≡ wide
length-part from wide xs new room is =
    let rest : length (drop from xs) ≡ length xs - from = length-drop from xs in
    ap length (is ∙ between-part from wide xs) ∙ length-take-le wide (drop from xs) (omega arith)
