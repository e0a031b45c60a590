-- Reading values one after the other, as a loop does.
use Rattle.std.proofs.Common.{◌≡◌, ℕ, zero, suc, ◌-◌, ◌+◌, ◌*◌, ◌%◌, ◌^◌, ◌≤◌, ◌<◌, Bool, ℤ, List, [], ◌∷◌, ◌++◌, length, take, Result, Ok, Err, refl, sym, ap, ◌∙◌, append_assoc, add-one, subst, length-append, length-drop, drop, arith}
use Rattle.std.proofs.Math.ListN.{set}
use Rattle.std.proofs.Math.Seq.{take-suc-set}
use Rattle.std.proofs.lemmas.List.{append-nil, take_all, take_at, length-take-le}
use Rattle.std.proofs.lemmas.Nat.{one_shl}
use borrow.Rule.Slice.PartMut.{put_mid, post_of}
use Rattle.std.proofs.lemmas.Int.{to_z-of_z}
use mir.Val.{SFits, to_z, of_z}
use mir.Syntax.{w32}
use Rattle.flac_frame.specs.declared.error.FlacWhy.{FlacWhy}
use Rattle.std.proofs.Math.Nat.{mul-le-mul_right, suc-mul}
use Rattle.flac_frame.specs.Reading.{◌>>=◌, each_at}
use Rattle.flac_frame.specs.Residual.{partition_at, partitions_at}

-- what was read before, and what is still read
abbrev pub with_front : List ℤ → Result (List ℤ × List Bool) FlacWhy → Result (List ℤ × List Bool) FlacWhy
with_front front read = read >>= λ x. Ok (front ++ x.0, x.1)

pub no_front : (read : Result (List ℤ × List Bool) FlacWhy) → with_front [] read ≡ read
no_front (Ok x) = refl
no_front (Err why) = refl

regroup : (front : List ℤ) (x : ℤ) (read : Result (List ℤ × List Bool) FlacWhy) → with_front front (read >>= λ y. Ok (x ∷ y.0, y.1)) ≡ with_front (front ++ x ∷ []) read
regroup front x (Ok y) = ap (λ (xs : List ℤ). Ok (xs, y.1)) (sym (append_assoc front (x ∷ []) y.0))
regroup front x (Err why) = refl

module _ (read : List Bool → Result (ℤ × List Bool) FlacWhy) where
  pub goes_on : (front out : List ℤ) (count i : ℕ) (bits after : List Bool) (x : ℤ) (total : Result (List ℤ × List Bool) FlacWhy) → i < count → read bits ≡ Ok (x, after)
      → out ≡ front ++ x ∷ [] → with_front front (each_at read (count - i) bits) ≡ total → with_front out (each_at read (count - (i + 1)) after) ≡ total
  unfolding each_at
  goes_on front out count i bits after x total lt h is so_far =
      let k : count - i ≡ suc (count - (i + 1)) = omega arith in
      let one : with_front front (each_at read (count - i) bits) ≡ with_front (front ++ x ∷ []) (each_at read (count - (i + 1)) after) =
      rw (k, h) (regroup front x (each_at read (count - (i + 1)) after)) in
      rw is (sym one ∙ so_far)

  pub ends : (front : List ℤ) (count i : ℕ) (bits : List Bool) (why : FlacWhy) (total : Result (List ℤ × List Bool) FlacWhy) → i < count → read bits ≡ Err why
      → with_front front (each_at read (count - i) bits) ≡ total → total ≡ Err why
  unfolding each_at
  ends front count i bits why total lt h so_far =
      let k : count - i ≡ suc (count - (i + 1)) = omega arith in
      let one : with_front front (each_at read (count - i) bits) ≡ Err why = rw (k, h) refl in
      sym so_far ∙ one

  pub is_done : (front : List ℤ) (count i : ℕ) (bits : List Bool) (total : Result (List ℤ × List Bool) FlacWhy) → count ≤ i
      → with_front front (each_at read (count - i) bits) ≡ total → total ≡ Ok (front, bits)
  unfolding each_at
  is_done front count i bits total le so_far =
      let k : count - i ≡ 0 = omega arith in
      let one : with_front front (each_at read (count - i) bits) ≡ Ok (front, bits) = rw k (ap (λ (xs : List ℤ). Ok (xs, bits)) (append-nil front)) in
      sym so_far ∙ one

  pub is_whole : (out : List ℤ) (count i : ℕ) (bits : List Bool) (total : Result (List ℤ × List Bool) FlacWhy) → count ≤ i → length out ≤ i
      → with_front (take i out) (each_at read (count - i) bits) ≡ total → total ≡ Ok (out, bits)
  is_whole out count i bits total le all so_far =
      is_done (take i out) count i bits total le so_far ∙ ap (λ (xs : List ℤ). Ok (xs, bits)) (take_all i out all)

-- ---- partitions

regroup_all : (front xs : List ℤ) (read : Result (List ℤ × List Bool) FlacWhy) → with_front front (read >>= λ y. Ok (xs ++ y.0, y.1)) ≡ with_front (front ++ xs) read
regroup_all front xs (Ok y) = ap (λ (zs : List ℤ). Ok (zs, y.1)) (sym (append_assoc front xs y.0))
regroup_all front xs (Err why) = refl

pub partition_on : (front xs out : List ℤ) (width size skipped count i : ℕ) (bits after : List Bool) (total : Result (List ℤ × List Bool) FlacWhy) → i < count
    → partition_at width (size - skipped) bits ≡ Ok (xs, after) → out ≡ front ++ xs
    → with_front front (partitions_at width size skipped (count - i) bits) ≡ total → with_front out (partitions_at width size 0 (count - (i + 1)) after) ≡ total
unfolding partitions_at
partition_on front xs out width size skipped count i bits after total lt h is so_far =
    let k : count - i ≡ suc (count - (i + 1)) = omega arith in
    let one : with_front front (partitions_at width size skipped (count - i) bits) ≡ with_front (front ++ xs) (partitions_at width size 0 (count - (i + 1)) after) =
    rw (k, h) (regroup_all front xs (partitions_at width size 0 (count - (i + 1)) after)) in
    rw is (sym one ∙ so_far)

pub partition_ends : (front : List ℤ) (width size skipped count i : ℕ) (bits : List Bool) (why : FlacWhy) (total : Result (List ℤ × List Bool) FlacWhy) → i < count
    → partition_at width (size - skipped) bits ≡ Err why → with_front front (partitions_at width size skipped (count - i) bits) ≡ total → total ≡ Err why
unfolding partitions_at
partition_ends front width size skipped count i bits why total lt h so_far =
    let k : count - i ≡ suc (count - (i + 1)) = omega arith in
    let one : with_front front (partitions_at width size skipped (count - i) bits) ≡ Err why = rw (k, h) refl in
    sym so_far ∙ one

pub partitions_done : (front : List ℤ) (width size skipped count i : ℕ) (bits : List Bool) (total : Result (List ℤ × List Bool) FlacWhy) → count ≤ i
    → with_front front (partitions_at width size skipped (count - i) bits) ≡ total → total ≡ Ok (front, bits)
unfolding partitions_at
partitions_done front width size skipped count i bits total le so_far =
    let k : count - i ≡ 0 = omega arith in
    let one : with_front front (partitions_at width size skipped (count - i) bits) ≡ Ok (front, bits) = rw k (ap (λ (xs : List ℤ). Ok (xs, bits)) (append-nil front)) in
    sym so_far ∙ one

pub partitions_whole : (out : List ℤ) (width size skipped count i at : ℕ) (bits : List Bool) (total : Result (List ℤ × List Bool) FlacWhy) → count ≤ i → length out ≤ at
    → with_front (take at out) (partitions_at width size skipped (count - i) bits) ≡ total → total ≡ Ok (out, bits)
partitions_whole out width size skipped count i at bits total le all so_far =
    partitions_done (take at out) width size skipped count i bits total le so_far ∙ ap (λ (xs : List ℤ). Ok (xs, bits)) (take_all at out all)

-- a partition's samples are in the block
pub partition_within : (at warm_up skipped size count i len : ℕ) → at + warm_up ≡ i * size + skipped → skipped ≤ size → i < count → len + warm_up ≡ count * size → at + (size - skipped) ≤ len
partition_within at warm_up skipped size count i len place le lt room =
    let more : suc i * size ≤ count * size = mul-le-mul_right size lt in
    let step : suc i * size ≡ i * size + size = suc-mul i size in
    omega arith

-- a number that was read is written as itself
pub stored_next : (out : List ℤ) (place : ℕ) (x : ℤ) → SFits w32 x → place < length out → take (place + 1) (set out place (to_z w32 (of_z w32 x))) ≡ take place out ++ x ∷ []
stored_next out place x fits lt =
    rw add-one (take-suc-set out place (to_z w32 (of_z w32 x)) lt) ∙ ap (λ y. take place out ++ y ∷ []) (to_z-of_z w32 x fits)

-- ---- a piece of a list

pub piece_len : (at n : ℕ) (out : List ℤ) → at + n ≤ length out → length (take (at + n - at) (drop at out)) ≡ n
piece_len at n out le =
    let e : at + n - at ≡ n = omega arith in
    let enough : n ≤ length (drop at out) = omega (arith, length-drop at out) in
    ap (λ m. length (take m (drop at out))) e ∙ length-take-le n (drop at out) enough

pub piece_stored : (at n : ℕ) (out new : List ℤ) → at + n ≤ length out → length new ≡ n → take (at + n) (put_mid at (at + n - at) out new) ≡ take at out ++ new
piece_stored at n out new le e =
    let front : length (take at out ++ new) ≡ at + n = length-append (take at out) new ∙ ap (λ m. m + length new) (length-take-le at out (omega arith)) ∙ ap (λ m. at + m) e in
    ap (take (at + n)) (sym (append_assoc (take at out) new (post_of at (at + n - at) out))) ∙ take_at (take at out ++ new) (post_of at (at + n - at) out) (at + n) front

-- a parameter that isn't the escape
small_at : (d p : ℕ) → d ≤ 1 → p < 2 ^ (4 + d) → (p ≡ 2 ^ (4 + d) - 1 → ⊥) → p ≤ 30
small_at zero p le lt other = omega arith
small_at (suc zero) p le lt other = omega arith
small_at (suc (suc d)) p le lt other = absurd (omega arith)

pub parameter_small : (w p : ℕ) → 4 ≤ w → w ≤ 5 → p < 2 ^ w → (p ≡ 1 * 2 ^ w % 2 ^ 32 - 1 → ⊥) → p ≤ 30
parameter_small w p low high lt other =
    let e : w ≡ 4 + (w - 4) = omega arith in
    let mask : 1 * 2 ^ w % 2 ^ 32 ≡ 2 ^ w = one_shl w 32 (omega arith) in
    small_at (w - 4) p (omega arith) (subst (λ (m : ℕ). p < 2 ^ m) e lt) (λ is. other (is ∙ ap (λ (m : ℕ). 2 ^ m - 1) (sym e) ∙ ap (λ (m : ℕ). m - 1) (sym mask)))

-- all of the partitions are read
pub all_partitions : (at warm_up skipped size count i len : ℕ) → at + warm_up ≡ i * size + skipped → i ≤ count → count ≤ i → len + warm_up ≡ count * size → len ≤ at
all_partitions at warm_up skipped size count i len place le ge room =
    let e : i ≡ count = omega arith in
    let same : i * size ≡ count * size = ap (λ m. m * size) e in
    omega arith

pub partition_step : (at warm_up skipped size i : ℕ) → at + warm_up ≡ i * size + skipped → skipped ≤ size → at + (size - skipped) + warm_up ≡ (i + 1) * size + 0
partition_step at warm_up skipped size i place le =
    let step : suc i * size ≡ i * size + size = suc-mul i size in
    rw add-one (omega arith)
