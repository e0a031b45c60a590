-- Stretches that stand one after the other.
use Rattle.std.proofs.Common.{◌≡◌, ◌⊎◌, inl, inr, ℕ, zero, suc, ◌+◌, ◌-◌, ◌*◌, ◌<◌, ◌≤◌, List, [], ◌∷◌, ◌++◌, length, take, drop, get_or, map, refl, sym, ◌∙◌, ap, subst, arith, length-append, length-take, length-drop}
use Rattle.std.proofs.lemmas.List.{map-append, append-nil, length-take-le, get_or_append_left, get_or-append_right, get_or-drop, get_or-take, get_or_past}
use Rattle.std.proofs.Math.Seq.{take-add}
use Rattle.std.proofs.Math.Nat.{mul-le-mul_right}
use Rattle.std.proofs.lemmas.Bool.{cases_lt}
use Rattle.std.proofs.lemmas.Grind.{flat_map-append}
use Rattle.std.specs.List.{flat_map}
use Rattle.cook_bits.specs.Bits.{AreBytes}
use Rattle.wav_chunks.specs.Samples.{stretch, of_stretches}

pub length-of_stretches : {A : Type 0} (value : List ℕ → A) (size count : ℕ) (bytes : List ℕ) → length (of_stretches value size count bytes) ≡ count
unfolding of_stretches
length-of_stretches value size zero bytes = refl
length-of_stretches value size (suc count) bytes =
    let so_far : length (of_stretches value size count bytes) ≡ count = length-of_stretches value size count bytes in
    let whole : length (of_stretches value size count bytes ++ value (stretch size count bytes) ∷ []) ≡ length (of_stretches value size count bytes) + 1 = length-append (of_stretches value size count bytes) (value (stretch size count bytes) ∷ []) in
    omega arith

-- the value of one of them
pub of_stretches-at : {A : Type 0} (value : List ℕ → A) (size count k : ℕ) (bytes : List ℕ) (d : A) → k < count
    → get_or (of_stretches value size count bytes) k d ≡ value (stretch size k bytes)
unfolding of_stretches
of_stretches-at value size zero k bytes d low = absurd (omega arith)
of_stretches-at {A} value size (suc count) k bytes d low = split (λ before. of_stretches-at value size count k bytes d before) (cases_lt k count)
  where
    split : (k < count → get_or (of_stretches value size count bytes) k d ≡ value (stretch size k bytes)) → (k < count) ⊎ (count ≤ k) → get_or (of_stretches value size count bytes ++ value (stretch size count bytes) ∷ []) k d ≡ value (stretch size k bytes)
    split so_far (inl before) =
        let long : length (of_stretches value size count bytes) ≡ count = length-of_stretches value size count bytes in
        get_or_append_left (of_stretches value size count bytes) (value (stretch size count bytes) ∷ []) d k (omega arith)
        ∙ so_far before
    split so_far (inr last) =
        let long : length (of_stretches value size count bytes) ≡ count = length-of_stretches value size count bytes in
        let none : k - count ≡ 0 = omega (arith, low, last) in
        let same : count ≡ k = omega (arith, low, last) in
        get_or-append_right (of_stretches value size count bytes) (value (stretch size count bytes) ∷ []) count k d long (omega (arith, last))
        ∙ ap (λ (n : ℕ). get_or (value (stretch size count bytes) ∷ []) n d) none
        ∙ ap (λ (n : ℕ). value (stretch size n bytes)) same

-- a function of the values
pub map-of_stretches : {A B : Type 0} (f : A → B) (value : List ℕ → A) (next : List ℕ → B) (size count : ℕ) (bytes : List ℕ)
    → ((xs : List ℕ) → f (value xs) ≡ next xs) → map f (of_stretches value size count bytes) ≡ of_stretches next size count bytes
unfolding of_stretches
map-of_stretches f value next size zero bytes same = refl
map-of_stretches f value next size (suc count) bytes same =
    map-append f (of_stretches value size count bytes) (value (stretch size count bytes) ∷ [])
    ∙ ap (λ xs. xs ++ f (value (stretch size count bytes)) ∷ []) (map-of_stretches f value next size count bytes same)
    ∙ ap (λ x. of_stretches next size count bytes ++ x ∷ []) (same (stretch size count bytes))

-- ---- bytes

length-take-most : (n : ℕ) (bytes : List ℕ) → length (take n bytes) ≤ n
length-take-most n bytes = let e = length-take n bytes in omega arith

-- one of so many stretches ends where all of them do, or before
pub block_end : (size count k : ℕ) → k < count → k * size + size ≤ count * size
block_end size count k low = let more : suc k * size ≤ count * size = mul-le-mul_right size (omega (arith, low)) in omega (arith, more)

pub bytes-take : (n : ℕ) (bytes : List ℕ) → AreBytes bytes → AreBytes (take n bytes)
bytes-take n bytes are i = by_place (cases_lt i n)
  where
    by_place : (i < n) ⊎ (n ≤ i) → get_or (take n bytes) i 0 < 256
    by_place (inl inside) = subst (λ (x : ℕ). x < 256) (sym (get_or-take n bytes i 0 inside)) (are i)
    by_place (inr past) =
        let few : length (take n bytes) ≤ n = length-take-most n bytes in
        subst (λ (x : ℕ). x < 256) (sym (get_or_past (take n bytes) i 0 (omega arith))) (omega arith)

pub bytes-drop : (n : ℕ) (bytes : List ℕ) → AreBytes bytes → AreBytes (drop n bytes)
bytes-drop n bytes are i = subst (λ (x : ℕ). x < 256) (sym (get_or-drop n bytes i 0)) (are (n + i))

pub bytes-append : (xs ys : List ℕ) → AreBytes xs → AreBytes ys → AreBytes (xs ++ ys)
bytes-append xs ys left right i = by_place (cases_lt i (length xs))
  where
    by_place : (i < length xs) ⊎ (length xs ≤ i) → get_or (xs ++ ys) i 0 < 256
    by_place (inl inside) = subst (λ (x : ℕ). x < 256) (sym (get_or_append_left xs ys 0 i inside)) (left i)
    by_place (inr behind) = subst (λ (x : ℕ). x < 256) (sym (get_or-append_right xs ys (length xs) i 0 refl behind)) (right (i - length xs))

-- one of so many stretches is whole
pub length-stretch : (size count k : ℕ) (bytes : List ℕ) → k < count → count * size ≤ length bytes → length (stretch size k bytes) ≡ size
length-stretch size count k bytes low room =
    let behind : k * size + size ≤ count * size = block_end size count k low in
    let rest : length (drop (k * size) bytes) ≡ length bytes - k * size = length-drop (k * size) bytes in
    length-take-le size (drop (k * size) bytes) (omega arith)

-- values that give their stretches again give all of them
pub flat_of_stretches : {A : Type 0} (value : List ℕ → A) (back : A → List ℕ) (size count : ℕ) (bytes : List ℕ)
    → ((xs : List ℕ) → length xs ≡ size → AreBytes xs → back (value xs) ≡ xs) → count * size ≤ length bytes → AreBytes bytes
    → flat_map back (of_stretches value size count bytes) ≡ take (count * size) bytes
unfolding of_stretches
flat_of_stretches value back size zero bytes again room are =
    let none : 0 ≡ 0 * size = omega arith in
    ap (λ (n : ℕ). take n bytes) none
flat_of_stretches value back size (suc count) bytes again room are =
    let less : count * size ≤ length bytes = omega arith in
    let one : List ℕ = stretch size count bytes in
    let long : length one ≡ size = length-stretch size (suc count) count bytes (omega arith) room in
    let total : count * size + size ≡ suc count * size = omega arith in
    flat_map-append back (of_stretches value size count bytes) (value one ∷ [])
    ∙ ap (λ xs. xs ++ (back (value one) ++ [])) (flat_of_stretches value back size count bytes again less are)
    ∙ ap (λ xs. take (count * size) bytes ++ xs) (append-nil (back (value one)) ∙ again one long (bytes-take size (drop (count * size) bytes) (bytes-drop (count * size) bytes are)))
    ∙ sym (take-add (count * size) size bytes)
    ∙ ap (λ (n : ℕ). take n bytes) total
