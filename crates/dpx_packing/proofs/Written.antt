-- A unit's lists after each of its items is written.
use Rattle.std.proofs.Common.{◌≡◌, ℕ, ◌/◌, ◌%◌, List, [], ◌∷◌, length, refl, ap, ◌∙◌, arith}
use Rattle.std.proofs.Math.ListN.{set}
use Rattle.dpx_packing.specs.Units.{samples10}
use Rattle.dpx_packing.proofs.Masks.{and_1023}
use Rattle.std.specs.Prelude.{bit_and}

pub set_one : (xs : List ℕ) (a b : ℕ) → length xs ≡ 1 → a ≡ b → set xs 0 a ≡ b ∷ []
set_one [] a b long e = absurd (omega arith)
set_one (x ∷ []) a b long e = ap (λ n. n ∷ []) e
set_one (x ∷ y ∷ xs) a b long e = absurd (omega arith)

pub set_three : (xs : List ℕ) (a b c : ℕ) → length xs ≡ 3 → set (set (set xs 0 a) 1 b) 2 c ≡ a ∷ b ∷ c ∷ []
set_three [] a b c long = absurd (omega arith)
set_three (x ∷ []) a b c long = absurd (omega arith)
set_three (x ∷ y ∷ []) a b c long = absurd (omega arith)
set_three (x ∷ y ∷ z ∷ []) a b c long = refl
set_three (x ∷ y ∷ z ∷ w ∷ xs) a b c long = absurd (omega arith)

pub samples10-set : (xs : List ℕ) (word number : ℕ) → length xs ≡ 3 → word ≡ number
    → set (set (set xs 0 (word / 4194304)) 1 (bit_and (word / 4096) 1023)) 2 (bit_and (word / 4) 1023) ≡ samples10 number
samples10-set xs word number long e =
    set_three xs (word / 4194304) (bit_and (word / 4096) 1023) (bit_and (word / 4) 1023) long
    ∙ ap (λ n. word / 4194304 ∷ n ∷ bit_and (word / 4) 1023 ∷ []) (and_1023 (word / 4096))
    ∙ ap (λ n. word / 4194304 ∷ word / 4096 % 1024 ∷ n ∷ []) (and_1023 (word / 4))
    ∙ ap samples10 e
