-- Masks of low bits are remainders.
use Rattle.std.proofs.Common.{◌≡◌, ℕ, ◌%◌, bit_and}
use Rattle.std.proofs.lemmas.Nat.{and_mask}

pub and_3 : (n : ℕ) → bit_and n 3 ≡ n % 4
and_3 n = and_mask n 2

pub and_15 : (n : ℕ) → bit_and n 15 ≡ n % 16
and_15 n = and_mask n 4

pub and_1023 : (n : ℕ) → bit_and n 1023 ≡ n % 1024
and_1023 n = and_mask n 10
