-- One byte into each register, as the code computes it.
use Rattle.std.proofs.Common.{◌≡◌, ℕ, ◌*◌, ◌/◌, ◌%◌, ◌^◌, ◌<◌, Bool, List, [], ◌∷◌, get_or, sym, ap, ◌∙◌, arith, bit_xor}
use Rattle.std.proofs.lemmas.Nat.{shr_below, mod_below, xor_comm, xor_of_8, pow_pos}
use Rattle.cook_bits.specs.Crc.{crc_of, highest_first, lowest_first}
use Rattle.cook_bits.specs.declared.crc.high_tables.TheConstants.{HIGH_0}
use Rattle.cook_bits.specs.declared.crc.ebml_tables.TheConstants.{EBML_0}
use Rattle.cook_bits.specs.declared.crc.flac_tables.TheConstants.{CRC8, CRC16}
use Rattle.cook_bits.proofs.Orders.{IsOrder, IsOrder-highest_first, IsOrder-lowest_first, IsCut, IsCut-highest_first, IsCut-lowest_first}
use Rattle.cook_bits.proofs.Checks.{crc_of_first, crc_of_nothing}
use Rattle.cook_bits.proofs.Tables.{high_0, ebml_0, crc8_0, crc16_0}

-- by a table's entry for the byte and the register's first
by_entry : (order : List Bool → List Bool) → IsOrder order → (width divisor register first next byte entry : ℕ) → IsCut order width register first next → next < 2 ^ width
    → entry ≡ crc_of order width divisor 0 (bit_xor first byte ∷ []) → bit_xor next entry ≡ crc_of order width divisor register (byte ∷ [])
by_entry order is_order width divisor register first next byte entry cut small e =
    ap (bit_xor next) e
    ∙ xor_comm next (crc_of order width divisor 0 (bit_xor first byte ∷ []))
    ∙ ap (bit_xor (crc_of order width divisor 0 (bit_xor first byte ∷ []))) (sym (crc_of_nothing order is_order width divisor next small))
    ∙ sym (crc_of_first order is_order width divisor register first next byte [] cut)

pub high_step : (register byte : ℕ) → register < 2 ^ 32 → byte < 2 ^ 8
    → bit_xor (register * 2 ^ 8 % 2 ^ 32) (get_or HIGH_0 (bit_xor (register / 2 ^ 24) byte) 0) ≡ crc_of highest_first 32 0x04C1_1DB7 register (byte ∷ [])
high_step register byte lt byte_lt =
    by_entry highest_first IsOrder-highest_first 32 0x04C1_1DB7 register (register / 2 ^ 24) (register * 2 ^ 8 % 2 ^ 32) byte _ (IsCut-highest_first 24 register) (mod_below (register * 2 ^ 8) (2 ^ 32) (pow_pos 32))
    (high_0 (bit_xor (register / 2 ^ 24) byte) (xor_of_8 (register / 2 ^ 24) byte (shr_below register 8 24 lt) byte_lt))

pub ebml_step : (register byte : ℕ) → register < 2 ^ 32 → byte < 2 ^ 8
    → bit_xor (register / 2 ^ 8) (get_or EBML_0 (bit_xor (register % 2 ^ 8) byte) 0) ≡ crc_of lowest_first 32 0x04C1_1DB7 register (byte ∷ [])
ebml_step register byte lt byte_lt =
    let small : register / 2 ^ 8 < 2 ^ 24 = shr_below register 24 8 lt in
    by_entry lowest_first IsOrder-lowest_first 32 0x04C1_1DB7 register (register % 2 ^ 8) (register / 2 ^ 8) byte _ (IsCut-lowest_first 24 register lt) (omega arith)
    (ebml_0 (bit_xor (register % 2 ^ 8) byte) (xor_of_8 (register % 2 ^ 8) byte (mod_below register (2 ^ 8) (pow_pos 8)) byte_lt))

pub crc16_step : (register byte : ℕ) → register < 2 ^ 16 → byte < 2 ^ 8
    → bit_xor (register * 2 ^ 8 % 2 ^ 16) (get_or CRC16 (bit_xor (register / 2 ^ 8) byte) 0) ≡ crc_of highest_first 16 0x8005 register (byte ∷ [])
crc16_step register byte lt byte_lt =
    by_entry highest_first IsOrder-highest_first 16 0x8005 register (register / 2 ^ 8) (register * 2 ^ 8 % 2 ^ 16) byte _ (IsCut-highest_first 8 register) (mod_below (register * 2 ^ 8) (2 ^ 16) (pow_pos 16))
    (crc16_0 (bit_xor (register / 2 ^ 8) byte) (xor_of_8 (register / 2 ^ 8) byte (shr_below register 8 8 lt) byte_lt))

pub crc8_step : (register byte : ℕ) → register < 2 ^ 8 → byte < 2 ^ 8
    → get_or CRC8 (bit_xor register byte) 0 ≡ crc_of highest_first 8 0x07 register (byte ∷ [])
crc8_step register byte lt byte_lt =
    let whole : register / 2 ^ 0 ≡ register = omega arith in
    let none : register * 2 ^ 8 % 2 ^ 8 ≡ 0 = omega arith in
    let step = by_entry highest_first IsOrder-highest_first 8 0x07 register (register / 2 ^ 0) (register * 2 ^ 8 % 2 ^ 8) byte (get_or CRC8 (bit_xor register byte) 0) (IsCut-highest_first 0 register) (mod_below (register * 2 ^ 8) (2 ^ 8) (pow_pos 8))
    (crc8_0 (bit_xor register byte) (xor_of_8 register byte lt byte_lt) ∙ ap (λ first. crc_of highest_first 8 0x07 0 (bit_xor first byte ∷ [])) (sym whole)) in
    sym (ap (λ n. bit_xor n (get_or CRC8 (bit_xor register byte) 0)) none) ∙ step
