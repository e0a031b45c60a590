-- The laws of the CRCs that the crate has.
use Rattle.std.proofs.Common.{◌≡◌, ℕ, ◌^◌, ◌<◌, List, [], ◌∷◌, fold, sym, ap, ◌∙◌, arith, lit<}
use Rattle.std.specs.List.{concat}
use Rattle.std.specs.Int.{w32, bit_not}
use Rattle.cook_bits.specs.Crc.{highest_first, lowest_first, crc32_high_of, ebml_register_after, crc32_ebml_of, crc8_of, crc16_of}
use Rattle.cook_bits.specs.Laws.{RegisterGoesOn, RegisterStays, RegisterFits, AnyCutIsTheSame, FitsBits}
use Rattle.cook_bits.proofs.Orders.{IsOrder-highest_first, IsOrder-lowest_first}
use Rattle.cook_bits.proofs.Checks.{crc_of-append, crc_of_nothing, crc_of-lt}

pub goes_on : RegisterGoesOn
unfolding ebml_register_after
goes_on register xs ys = crc_of-append lowest_first IsOrder-lowest_first 32 0x04C1_1DB7 register xs ys

pub stays : RegisterStays
unfolding ebml_register_after
stays register lt = crc_of_nothing lowest_first IsOrder-lowest_first 32 0x04C1_1DB7 register lt

pub register_fits : RegisterFits
unfolding ebml_register_after
register_fits register bytes = crc_of-lt lowest_first IsOrder-lowest_first 32 0x04C1_1DB7 register bytes

parts_are : (register : ℕ) → register < 2 ^ 32 → (parts : List (List ℕ)) → fold ebml_register_after register parts ≡ ebml_register_after register (concat parts)
parts_are register lt [] = sym (stays register lt)
parts_are register lt (part ∷ parts) = parts_are (ebml_register_after register part) (register_fits register part) parts ∙ sym (goes_on register part (concat parts))

pub any_cut : AnyCutIsTheSame
unfolding crc32_ebml_of
any_cut parts = ap (bit_not w32) (parts_are 0xFFFF_FFFF (lit< tt) parts)

pub high_fits : FitsBits 32 crc32_high_of
unfolding crc32_high_of
high_fits bytes = crc_of-lt highest_first IsOrder-highest_first 32 0x04C1_1DB7 0 bytes

pub ebml_fits : FitsBits 32 crc32_ebml_of
unfolding crc32_ebml_of
ebml_fits bytes = omega arith

pub eight_fits : FitsBits 8 crc8_of
unfolding crc8_of
eight_fits bytes = crc_of-lt highest_first IsOrder-highest_first 8 0x07 0 bytes

pub sixteen_fits : FitsBits 16 crc16_of
unfolding crc16_of
sixteen_fits bytes = crc_of-lt highest_first IsOrder-highest_first 16 0x8005 0 bytes
