-- Tables of the remainders of single bytes, checked over the whole table.
use Rattle.std.proofs.Common.{◌≡◌, ℕ, zero, suc, ◌+◌, ◌<◌, ◌==◌, Bool, true, ◌&&◌, List, [], ◌∷◌, length, get_or, refl, ap, ◌∙◌, arith, zero-add}
use Rattle.std.proofs.lemmas.Bool.{and_parts, eqb-true}
use Rattle.cook_bits.specs.Crc.{crc_of, highest_first, lowest_first, divided, added, remainder_of}
use Rattle.cook_bits.specs.Bits.{low_bits, number_of}
use Rattle.cook_bits.specs.declared.crc.high_tables.TheConstants.{HIGH_0}
use Rattle.cook_bits.specs.declared.crc.ebml_tables.TheConstants.{EBML_0}
use Rattle.cook_bits.specs.declared.crc.flac_tables.TheConstants.{CRC8, CRC16}

-- the list's entries are the function's values from a place on
are_values : (ℕ → ℕ) → ℕ → List ℕ → Bool
are_values f from [] = true
are_values f from (value ∷ values) = (value == f from) && are_values f (from + 1) values

value_at : (f : ℕ → ℕ) (from : ℕ) (values : List ℕ) (i : ℕ) → are_values f from values ≡ true → i < length values → get_or values i 0 ≡ f (from + i)
unfolding are_values
value_at f from [] i all lt = absurd (omega arith)
value_at f from (value ∷ values) zero all lt =
    let here : from ≡ from + 0 = omega arith in
    eqb-true value (f from) (and_parts (value == f from) _ all).0 ∙ ap f here
value_at f from (value ∷ values) (suc i) all lt =
    let next : from + 1 + i ≡ from + suc i = omega arith in
    value_at f (from + 1) values i (and_parts (value == f from) _ all).1 (omega arith) ∙ ap f next

entry : (f : ℕ → ℕ) (values : List ℕ) (i : ℕ) → are_values f 0 values ≡ true → i < length values → get_or values i 0 ≡ f i
entry f values i all lt = value_at f 0 values i all lt ∙ ap f (zero-add i)

pub high_0 : (i : ℕ) → i < 256 → get_or HIGH_0 i 0 ≡ crc_of highest_first 32 0x04C1_1DB7 0 (i ∷ [])
unfolding are_values crc_of remainder_of divided added low_bits number_of
high_0 i lt = entry (λ n. crc_of highest_first 32 0x04C1_1DB7 0 (n ∷ [])) HIGH_0 i refl lt

pub ebml_0 : (i : ℕ) → i < 256 → get_or EBML_0 i 0 ≡ crc_of lowest_first 32 0x04C1_1DB7 0 (i ∷ [])
unfolding are_values crc_of remainder_of divided added low_bits number_of
ebml_0 i lt = entry (λ n. crc_of lowest_first 32 0x04C1_1DB7 0 (n ∷ [])) EBML_0 i refl lt

pub crc8_0 : (i : ℕ) → i < 256 → get_or CRC8 i 0 ≡ crc_of highest_first 8 0x07 0 (i ∷ [])
unfolding are_values crc_of remainder_of divided added low_bits number_of
crc8_0 i lt = entry (λ n. crc_of highest_first 8 0x07 0 (n ∷ [])) CRC8 i refl lt

pub crc16_0 : (i : ℕ) → i < 256 → get_or CRC16 i 0 ≡ crc_of highest_first 16 0x8005 0 (i ∷ [])
unfolding are_values crc_of remainder_of divided added low_bits number_of
crc16_0 i lt = entry (λ n. crc_of highest_first 16 0x8005 0 (n ∷ [])) CRC16 i refl lt
