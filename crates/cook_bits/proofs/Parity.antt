-- A CRC behind its bytes.
use Rattle.std.proofs.Common.{◌≡◌, ℕ, suc, ◌*◌, Bool, true, List, [], ◌∷◌, ◌++◌, length, refl, sym, ap, ◌∙◌}
use Rattle.std.specs.Int.{bytes_high_first}
use Rattle.cook_bits.specs.Bits.{AreBytes, low_bits, number_of, bits_of, bytes_of}
use Rattle.cook_bits.specs.Crc.{remainder_of, highest_first, crc_of, crc32_high_of}
use Rattle.cook_bits.specs.Laws.{ParityLeavesZero, OnlyParityLeavesZero}
use Rattle.cook_bits.proofs.Division.{zeros, length-remainder_of, remainder_of_self, only_remainder}
use Rattle.cook_bits.proofs.Numbers.{length-low_bits, low_bits_of_zero, number_of-low_bits, low_bits_back}
use Rattle.cook_bits.proofs.Orders.{IsOrder-highest_first}
use Rattle.cook_bits.proofs.Checks.{crc_of-append}
use Rattle.cook_bits.proofs.Fields.{bits_of-bytes_high_first, are_bytes-bytes_high_first, length-bits_of, bytes_of-bits_of}

divisor : List Bool
divisor = low_bits 32 0x04C1_1DB7

-- the CRC of bytes and four more, from the CRC of the first
both_parts : (bytes more : List ℕ) → crc32_high_of (bytes ++ more) ≡ number_of (remainder_of divisor (low_bits 32 (crc32_high_of bytes)) (bits_of more))
unfolding crc32_high_of crc_of bits_of divisor
both_parts bytes more = crc_of-append highest_first IsOrder-highest_first 32 0x04C1_1DB7 0 bytes more

parity_leaves_zero : (bytes : List ℕ) → crc32_high_of (bytes ++ bytes_high_first 4 (crc32_high_of bytes)) ≡ 0
unfolding divisor
parity_leaves_zero bytes =
    let crc = crc32_high_of bytes in
    let start = low_bits 32 crc in
    both_parts bytes (bytes_high_first 4 crc)
    ∙ ap (λ message. number_of (remainder_of divisor start message)) (bits_of-bytes_high_first 4 crc)
    ∙ ap number_of (remainder_of_self divisor start (length-low_bits 32 crc ∙ sym (length-low_bits 32 0x04C1_1DB7)))
    ∙ ap (λ n. number_of (zeros n)) (length-low_bits 32 0x04C1_1DB7)
    ∙ ap number_of (sym (low_bits_of_zero 32))
    ∙ number_of-low_bits 32 0

pub parity : ParityLeavesZero
parity = parity_leaves_zero

divisor_len : length divisor ≡ 32
unfolding divisor
divisor_len = length-low_bits 32 0x04C1_1DB7

divisor_ends : divisor ≡ low_bits 31 0x0260_8EDB ++ true ∷ []
unfolding divisor low_bits
divisor_ends = refl

only : (bytes more : List ℕ) → AreBytes more → length more ≡ 4 → crc32_high_of (bytes ++ more) ≡ 0 → more ≡ bytes_high_first 4 (crc32_high_of bytes)
only bytes more are four none =
    let crc = crc32_high_of bytes in
    let start = low_bits 32 crc in
    let message = bits_of more in
    let front = low_bits 31 0x0260_8EDB in
    let d = front ++ true ∷ [] in
    let left = remainder_of d start message in
    let len_front : length front ≡ 31 = length-low_bits 31 0x0260_8EDB in
    let len_d : length d ≡ 32 = sym (ap length divisor_ends) ∙ divisor_len in
    let nothing : number_of left ≡ 0 = ap (λ row. number_of (remainder_of row start message)) (sym divisor_ends) ∙ sym (both_parts bytes more) ∙ none in
    let zero_row : left ≡ zeros 32 = sym (low_bits_back 32 left (length-remainder_of d start message ∙ len_d)) ∙ ap (low_bits 32) nothing ∙ low_bits_of_zero 32 in
    let n : suc (length front) ≡ 32 = ap suc len_front in
    let len_message : length message ≡ 32 = length-bits_of more ∙ ap (λ k. 8 * k) four in
    let same : message ≡ start = only_remainder front start message (length-low_bits 32 crc ∙ sym n) (len_message ∙ sym n) (zero_row ∙ ap zeros (sym n)) in
    sym (bytes_of-bits_of more are)
    ∙ ap bytes_of (same ∙ sym (bits_of-bytes_high_first 4 crc))
    ∙ bytes_of-bits_of (bytes_high_first 4 crc) (are_bytes-bytes_high_first 4 crc)

pub only_parity : OnlyParityLeavesZero
only_parity = only
