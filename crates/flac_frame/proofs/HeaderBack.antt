-- The header of a frame that is written is read.
use Rattle.std.proofs.Common.{◌≡◌, ℕ, zero, suc, ◌-◌, ◌+◌, ◌*◌, ◌/◌, ◌%◌, ◌^◌, ◌≤◌, ◌<◌, Bool, true, false, ◌==◌, nat_le, nat_lt, if◌then◌else◌, ◌||◌, List, [], ◌++◌, Ok, refl, sym, ap, ◌∙◌, append_assoc, arith}
use Rattle.std.proofs.lemmas.Bool.{le-leb, lt-ltb, le-ltb, eq-eqb, eqb-true, ltb-true, ltb-false}
use Rattle.cook_bits.specs.Bits.{low_bits}
use Rattle.cook_bits.specs.Laws.{WrittenFieldIsRead}
use Rattle.flac_frame.specs.declared.error.FlacWhy.TheVariants.{Sync, Header as Refused}
use Rattle.flac_frame.specs.declared.stream_info.StreamInfo.{StreamInfo}
use Rattle.flac_frame.specs.StreamInfo.{is_depth}
use Rattle.flac_frame.specs.Header.{is_size_code, is_rate_code, channels_by, bits_by, is_first, bytes_behind, is_later, later_at, coded_at, size_at, rate_at, header_at}
use Rattle.flac_frame.specs.Writing.{size_code_of, bits_code_of, bytes_more, lead_of, later_bits, coded_bits, size_bits, header_bits}
use Rattle.flac_frame.proofs.RoundLaws.{field_back, accept_back, expect_back}

-- fields behind one more
pub behind : (a x rest all : List Bool) → x ++ rest ≡ all → a ++ x ++ rest ≡ a ++ all
behind a x rest all e = append_assoc a x rest ∙ ap (λ (bits : List Bool). a ++ bits) e

later_back : WrittenFieldIsRead → (count number : ℕ) (rest : List Bool) → later_at count (later_bits count number ++ rest) ≡ Ok rest
unfolding later_at later_bits
later_back law zero number rest = refl
later_back law (suc count) number rest =
    let byte = 128 + number / 2 ^ (6 * count) % 64 in
    let after = later_bits count number ++ rest in
    let split : low_bits 8 byte ++ later_bits count number ++ rest ≡ low_bits 8 byte ++ after = append_assoc (low_bits 8 byte) (later_bits count number) rest in
    let low : nat_le 128 byte ≡ true = le-leb 128 byte (omega arith) in
    let high : nat_lt byte 192 ≡ true = lt-ltb byte 192 (omega arith) in
    let t : is_later byte ≡ true = rw (low, high) refl in
    let f = accept_back law 8 byte is_later Refused after (omega arith) t in
    let more = later_back law count number rest in
    rw (split, f, more) refl

record IsLead (count byte : ℕ) : Type 0 where
  fits : byte < 2 ^ 8
  first : is_first byte ≡ true
  behind : bytes_behind byte ≡ count

lead_0 : (byte : ℕ) → byte < 128 → IsLead 0 byte
lead_0 byte lt =
    let a : nat_lt byte 128 ≡ true = lt-ltb byte 128 lt in
    let b : nat_lt byte 192 ≡ true = lt-ltb byte 192 (omega arith) in
    record { fits = omega arith; first = rw a refl; behind = rw b refl }

past : (byte : ℕ) → 192 ≤ byte → byte < 255 → is_first byte ≡ true
past byte le lt =
    let a : nat_lt byte 128 ≡ false = le-ltb byte 128 (omega arith) in
    let b : nat_lt byte 192 ≡ false = le-ltb byte 192 le in
    let c : nat_lt byte 255 ≡ true = lt-ltb byte 255 lt in
    rw (a, b, c) refl

lead_1 : (byte : ℕ) → 192 ≤ byte → byte < 224 → IsLead 1 byte
lead_1 byte le lt =
    let b : nat_lt byte 192 ≡ false = le-ltb byte 192 le in
    let c : nat_lt byte 224 ≡ true = lt-ltb byte 224 lt in
    record { fits = omega arith; first = past byte (omega arith) (omega arith); behind = rw (b, c) refl }

lead_2 : (byte : ℕ) → 224 ≤ byte → byte < 240 → IsLead 2 byte
lead_2 byte le lt =
    let b : nat_lt byte 192 ≡ false = le-ltb byte 192 (omega arith) in
    let c : nat_lt byte 224 ≡ false = le-ltb byte 224 le in
    let d : nat_lt byte 240 ≡ true = lt-ltb byte 240 lt in
    record { fits = omega arith; first = past byte (omega arith) (omega arith); behind = rw (b, c, d) refl }

lead_3 : (byte : ℕ) → 240 ≤ byte → byte < 248 → IsLead 3 byte
lead_3 byte le lt =
    let b : nat_lt byte 192 ≡ false = le-ltb byte 192 (omega arith) in
    let c : nat_lt byte 224 ≡ false = le-ltb byte 224 (omega arith) in
    let d : nat_lt byte 240 ≡ false = le-ltb byte 240 le in
    let e : nat_lt byte 248 ≡ true = lt-ltb byte 248 lt in
    record { fits = omega arith; first = past byte (omega arith) (omega arith); behind = rw (b, c, d, e) refl }

lead_4 : (byte : ℕ) → 248 ≤ byte → byte < 252 → IsLead 4 byte
lead_4 byte le lt =
    let b : nat_lt byte 192 ≡ false = le-ltb byte 192 (omega arith) in
    let c : nat_lt byte 224 ≡ false = le-ltb byte 224 (omega arith) in
    let d : nat_lt byte 240 ≡ false = le-ltb byte 240 (omega arith) in
    let e : nat_lt byte 248 ≡ false = le-ltb byte 248 le in
    let f : nat_lt byte 252 ≡ true = lt-ltb byte 252 lt in
    record { fits = omega arith; first = past byte (omega arith) (omega arith); behind = rw (b, c, d, e, f) refl }

lead_5 : (byte : ℕ) → 252 ≤ byte → byte < 254 → IsLead 5 byte
lead_5 byte le lt =
    let b : nat_lt byte 192 ≡ false = le-ltb byte 192 (omega arith) in
    let c : nat_lt byte 224 ≡ false = le-ltb byte 224 (omega arith) in
    let d : nat_lt byte 240 ≡ false = le-ltb byte 240 (omega arith) in
    let e : nat_lt byte 248 ≡ false = le-ltb byte 248 (omega arith) in
    let f : nat_lt byte 252 ≡ false = le-ltb byte 252 le in
    let g : nat_lt byte 254 ≡ true = lt-ltb byte 254 lt in
    record { fits = omega arith; first = past byte (omega arith) (omega arith); behind = rw (b, c, d, e, f, g) refl }

-- the first byte, by the number's size
abbrev lead : ℕ → ℕ → ℕ
lead count number = lead_of count + number / 2 ^ (6 * count)

abbrev count_by : Bool → Bool → Bool → Bool → Bool → ℕ
count_by a b c d e = if a then 0 else if b then 1 else if c then 2 else if d then 3 else if e then 4 else 5

lead_by : (number : ℕ) (a b c d e : Bool) → number < 2 ^ 31 → nat_lt number (2 ^ 7) ≡ a → nat_lt number (2 ^ 11) ≡ b → nat_lt number (2 ^ 16) ≡ c → nat_lt number (2 ^ 21) ≡ d → nat_lt number (2 ^ 26) ≡ e
    → IsLead (count_by a b c d e) (lead (count_by a b c d e) number)
lead_by number true b c d e lt ta tb tc td te = let h : number < 2 ^ 7 = ltb-true number (2 ^ 7) ta in lead_0 (lead 0 number) (omega arith)
lead_by number false true c d e lt ta tb tc td te =
    let l : 2 ^ 7 ≤ number = ltb-false number (2 ^ 7) ta in
    let h : number < 2 ^ 11 = ltb-true number (2 ^ 11) tb in
    lead_1 (lead 1 number) (omega arith) (omega arith)
lead_by number false false true d e lt ta tb tc td te =
    let h : number < 2 ^ 16 = ltb-true number (2 ^ 16) tc in
    lead_2 (lead 2 number) (omega arith) (omega arith)
lead_by number false false false true e lt ta tb tc td te =
    let h : number < 2 ^ 21 = ltb-true number (2 ^ 21) td in
    lead_3 (lead 3 number) (omega arith) (omega arith)
lead_by number false false false false true lt ta tb tc td te =
    let h : number < 2 ^ 26 = ltb-true number (2 ^ 26) te in
    lead_4 (lead 4 number) (omega arith) (omega arith)
lead_by number false false false false false lt ta tb tc td te = lead_5 (lead 5 number) (omega arith) (omega arith)

coded_back : WrittenFieldIsRead → (number : ℕ) (rest : List Bool) → number < 2 ^ 31 → coded_at (coded_bits number ++ rest) ≡ Ok rest
unfolding coded_at coded_bits
coded_back law number rest lt =
    let count = bytes_more number in
    let byte = lead count number in
    let after = later_bits count number ++ rest in
    let h : IsLead count byte = lead_by number (nat_lt number (2 ^ 7)) (nat_lt number (2 ^ 11)) (nat_lt number (2 ^ 16)) (nat_lt number (2 ^ 21)) (nat_lt number (2 ^ 26)) lt refl refl refl refl refl in
    let split : low_bits 8 byte ++ later_bits count number ++ rest ≡ low_bits 8 byte ++ after = append_assoc (low_bits 8 byte) (later_bits count number) rest in
    let f = accept_back law 8 byte is_first Refused after h.fits h.first in
    let n = h.behind in
    let more = later_back law count number rest in
    rw (split, f, n) more

size_back_by : WrittenFieldIsRead → (most size : ℕ) (rest : List Bool) (b : Bool) → (size == 4096) ≡ b → 1 ≤ size → size ≤ 4096 → size ≤ most
    → size_at most (if b then 12 else 7) ((if b then [] else low_bits 16 (size - 1)) ++ rest) ≡ Ok (size, rest)
unfolding size_at
size_back_by law most size rest true t some few within = let is : size ≡ 4096 = eqb-true size 4096 t in rw is refl
size_back_by law most size rest false t some few within =
    let e : size - 1 + 1 ≡ size = omega arith in
    let ok : nat_le (size - 1 + 1) most ≡ true = le-leb (size - 1 + 1) most (omega arith) in
    let f = accept_back law 16 (size - 1) (λ less. nat_le (less + 1) most) Refused rest (omega arith) ok in
    rw f (ap (λ (n : ℕ). Ok (n, rest)) e)

size_back : WrittenFieldIsRead → (most size : ℕ) (rest : List Bool) → 1 ≤ size → size ≤ 4096 → size ≤ most → size_at most (size_code_of size) (size_bits size ++ rest) ≡ Ok (size, rest)
unfolding size_bits
size_back law most size rest some few within = size_back_by law most size rest (size == 4096) refl some few within

size_accepted : (most size : ℕ) (b : Bool) → (size == 4096) ≡ b → size ≤ most → is_size_code most (if b then 12 else 7) ≡ true
size_accepted most size true t within = let is : size ≡ 4096 = eqb-true size 4096 t in le-leb 4096 most (omega arith)
size_accepted most size false t within = refl

size_code_small : (b : Bool) → (if b then 12 else 7) < 2 ^ 4
size_code_small true = omega arith
size_code_small false = omega arith

record IsCoded (depth code : ℕ) : Type 0 where
  fits : code < 2 ^ 3
  is : bits_by depth code ≡ depth

bits_coded : (depth : ℕ) (a b : Bool) → (depth == 8) ≡ a → (depth == 16) ≡ b → ((depth == 8) || (depth == 16) || (depth == 24)) ≡ true → IsCoded depth (if a then 1 else if b then 4 else 6)
bits_coded depth true b ta tb t = record { fits = omega arith; is = sym (eqb-true depth 8 ta) }
bits_coded depth false true ta tb t = record { fits = omega arith; is = sym (eqb-true depth 16 tb) }
bits_coded depth false false ta tb t = record { fits = omega arith; is = sym (eqb-true depth 24 (rw (ta, tb) at t)) }

pub header_back : WrittenFieldIsRead → (info : StreamInfo) (most code size number : ℕ) (rest : List Bool) → is_depth info.bits ≡ true → code < 2 ^ 4 → channels_by code ≡ info.channels
    → 1 ≤ size → size ≤ 4096 → size ≤ most → number < 2 ^ 31
    → header_at info most (header_bits info.bits code size number ++ rest) ≡ Ok (record { size = size; channel_code = code }, rest)
unfolding header_at header_bits rate_at
header_back law info most code size number rest depth small channels some few within lt =
    let coded = bits_coded info.bits (info.bits == 8) (info.bits == 16) refl refl depth in
    let r9 = size_bits size ++ rest in
    let r8 = coded_bits number ++ r9 in
    let r7 = low_bits 1 0 ++ r8 in
    let r6 = low_bits 3 (bits_code_of info.bits) ++ r7 in
    let r5 = low_bits 4 code ++ r6 in
    let r4 = low_bits 4 0 ++ r5 in
    let r3 = low_bits 4 (size_code_of size) ++ r4 in
    let r2 = low_bits 1 0 ++ r3 in
    let s8 = append_assoc (coded_bits number) (size_bits size) rest in
    let s7 = behind (low_bits 1 0) (coded_bits number ++ size_bits size) rest r8 s8 in
    let s6 = behind (low_bits 3 (bits_code_of info.bits)) (low_bits 1 0 ++ (coded_bits number ++ size_bits size)) rest r7 s7 in
    let s5 = behind (low_bits 4 code) _ rest r6 s6 in
    let s4 = behind (low_bits 4 0) _ rest r5 s5 in
    let s3 = behind (low_bits 4 (size_code_of size)) _ rest r4 s4 in
    let s2 = behind (low_bits 1 0) _ rest r3 s3 in
    let s1 = behind (low_bits 15 0x7FFC) _ rest r2 s2 in
    let f1 = expect_back law 15 0x7FFC Sync r2 (omega arith) in
    let f2 = field_back law 1 0 r3 (omega arith) in
    let f3 = accept_back law 4 (size_code_of size) (is_size_code most) Refused r4 (size_code_small (size == 4096)) (size_accepted most size (size == 4096) refl within) in
    let f4 = accept_back law 4 0 is_rate_code Refused r5 (omega arith) refl in
    let f5 = accept_back law 4 code (λ code. channels_by code == info.channels) Refused r6 small (eq-eqb (channels_by code) info.channels channels) in
    let f6 = accept_back law 3 (bits_code_of info.bits) (λ code. bits_by info.bits code == info.bits) Refused r7 coded.fits (eq-eqb (bits_by info.bits (bits_code_of info.bits)) info.bits coded.is) in
    let f7 = expect_back law 1 0 Refused r8 (omega arith) in
    let f8 = coded_back law number r9 lt in
    let f9 = size_back law most size rest some few within in
    rw (s1, f1, f2, f3, f4, f5, f6, f7, f8, f9) refl
