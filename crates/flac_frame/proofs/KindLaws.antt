-- What a kind of subframe that is accepted says of its order.
use Rattle.std.proofs.Common.{◌≡◌, ℕ, ◌-◌, ◌≤◌, ◌<◌, Bool, true, false, ◌&&◌, nat_le, nat_lt, refl, arith}
use Rattle.std.proofs.lemmas.Bool.{leb-true, ltb-true, lt-ltb, le-ltb}
use Rattle.flac_frame.specs.Subframe.{is_kind}

both_parts : (a b : Bool) → (a && b) ≡ true → (a ≡ true) × (b ≡ true)
both_parts true b e = (refl, e)
both_parts false b e = absurd (cc)

pub record IsFixed (size code : ℕ) : Type 0 where
  pub low : 8 ≤ code
  pub high : code ≤ 12
  pub enough : code - 8 < size

pub is_fixed : (size code : ℕ) → is_kind size code ≡ true → 2 ≤ code → code < 32 → IsFixed size code
is_fixed size code t two few =
    let past : nat_lt code 2 ≡ false = le-ltb code 2 two in
    let below : nat_lt code 32 ≡ true = lt-ltb code 32 few in
    let all : (nat_le 8 code && nat_le code 12 && nat_lt (code - 8) size) ≡ true = rw (past, below) at t in
    let outer = both_parts (nat_le 8 code && nat_le code 12) (nat_lt (code - 8) size) all in
    let inner = both_parts (nat_le 8 code) (nat_le code 12) outer.0 in
    record { low = leb-true 8 code inner.0; high = leb-true code 12 inner.1; enough = ltb-true (code - 8) size outer.1 }

pub is_linear : (size code : ℕ) → is_kind size code ≡ true → 32 ≤ code → code - 31 < size
is_linear size code t many =
    let past : nat_lt code 2 ≡ false = le-ltb code 2 (omega arith) in
    let over : nat_lt code 32 ≡ false = le-ltb code 32 many in
    let last : nat_lt (code - 31) size ≡ true = rw (past, over) at t in
    ltb-true (code - 31) size last
