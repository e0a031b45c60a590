-- A one added to the number that bytes spell, from the last byte on.
use Rattle.std.proofs.Common.{◌≡◌, ℕ, suc, ◌+◌, ◌-◌, ◌*◌, ◌^◌, ◌<◌, ◌≤◌, List, [], ◌∷◌, ◌++◌, ◌%◌, length, take, drop, slice_index, slice_set, refl, ap, ◌∙◌, arith, length-append}
use Rattle.std.proofs.Math.Nat.{pow-suc}
use Rattle.std.proofs.lemmas.List.{get_or-set_other, get_or_at, take_all, append-nil, drop_all}
use Rattle.range_coder.specs.Interval.{first_bytes}
use Rattle.range_coder.specs.Encoding.{number_in}
use Rattle.range_coder.proofs.Intervals.{power_more}
use Rattle.range_coder.proofs.Numbers.{first_bytes-set, first_bytes-append, first_bytes-push}

-- the bytes before `end` lack a one at the place `at`, and those behind are the same
pub record Carried (before : List ℕ) (end : ℕ) (bytes : List ℕ) (at : ℕ) : Type 0 where
  pub within : at ≤ end
  pub number : first_bytes end bytes + 256 ^ (end - at) ≡ first_bytes end before + 1
  pub behind : (k : ℕ) → end ≤ k → slice_index bytes k ≡ slice_index before k

-- a byte of 255 becomes 0, and the one is added before it
pub carried_on : (before : List ℕ) (end : ℕ) (bytes : List ℕ) (at : ℕ) → Carried before end bytes at → 0 < at → end ≤ length bytes → slice_index bytes (at - 1) ≡ 255 → Carried before end (slice_set bytes (at - 1) 0) (at - 1)
carried_on before end bytes at c some within full =
    let low : at ≤ end = c.within in
    let number : first_bytes end bytes + 256 ^ (end - at) ≡ first_bytes end before + 1 = c.number in
    let changed = first_bytes-set end bytes (at - 1) 0 (omega arith) (omega arith) in
    let worth : end - 1 - (at - 1) ≡ end - at = omega arith in
    let changed' : first_bytes end (slice_set bytes (at - 1) 0) + 255 * 256 ^ (end - at) ≡ first_bytes end bytes + 0 * 256 ^ (end - at) = rw (full, worth) at changed in
    let more : end - (at - 1) ≡ suc (end - at) = omega arith in
    let power : 256 ^ suc (end - at) ≡ 256 ^ (end - at) * 256 = pow-suc 256 (end - at) in
    record {
      within = omega arith;
      number = rw (more, power) (omega arith);
      behind = λ k h. get_or-set_other bytes (at - 1) k 0 0 (λ (e : k ≡ at - 1). omega arith) ∙ c.behind k h;
    }

-- any other byte takes it
pub record Added (before : List ℕ) (end : ℕ) (bytes : List ℕ) : Type 0 where
  pub number : first_bytes end bytes ≡ first_bytes end before + 1
  pub behind : (k : ℕ) → end ≤ k → slice_index bytes k ≡ slice_index before k

pub carried_ends : (before : List ℕ) (end : ℕ) (bytes : List ℕ) (at : ℕ) → Carried before end bytes at → 0 < at → end ≤ length bytes → Added before end (slice_set bytes (at - 1) (slice_index bytes (at - 1) + 1))
carried_ends before end bytes at c some within =
    let low : at ≤ end = c.within in
    let number : first_bytes end bytes + 256 ^ (end - at) ≡ first_bytes end before + 1 = c.number in
    let byte : ℕ = slice_index bytes (at - 1) in
    let changed = first_bytes-set end bytes (at - 1) (slice_index bytes (at - 1) + 1) (omega arith) (omega arith) in
    let worth : end - 1 - (at - 1) ≡ end - at = omega arith in
    let changed' : first_bytes end (slice_set bytes (at - 1) (slice_index bytes (at - 1) + 1)) + slice_index bytes (at - 1) * 256 ^ (end - at) ≡ first_bytes end bytes + (slice_index bytes (at - 1) + 1) * 256 ^ (end - at) = rw worth at changed in
    record {
      number = omega arith;
      behind = λ k h. get_or-set_other bytes (at - 1) k (slice_index bytes (at - 1) + 1) 0 (λ (e : k ≡ at - 1). omega arith) ∙ c.behind k h;
    }

-- a digit of nine bits, pushed and carried
pub digit_carried : (old new : List ℕ) (end digit : ℕ) → length old ≡ end → 256 ≤ digit → digit < 512 → first_bytes end new ≡ first_bytes end (old ++ (digit % 256) ∷ []) + 1 → ((k : ℕ) → end ≤ k → slice_index new k ≡ slice_index (old ++ (digit % 256) ∷ []) k) → first_bytes (end + 1) new ≡ first_bytes end old * 256 + digit
unfolding first_bytes
digit_carried old new end digit len low high added behind =
    let last : slice_index new end ≡ digit % 256 = behind end (omega arith) ∙ get_or_at old (digit % 256) [] 0 end len in
    let front : first_bytes end (old ++ (digit % 256) ∷ []) ≡ first_bytes end old = first_bytes-append end old ((digit % 256) ∷ []) (omega arith) in
    let one : end + 1 ≡ suc end = omega arith in
    rw one (rw (last, added, front) (omega arith))

-- a digit of a byte, pushed
pub digit_pushed : (old : List ℕ) (digit : ℕ) → digit < 256 → number_in (old ++ (digit % 256) ∷ []) ≡ number_in old * 256 + digit
digit_pushed old digit low =
    let len : length (old ++ (digit % 256) ∷ []) ≡ length old + 1 = length-append old ((digit % 256) ∷ []) in
    let same : digit % 256 ≡ digit = omega arith in
    ap (λ (n : ℕ). first_bytes n (old ++ (digit % 256) ∷ [])) len ∙ first_bytes-push (length old) old (digit % 256) refl ∙ ap (λ (d : ℕ). number_in old * 256 + d) same

-- what is lent of a whole list comes back whole
pub lent_back : (n : ℕ) (new items : List ℕ) → length new ≡ length items → n ≡ length items → take n (new ++ drop (length new) items) ≡ new
lent_back n new items len is =
    let none : drop (length new) items ≡ [] = drop_all (length new) items (omega arith) in
    rw none (rw append-nil (take_all n new (omega arith)))

-- there is room for the carry of a digit, since there is room for the digit
pub carry_room : (old pushed : List ℕ) (end digit : ℕ) → end ≡ length old → pushed ≡ old ++ (digit % 256) ∷ [] → 256 ≤ digit → number_in old * 256 + digit < 256 ^ (length old + 1) → first_bytes end pushed + 1 < 256 ^ end
carry_room old pushed end digit len is low room =
    let front : first_bytes (length old) (old ++ (digit % 256) ∷ []) ≡ first_bytes (length old) old = first_bytes-append (length old) old ((digit % 256) ∷ []) (omega arith) in
    let power = power_more (length old) in
    rw (len, is, front) (omega arith)

-- the whole number after a digit and its carry
pub carried_whole : (old pushed new items : List ℕ) (end n digit : ℕ) → end ≡ length old → pushed ≡ old ++ (digit % 256) ∷ [] → items ≡ pushed → length new ≡ length items → n ≡ length items → 256 ≤ digit → digit < 512 → first_bytes end new ≡ first_bytes end pushed + 1 → ((k : ℕ) → end ≤ k → slice_index new k ≡ slice_index pushed k) → number_in (take n (new ++ drop (length new) items)) ≡ number_in old * 256 + digit
carried_whole old pushed new items end n digit len is same new_len n_len low high added behind =
    let whole = lent_back n new items new_len n_len in
    let pushed_len : length (old ++ (digit % 256) ∷ []) ≡ length old + 1 = length-append old ((digit % 256) ∷ []) in
    let items_len : length items ≡ length old + 1 = ap length (same ∙ is) ∙ pushed_len in
    let all : length new ≡ length old + 1 = new_len ∙ items_len in
    let added' : first_bytes (length old) new ≡ first_bytes (length old) (old ++ (digit % 256) ∷ []) + 1 = rw (len, is) at added in
    let behind' : (k : ℕ) → length old ≤ k → slice_index new k ≡ slice_index (old ++ (digit % 256) ∷ []) k = λ k h. behind k (omega arith) ∙ ap (λ (xs : List ℕ). slice_index xs k) is in
    let carried = digit_carried old new (length old) digit refl low high added' behind' in
    rw whole (ap (λ (m : ℕ). first_bytes m new) all ∙ carried)

pub digit_whole : (old items : List ℕ) (digit : ℕ) → items ≡ old ++ (digit % 256) ∷ [] → digit < 256 → number_in items ≡ number_in old * 256 + digit
digit_whole old items digit is low = ap number_in is ∙ digit_pushed old digit low

pub ruleset carries = (carried_on, carried_ends)
