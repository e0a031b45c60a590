-- A set of states among others: choices on a part of a list of states, and live lists put together.
use Rattle.std.proofs.Common.{◌≡◌, ℕ, ◌+◌, ◌-◌, ◌<◌, ◌≤◌, List, ◌++◌, length, take, drop, slice_index, sym, ap, ◌∙◌, subst, arith, inl, inr, append_assoc, length-append}
use Rattle.std.proofs.lemmas.Bool.{cases_lt}
use Rattle.std.proofs.lemmas.List.{get_or_append_left, get_or-append-add, get_or-take, get_or-drop, length-take-le, length-drop, length-map, map-append, take-append-drop}
use Rattle.range_coder.specs.Table.{IsLive, AreLive}
use Rattle.range_coder.specs.Reading.{Reader, ReadsOn}
use Rattle.range_coder.specs.Encoding.{Encoding}
use Rattle.range_coder.specs.Choices.{Choice, moved, UseSlots}
use Rattle.range_coder.specs.Interval.{narrowed}
use Rattle.range_coder.specs.Coding.{Puts, PutsFront, Gets}
use Rattle.range_coder.proofs.ChoiceLaws.{decided-moved, states_after-moved, slots_left}

-- live lists put together, and parts of them
pub live_append : (table left right : List ℕ) → AreLive table left → AreLive table right → AreLive table (left ++ right)
live_append table left right l r = record {
  each = λ slot below.
      let len : length (left ++ right) ≡ length left + length right = length-append left right in
      elim (cases_lt slot (length left)) [
        | inl h ↦ (let same : slice_index (left ++ right) slot ≡ slice_index left slot = get_or_append_left left right 0 slot h in subst (λ (n : ℕ). IsLive table n) (sym same) (l.each slot h))
        | inr h ↦
            (let e : slot ≡ length left + (slot - length left) = omega arith in
            let same : slice_index (left ++ right) slot ≡ slice_index right (slot - length left) = ap (slice_index (left ++ right)) e ∙ get_or-append-add left right (slot - length left) 0 in
            subst (λ (n : ℕ). IsLive table n) (sym same) (r.each (slot - length left) (omega arith)))
      ];
}

pub live_take : (table states : List ℕ) (n : ℕ) → n ≤ length states → AreLive table states → AreLive table (take n states)
live_take table states n within are = record {
  each = λ slot below.
      let len : length (take n states) ≡ n = length-take-le n states within in
      let h : slot < n = omega arith in
      let same : slice_index (take n states) slot ≡ slice_index states slot = get_or-take n states slot 0 h in
      subst (λ (m : ℕ). IsLive table m) (sym same) (are.each slot (omega arith));
}

pub live_drop : (table states : List ℕ) (n : ℕ) → AreLive table states → AreLive table (drop n states)
live_drop table states n are = record {
  each = λ slot below.
      let len : length (drop n states) ≡ length states - n = length-drop n states in
      let same : slice_index (drop n states) slot ≡ slice_index states (n + slot) = get_or-drop n states slot 0 in
      subst (λ (m : ℕ). IsLive table m) (sym same) (are.each (n + slot) (omega arith));
}

-- choices on the states in the middle
gets_among : (table front mid behind : List ℕ) (before : Reader) (after : Reader) (left : List ℕ) (choices : List Choice) → UseSlots (length mid) choices → Gets table before mid after left choices → Gets table before (front ++ mid ++ behind) after (front ++ left ++ behind) (moved (length front) choices)
gets_among table front mid behind before after left choices uses g = record {
  reads = subst (ReadsOn before after) (sym (decided-moved table front mid behind choices uses)) g.reads;
  adapts = ap (λ (xs : List ℕ). front ++ xs ++ behind) g.adapts ∙ sym (states_after-moved table front mid behind choices uses);
}

puts_among : (table front mid behind : List ℕ) (before : Encoding) (after : Encoding) (left : List ℕ) (choices : List Choice) → UseSlots (length mid) choices → Puts table before mid after left choices → Puts table before (front ++ mid ++ behind) after (front ++ left ++ behind) (moved (length front) choices)
puts_among table front mid behind before after left choices uses p =
    let spare : before.spare ≤ after.spare + length choices = p.spare in
    let len : length (moved (length front) choices) ≡ length choices = length-map choices _ in
    record {
      interval = p.interval ∙ ap (narrowed before.interval) (sym (decided-moved table front mid behind choices uses));
      adapts = ap (λ (xs : List ℕ). front ++ xs ++ behind) p.adapts ∙ sym (states_after-moved table front mid behind choices uses);
      spare = omega arith;
    }

front_among : (table front mid behind : List ℕ) (before : Encoding) (after : Encoding) (left : List ℕ) (choices : List Choice) → UseSlots (length mid) choices → PutsFront table before mid after left choices → PutsFront table before (front ++ mid ++ behind) after (front ++ left ++ behind) (moved (length front) choices)
front_among table front mid behind before after left choices uses p =
    let place : Choice → Choice = λ c. record { slot = length front + c.slot; bit = c.bit } in
    let uses' : UseSlots (length mid) (p.front ++ p.rest) = subst (UseSlots (length mid)) p.is uses in
    let some : 1 ≤ length p.rest = p.some in
    let short : before.spare < length choices = p.short in
    let len : length (moved (length front) p.rest) ≡ length p.rest = length-map p.rest _ in
    let len' : length (moved (length front) choices) ≡ length choices = length-map choices _ in
    record {
      front = moved (length front) p.front;
      rest = moved (length front) p.rest;
      is = ap (moved (length front)) p.is ∙ map-append place p.front p.rest;
      some = omega arith;
      puts = puts_among table front mid behind before after left p.front (slots_left (length mid) p.front p.rest uses') p.puts;
      short = omega arith;
    }

-- a part of a list has its length
part_len : (states : List ℕ) (first k : ℕ) → first + k ≤ length states → length (take k (drop first states)) ≡ k
part_len states first k within =
    let len : length (drop first states) ≡ length states - first = length-drop first states in
    length-take-le k (drop first states) (omega arith)

whole_is : (states : List ℕ) (first k : ℕ) → take first states ++ take k (drop first states) ++ drop k (drop first states) ≡ states
whole_is states first k =
    append_assoc (take first states) (take k (drop first states)) (drop k (drop first states))
    ∙ ap (λ (xs : List ℕ). take first states ++ xs) (take-append-drop k (drop first states))
    ∙ take-append-drop first states

-- what holds of the parts put together holds of the whole
by_parts : (P : List ℕ → List ℕ → ℕ → Type 0) (states left : List ℕ) (first k : ℕ) → first + k ≤ length states → P (take first states ++ take k (drop first states) ++ drop k (drop first states)) (take first states ++ left ++ drop k (drop first states)) (length (take first states)) → P states (take first states ++ (left ++ drop k (drop first states))) first
by_parts P states left first k within p =
    let len : length (take first states) ≡ first = length-take-le first states (omega arith) in
    let p1 = subst (λ (xs : List ℕ). P xs (take first states ++ left ++ drop k (drop first states)) (length (take first states))) (whole_is states first k) p in
    let p2 = subst (λ (n : ℕ). P states (take first states ++ left ++ drop k (drop first states)) n) len p1 in
    subst (λ (xs : List ℕ). P states xs first) (append_assoc (take first states) left (drop k (drop first states))) p2

uses_part : (states : List ℕ) (first k : ℕ) (choices : List Choice) → first + k ≤ length states → UseSlots k choices → UseSlots (length (take k (drop first states))) choices
uses_part states first k choices within uses =
    subst (λ (n : ℕ). UseSlots n choices) (sym (part_len states first k within)) uses

-- choices on a part of the states are choices moved to where it begins
pub gets_mid : (table : List ℕ) (before : Reader) (states : List ℕ) (after : Reader) (left : List ℕ) (first k : ℕ) (choices : List Choice) → first + k ≤ length states → UseSlots k choices → Gets table before (take k (drop first states)) after left choices → Gets table before states after (take first states ++ (left ++ drop k (drop first states))) (moved first choices)
gets_mid table before states after left first k choices within uses g =
    by_parts (λ xs ys n. Gets table before xs after ys (moved n choices)) states left first k within
    (gets_among table (take first states) (take k (drop first states)) (drop k (drop first states)) before after left choices (uses_part states first k choices within uses) g)

pub puts_mid : (table : List ℕ) (before : Encoding) (states : List ℕ) (after : Encoding) (left : List ℕ) (first k : ℕ) (choices : List Choice) → first + k ≤ length states → UseSlots k choices → Puts table before (take k (drop first states)) after left choices → Puts table before states after (take first states ++ (left ++ drop k (drop first states))) (moved first choices)
puts_mid table before states after left first k choices within uses p =
    by_parts (λ xs ys n. Puts table before xs after ys (moved n choices)) states left first k within
    (puts_among table (take first states) (take k (drop first states)) (drop k (drop first states)) before after left choices (uses_part states first k choices within uses) p)

pub front_mid : (table : List ℕ) (before : Encoding) (states : List ℕ) (after : Encoding) (left : List ℕ) (first k : ℕ) (choices : List Choice) → first + k ≤ length states → UseSlots k choices → PutsFront table before (take k (drop first states)) after left choices → PutsFront table before states after (take first states ++ (left ++ drop k (drop first states))) (moved first choices)
front_mid table before states after left first k choices within uses p =
    by_parts (λ xs ys n. PutsFront table before xs after ys (moved n choices)) states left first k within
    (front_among table (take first states) (take k (drop first states)) (drop k (drop first states)) before after left choices (uses_part states first k choices within uses) p)

pub live_mid : (table states left : List ℕ) (first k : ℕ) → first + k ≤ length states → AreLive table states → AreLive table left → AreLive table (take first states ++ (left ++ drop k (drop first states)))
live_mid table states left first k within are new =
    live_append table (take first states) (left ++ drop k (drop first states))
    (live_take table states first (omega arith) are)
    (live_append table left (drop k (drop first states)) new (live_drop table (drop first states) k (live_drop table states first are)))

-- the same for a set of 32, whose bounds are known by what they are
set_within : (first k n : ℕ) → k ≡ 32 → first + 32 ≤ n → first + k ≤ n
set_within first k n is within = omega arith

pub gets_set : (table : List ℕ) (before : Reader) (states : List ℕ) (after : Reader) (left : List ℕ) (first k : ℕ) (choices : List Choice) → k ≡ 32 → first + 32 ≤ length states → UseSlots 32 choices → Gets table before (take k (drop first states)) after left choices → Gets table before states after (take first states ++ (left ++ drop k (drop first states))) (moved first choices)
gets_set table before states after left first k choices is within uses g =
    gets_mid table before states after left first k choices (set_within first k (length states) is within) (subst (λ (n : ℕ). UseSlots n choices) (sym is) uses) g

pub puts_set : (table : List ℕ) (before : Encoding) (states : List ℕ) (after : Encoding) (left : List ℕ) (first k : ℕ) (choices : List Choice) → k ≡ 32 → first + 32 ≤ length states → UseSlots 32 choices → Puts table before (take k (drop first states)) after left choices → Puts table before states after (take first states ++ (left ++ drop k (drop first states))) (moved first choices)
puts_set table before states after left first k choices is within uses p =
    puts_mid table before states after left first k choices (set_within first k (length states) is within) (subst (λ (n : ℕ). UseSlots n choices) (sym is) uses) p

pub front_set : (table : List ℕ) (before : Encoding) (states : List ℕ) (after : Encoding) (left : List ℕ) (first k : ℕ) (choices : List Choice) → k ≡ 32 → first + 32 ≤ length states → UseSlots 32 choices → PutsFront table before (take k (drop first states)) after left choices → PutsFront table before states after (take first states ++ (left ++ drop k (drop first states))) (moved first choices)
front_set table before states after left first k choices is within uses p =
    front_mid table before states after left first k choices (set_within first k (length states) is within) (subst (λ (n : ℕ). UseSlots n choices) (sym is) uses) p

pub live_set_mid : (table states left : List ℕ) (first k : ℕ) → k ≡ 32 → first + 32 ≤ length states → AreLive table states → AreLive table left → AreLive table (take first states ++ (left ++ drop k (drop first states)))
live_set_mid table states left first k is within are new =
    live_mid table states left first k (set_within first k (length states) is within) are new
