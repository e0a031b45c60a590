-- Choices put or got one after another.
use Rattle.std.proofs.Common.{◌≡◌, ℕ, ◌+◌, ◌<◌, ◌≤◌, List, [], ◌++◌, length, refl, sym, ap, ◌∙◌, subst, arith, append_assoc, length-append}
use Rattle.range_coder.specs.Interval.{Interval, narrowed}
use Rattle.range_coder.specs.Reading.{Reader, ReadsOn}
use Rattle.range_coder.specs.Encoding.{Encoding}
use Rattle.range_coder.specs.Choices.{Choice, states_after, decided, chosen}
use Rattle.range_coder.specs.Coding.{Puts, PutsFront, Gets}
use Rattle.range_coder.proofs.CodedLaws.{narrowed-append, read_on_joined}
use Rattle.range_coder.proofs.ChoiceLaws.{decided-append, states_after-append, length-states_after}

pub puts_nil : (table : List ℕ) (before : Encoding) (states : List ℕ) → Puts table before states before states []
unfolding narrowed decided states_after
puts_nil table before states = record { interval = refl; adapts = refl; spare = omega arith }

chosen-append : (table states : List ℕ) (i : Interval) (left right : List Choice) → chosen table states i (left ++ right) ≡ chosen table (states_after table states left) (chosen table states i left) right
chosen-append table states i left right =
    ap (narrowed i) (decided-append table states left right) ∙ narrowed-append i (decided table states left) (decided table (states_after table states left) right)

pub puts_more : (table : List ℕ) (before : Encoding) (states : List ℕ) (between : Encoding) (held : List ℕ) (after : Encoding) (left_states : List ℕ) (left right : List Choice) → Puts table before states between held left → Puts table between held after left_states right → Puts table before states after left_states (left ++ right)
puts_more table before states between held after left_states left right p q =
    let moved : Puts table between (states_after table states left) after left_states right = subst (λ (xs : List ℕ). Puts table between xs after left_states right) p.adapts q in
    let first : before.spare ≤ between.spare + length left = p.spare in
    let second : between.spare ≤ after.spare + length right = q.spare in
    let len : length (left ++ right) ≡ length left + length right = length-append left right in
    record {
      interval = moved.interval ∙ ap (λ (i : Interval). chosen table (states_after table states left) i right) p.interval ∙ sym (chosen-append table states before.interval left right);
      adapts = moved.adapts ∙ sym (states_after-append table states left right);
      spare = omega arith;
    }

-- a refusal in the second list, and in the first
pub puts_then_front : (table : List ℕ) (before : Encoding) (states : List ℕ) (between : Encoding) (held : List ℕ) (after : Encoding) (left_states : List ℕ) (left right : List Choice) → Puts table before states between held left → PutsFront table between held after left_states right → PutsFront table before states after left_states (left ++ right)
puts_then_front table before states between held after left_states left right p q =
    let first : before.spare ≤ between.spare + length left = p.spare in
    let short : between.spare < length right = q.short in
    let len : length (left ++ right) ≡ length left + length right = length-append left right in
    record {
      front = left ++ q.front;
      rest = q.rest;
      is = ap (λ (cs : List Choice). left ++ cs) q.is ∙ sym (append_assoc left q.front q.rest);
      some = q.some;
      puts = puts_more table before states between held after left_states left q.front p q.puts;
      short = omega arith;
    }

pub front_of_more : (table : List ℕ) (before : Encoding) (states : List ℕ) (after : Encoding) (left_states : List ℕ) (left right : List Choice) → PutsFront table before states after left_states left → PutsFront table before states after left_states (left ++ right)
front_of_more table before states after left_states left right q =
    let short : before.spare < length left = q.short in
    let len : length (left ++ right) ≡ length left + length right = length-append left right in
    record {
      front = q.front;
      rest = q.rest ++ right;
      is = ap (λ (cs : List Choice). cs ++ right) q.is ∙ append_assoc q.front q.rest right;
      some = let some : 1 ≤ length q.rest = q.some in omega (arith, length-append q.rest right);
      puts = q.puts;
      short = omega arith;
    }

pub gets_nil : (table : List ℕ) (before : Reader) (states : List ℕ) → Gets table before states before states []
unfolding narrowed decided states_after
gets_nil table before states = record { reads = record { reads = λ bytes i h. h }; adapts = refl }

pub gets_more : (table : List ℕ) (before : Reader) (states : List ℕ) (between : Reader) (held : List ℕ) (after : Reader) (left_states : List ℕ) (left right : List Choice) → Gets table before states between held left → Gets table between held after left_states right → Gets table before states after left_states (left ++ right)
gets_more table before states between held after left_states left right p q =
    let moved : Gets table between (states_after table states left) after left_states right = subst (λ (xs : List ℕ). Gets table between xs after left_states right) p.adapts q in
    record {
      reads = subst (ReadsOn before after) (sym (decided-append table states left right)) (read_on_joined before between after (decided table states left) (decided table (states_after table states left) right) p.reads moved.reads);
      adapts = moved.adapts ∙ sym (states_after-append table states left right);
    }

-- as many states as before
pub puts_kept : (table : List ℕ) (before : Encoding) (states : List ℕ) (after : Encoding) (left : List ℕ) (choices : List Choice) → Puts table before states after left choices → length left ≡ length states
puts_kept table before states after left choices p = ap length p.adapts ∙ length-states_after table states choices

pub gets_kept : (table : List ℕ) (before : Reader) (states : List ℕ) (after : Reader) (left : List ℕ) (choices : List Choice) → Gets table before states after left choices → length left ≡ length states
gets_kept table before states after left choices g = ap length g.adapts ∙ length-states_after table states choices
