-- Choices put or got one after another.
use Rattle.std.proofs.Common.{◌≡◌, ℕ, ◌+◌, ◌≤◌, List, [], ◌∷◌, ◌++◌, length, refl, sym, ap, ◌∙◌, subst, arith, length-append, slice_index}
use Rattle.range_coder.specs.Interval.{Decision, Interval, narrow, narrowed}
use Rattle.range_coder.specs.Reading.{Reader, ReadsOn}
use Rattle.range_coder.specs.Encoding.{Encoding}
use Rattle.range_coder.specs.Choices.{Choice, adapted, states_after, decided, chosen}
use Rattle.range_coder.specs.Coding.{Puts, Gets}

narrowed-append : (i : Interval) (left right : List Decision) → narrowed i (left ++ right) ≡ narrowed (narrowed i left) right
unfolding narrowed
narrowed-append i [] right = refl
narrowed-append i (d ∷ more) right = narrowed-append (narrow i d.state d.bit) more right

pub decided-append : (table states : List ℕ) (left right : List Choice) → decided table states (left ++ right) ≡ decided table states left ++ decided table (states_after table states left) right
unfolding decided states_after
decided-append table states [] right = refl
decided-append table states (c ∷ more) right =
    ap (λ (ds : List Decision). record { state = slice_index states c.slot; bit = c.bit } ∷ ds) (decided-append table (adapted table states c) more right)

pub states_after-append : (table states : List ℕ) (left right : List Choice) → states_after table states (left ++ right) ≡ states_after table (states_after table states left) right
unfolding states_after
states_after-append table states [] right = refl
states_after-append table states (c ∷ more) right = states_after-append table (adapted table states c) more right

chosen-append : (table states : List ℕ) (i : Interval) (left right : List Choice) → chosen table states i (left ++ right) ≡ chosen table (states_after table states left) (chosen table states i left) right
chosen-append table states i left right =
    ap (narrowed i) (decided-append table states left right) ∙ narrowed-append i (decided table states left) (decided table (states_after table states left) right)

read_on_joined : (before between after : Reader) (left right : List Decision) → ReadsOn before between left → ReadsOn between after right → ReadsOn before after (left ++ right)
read_on_joined before between after left right l r = record {
  reads = λ bytes i h. rw (narrowed-append i left right) (r.reads bytes (narrowed i left) (l.reads bytes i h));
}

pub puts_nil : (table : List ℕ) (before : Encoding) (states : List ℕ) → Puts table before states before states []
unfolding narrowed decided states_after
puts_nil table before states = record { interval = refl; adapts = refl; spare = omega arith }

pub puts_more : (table : List ℕ) (before : Encoding) (states : List ℕ) (between : Encoding) (held : List ℕ) (after : Encoding) (left_states : List ℕ) (left right : List Choice) → Puts table before states between held left → Puts table between held after left_states right → Puts table before states after left_states (left ++ right)
puts_more table before states between held after left_states left right p q =
    let moved : Puts table between (states_after table states left) after left_states right = subst (λ (xs : List ℕ). Puts table between xs after left_states right) p.adapts q in
    let first : before.spare ≤ between.spare + length left = p.spare in
    let second : between.spare ≤ after.spare + length right = q.spare in
    let len : length (left ++ right) ≡ length left + length right = length-append left right in
    record {
      interval = moved.interval ∙ ap (λ (i : Interval). chosen table (states_after table states left) i right) p.interval ∙ sym (chosen-append table states before.interval left right);
      adapts = moved.adapts ∙ sym (states_after-append table states left right);
      spare = omega arith;
    }

pub gets_nil : (table : List ℕ) (before : Reader) (states : List ℕ) → Gets table before states before states []
unfolding narrowed decided states_after
gets_nil table before states = record { reads = record { reads = λ bytes i h. h }; adapts = refl }

pub gets_more : (table : List ℕ) (before : Reader) (states : List ℕ) (between : Reader) (held : List ℕ) (after : Reader) (left_states : List ℕ) (left right : List Choice) → Gets table before states between held left → Gets table between held after left_states right → Gets table before states after left_states (left ++ right)
gets_more table before states between held after left_states left right p q =
    let moved : Gets table between (states_after table states left) after left_states right = subst (λ (xs : List ℕ). Gets table between xs after left_states right) p.adapts q in
    record {
      reads = subst (ReadsOn before after) (sym (decided-append table states left right)) (read_on_joined before between after (decided table states left) (decided table (states_after table states left) right) p.reads moved.reads);
      adapts = moved.adapts ∙ sym (states_after-append table states left right);
    }
