-- The lengths of runs, put one after another with fresh states.
use Rattle.std.proofs.Common.{◌≡◌, ℕ, ◌+◌, ◌-◌, ◌<◌, List, [], ◌++◌, length, take, get_or, refl, sym, ap, ◌∙◌}
use Rattle.std.specs.List.{flat_map}
use Rattle.std.proofs.lemmas.List.{take_more, flat_map_more}
use Rattle.range_coder.specs.Interval.{Interval, narrowed}
use Rattle.range_coder.specs.Choices.{Choice, chosen, decided, states_after}
use Rattle.range_coder.specs.Symbol.{fresh_states}
use Rattle.range_coder.specs.Table.{AreLive}
use Rattle.range_coder.specs.Laws.{NarrowedIsJoined, DecidedIsJoined, StatesAreJoined}
use Rattle.ffv1_params.specs.Record.{unsigned_choices, run_choices}

-- runs were put with fresh states
pub record RunsPut (table states : List ℕ) (before after : Interval) (runs : List ℕ) : Type 0 where
  pub interval : after ≡ chosen table fresh_states before (run_choices runs)
  pub adapts : states ≡ states_after table fresh_states (run_choices runs)
  pub live : AreLive table states

pub runs_more : (runs : List ℕ) (i d : ℕ) → i < length runs → run_choices (take (i + 1) runs) ≡ run_choices (take i runs) ++ unsigned_choices (get_or runs i d - 1)
unfolding run_choices
runs_more runs i d lt = ap (flat_map (λ run. unsigned_choices (run - 1))) (take_more runs i d lt) ∙ sym (flat_map_more (λ run. unsigned_choices (run - 1)) [] (take i runs) (get_or runs i d))

pub chosen_joined : NarrowedIsJoined → DecidedIsJoined → (table states : List ℕ) (i : Interval) (left right : List Choice) → chosen table states i (left ++ right) ≡ chosen table (states_after table states left) (chosen table states i left) right
chosen_joined narrowed_joined decided_joined table states i left right = ap (narrowed i) (decided_joined table states left right) ∙ narrowed_joined i (decided table states left) (decided table (states_after table states left) right)

pub none_put : (table states : List ℕ) (i : Interval) → states ≡ fresh_states → AreLive table states → RunsPut table states i i []
unfolding run_choices narrowed decided states_after
none_put table states i is live = record { interval = refl; adapts = is; live = live }

pub one_put : NarrowedIsJoined → DecidedIsJoined → StatesAreJoined → (table states left : List ℕ) (before between after : Interval) (runs : List ℕ) (i run : ℕ) → i < length runs → run ≡ get_or runs i run
    → RunsPut table states before between (take i runs) → after ≡ chosen table states between (unsigned_choices (run - 1)) → left ≡ states_after table states (unsigned_choices (run - 1)) → AreLive table left → RunsPut table left before after (take (i + 1) runs)
one_put narrowed_joined decided_joined states_joined table states left before between after runs i run lt at put interval adapts live =
    let choices = unsigned_choices (run - 1) in
    let done = run_choices (take i runs) in
    let more : run_choices (take (i + 1) runs) ≡ done ++ choices = runs_more runs i run lt ∙ ap (λ r. done ++ unsigned_choices (r - 1)) (sym at) in
    let to : chosen table fresh_states before (done ++ choices) ≡ after = chosen_joined narrowed_joined decided_joined table fresh_states before done choices ∙ (ap (λ (s : List ℕ). chosen table s (chosen table fresh_states before done) choices) (sym put.adapts) ∙ (ap (λ (b : Interval). chosen table states b choices) (sym put.interval) ∙ sym interval)) in
    let on : states_after table fresh_states (done ++ choices) ≡ left = states_joined table fresh_states done choices ∙ (ap (λ (s : List ℕ). states_after table s choices) (sym put.adapts) ∙ sym adapts) in
    record { interval = sym to ∙ ap (chosen table fresh_states before) (sym more); adapts = sym on ∙ ap (states_after table fresh_states) (sym more); live = live }
