-- A header that was read, with the states of a whole slice or its first ones alone.
use Rattle.std.proofs.Common.{◌≡◌, ℕ, ◌+◌, ◌*◌, List, [], ◌∷◌, ◌++◌, Bool, false, length, replicate, refl, sym, ap, ◌∙◌, subst, arith, zero-add}
use Rattle.std.proofs.lemmas.List.{length-replicate, replicate-append-replicate}
use Rattle.range_coder.specs.Choices.{Choice, decided, moved, UseSlots}
use Rattle.range_coder.specs.Coding.{Gets}
use Rattle.range_coder.specs.Facts.{CodingsAreJoined, SetsOfStates}
use Rattle.range_coder.specs.Interval.{Decision, Reads}
use Rattle.range_coder.specs.Laws.{MovedIsDecided, SymbolSlots, OverlongSlots}
use Rattle.range_coder.specs.Reading.{Reader, Begins}
use Rattle.range_coder.specs.Symbol.{choice, overlong_choices}
use Rattle.ffv1_params.specs.QuantTables.{most_contexts}
use Rattle.ffv1_params.specs.Parameters.{Parameters}
use Rattle.ffv1_slice.specs.declared.error.SliceWhy.{SliceWhy}
use Rattle.ffv1_slice.specs.declared.error.SliceWhy.TheVariants as why
use Rattle.ffv1_slice.specs.declared.head.SliceHead.{SliceHead}
use Rattle.ffv1_slice.specs.Faults.{HeadFault}
use Rattle.ffv1_slice.specs.Slice.{front_choices, fresh_slots, slice_states, decided_in, CodesHead}
use Rattle.ffv1_slice.specs.Taking.{FrontRead, FrontFails}
use Rattle.ffv1_slice.proofs.SlotsOfSlices.{front_slots}

moved_none : (cs : List Choice) → moved 0 cs ≡ cs
moved_none [] = refl
moved_none (c ∷ more) =
    let f : ℕ → Choice = λ n. record { slot = n; bit = c.bit } in
    ap (λ (d : Choice). d ∷ moved 0 more) (ap f (zero-add c.slot)) ∙ ap (λ (ds : List Choice). c ∷ ds) (moved_none more)

-- choices on the first of the states of a slice are the same decisions with those alone
grown : MovedIsDecided → (table : List ℕ) (few more : ℕ) (cs : List Choice) → UseSlots few cs → decided table (replicate few 128) cs ≡ decided table (replicate (few + more) 128) cs
grown law table few more cs uses =
    let uses' : UseSlots (length (replicate few 128)) cs = subst (λ (n : ℕ). UseSlots n cs) (sym (length-replicate few 128)) uses in
    let e : decided table (replicate few 128 ++ replicate more 128) (moved 0 cs) ≡ decided table (replicate few 128) cs = law table [] (replicate few 128) (replicate more 128) cs uses' in
    sym e ∙ ap (λ (ds : List Choice). decided table (replicate few 128 ++ replicate more 128) ds) (moved_none cs)
    ∙ ap (λ (xs : List ℕ). decided table xs cs) (replicate-append-replicate few more 128)

-- what is decided with these states is decided with those of a slice
abbrev pub AreFirst : Parameters → List ℕ → Type 0
AreFirst params states = (cs : List Choice) → UseSlots 33 cs → decided params.table states cs ≡ decided_in params cs

pub first_states : MovedIsDecided → (params : Parameters) (states : List ℕ) → states ≡ replicate 33 128 → AreFirst params states
unfolding fresh_slots
first_states law params states is cs uses = ap (λ (xs : List ℕ). decided params.table xs cs) is ∙ grown law params.table 33 (64 * most_contexts params.sets) cs uses

pub all_states : (params : Parameters) (states : List ℕ) → states ≡ slice_states params → AreFirst params states
all_states params states is cs uses = ap (λ (xs : List ℕ). decided params.table xs cs) is

-- all that was got of the first states, the bytes say
front_says : CodingsAreJoined → (params : Parameters) (bytes : List ℕ) (before : Reader) (states : List ℕ) (after : Reader) (left : List ℕ) (cs : List Choice) → AreFirst params states → UseSlots 33 cs → Begins before bytes → Gets params.table before states after left cs → Reads bytes (decided_in params cs)
front_says law params bytes before states after left cs are uses begins g =
    subst (λ (ds : List Decision). Reads bytes ds) (are cs uses) (law.all_got params.table before states after left cs bytes begins g)

pub head_read : CodingsAreJoined → SetsOfStates → SymbolSlots → (params : Parameters) (first : Bool) (bytes : List ℕ) (before : Reader) (states : List ℕ) (after : Reader) (left : List ℕ) (head : SliceHead) → AreFirst params states → Begins before bytes → FrontRead params first before states after left head → CodesHead params first bytes head
head_read law sets slots params first bytes before states after left head are begins h = record {
  numbers = h.numbers;
  tell = h.tell;
  reads = front_says law params bytes before states after left (front_choices first h.numbers) are (front_slots sets slots 33 first h.numbers (omega arith)) begins h.gets;
}

pub head_fails : CodingsAreJoined → SetsOfStates → SymbolSlots → OverlongSlots → (params : Parameters) (first : Bool) (bytes : List ℕ) (before : Reader) (states : List ℕ) (after : Reader) (left : List ℕ) (fault : SliceWhy) → AreFirst params states → Begins before bytes → FrontFails params first before states after left fault → HeadFault params first bytes fault
head_fails law sets slots overlong params first bytes before states after left why.BadStart are begins h = absurd h
head_fails law sets slots overlong params first bytes before states after left why.NotKey are begins h = record {
  asked = h.asked;
  reads = front_says law params bytes before states after left (choice 0 false ∷ []) are (sets.one 33 0 false (omega arith)) begins h.gets;
}
head_fails law sets slots overlong params first bytes before states after left why.BadSymbol are begins h = record {
  numbers = h.numbers;
  taken = h.taken;
  few = h.few;
  reads = front_says law params bytes before states after left (front_choices first h.numbers ++ moved 1 overlong_choices) are
      (sets.both 33 (front_choices first h.numbers) (moved 1 overlong_choices) (front_slots sets slots 33 first h.numbers (omega arith)) (sets.placed 1 32 33 overlong_choices (omega arith) overlong)) begins h.gets;
}
head_fails law sets slots overlong params first bytes before states after left why.SliceHeader are begins h = record {
  numbers = h.numbers;
  last = h.last;
  taken = h.taken;
  small = h.small;
  few = h.few;
  refused = h.refused;
  reads = front_says law params bytes before states after left (front_choices first (h.numbers ++ h.last ∷ [])) are (front_slots sets slots 33 first (h.numbers ++ h.last ∷ []) (omega arith)) begins h.gets;
}
head_fails law sets slots overlong params first bytes before states after left why.SampleRange are begins h = absurd h
