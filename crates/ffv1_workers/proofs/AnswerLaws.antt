-- Answers looked through in order.
use Rattle.std.proofs.Common.{◌≡◌, ℕ, ◌+◌, ◌<◌, ◌≤◌, inl, inr, List, length, get_or, Result, Ok, Err, sym, ◌∙◌, subst, arith}
use Rattle.std.proofs.lemmas.Bool.{cases_lt}
use Rattle.std.proofs.lemmas.List.{get_or_default}
use Rattle.ffv1_slice.specs.declared.error.SliceWhy.{SliceWhy}
use Rattle.ffv1_slice.specs.declared.head.SliceHead.{SliceHead}
use Rattle.ffv1_frame.specs.Parts.{no_head}
use Rattle.ffv1_workers.specs.Frames.{answer_at, IsHead, AreHeadsBelow, IsFirstErr}

pub heads-none : (answers : List (Result SliceHead SliceWhy)) → AreHeadsBelow answers 0
heads-none answers = record { each = λ k low. absurd (omega arith) }

pub heads-more : (answers : List (Result SliceHead SliceWhy)) (i : ℕ) (d : Result SliceHead SliceWhy) (head : SliceHead) → i < length answers → get_or answers i d ≡ Ok head → AreHeadsBelow answers i → AreHeadsBelow answers (i + 1)
heads-more answers i d head listed is below =
    record {
      each = λ k low.
          elim (cases_lt k i) [
            | inl before ↦ below.each k before
            | inr past ↦
                let here : i ≡ k = omega arith in
                let P : ℕ → Type 0 = λ j. IsHead (answer_at answers j) in
                let Q : Result SliceHead SliceWhy → Type 0 = λ r. IsHead r in
                let ok : IsHead (Ok head) = tt in
                subst P here (subst Q (sym (get_or_default answers i (Ok no_head) d listed ∙ is)) ok)
          ];
    }

pub first-err : (answers : List (Result SliceHead SliceWhy)) (i : ℕ) (d : Result SliceHead SliceWhy) (why : SliceWhy) → i < length answers → get_or answers i d ≡ Err why → AreHeadsBelow answers i → IsFirstErr answers i why
first-err answers i d why listed is below = record { listed = listed; before = below; fault = get_or_default answers i (Ok no_head) d listed ∙ is }

pub heads-all : (answers : List (Result SliceHead SliceWhy)) (i : ℕ) → length answers ≤ i → AreHeadsBelow answers i → AreHeadsBelow answers (length answers)
heads-all answers i all below = record { each = λ k low. below.each k (omega arith) }

pub ruleset answers = (heads-none, heads-more, first-err, heads-all)
