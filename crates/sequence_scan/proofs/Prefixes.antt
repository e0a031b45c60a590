-- Where a run begins is settled by the frames up to there.
use Rattle.std.proofs.Common.{◌≡◌, ℕ, zero, suc, ◌+◌, ◌<◌, List, [], ◌++◌, length, Option, Some, None, refl, sym, ap, ◌∙◌, arith}
use Rattle.std.specs.Option.{option_map_or}
use Rattle.std.proofs.lemmas.List.{get_or_append_left, length-append}
use Rattle.std.proofs.lemmas.List.Quantifiers.{position-Some}
use Rattle.sequence_scan.specs.Numbers.{number_of, is_predecessor}
use Rattle.sequence_scan.specs.Runs.{AreFrames, name_at, predecessor_of, back_from, first_of}
use Rattle.sequence_scan.specs.Laws.{FirstStays}
use Rattle.sequence_scan.proofs.Back.{found, none_passes, found_first, not_found}

module _ (names more : List (List ℕ)) (frames : AreFrames (names ++ more)) where
  same_name : (place : ℕ) → place < length names → name_at (names ++ more) place ≡ name_at names place
  same_name place lt = get_or_append_left names more [] place lt

  longer : length (names ++ more) ≡ length names + length more
  longer = length-append names more

  same_test : (k place : ℕ) → k < length names → place < length names → is_predecessor (name_at (names ++ more) k) (name_at (names ++ more) place) ≡ is_predecessor (name_at names k) (name_at names place)
  same_test k place lt within = (λ i. is_predecessor (same_name k lt i) (same_name place within i))

  same_by : (place : ℕ) → place < length names → (o : Option ℕ) → predecessor_of (names ++ more) place ≡ o → predecessor_of names place ≡ o
  unfolding predecessor_of
  same_by place within None e =
      not_found (λ other. is_predecessor other (name_at names place)) names [] (λ k lt.
      sym (same_test k place lt within) ∙ none_passes (λ other. is_predecessor other (name_at (names ++ more) place)) (names ++ more) e k [] (omega (arith, longer)))
  same_by place within (Some p) e =
      let h = found (names ++ more) frames place p (omega (arith, longer)) e in
      let at = position-Some (λ other. is_predecessor other (name_at (names ++ more) place)) (names ++ more) p [] e in
      found_first (λ other. is_predecessor other (name_at names place)) names p [] (omega (arith, h.0))
      (λ k lt. sym (same_test k place (omega (arith, h.0)) within) ∙ at.2 k lt)
      (sym (same_test p place (omega (arith, h.0)) within) ∙ at.1)

  same_predecessor : (place : ℕ) → place < length names → predecessor_of names place ≡ predecessor_of (names ++ more) place
  same_predecessor place within = same_by place within (predecessor_of (names ++ more) place) refl

  same_back : (steps place : ℕ) → place < length names → back_from (names ++ more) steps place ≡ back_from names steps place
  unfolding back_from
  same_back zero place within = refl
  same_back (suc steps) place within = by (predecessor_of (names ++ more) place) refl (λ p lt. same_back steps p lt)
    where
      by : (o : Option ℕ) → predecessor_of (names ++ more) place ≡ o → ((p : ℕ) → p < length names → back_from (names ++ more) steps p ≡ back_from names steps p)
          → option_map_or (back_from (names ++ more) steps) (predecessor_of (names ++ more) place) place ≡ option_map_or (back_from names steps) (predecessor_of names place) place
      by None e shorter = rw (e, same_predecessor place within, e) refl
      by (Some p) e shorter =
          let h = found (names ++ more) frames place p (omega (arith, longer)) e in
          let both = shorter p (omega (arith, h.0)) in
          ap (λ (o : Option ℕ). option_map_or (back_from (names ++ more) steps) o place) e
          ∙ both
          ∙ sym (ap (λ (o : Option ℕ). option_map_or (back_from names steps) o place) (same_predecessor place within ∙ e))

pub first_stays : FirstStays
unfolding first_of
first_stays names more frames place within =
    ap (λ n. back_from (names ++ more) n place) (ap number_of (same_name names more frames place within)) ∙ same_back names more frames (number_of (name_at names place)) place within
