-- Low bits that aren't set are put back, sample after sample.
use Rattle.std.proofs.Common.{◌≡◌, ℕ, ◌+◌, ◌^◌, ◌≤◌, ◌<◌, ℤ, pos, ◌*ℤ◌, List, [], ◌∷◌, ◌++◌, length, map, take, drop, get_or, sym, ap, ◌∙◌, arith}
use Rattle.std.proofs.Math.ListN.{set}
use Rattle.std.proofs.lemmas.List.{get_or-drop, take_more, take_all, drop-drop, drop-set-lt, map-append}
use mir.Val.{SFits, to_z, of_z}
use mir.Syntax.{w32}
use Rattle.flac_frame.specs.Subframe.{with_wasted}
use Rattle.flac_frame.proofs.EachLaws.{stored_next}

pub same_here : (place : ℕ) (xs ys : List ℤ) → drop place xs ≡ drop place ys → get_or xs place (pos 0) ≡ get_or ys place (pos 0)
same_here place xs ys e =
    let end : place + 0 ≡ place = omega arith in
    let one : (zs : List ℤ) → get_or (drop place zs) 0 (pos 0) ≡ get_or zs place (pos 0) = λ zs. get_or-drop place zs 0 (pos 0) ∙ ap (λ (i : ℕ). get_or zs i (pos 0)) end in
    sym (one xs) ∙ ap (λ (zs : List ℤ). get_or zs 0 (pos 0)) e ∙ one ys

pub wasted_stored : (wasted place : ℕ) (samples old : List ℤ) (v : ℤ) → SFits w32 v → place < length samples → place < length old
    → v ≡ get_or samples place (pos 0) *ℤ pos (2 ^ wasted) → drop place samples ≡ drop place old → take place samples ≡ with_wasted wasted (take place old)
    → take (place + 1) (set samples place (to_z w32 (of_z w32 v))) ≡ with_wasted wasted (take (place + 1) old)
wasted_stored wasted place samples old v fits lt within is rest done =
    let x = get_or old place (pos 0) in
    let f = λ (s : ℤ). s *ℤ pos (2 ^ wasted) in
    let here : v ≡ f x = is ∙ ap f (same_here place samples old rest) in
    stored_next samples place v fits lt
    ∙ ap (λ (front : List ℤ). front ++ v ∷ []) done
    ∙ ap (λ (y : ℤ). map f (take place old) ++ y ∷ []) here
    ∙ sym (map-append f (take place old) (x ∷ []))
    ∙ ap (map f) (sym (take_more old place (pos 0) within))

pub wasted_rest : (place : ℕ) (samples old : List ℤ) (v : ℤ) → drop place samples ≡ drop place old → drop (place + 1) (set samples place v) ≡ drop (place + 1) old
wasted_rest place samples old v rest =
    drop-set-lt (place + 1) samples place v (omega arith) ∙ sym (drop-drop 1 place samples) ∙ ap (drop 1) rest ∙ drop-drop 1 place old

pub wasted_all : (wasted place : ℕ) (samples old : List ℤ) → length samples ≤ place → length old ≤ place → take place samples ≡ with_wasted wasted (take place old) → samples ≡ with_wasted wasted old
wasted_all wasted place samples old all every done =
    sym (take_all place samples all) ∙ done ∙ ap (with_wasted wasted) (take_all place old every)
