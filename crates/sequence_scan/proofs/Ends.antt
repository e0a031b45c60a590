-- The longest end of a list whose elements pass a test, by places.
use Rattle.std.proofs.Common.{◌≡◌, ℕ, ◌+◌, ◌-◌, ◌<◌, ◌≤◌, Bool, true, false, List, length, get_or, reverse, ap, ◌∙◌, subst, arith}
use Rattle.std.specs.List.{suffix_len}
use Rattle.std.proofs.lemmas.List.{get_or-reverse, length-reverse}
use Rattle.std.proofs.lemmas.List.Sums.{prefix_len_passes, prefix_len_stops}

-- each element of that end passes
pub end_passes : {X : Type 0} (test : X → Bool) (xs : List X) (k : ℕ) (d : X) → k < length xs → length xs ≤ k + suffix_len test xs → test (get_or xs k d) ≡ true
end_passes test xs k d lt within =
    let back : length xs - 1 - (length xs - 1 - k) ≡ k = omega arith in
    let there : get_or (reverse xs) (length xs - 1 - k) d ≡ get_or xs k d = get_or-reverse xs (length xs - 1 - k) d (omega arith) ∙ ap (λ n. get_or xs n d) back in
    subst (λ x. test x ≡ true) there (prefix_len_passes test (reverse xs) (length xs - 1 - k) d (omega arith))

-- and the one before it fails
pub end_stops : {X : Type 0} (test : X → Bool) (xs : List X) (d : X) → suffix_len test xs < length xs → test (get_or xs (length xs - suffix_len test xs - 1) d) ≡ false
end_stops test xs d lt =
    let all : length (reverse xs) ≡ length xs = length-reverse xs in
    let back : length xs - 1 - suffix_len test xs ≡ length xs - suffix_len test xs - 1 = omega arith in
    let there : get_or (reverse xs) (suffix_len test xs) d ≡ get_or xs (length xs - suffix_len test xs - 1) d = get_or-reverse xs (suffix_len test xs) d lt ∙ ap (λ n. get_or xs n d) back in
    subst (λ x. test x ≡ false) there (prefix_len_stops test (reverse xs) d (omega arith))
