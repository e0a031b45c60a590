-- Laws of texts without the slashes at their end.
use Rattle.std.proofs.Common.{◌≡◌, ℕ, ◌-◌, Bool, true, false, ◌==◌, if◌then◌else◌, List, [], ◌∷◌, ◌++◌, length, take, Option, Some, None, IfSome, refl, sym, ap, ◌∙◌, arith}
use Rattle.std.proofs.lemmas.Bool.{eqb-true}
use Rattle.std.specs.Str.Pattern.{IsTrimEndMatches, CutsSuffixes, FindsTextSuffix}
use Rattle.cook_top.specs.Orders.{without_end_slashes, with_front}

-- a slash at the end goes
without_end_slashes-slash : (front : List ℕ) → without_end_slashes (front ++ 47 ∷ []) ≡ without_end_slashes front
unfolding without_end_slashes
without_end_slashes-slash [] = refl
without_end_slashes-slash (byte ∷ rest) = ap (with_front byte) (without_end_slashes-slash rest)

-- what was cut off a text's end by one step is a slash
cut_slash : (text rest : List ℕ) (n : ℕ) → FindsTextSuffix (47 ∷ []) text (Some n) → rest ≡ take (length text - n) text → text ≡ rest ++ 47 ∷ []
cut_slash text rest n found is = found.1 ∙ ap (λ (t : List ℕ). t ++ 47 ∷ []) (sym is)

-- by many
without_end_slashes-cuts : (cuts : List ℕ) (text rest : List ℕ) → CutsSuffixes (FindsTextSuffix (47 ∷ [])) text cuts rest → without_end_slashes rest ≡ without_end_slashes text
without_end_slashes-cuts [] text rest is = ap without_end_slashes is
without_end_slashes-cuts (n ∷ cuts) text rest is =
    sym (without_end_slashes-slash rest) ∙ ap without_end_slashes (sym (cut_slash is.0 rest n is.2 is.3)) ∙ without_end_slashes-cuts cuts text is.0 is.1

last_stays : (byte : ℕ) (same : Bool) → byte == 47 ≡ same → ((front : List ℕ) → byte ∷ [] ≡ front ++ 47 ∷ [] → ⊥) → (if same then [] else byte ∷ []) ≡ byte ∷ []
last_stays byte true is none = absurd (none [] (ap (λ b. b ∷ []) (eqb-true byte 47 is)))
last_stays byte false is none = refl

-- a text with no slash at its end stays
without_end_slashes-none : (text : List ℕ) → ((front : List ℕ) → text ≡ front ++ 47 ∷ [] → ⊥) → without_end_slashes text ≡ text
unfolding without_end_slashes
without_end_slashes-none [] none = refl
without_end_slashes-none (byte ∷ []) none = last_stays byte (byte == 47) refl none
without_end_slashes-none (byte ∷ next ∷ rest) none =
    ap (with_front byte) (without_end_slashes-none (next ∷ rest) (λ front is. none (byte ∷ front) (ap (λ (t : List ℕ). byte ∷ t) is)))

-- the trimmed text ends with no slash
trimmed_stays : (rest : List ℕ) (found : Option ℕ) → FindsTextSuffix (47 ∷ []) rest found → IfSome found (λ n. n ≡ 0) → without_end_slashes rest ≡ rest
trimmed_stays rest None found empty = without_end_slashes-none rest found
trimmed_stays rest (Some n) found empty = absurd (omega (arith, found.0, empty))

pub trimmed : (text rest : List ℕ) → IsTrimEndMatches (FindsTextSuffix (47 ∷ [])) text rest → rest ≡ without_end_slashes text
trimmed text rest is = sym (trimmed_stays rest is.1.0 is.1.1 is.1.2) ∙ without_end_slashes-cuts is.0.0 text rest is.0.1
