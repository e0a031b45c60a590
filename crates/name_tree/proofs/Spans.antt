-- A text more leaves the texts before it.
use Rattle.std.proofs.Common.{◌≡◌, ℕ, suc, ◌+◌, ◌-◌, ◌≤◌, List, [], ◌∷◌, ◌++◌, length, take, drop, refl, sym, ◌∙◌, arith}
use Rattle.std.proofs.lemmas.List.{map-append, take-append-le, drop-append-le, length-drop, drop_at, take_all}
use Rattle.name_tree.specs.declared.texts.Span.{Span}
use Rattle.name_tree.specs.Texts.{text_at, texts_of, AreWithin}

kept : (bytes text : List ℕ) (start len : ℕ) → start + len ≤ length bytes → take (start + len - start) (drop start (bytes ++ text)) ≡ take (start + len - start) (drop start bytes)
kept bytes text start len le =
    let inside : start ≤ length bytes = omega arith in
    let short : start + len - start ≤ length (drop start bytes) = omega (arith, length-drop start bytes) in
    rw drop-append-le (take-append-le (start + len - start) (drop start bytes) text short)

all_kept : (bytes text : List ℕ) (spans : List Span) → AreWithin bytes spans → texts_of (bytes ++ text) spans ≡ texts_of bytes spans
all_kept bytes text [] within = refl
all_kept bytes text (span ∷ spans) within = λ i. kept bytes text span.start span.len (within 0 span (omega arith)) i ∷ all_kept bytes text spans (λ k d lt. within (suc k) d (omega arith)) i

added : (bytes text : List ℕ) (start len : ℕ) → start ≡ length bytes → len ≡ length text → take (start + len - start) (drop start (bytes ++ text)) ≡ text
added bytes text start len e f =
    let all : length text ≤ start + len - start = omega arith in
    rw (drop_at bytes text start (sym e)) (take_all (start + len - start) text all)

pub texts_pushed : (bytes text : List ℕ) (spans : List Span) (span : Span) → AreWithin bytes spans → span.start ≡ length bytes → span.len ≡ length text
    → texts_of (bytes ++ text) (spans ++ span ∷ []) ≡ texts_of bytes spans ++ text ∷ []
texts_pushed bytes text spans span within e f =
    map-append (text_at (bytes ++ text)) spans (span ∷ [])
    ∙ (λ i. all_kept bytes text spans within i ++ added bytes text span.start span.len e f i ∷ [])

pub push_is : (bytes text more : List ℕ) (spans next : List Span) (span : Span) (value : List (List ℕ)) → AreWithin bytes spans → span.start ≡ length bytes → span.len ≡ length text
    → more ≡ bytes ++ text → next ≡ spans ++ span ∷ [] → texts_of bytes spans ≡ value → texts_of more next ≡ value ++ text ∷ []
push_is bytes text more spans next span value within e f g h v = rw (g, h, texts_pushed bytes text spans span within e f, v) refl
