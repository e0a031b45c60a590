-- Laws of a report in memory, and of one that is written piece by piece.
use Rattle.std.proofs.Common.{◌≡◌, ℕ, suc, ◌+◌, ◌<◌, ◌≤◌, Bool, false, ◌||◌, nat_lt, List, [], ◌∷◌, ◌++◌, length, take, drop, get_or, Some, None, refl, sym, ap, ◌∙◌, subst, arith, append-nil, append_assoc, length-append}
use Rattle.std.proofs.lemmas.List.{flat_map_more, take_more, take-append-drop, take-append-le}
use Rattle.std.proofs.lemmas.Grind.{flat_map-append}
use Rattle.std.proofs.Math.Seq.{take-append-add, drop-cons}
use Rattle.std.specs.List.{flat_map}
use Rattle.std.proofs.lemmas.Bool.Decides.{nat_tests}
use Rattle.shelf_core.specs.Report.{Text, with_text, WrittenPartly}

pub text-added : (held bytes after : List ℕ) → after ≡ held ++ bytes → Some after ≡ with_text (Some held) bytes
unfolding with_text
text-added held bytes after is = ap Some is

-- where nothing was added, none of the bytes were
written-nothing : (held : List ℕ) → Some held ≡ with_text (Some held) []
unfolding with_text
written-nothing held = ap Some (sym (append-nil held))

pub written_none : (held bytes after : List ℕ) → after ≡ held → WrittenPartly (Some held) bytes (Some after)
written_none held bytes after is = record { count = 0; within = omega arith; is = ap Some is ∙ written-nothing held }

-- a write that fits, and whose call is not listed, is not refused
pub fits : (listed : Bool) (capacity sum : ℕ) → listed ≡ false → sum ≤ capacity → (listed || nat_lt capacity sum) ≡ false
fits listed capacity sum unlisted le = grind (arith, nat_tests)

pub ruleset report_laws = (text-added, written_none, fits)

-- nothing more leaves the text
pub with_text-nil : (before : Text) → before ≡ with_text before []
unfolding with_text
with_text-nil None = refl
with_text-nil (Some held) = written-nothing held

-- two texts one after another
with_text-append : (before : Text) (first second : List ℕ) → with_text (with_text before first) second ≡ with_text before (first ++ second)
unfolding with_text
with_text-append None first second = refl
with_text-append (Some held) first second = ap Some (append_assoc held first second)

with_text-then : (before between after : Text) (first second : List ℕ) → between ≡ with_text before first → after ≡ with_text between second → after ≡ with_text before (first ++ second)
with_text-then before between after first second whole more = more ∙ ap (λ (t : Text). with_text t second) whole ∙ with_text-append before first second

front-of_three : (first second rest : List ℕ) (n : ℕ) → n ≤ length second → first ++ take n second ≡ take (length first + n) (first ++ (second ++ rest))
front-of_three first second rest n within = ap (λ (t : List ℕ). first ++ t) (sym (take-append-le n second rest within)) ∙ sym (take-append-add first (second ++ rest) n)

-- after a text that was written whole, a front of the next is a front of all
WrittenPartly-then : (before between after : Text) (first second rest : List ℕ) → between ≡ with_text before first → WrittenPartly between second after → WrittenPartly before (first ++ (second ++ rest)) after
WrittenPartly-then before between after first second rest whole part = record {
  count = length first + part.count;
  within = omega (arith, part.within, length-append first (second ++ rest), length-append second rest);
  is = with_text-then before between after first (take part.count second) whole part.is ∙ ap (with_text before) (front-of_three first second rest part.count part.within);
}

-- the pieces before place k, the piece there, and those behind it
flat_map-around : {X : Type 0} (f : X → List ℕ) (xs : List X) (k : ℕ) (d : X) → k < length xs → flat_map f xs ≡ flat_map f (take k xs) ++ (f (get_or xs k d) ++ flat_map f (drop (suc k) xs))
flat_map-around f xs k d inside =
    ap (flat_map f) (sym (take-append-drop k xs) ∙ ap (λ (t : List _). take k xs ++ t) (drop-cons xs k d inside))
    ∙ flat_map-append f (take k xs) (get_or xs k d ∷ drop (suc k) xs)

-- pieces written one after another: one more was written whole, or partly
pub with_text-one_more : {X : Type 0} (f : X → List ℕ) (before between after : Text) (xs : List X) (k : ℕ) (d : X) → k < length xs
    → between ≡ with_text before (flat_map f (take k xs)) → after ≡ with_text between (f (get_or xs k d)) → after ≡ with_text before (flat_map f (take (k + 1) xs))
with_text-one_more f before between after xs k d inside whole more =
    with_text-then before between after (flat_map f (take k xs)) (f (get_or xs k d)) whole more
    ∙ ap (with_text before) (flat_map_more f [] (take k xs) (get_or xs k d) ∙ ap (flat_map f) (sym (take_more xs k d inside)))

pub WrittenPartly-one_more : {X : Type 0} (f : X → List ℕ) (before between after : Text) (xs : List X) (k : ℕ) (d : X) → k < length xs
    → between ≡ with_text before (flat_map f (take k xs)) → WrittenPartly between (f (get_or xs k d)) after → WrittenPartly before (flat_map f xs) after
WrittenPartly-one_more f before between after xs k d inside whole part =
    subst (λ (t : List ℕ). WrittenPartly before t after) (sym (flat_map-around f xs k d inside))
    (WrittenPartly-then before between after (flat_map f (take k xs)) (f (get_or xs k d)) (flat_map f (drop (suc k) xs)) whole part)

pub ruleset written_laws = (with_text-nil, with_text-one_more, WrittenPartly-one_more)
