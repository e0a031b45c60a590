-- A text is the bytes of one.
use Rattle.std.proofs.Common.{◌≡◌, ℕ, Bool, if◌then◌else◌, List, Result, Ok, Err, sym, ap, ◌∙◌, IsUtf8}
use Rattle.std.specs.Str.{is_utf8}
use Rattle.std.proofs.lemmas.Bool.{false_from_ne_true}
use Rattle.std.proofs.lemmas.Str.{is_utf8-from_IsUtf8, IsUtf8-from_is_utf8}
use Rattle.reversal.specs.SideReading.{text_at}

pick : ℕ → List ℕ → Bool → Result (List ℕ) ℕ
pick left bytes good = if good then Ok bytes else Err left

pub good_text : (left : ℕ) (bytes : List ℕ) → IsUtf8 bytes → text_at left bytes ≡ Ok bytes
unfolding pick
good_text left bytes text = ap (pick left bytes) (is_utf8-from_IsUtf8 bytes text)

pub bad_text : (left : ℕ) (bytes : List ℕ) → (IsUtf8 bytes → ⊥) → text_at left bytes ≡ Err left
unfolding pick
bad_text left bytes none = ap (pick left bytes) (false_from_ne_true (is_utf8 bytes) (λ e. none (IsUtf8-from_is_utf8 bytes e)))

as_ok : List ℕ → Result (List ℕ) ℕ
as_ok bytes = Ok bytes

pub read_text : (left : ℕ) (bytes text : List ℕ) → IsUtf8 bytes → text ≡ bytes → text_at left bytes ≡ Ok text
unfolding as_ok
read_text left bytes text is same = good_text left bytes is ∙ ap as_ok (sym same)
