-- Laws of a content that is read piece by piece and appended to another file. `bytes` is the whole content, `at` how far it was copied.
use Rattle.std.proofs.Common.{◌≡◌, ℕ, zero, suc, ◌+◌, ◌≤◌, zero-add, suc-add, List, [], ◌∷◌, ◌++◌, length, take, drop, Some, None, refl, sym, ap, ◌∙◌, subst, arith, length-take, length-drop}
use Rattle.std.proofs.Math.Seq.{take-length, take-nil}
use Rattle.std.proofs.lemmas.List.{take-take}
use Rattle.shelf_core.specs.Told.{Told, IsTold, HasFile, IsApart, content, with_file, grown, GrewPartly}
use Rattle.shelf_core.specs.FileLaws.{GrewPartly-sooner, GrewPartly-later, grown-grown, grown-nothing, content-apart, IsTold-stays}

-- what is told of nothing is the same nothing
pub with_file-if_told : (told : Told) (name a b : List ℕ) → (IsTold told → a ≡ b) → with_file told name a ≡ with_file told name b
unfolding with_file IsTold
with_file-if_told None name a b same = refl
with_file-if_told (Some files) name a b same = ap (λ x. with_file (Some files) name x) (same tt)

pub grown-if_told : (told : Told) (name a b : List ℕ) → (IsTold told → a ≡ b) → grown told name a ≡ grown told name b
grown-if_told told name a b same = with_file-if_told told name _ _ (λ known. ap (λ x. content told name ++ x) (same known))

-- a longer front is a front and what stands behind it
pub take-more : (at n : ℕ) (bytes : List ℕ) → take at bytes ++ take n (drop at bytes) ≡ take (at + n) bytes
take-more zero n bytes = rw zero-add refl
take-more (suc at) n [] = rw (suc-add, take-nil) refl
take-more (suc at) n (x ∷ bytes) = rw suc-add (ap (λ xs. x ∷ xs) (take-more at n bytes))

-- the other file stays while one grows
pub content-while_grown : (told between : Told) (to from added : List ℕ) → between ≡ grown told to added → IsApart told from to → content between from ≡ content told from
content-while_grown told between to from added is apart = ap (λ t. content t from) is ∙ content-apart told to _ from apart

pub IsTold-while_grown : (told between : Told) (to added : List ℕ) → between ≡ grown told to added → IsTold told → IsTold between
IsTold-while_grown told between to added is known = subst IsTold (sym is) (IsTold-stays told to _ known)

-- a piece that was read while the other file was grown is that of the file as it was
pub piece-while_grown : (told between : Told) (to from added piece : List ℕ) (at n : ℕ) → between ≡ grown told to added → IsApart told from to
    → (IsTold between → piece ≡ take n (drop at (content between from)))
    → IsTold told → piece ≡ take n (drop at (content told from))
piece-while_grown told between to from added piece at n is apart read known =
    read (IsTold-while_grown told between to added is known) ∙ ap (λ b. take n (drop at b)) (content-while_grown told between to from added is apart)

-- nothing was copied
pub grown-start : (told : Told) (name bytes : List ℕ) → HasFile told name → told ≡ grown told name (take 0 bytes)
grown-start told name bytes there = sym (grown-nothing told name there)

-- one more piece was copied
pub grown-more : (told between after : Told) (name bytes piece : List ℕ) (at n : ℕ) → between ≡ grown told name (take at bytes) → after ≡ grown between name piece
    → (IsTold told → piece ≡ take n (drop at bytes)) → after ≡ grown told name (take (at + n) bytes)
grown-more told between after name bytes piece at n so_far added read =
    added ∙ ap (λ t. grown t name piece) so_far ∙ grown-grown told name (take at bytes) piece
    ∙ grown-if_told told name _ _ (λ known. ap (λ x. take at bytes ++ x) (read known) ∙ take-more at n bytes)

-- all was copied
pub grown-all : (told : Told) (name bytes : List ℕ) (at : ℕ) → (IsTold told → at ≡ length bytes) → grown told name (take at bytes) ≡ grown told name bytes
grown-all told name bytes at whole = grown-if_told told name _ _ (λ known. ap (λ n. take n bytes) (whole known) ∙ take-length bytes)

-- the copying stopped between two pieces
pub GrewPartly-taken : (told after : Told) (name bytes : List ℕ) (at : ℕ) → after ≡ grown told name (take at bytes) → (IsTold told → at ≤ length bytes) → GrewPartly told name bytes after
unfolding IsTold with_file
GrewPartly-taken None after name bytes at is within = record { count = 0; within = omega arith; is = is }
GrewPartly-taken (Some files) after name bytes at is within = record { count = at; within = within tt; is = is }

-- the copying stopped inside a piece
pub GrewPartly-more : (told between after : Told) (name bytes piece : List ℕ) (at n : ℕ) → between ≡ grown told name (take at bytes) → GrewPartly between name piece after
    → (IsTold told → piece ≡ take n (drop at bytes)) → (IsTold told → at ≤ length bytes) → GrewPartly told name bytes after
GrewPartly-more told between after name bytes piece at n so_far part read within =
    GrewPartly-taken told after name bytes (at + part.count)
    (part.is ∙ ap (λ t. grown t name (take part.count piece)) so_far ∙ grown-grown told name (take at bytes) (take part.count piece)
    ∙ grown-if_told told name _ _ (λ known. ap (λ x. take at bytes ++ take part.count x) (read known) ∙ ap (λ x. take at bytes ++ x) (take-take part.count n (drop at bytes) (inside_piece known)) ∙ take-more at part.count bytes))
    (λ known. inside known)
  where
    inside_piece : IsTold told → part.count ≤ n
    inside_piece known = omega (arith, part.within, ap length (read known), length-take n (drop at bytes))

    inside : IsTold told → at + part.count ≤ length bytes
    inside known = omega (arith, part.within, within known, ap length (read known), length-take n (drop at bytes), length-drop at bytes)

-- nothing was added
pub GrewPartly-nothing : (told after : Told) (name bytes : List ℕ) → HasFile told name → after ≡ told → GrewPartly told name bytes after
GrewPartly-nothing told after name bytes there same = record { count = 0; within = omega arith; is = same ∙ sym (grown-nothing told name there) }

-- a part of what the bytes are where they are told
pub GrewPartly-if_told : (told after : Told) (name a b : List ℕ) → (IsTold told → a ≡ b) → GrewPartly told name a after → GrewPartly told name b after
unfolding IsTold with_file
GrewPartly-if_told None after name a b same part = record { count = 0; within = omega arith; is = part.is }
GrewPartly-if_told (Some files) after name a b same part = subst (λ x. GrewPartly (Some files) name x after) (same tt) part

-- of two pieces, the adding stopped in the first
pub GrewPartly-first : (told after : Told) (name whole a b : List ℕ) → (IsTold told → a ++ b ≡ whole) → GrewPartly told name a after → GrewPartly told name whole after
GrewPartly-first told after name whole a b same part = GrewPartly-if_told told after name (a ++ b) whole same (GrewPartly-sooner told after name a b part)

-- or in the second
pub GrewPartly-second : (told between after : Told) (name whole a b : List ℕ) → between ≡ grown told name a → (IsTold told → a ++ b ≡ whole) → GrewPartly between name b after → GrewPartly told name whole after
GrewPartly-second told between after name whole a b is same part = GrewPartly-if_told told after name (a ++ b) whole same (GrewPartly-later told between after name a b is part)

-- both were added
pub grown-both : (told between after : Told) (name whole a b : List ℕ) → between ≡ grown told name a → after ≡ grown between name b → (IsTold told → a ++ b ≡ whole) → after ≡ grown told name whole
grown-both told between after name whole a b first second same =
    second ∙ ap (λ t. grown t name b) first ∙ grown-grown told name a b ∙ grown-if_told told name (a ++ b) whole same

pub ruleset piece_laws = (with_file-if_told, grown-if_told, grown-start, grown-more, grown-all, GrewPartly-taken, GrewPartly-more, GrewPartly-nothing)
