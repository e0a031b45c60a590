-- Laws of parts of a file that are read piece by piece. `done` is how much of the part was read.
use Rattle.std.proofs.Common.{◌≡◌, ℕ, zero, suc, ◌+◌, ◌-◌, ◌<◌, ◌≤◌, List, ◌++◌, length, take, drop, Some, None, sym, ap, ◌∙◌, arith, length-take, length-drop}
use Rattle.std.proofs.Math.Seq.{take-length, take-nil}
use Rattle.std.proofs.lemmas.List.{take-take, drop-drop, drop-take}
use Rattle.shelf_core.specs.Told.{Told, IsTold, content}
use Rattle.shelf_core.specs.FileLaws.{content-with_file, grown-with_file}
use Rattle.shelf_core.specs.PieceLaws.{take-more}
use Rattle.shelf_parts.specs.Parts.{part_of}

-- a piece of a part is a piece of the file
pub piece-of_part : (at len done n : ℕ) (bytes : List ℕ) → done + n ≤ len → take n (drop (at + done) bytes) ≡ take n (drop done (part_of at len bytes))
piece-of_part at len done n bytes within =
    let rest : done + (len - done) ≡ len = omega arith in
    let short : n ≤ len - done = omega arith in
    ap (take n) (sym (drop-drop done at bytes))
    ∙ sym (take-take n (len - done) (drop done (drop at bytes)) short)
    ∙ ap (take n) (sym (drop-take done (len - done) (drop at bytes)))
    ∙ ap (λ m. take n (drop done (take m (drop at bytes)))) rest

-- so a piece more makes a longer front of the part
pub part-more : (at len done n : ℕ) (bytes piece : List ℕ) → done + n ≤ len → piece ≡ take n (drop (at + done) bytes) → take done (part_of at len bytes) ++ piece ≡ take (done + n) (part_of at len bytes)
part-more at len done n bytes piece within is = ap (λ b. take done (part_of at len bytes) ++ b) (is ∙ piece-of_part at len done n bytes within) ∙ take-more done n (part_of at len bytes)

-- a part that lies in the file is as long as it says
pub length-part : (at len : ℕ) (bytes : List ℕ) → len ≤ length bytes - at → length (part_of at len bytes) ≡ len
length-part at len bytes inside = omega (arith, length-take len (drop at bytes), length-drop at bytes)

-- a part read to its end is the part
pub part-all : (at len done : ℕ) (bytes : List ℕ) → done ≡ len → take done (part_of at len bytes) ≡ part_of at len bytes
part-all at len done bytes all = ap (λ n. take n (part_of at len bytes)) all ∙ take-take len len (drop at bytes) (omega arith)

-- a part that fits a buffer is one piece, which then stands at its front
pub held-more : (at len done n : ℕ) (bytes held : List ℕ) → done + n ≤ len → done < len → (len ≤ length held → 0 < done → len ≤ done) → take n held ≡ take n (drop (at + done) bytes) → len ≤ length held
    → take (done + n) held ≡ take (done + n) (part_of at len bytes)
held-more at len zero n bytes held within before first read fits =
    let same : 0 + n ≡ n = omega arith in
    ap (λ k. take k held) same ∙ read ∙ piece-of_part at len 0 n bytes within ∙ ap (λ k. take k (part_of at len bytes)) (sym same)
held-more at len (suc done) n bytes held within before first read fits = absurd (omega (arith, first fits (omega arith)))

pub held-all : (at len done : ℕ) (bytes held : List ℕ) → done ≡ len → take done held ≡ take done (part_of at len bytes) → take len held ≡ part_of at len bytes
held-all at len done bytes held all so_far = ap (λ n. take n held) (sym all) ∙ so_far ∙ part-all at len done bytes all

-- a piece that was read whole lies in the file
pub inside-more : (at done n : ℕ) (bytes piece : List ℕ) → length piece ≡ n → piece ≡ take n (drop (at + done) bytes) → done ≤ length bytes - at → done + n ≤ length bytes - at
inside-more at done n bytes piece long is inside = omega (arith, ap length is, length-take n (drop (at + done) bytes), length-drop (at + done) bytes)

-- the whole file as a part
pub part-whole : (told : Told) (name : List ℕ) (len : ℕ) → (IsTold told → len ≡ length (content told name)) → part_of 0 len (content told name) ≡ content told name
unfolding IsTold content
part-whole None name len measured = take-nil len
part-whole (Some files) name len measured = ap (λ n. take n (content (Some files) name)) (measured tt) ∙ take-length (content (Some files) name)

pub ruleset part_laws = (length-part, part-all)

-- what a file holds that was just written
pub ruleset written_laws = (content-with_file, grown-with_file)
