-- What a shelf tells under a root is a directory, where its names are texts.
use Rattle.std.proofs.Common.{◌≡◌, ℕ, ◌+◌, ◌<◌, List, length, get_or, All, IsUtf8, ◌∙◌, arith}
use Rattle.std.specs.Ordering.{nat_cmp}
use Rattle.std.specs.Cmp.Lexicographic.{slice_cmp}
use Rattle.std.proofs.lemmas.List.{length-map, get_or-map}
use Rattle.cook_bits.specs.Names.{File}
use Rattle.shelf_core.specs.Told.{Told, under, no_file}
use Rattle.cook_pack.specs.Planned.{IsBefore}
use Rattle.shelf_core.proofs.UnderLaws.{under-ascending}
use Rattle.cook_top.specs.RoundTrip.{file_names, IsDirectory}

name_at : (files : List File) (k : ℕ) (d : List ℕ) → k < length files → get_or (file_names files) k d ≡ (get_or files k no_file).0
name_at files k d inside = get_or-map (λ (file : File). file.0) files k no_file d inside

ascending-under : (told : Told) (root : List ℕ) (k : ℕ) (d : List ℕ) → k + 1 < length (under told root) → IsBefore (get_or (file_names (under told root)) k d) (get_or (file_names (under told root)) (k + 1) d)
ascending-under told root k d inside =
    let files = under told root in
    (λ i. slice_cmp nat_cmp (name_at files k d (omega arith) i) (name_at files (k + 1) d inside i)) ∙ under-ascending told root k inside

pub is_directory-under : (told : Told) (root : List ℕ) → All IsUtf8 (file_names (under told root)) → IsDirectory (under told root)
is_directory-under told root texts = record {
  texts = texts;
  ascending = λ k d h. ascending-under told root k d (omega (arith, h, length-map (under told root) (λ (file : File). file.0)));
}
