-- The package of a planned directory means the directory.
use Rattle.std.proofs.Common.{◌≡◌, ◌≤◌, List, [], ◌∷◌, ℕ, None, All, IsUtf8, map, refl, ap, ◌∙◌, subst}
use Rattle.cook_bits.specs.Names.{File}
use Rattle.shelf_core.specs.Reads.{Tells}
use Rattle.shelf_core.specs.Told.{under}
use Rattle.shelf_core.specs.declared.shelf.Shelf.{Ghosts}
use Rattle.cook_pack.specs.Offence.{IsInProfile}
use Rattle.cook_pack.specs.Package.{package_of}
use Rattle.cook_pack.specs.Planned.{Planned, IsPlanOf, directory_of, names_planned, planned_file}
use Rattle.cook_restore.specs.Meaning.{meaning_of}
use Rattle.cook_top.specs.RoundTrip.{PackageMeansDirectory, file_names}
use Rattle.cook_top.proofs.DirectoryLaws.{is_directory-under}

names_kept : (files : List File) → names_planned (map planned_file files) ≡ file_names files
names_kept [] = refl
names_kept (file ∷ files) = ap (λ names. file.0 ∷ names) (names_kept files)

pub planned_means : PackageMeansDirectory → {S : Type 0} (g : Ghosts S) (shelf : S) (dir : List ℕ) (plan : Planned) (rate : ℕ) → IsPlanOf g shelf dir plan → 1 ≤ rate → rate ≤ 240 → Tells g shelf
    → meaning_of (package_of (directory_of g shelf dir) rate) ≡ record { files = directory_of g shelf dir; end = None }
planned_means means g shelf dir plan rate is low high known =
    let told = g.files shelf in
    let fits = is.fits known in
    let texts : All IsUtf8 (file_names (under told dir)) =
    subst (All IsUtf8) (ap names_planned fits.files ∙ names_kept (under told plan.root) ∙ ap (λ root. file_names (under told root)) is.at_root) is.sound.texts in
    means (under told dir) rate (is_directory-under told dir texts) (subst (λ root. IsInProfile (under told root)) is.at_root fits.in_profile) low high
