-- What pack says of a package that it wrote.
use Rattle.std.specs.Prelude.{◌≡◌, ℕ, List, length}
use Rattle.cook_bits.specs.Names.{File}
use Rattle.cook_pack.specs.Package.{package_of}
use Rattle.cook_pack.specs.declared.packing.PackSum.{PackSum}

-- the files of the directory, no track and no block, and the bytes of the package
pub record IsSumOf (directory : List File) (rate : ℕ) (sum : PackSum) : Type 0 where
  pub files : sum.files ≡ length directory
  pub tracks : sum.tracks ≡ 0
  pub blocks : sum.blocks ≡ 0
  pub bytes : sum.bytes ≡ length (package_of directory rate)
