-- The texts of reports: each line ends with one line feed.
use Rattle.std.specs.Prelude.{ℕ, List, [], ◌∷◌, codes}
use Rattle.std.specs.List.{concat}
use Rattle.std.specs.Fmt.{decimal}
use Rattle.cook_pack.specs.declared.error.RefuseWhy.{RefuseWhy}
use Rattle.cook_pack.specs.declared.error.RefuseWhy.TheVariants.{NotPlain, BadName, Twice, UnderFile, TooManyFiles, TooLarge, Unbuilt}
use Rattle.cook_restore.specs.declared.error.FileWhy.{FileWhy}
use Rattle.cook_restore.specs.declared.error.FileWhy.TheVariants as file
use Rattle.cook_restore.specs.declared.error.PackageWhy.{PackageWhy}
use Rattle.cook_restore.specs.declared.error.PackageWhy.TheVariants.{Shape, Encoded, TrackUnknown, NoSide, SideBad, SideNames, File}
use Rattle.cook_top.specs.declared.status.Status.{Status}
use Rattle.cook_top.specs.declared.status.Status.TheVariants.{Done, Usage, Refused, PackageRefused, InTheWay, ShelfFault, NoMemory, ReportFault, Changed, Missing}

-- what a line says of the reason of a refusal
unfoldable pub reason_of : RefuseWhy → List ℕ
reason_of NotPlain = codes "not a plain file"
reason_of BadName = codes "bad name"
reason_of Twice = codes "listed twice"
reason_of UnderFile = codes "under a file"
reason_of TooManyFiles = codes "too many files"
reason_of TooLarge = codes "too large"
reason_of Unbuilt = codes "not built yet"

-- what a line says of a file of a package
unfoldable pub file_reason_of : FileWhy → List ℕ
file_reason_of file.Missing = codes "Missing"
file_reason_of file.Length = codes "Length"
file_reason_of file.Sum = codes "Sum"

-- the line on the first fault of a package
unfoldable pub package_line : PackageWhy → List ℕ
package_line (Shape place) = concat (codes "cook: package: bad structure at byte " ∷ decimal place ∷ codes "\n" ∷ [])
package_line (Encoded track) = concat (codes "cook: package: encoded track " ∷ decimal track ∷ codes "\n" ∷ [])
package_line (TrackUnknown track) = concat (codes "cook: package: unknown track " ∷ decimal track ∷ codes "\n" ∷ [])
package_line NoSide = codes "cook: package: no side data\n"
package_line (SideBad place) = concat (codes "cook: package: bad side data at byte " ∷ decimal place ∷ codes "\n" ∷ [])
package_line (SideNames name) = concat (codes "cook: package: bad side name " ∷ name ∷ codes "\n" ∷ [])
package_line (File name why) = concat (codes "cook: package: file " ∷ name ∷ codes ": " ∷ file_reason_of why ∷ codes "\n" ∷ [])

-- a line on a name
unfoldable pub named_line : List ℕ → List ℕ → List ℕ
named_line name said = concat (codes "cook: " ∷ name ∷ codes ": " ∷ said ∷ codes "\n" ∷ [])

-- the line on a file that had `was` bytes and gave only `now`
unfoldable pub changed_line : List ℕ → ℕ → ℕ → List ℕ
changed_line name was now = concat (codes "cook: " ∷ name ∷ codes ": changed from " ∷ decimal was ∷ codes " to " ∷ decimal now ∷ codes " bytes\n" ∷ [])

-- the line that says why a command ended otherwise than by its work
unfoldable pub line_of : Status → List ℕ
line_of Done = []
line_of Usage = codes "cook: usage: pack [-w N] [-r N] DIR PKG, restore [-w N] PKG DIR, check [-w N] PKG, list PKG, trial N\n"
line_of (Refused name why) = named_line name (reason_of why)
line_of (PackageRefused why) = package_line why
line_of (InTheWay name) = named_line name (codes "in the way")
line_of ShelfFault = codes "cook: shelf fault\n"
line_of NoMemory = codes "cook: no memory\n"
line_of ReportFault = []
line_of (Changed name was now) = changed_line name was now
line_of (Missing name) = named_line name (codes "not there")

-- the report of pack: how many files, tracks and blocks the package has, and of how many bytes it is
unfoldable pub pack_line : ℕ → ℕ → ℕ → ℕ → List ℕ
pack_line files tracks blocks bytes = concat (codes "packed " ∷ decimal files ∷ codes " files, " ∷ decimal tracks ∷ codes " tracks, " ∷ decimal blocks ∷ codes " blocks, " ∷ decimal bytes ∷ codes " bytes\n" ∷ [])

-- the report of restore: how many files were given, and how many bytes they have
unfoldable pub restore_line : ℕ → ℕ → List ℕ
restore_line files bytes = concat (codes "restored " ∷ decimal files ∷ codes " files, " ∷ decimal bytes ∷ codes " bytes\n" ∷ [])
