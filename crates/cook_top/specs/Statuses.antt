-- The numbers with which the program ends, and the status that shows why a call below was given up.
use Rattle.std.specs.Prelude.{ℕ}
use Rattle.cook_pack.specs.declared.error.PackError.{PackError}
use Rattle.cook_pack.specs.declared.error.PackError.TheVariants as pack
use Rattle.shelf_core.specs.declared.shelf.ShelfError.{ShelfError}
use Rattle.shelf_core.specs.declared.shelf.ShelfError.TheVariants as shelf
use Rattle.cook_restore.specs.declared.error.RestoreError.{RestoreError}
use Rattle.cook_restore.specs.declared.error.RestoreError.TheVariants as unopened
use Rattle.cook_top.specs.declared.status.Status.{Status}
use Rattle.cook_top.specs.declared.status.Status.TheVariants.{Done, Usage, Refused, PackageRefused, InTheWay, ShelfFault, NoMemory, ReportFault, Changed, Missing}

abbrev pub number_of : Status → ℕ
number_of Done = 0
number_of Usage = 1
number_of (Refused name why) = 2
number_of (PackageRefused why) = 3
number_of (InTheWay name) = 4
number_of ShelfFault = 5
number_of NoMemory = 6
number_of ReportFault = 7
number_of (Changed name was now) = 8
number_of (Missing name) = 9

abbrev pub status_of_pack_error : PackError → Status
status_of_pack_error (pack.Refused name why) = Refused name why
status_of_pack_error (pack.InTheWay name) = InTheWay name
status_of_pack_error (pack.Changed name was now) = Changed name was now
status_of_pack_error (pack.Missing name) = Missing name
status_of_pack_error pack.Failed = ShelfFault
status_of_pack_error pack.NoMemory = NoMemory

abbrev pub status_of_shelf_error : ShelfError → Status
status_of_shelf_error shelf.Failed = ShelfFault
status_of_shelf_error shelf.NoMemory = NoMemory

abbrev pub status_of_restore_error : RestoreError → Status
status_of_restore_error (unopened.Package why) = PackageRefused why
status_of_restore_error (unopened.Missing name) = Missing name
status_of_restore_error (unopened.Changed name was now) = Changed name was now
status_of_restore_error unopened.Failed = ShelfFault
status_of_restore_error unopened.NoMemory = NoMemory
