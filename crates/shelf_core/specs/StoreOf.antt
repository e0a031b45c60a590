-- What a shelf tells that holds a store.
use Rattle.std.specs.Prelude.{Some}
use Rattle.shelf_core.specs.declared.store.Store.{Store}
use Rattle.shelf_core.specs.Told.{Told, Unsealed}
use Rattle.shelf_core.specs.Store.{told_of}

abbrev pub told_files : Store → Told
told_files store = told_of store.files.items

abbrev pub told_unsealed : Store → Unsealed
told_unsealed store = Some store.unsealed.items
