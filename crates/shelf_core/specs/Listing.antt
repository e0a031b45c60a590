-- What a listing shows: every file under a root, once, by its relative name, as a plain file.
use Rattle.std.specs.Prelude.{true, List, map}
use Rattle.cook_bits.specs.Names.{File}
use Rattle.shelf_core.specs.declared.shelf.Entry.{Entry}

abbrev pub plain_entry : File → Entry
plain_entry file = record { name = file.0; plain = true }

abbrev pub plain_entries : List File → List Entry
plain_entries files = map plain_entry files
