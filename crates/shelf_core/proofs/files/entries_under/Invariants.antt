use Rattle.std.specs.Prelude.{◌≡◌, take}
use Rattle.cook_bits.specs.Names.{files_under}
use Rattle.shelf_core.specs.Listing.{plain_entries}
use Rattle.shelf_core.proofs.files.entries_under.Given as goal

-- the files so far are listed
abbrev pub invariant-loop-file : goal.invariant-loop-file
invariant-loop-file l = l.entries.items ≡ plain_entries (files_under l.root (take l.file-index l.files))
