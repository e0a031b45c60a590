use Rattle.shelf_core.specs.Told.{HasFile}
use Rattle.conformance.proofs.restore.give_files.Given as goal

abbrev pub invariant-loop : goal.invariant-loop
invariant-loop g l = HasFile (g.S.Shelf.files l.shelf) l.restorer.pkg
