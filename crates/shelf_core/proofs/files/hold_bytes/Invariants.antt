use Rattle.std.specs.Prelude.{take}
use Rattle.shelf_core.specs.Store.{AreOfBytes}
use Rattle.shelf_core.proofs.files.hold_bytes.Given as goal

abbrev pub invariant-loop-file : goal.invariant-loop-file
invariant-loop-file l = AreOfBytes (take l.file-index l.files)
