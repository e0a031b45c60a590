use Rattle.std.proofs.Common.{arith}
use Rattle.shelf_reader.specs.ReadingLaws.{answers-is}
use Rattle.shelf_reader.specs.SeenLaws.{Sees-length}
use Rattle.matroska_read.proofs.NumberLaws.{Sees-long_number}
use Rattle.matroska_read.proofs.header.is_number_understood.Goals as goal

pub returns-then-child-gt-LONGEST_NUMBER-clause-exact :
    goal.returns-then-child-gt-LONGEST_NUMBER-clause-exact
returns-then-child-gt-LONGEST_NUMBER-clause-exact g c =
    answers-is _ _ _ _ (Sees-long_number _ c.args.bounds c.args.child c.args.reader.now.len (Sees-length (g.S.Shelf.files c.args.reader.now.shelf.now) c.args.reader.now.name.now c.args.reader.now.len)
    c.requires.inside.content c.requires.inside.within (omega arith))
