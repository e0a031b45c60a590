use Rattle.std.proofs.Common.{arith}
use Rattle.shelf_reader.specs.ReadingLaws.{answers-is}
use Rattle.shelf_reader.specs.SeenLaws.{Sees-length}
use Rattle.shelf_reader.proofs.WindowLaws.{Sees-other_text}
use Rattle.shelf_reader.proofs.reader.Reader.is_text.Goals as goal

pub returns-then-to-from-clause-exact : goal.returns-then-to-from-clause-exact
returns-then-to-from-clause-exact g c =
    answers-is _ _ _ _ (Sees-other_text _ c.args.text.now c.args.from c.args.to c.args.self.now.len (Sees-length (g.S.Shelf.files c.args.self.now.shelf.now) c.args.self.now.name.now c.args.self.now.len)
    c.requires.before c.requires.within (λ same. absurd (omega arith)))
