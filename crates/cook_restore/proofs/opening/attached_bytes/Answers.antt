use Rattle.cook_restore.proofs.OpenLaws.{bytes-read}
use Rattle.cook_restore.proofs.opening.attached_bytes.Goals as goal

pub returns-in-Ok-clause-bytes : goal.returns-in-Ok-clause-bytes
returns-in-Ok-clause-bytes g c = λ known.
    bytes-read c.args.file.now _ c.resize.new.self.items c.read_piece.new.piece _ _ c.args.len c.in_ok-resize.ensures.len c.as_mut_slice.ensures.len (c.requires.len known) c.requires.ends (c.in-Ok.ensures.read known)
