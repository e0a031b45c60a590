use Rattle.ffv1_workers.proofs.RowLaws.{answers-short, if-ok_frame}
use Rattle.ffv1_workers.proofs.encoded.encode_frame.Goals as goal

pub frame_of-requires : goal.frame_of-requires
frame_of-requires g c =
    answers-short c.film_tiles.ensures c.args.params.now c.args.grid.now.width c.args.grid.now.height c.args.buffer.now c.encode_rows.new.answers c.requires.film c.requires.picture c.encode_rows.ensures.coded

pub returns-clause-exact : goal.returns-clause-exact
returns-clause-exact g c =
    if-ok_frame c.args.params.now c.args.grid.now.width c.args.grid.now.height c.args.buffer.now c.encode_rows.new.answers c.frame_of.result c.encode_rows.ensures.coded c.frame_of.ensures
