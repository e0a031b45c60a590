use Rattle.name_tree.proofs.Pieces.{piece_at, no_piece}
use Rattle.name_tree.proofs.search.end_of_piece.Goals as goal

pub returns-then-name-end-eq47 : goal.returns-then-name-end-eq47
returns-then-name-end-eq47 c = piece_at c.args.name.now c.args.start c.loop-end.end c.loop-end.invariant c.loop-end-test.true c.if-name-end-eq47.true

pub returns : goal.returns
returns c = no_piece c.args.name.now c.args.start c.loop-end.end c.loop-end.invariant c.loop-end-test.false
