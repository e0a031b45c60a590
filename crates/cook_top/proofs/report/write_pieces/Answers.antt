use Rattle.std.proofs.Common.{rules, arith}
use Rattle.cook_top.specs.Shown.{piece_bytes}
use Rattle.shelf_core.specs.ReportLaws.{with_text-one_more, WrittenPartly-one_more}
use Rattle.cook_top.proofs.report.write_pieces.Goals as goal

pub returns-in_err-write_piece-clause-err : goal.returns-in_err-write_piece-clause-err
returns-in_err-write_piece-clause-err g c =
    let front = WrittenPartly-one_more piece_bytes _ _ _ c.args.pieces.now c.loop-piece.piece-index _ c.loop-piece-test.true c.loop-piece.invariant.written c.in_err-write_piece.ensures.err in
    search (rules, front)

pub loop-piece-preserved : goal.loop-piece-preserved
loop-piece-preserved g c = record {
  written = with_text-one_more piece_bytes _ _ _ c.args.pieces.now c.loop-piece.piece-index _ c.loop-piece-test.true c.loop-piece.invariant.written c.in_ok-write_piece.ensures.ok;
  faults = omega arith;
}
