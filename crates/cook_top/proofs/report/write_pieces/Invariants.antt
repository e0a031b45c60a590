use Rattle.std.proofs.Common.{◌≡◌, ◌≤◌, take}
use Rattle.std.specs.List.{flat_map}
use Rattle.shelf_core.specs.Report.{with_text}
use Rattle.cook_top.specs.Shown.{piece_bytes}
use Rattle.cook_top.proofs.report.write_pieces.Given as goal

abbrev pub invariant-loop-piece : goal.invariant-loop-piece
invariant-loop-piece g l = record {
  written : g.O.Sink.written l.out ≡ with_text (g.O.Sink.written l.fn.out) (flat_map piece_bytes (take l.piece-index l.pieces));
  faults : g.O.Sink.faults l.fn.out ≤ g.O.Sink.faults l.out;
}
