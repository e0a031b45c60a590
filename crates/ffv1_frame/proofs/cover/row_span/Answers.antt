use Rattle.std.proofs.Common.{◌+◌, ◌*◌, ◌≤◌, arith}
use Rattle.ffv1_frame.proofs.Marking.{row-high}
use Rattle.ffv1_frame.proofs.cover.row_span.Goals as goal

pub returns-clause-high : goal.returns-clause-high
returns-clause-high c =
    let high : (c.args.head.now.y + c.args.row) * c.args.grid.now.columns + c.args.head.now.x + c.args.head.now.columns ≤ c.args.grid.now.columns * c.args.grid.now.rows =
    row-high c.args.grid.now.columns c.args.grid.now.rows c.args.head.now.x c.args.head.now.y c.args.head.now.columns c.args.row c.requires.head.across (omega arith) in
    omega arith
