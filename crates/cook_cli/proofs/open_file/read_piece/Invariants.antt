-- No more was read than there is room for.
use Rattle.std.proofs.Common.{◌≤◌, length}
use Rattle.cook_cli.proofs.open_file.read_piece.Given as goal

abbrev pub invariant-loop : goal.invariant-loop
invariant-loop g l = l.count ≤ length l.buf
