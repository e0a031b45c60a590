use Rattle.std.proofs.Common.{◌+◌, ◌-◌, ◌*◌}
use Rattle.slice_pool.proofs.pool.+halves.Given as goal

abbrev pub decreases-run_shares : goal.decreases-run_shares
decreases-run_shares g l = 4 * l.shares

abbrev pub decreases-both_halves : goal.decreases-both_halves
decreases-both_halves g l = 4 * (l.shares + l.next_shares) - 1

abbrev pub decreases-both_halves-front : goal.decreases-both_halves-front
decreases-both_halves-front g l = 4 * l.shares + 1

abbrev pub decreases-both_halves-back : goal.decreases-both_halves-back
decreases-both_halves-back g l = 4 * l.next_shares + 1
