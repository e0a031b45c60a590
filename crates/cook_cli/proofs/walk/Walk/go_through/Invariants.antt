-- Each thing that is met makes one fewer of those that may be, and one folder more at most.
use Rattle.std.proofs.Common.{◌+◌, ◌≤◌, vec_len}
use Rattle.cook_cli.proofs.walk.Walk.go_through.Given as goal

abbrev pub invariant-loop-found : goal.invariant-loop-found
invariant-loop-found l = l.self.left + vec_len l.self.folders ≤ l.fn.self.left + vec_len l.fn.self.folders
