-- The work that remains: the folders to go through, and the things that may still be met.
use Rattle.std.proofs.Common.{◌+◌, vec_len}
use Rattle.cook_cli.proofs.walk.list.Given as goal

abbrev pub decreases-loop-folder : goal.decreases-loop-folder
decreases-loop-folder l = l.walk.left + vec_len l.walk.folders
