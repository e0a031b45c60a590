use Rattle.ffv1_params.proofs.SetLaws.{SoFar}
use Rattle.ffv1_params.proofs.quantization.TableSet.of_runs.Given as goal

abbrev pub invariant-loop-runs : goal.invariant-loop-runs
invariant-loop-runs l = SoFar l.filled.items l.scale l.tables l.runs-index
