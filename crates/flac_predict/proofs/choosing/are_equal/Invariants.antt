use Rattle.std.proofs.Common.{◌≡◌, drop}
use Rattle.flac_predict.specs.Samples.{sample_at}
use Rattle.flac_predict.specs.Choice.{all_are}
use Rattle.flac_predict.proofs.choosing.are_equal.Given as goal

abbrev pub invariant-loop-sample : goal.invariant-loop-sample
invariant-loop-sample l =
    all_are (sample_at l.samples 0) (drop l.sample-index l.samples) ≡ all_are (sample_at l.samples 0) l.samples
