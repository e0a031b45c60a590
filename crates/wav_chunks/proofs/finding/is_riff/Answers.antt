use Rattle.std.proofs.Common.{Ok, subst}
use Rattle.shelf_reader.specs.Seen.{Seen}
use Rattle.shelf_reader.specs.Readings.{answers, Answers}
use Rattle.wav_chunks.specs.declared.why.WavWhy.{WavWhy}
use Rattle.wav_chunks.specs.WaveParts.{is_riff}
use Rattle.wav_chunks.specs.Window.{known}
use Rattle.wav_chunks.proofs.LayoutLaws.{riff-other}
use Rattle.wav_chunks.proofs.finding.is_riff.Goals as goal

pub returns-else-is_same-clause-exact : goal.returns-else-is_same-clause-exact
returns-else-is_same-clause-exact g c =
    subst (λ (file : Seen). Answers file (answers {F = WavWhy} is_riff) (Ok c.is_same.result)) c.in_ok-show.ensures.reads.kept.known
    (riff-other WavWhy (known g.S.Shelf c.show.new.self) c.part.result.now c.is_same.result c.part.ensures.part c.is_same.ensures c.if-is_same.false)
