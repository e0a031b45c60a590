use Rattle.std.proofs.Common.{length, rules}
use Rattle.shelf_reader.specs.Readings.{gives}
use Rattle.shelf_reader.specs.ReadingLaws.{piece-stops}
use Rattle.wav_chunks.specs.declared.why.WavWhy.{WavWhy}
use Rattle.wav_chunks.proofs.reader.fill.Goals as goal

pub returns-in_err-read_piece-clause-exact : goal.returns-in_err-read_piece-clause-exact
returns-in_err-read_piece-clause-exact g c =
    let stops = piece-stops (g.S.Shelf.files c.args.shelf.now) c.args.name.now c.args.len c.args.at (length c.args.piece.now) c.in_err-read_piece.field-0.0 (gives {F = WavWhy} (tt {0})) c.requires.within (λ known inside. c.in_err-read_piece.ensures.whole known inside) in
    search (rules, stops)
