use Rattle.std.proofs.Common.{◌≡◌, refl, subst, rules}
use Rattle.shelf_reader.specs.Seen.{seen}
use Rattle.wav_chunks.specs.Formed.{IsLayoutIn}
use Rattle.wav_chunks.specs.Window.{known}
use Rattle.wav_chunks.proofs.FoundLaws.{found-known, found-refused}
use Rattle.wav_chunks.proofs.finding.find_through.Goals as goal

pub returns-in_err-read_wave-clause-fault : goal.returns-in_err-read_wave-clause-fault
returns-in_err-read_wave-clause-fault g c =
    let same : known g.S.Shelf c.new-reader.result ≡ seen (g.S.Shelf.files c.args.shelf.now) c.args.name.now c.args.len = rw (c.new-reader.ensures.shelf, c.new-reader.ensures.name, c.new-reader.ensures.len) refl in
    let refused = found-refused (g.S.Shelf.files c.args.shelf.now) c.args.name.now c.args.len c.new-reader.result.len _ c.in_err-read_wave.field-0.0 same c.new-reader.ensures.len c.in_err-read_wave.ensures.exact in
    search (rules, refused)

pub returns-clause-exact : goal.returns-clause-exact
returns-clause-exact g c =
    let same : known g.S.Shelf c.new-reader.result ≡ seen (g.S.Shelf.files c.args.shelf.now) c.args.name.now c.args.len = rw (c.new-reader.ensures.shelf, c.new-reader.ensures.name, c.new-reader.ensures.len) refl in
    found-known (g.S.Shelf.files c.args.shelf.now) c.args.name.now c.args.len c.new-reader.result.len _ _ same c.new-reader.ensures.len c.in_ok-read_wave.ensures.exact

pub returns-clause-layout : goal.returns-clause-layout
returns-clause-layout g c = subst (λ n. IsLayoutIn n c.in_ok-read_wave.field-0) c.new-reader.ensures.len c.in_ok-read_wave.ensures.layout
