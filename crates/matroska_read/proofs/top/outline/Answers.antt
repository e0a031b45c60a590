use Rattle.std.proofs.Common.{◌≡◌, refl, subst, rules}
use Rattle.shelf_reader.specs.Keeping.{known}
use Rattle.shelf_reader.specs.Seen.{seen}
use Rattle.matroska_read.specs.Inside.{KeepsWithin}
use Rattle.matroska_read.proofs.TopLaws.{outline-known, outline-refused}
use Rattle.matroska_read.proofs.top.outline.Goals as goal

pub returns-in_err-read_outline-clause-fault : goal.returns-in_err-read_outline-clause-fault
returns-in_err-read_outline-clause-fault g c =
    let same : known g.S.Shelf c.new-reader.result ≡ seen (g.S.Shelf.files c.args.shelf.now) c.args.name.now c.args.len = rw (c.new-reader.ensures.shelf, c.new-reader.ensures.name, c.new-reader.ensures.len) refl in
    let refused = outline-refused (g.S.Shelf.files c.args.shelf.now) c.args.name.now c.args.len c.new-reader.result.len _ c.in_err-read_outline.field-0.0 same c.new-reader.ensures.len c.in_err-read_outline.ensures.exact in
    search (rules, refused)

pub returns-clause-exact : goal.returns-clause-exact
returns-clause-exact g c =
    let same : known g.S.Shelf c.new-reader.result ≡ seen (g.S.Shelf.files c.args.shelf.now) c.args.name.now c.args.len = rw (c.new-reader.ensures.shelf, c.new-reader.ensures.name, c.new-reader.ensures.len) refl in
    outline-known (g.S.Shelf.files c.args.shelf.now) c.args.name.now c.args.len c.new-reader.result.len _ _ same c.new-reader.ensures.len c.in_ok-read_outline.ensures.exact

pub returns-clause-within : goal.returns-clause-within
returns-clause-within g c = subst (λ n. KeepsWithin n c.in_ok-read_outline.field-0) c.new-reader.ensures.len c.in_ok-read_outline.ensures.within
