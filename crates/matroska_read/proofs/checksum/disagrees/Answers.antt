use Rattle.std.proofs.Common.{refl, rules}
use Rattle.matroska_read.proofs.ChecksumLaws.{disagrees-is, disagrees-stops}
use Rattle.matroska_read.proofs.checksum.disagrees.Goals as goal

pub returns-in_err-found-clause-exact : goal.returns-in_err-found-clause-exact
returns-in_err-found-clause-exact g c =
    let stops = disagrees-stops _ _ c.args.checksum c.args.end c.in_err-found.field-0.0 c.in_ok-show.ensures.reads.kept.known c.in_err-found.ensures.exact in
    search (rules, stops)

pub returns-clause-exact : goal.returns-clause-exact
returns-clause-exact g c =
    disagrees-is _ _ _ c.args.checksum c.args.end c.in_ok-found.found c.read_u32-said.result c.part.result.now _ c.in_ok-show.ensures.reads.kept.known c.in_ok-found.ensures.exact c.part.ensures.part c.read_u32-said.ensures refl
