use Rattle.std.proofs.Common.{◌∙◌}
use Rattle.cook_restore.proofs.OpenLaws.{no_side-refused, side-ends, side-records, side_of-found, recorded-not_opened}
use Rattle.cook_restore.proofs.opening.package_records.Goals as goal

pub returns-in_default-clause-stopped : goal.returns-in_default-clause-stopped
returns-in_default-clause-stopped g c = no_side-refused _ _ c.args.outline.now _ c.side_number.result c.requires.there c.requires.outline c.files-files.ensures c.side_number.ensures c.in_default.is

pub attached_bytes-requires-clause-ends : goal.attached_bytes-requires-clause-ends
attached_bytes-requires-clause-ends g c =
    side-ends c.args.len c.args.outline.now _ _ c.in-Some.number c.index-files-number.result c.requires.within c.files-files.ensures c.side_number.ensures c.in-Some.is c.index-files-number.is

pub returns-in-Ok-clause-records : goal.returns-in-Ok-clause-records
returns-in-Ok-clause-records g c =
    side-records _ _ c.args.outline.now c.index-files-number.result c.as_slice.result.now _ (side_of-found c.args.outline.now _ _ c.in-Some.number c.index-files-number.result c.files-files.ensures c.side_number.ensures c.in-Some.is c.index-files-number.is)
    (λ known. c.as_slice.ensures.value ∙ c.in_ok-bytes.ensures.bytes known) c.in-Ok.ensures.exact

pub returns-clause-stopped : goal.returns-clause-stopped
returns-clause-stopped g c =
    recorded-not_opened _ c.args.pkg.now c.args.outline.now c.index-files-number.result c.as_slice.result.now (g.S.Shelf.faults c.args.shelf.now) (g.S.Shelf.faults c.attached_bytes.new.shelf) c.in-Err.error c.not_recorded.result c.requires.there c.requires.outline
    (side_of-found c.args.outline.now _ _ c.in-Some.number c.index-files-number.result c.files-files.ensures c.side_number.ensures c.in-Some.is c.index-files-number.is)
    (λ known. c.as_slice.ensures.value ∙ c.in_ok-bytes.ensures.bytes known) c.in-Err.ensures.exact c.not_recorded.ensures
