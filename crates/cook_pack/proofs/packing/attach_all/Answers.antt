use Rattle.std.proofs.Common.{◌+◌, All, length, refl, ap, subst, ◌∙◌, sym, arith}
use Rattle.std.proofs.lemmas.Result.{err_from_is_err_and}
use Rattle.reversal.specs.SideData.{AreRecords, IsOther}
use Rattle.reversal.specs.Lengths.{others_have_no_parts}
use Rattle.cook_pack.specs.Attaching.{files_on}
use Rattle.cook_pack.specs.Package.{others_of, records_of, side_attached}
use Rattle.cook_pack.proofs.AttachLaws.{StopsFor-later}
use Rattle.cook_pack.proofs.GrowLaws.{GrewInPart-first, GrewInPart-second, Grew-both, Has-while_grown, Tells-while_grown, on_err}
use Rattle.cook_pack.proofs.PackLaws.{records-are, records-whole, few-records, length-records, attachments-is}
use Rattle.cook_pack.proofs.packing.attach_all.Goals as goal

pub returns-in_err-attached-clause-stopped : goal.returns-in_err-attached-clause-stopped
returns-in_err-attached-clause-stopped g c =
    let files = files_on g.S.Shelf c.args.shelf.now c.args.plan.now in
    on_err _ (GrewInPart-first _ _ _ _ _ _ (side_attached (length (others_of files) + 1) (records_of files)) (λ known. attachments-is files _ _ refl refl) c.in_err-attached.ensures.stopped)

pub attach_side-requires-clause-are : goal.attach_side-requires-clause-are
attach_side-requires-clause-are g c = subst AreRecords (sym c.as_slice-records.ensures.value) (records-are _ _ _ c.requires.ready.sound c.in_ok-attached.ensures.records)

pub attach_side-requires-clause-small : goal.attach_side-requires-clause-small
attach_side-requires-clause-small g c =
    let others : All IsOther c.as_slice-records.result.now = subst (All IsOther) (sym c.as_slice-records.ensures.value) (λ k d lt. (c.in_ok-attached.ensures.records.plain k d lt).other) in
    omega (arith, others_have_no_parts c.as_slice-records.result.now others)

pub attach_side-requires-clause-few : goal.attach_side-requires-clause-few
attach_side-requires-clause-few g c = omega (arith, ap length c.as_slice-records.ensures.value, few-records (g.S.Shelf.files c.args.shelf.now) c.args.plan.now _ c.requires.ready.sound c.in_ok-attached.ensures.records)

pub attach_side-requires-clause-open : goal.attach_side-requires-clause-open
attach_side-requires-clause-open g c = rw c.in_ok-attached.ensures.attached.unsealed c.requires.open

pub attach_side-requires-clause-to_there : goal.attach_side-requires-clause-to_there
attach_side-requires-clause-to_there g c = Has-while_grown _ _ _ _ _ _ c.in_ok-attached.ensures.attached c.requires.to_there

pub returns-in_err-attach_side-clause-stopped : goal.returns-in_err-attach_side-clause-stopped
returns-in_err-attach_side-clause-stopped g c =
    let files = files_on g.S.Shelf c.args.shelf.now c.args.plan.now in
    let count = length-records (g.S.Shelf.files c.args.shelf.now) c.args.plan.now _ c.in_ok-attached.ensures.records in
    on_err _ (GrewInPart-second _ _ _ _ _ _ _ _ c.in_ok-attached.ensures.attached
    (λ known. attachments-is files _ _ (ap (λ n. n + 1) (ap length c.as_slice-records.ensures.value ∙ count)) (c.as_slice-records.ensures.value ∙ records-whole (g.S.Shelf.files c.args.shelf.now) files _ c.in_ok-attached.ensures.records known))
    c.in_err-attach_side.ensures.stopped)

pub returns-in_err-attach_side-clause-cause : goal.returns-in_err-attach_side-clause-cause
returns-in_err-attach_side-clause-cause g c =
    let p = err_from_is_err_and c.from_residual-in_err-attach_side.result c.from_residual-in_err-attach_side.ensures.1 in
    rw (p.1, p.2) (StopsFor-later _ _ _ _ _ _ (Tells-while_grown _ _ _ _ _ c.in_ok-attached.ensures.attached) c.in_ok-attached.ensures.attached.faults (c.in_err-attach_side.ensures.cause _))

pub returns-clause-attached : goal.returns-clause-attached
returns-clause-attached g c =
    let files = files_on g.S.Shelf c.args.shelf.now c.args.plan.now in
    let count = length-records (g.S.Shelf.files c.args.shelf.now) c.args.plan.now _ c.in_ok-attached.ensures.records in
    Grew-both _ _ _ _ _ _ _ _ c.in_ok-attached.ensures.attached c.in_ok-attach_side.ensures.attached
    (λ known. attachments-is files _ _ (ap (λ n. n + 1) (ap length c.as_slice-records.ensures.value ∙ count)) (c.as_slice-records.ensures.value ∙ records-whole (g.S.Shelf.files c.args.shelf.now) files _ c.in_ok-attached.ensures.records known))
