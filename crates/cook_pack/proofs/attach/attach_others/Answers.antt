use Rattle.std.proofs.Common.{refl, [], ap, subst, sym, arith, length}
use Rattle.std.proofs.lemmas.Result.{err_from_is_err_and}
use Rattle.cook_pack.specs.Attaching.{AreRecordsOf, files_on}
use Rattle.cook_pack.proofs.AttachLaws.{StopsFor-later}
use Rattle.cook_pack.proofs.GrowLaws.{GrewInPart-nothing, Has-while_grown, Tells-while_grown, on_err}
use Rattle.cook_pack.proofs.PlannedLaws.{attached-all, attached-front, attached-next, attached-none, attached-stopped, is_next, length-planned_files, records-all, records-more, records-none}
use Rattle.cook_pack.proofs.attach.attach_others.Goals as goal

pub returns-in_err-held-clause-stopped : goal.returns-in_err-held-clause-stopped
returns-in_err-held-clause-stopped g c = on_err _ (GrewInPart-nothing _ _ _ _ c.requires.to_there)

pub loop-file-init : goal.loop-file-init
loop-file-init g c = record {
  room = omega (arith, ap length c.as_mut_slice-buffer.ensures.value, c.in_ok-held.ensures);
  numbered = refl;
  grew = attached-none _ _ _ c.requires.to_there;
  records = subst (AreRecordsOf g.S.Shelf c.args.shelf.now []) (sym c.new-records.ensures.items) (records-none (g.S.Shelf.files c.args.shelf.now) (files_on g.S.Shelf c.args.shelf.now c.args.plan.now));
}

pub attach_planned-requires-clause-ready : goal.attach_planned-requires-clause-ready
attach_planned-requires-clause-ready g c =
    (is_next g.S.Shelf _ _ c.args.plan.now _ _ c.root.result.now c.loop-file.uid c.loop-file.file-index c.as_slice-files.result.now c.file-item.result
    c.loop-file.invariant.grew c.requires.ready c.root.ensures c.as_slice-files.ensures.files c.loop-file.invariant.numbered c.loop-file-test.true c.file-item.is).ready

pub attach_planned-requires-clause-to_there : goal.attach_planned-requires-clause-to_there
attach_planned-requires-clause-to_there g c = Has-while_grown _ _ _ _ _ _ c.loop-file.invariant.grew c.requires.to_there

pub returns-in_err-record-clause-stopped : goal.returns-in_err-record-clause-stopped
returns-in_err-record-clause-stopped g c =
    let next = is_next g.S.Shelf _ _ c.args.plan.now _ _ c.root.result.now c.loop-file.uid c.loop-file.file-index c.as_slice-files.result.now c.file-item.result
    c.loop-file.invariant.grew c.requires.ready c.root.ensures c.as_slice-files.ensures.files c.loop-file.invariant.numbered c.loop-file-test.true c.file-item.is in
    on_err _ (attached-stopped _ _ _ _ _ _ _ _ c.loop-file.invariant.grew next.bytes next.inside c.in_err-record.ensures.stopped)

pub returns-in_err-record-clause-cause : goal.returns-in_err-record-clause-cause
returns-in_err-record-clause-cause g c =
    let next = is_next g.S.Shelf _ _ c.args.plan.now _ _ c.root.result.now c.loop-file.uid c.loop-file.file-index c.as_slice-files.result.now c.file-item.result
    c.loop-file.invariant.grew c.requires.ready c.root.ensures c.as_slice-files.ensures.files c.loop-file.invariant.numbered c.loop-file-test.true c.file-item.is in
    let p = err_from_is_err_and c.from_residual-in_err-record.result c.from_residual-in_err-record.ensures.1 in
    rw (p.1, p.2) (StopsFor-later _ _ _ _ _ _ (Tells-while_grown _ _ _ _ _ c.loop-file.invariant.grew) c.loop-file.invariant.grew.faults (c.in_err-record.ensures.cause c.args.plan.now next.planned))

pub returns-in_err-push-clause-stopped : goal.returns-in_err-push-clause-stopped
returns-in_err-push-clause-stopped g c =
    let next = is_next g.S.Shelf _ _ c.args.plan.now _ _ c.root.result.now c.loop-file.uid c.loop-file.file-index c.as_slice-files.result.now c.file-item.result
    c.loop-file.invariant.grew c.requires.ready c.root.ensures c.as_slice-files.ensures.files c.loop-file.invariant.numbered c.loop-file-test.true c.file-item.is in
    on_err _ (attached-front _ _ _ _ _ _ (attached-next _ _ _ _ _ _ _ _ c.loop-file.invariant.grew next.bytes next.inside c.in_ok-record.ensures.attached))

pub loop-file-preserved : goal.loop-file-preserved
loop-file-preserved g c =
    let next = is_next g.S.Shelf _ _ c.args.plan.now _ _ c.root.result.now c.loop-file.uid c.loop-file.file-index c.as_slice-files.result.now c.file-item.result
    c.loop-file.invariant.grew c.requires.ready c.root.ensures c.as_slice-files.ensures.files c.loop-file.invariant.numbered c.loop-file-test.true c.file-item.is in
    record {
      room = omega (arith, c.attach_planned.auto.buffer);
      numbered = omega (arith, c.loop-file.invariant.numbered);
      grew = attached-next _ _ _ _ _ _ _ _ c.loop-file.invariant.grew next.bytes next.inside c.in_ok-record.ensures.attached;
      records = subst (AreRecordsOf g.S.Shelf c.args.shelf.now _) (sym c.in_ok-push.ensures.items) (records-more _ _ _ _ _ _ _ _ _ c.loop-file.invariant.grew.files next.is next.inside c.loop-file.invariant.records c.in_ok-record.ensures.record);
    }

pub returns-clause-attached : goal.returns-clause-attached
returns-clause-attached g c =
    attached-all _ _ _ _ _ _ c.loop-file.invariant.grew (omega (arith, length-planned_files (g.S.Shelf.files c.args.shelf.now) c.args.plan.now, ap length c.as_slice-files.ensures.files, c.loop-file-test.false))

pub returns-clause-records : goal.returns-clause-records
returns-clause-records g c =
    records-all _ _ _ _ c.loop-file.invariant.records (omega (arith, length-planned_files (g.S.Shelf.files c.args.shelf.now) c.args.plan.now, ap length c.as_slice-files.ensures.files, c.loop-file-test.false))
