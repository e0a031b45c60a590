use Rattle.std.proofs.Common.{◌≡◌, ◌∙◌, false, arith, rules}
use Rattle.shelf_core.specs.Reads.{bytes_of}
use Rattle.shelf_core.specs.Writes.{GrewInPart}
use Rattle.matroska_write.specs.Attached.{attached_file, attached_head}
use Rattle.cook_pack.proofs.AttachLaws.{attached_both, sum_of_attached, stopped_in_head, stopped_in_content}
use Rattle.cook_pack.proofs.GrowLaws.{GrewInPart-nothing, on_err}
use Rattle.cook_pack.proofs.attach.attach_file.Goals as goal

pub returns-in_err-head-clause-stopped : goal.returns-in_err-head-clause-stopped
returns-in_err-head-clause-stopped g c = on_err _ (GrewInPart-nothing _ _ _ _ c.requires.to_there)

pub returns-in_err-append_piece-clause-stopped : goal.returns-in_err-append_piece-clause-stopped
returns-in_err-append_piece-clause-stopped g c =
    let head : c.as_slice.result.now ≡ attached_head c.args.file.name.now false c.args.file.uid c.args.file.len = search rules in
    let whole = attached_file c.args.file.name.now false c.args.file.uid (bytes_of g.S.Shelf c.args.shelf.now c.args.from.now) in
    let part : GrewInPart g.S.Shelf c.args.shelf.now c.append_piece.new.shelf c.args.to.now whole = record {
      files = stopped_in_head _ _ _ _ _ _ _ _ _ c.requires.measured head c.in_err-append_piece.ensures.err.files;
      unsealed = c.in_err-append_piece.ensures.err.unsealed;
      faults = c.in_err-append_piece.ensures.err.faults;
      starved = c.in_err-append_piece.ensures.err.starved;
    } in
    on_err _ part

pub returns-in-Ok-clause-attached : goal.returns-in-Ok-clause-attached
returns-in-Ok-clause-attached g c =
    let head : c.as_slice.result.now ≡ attached_head c.args.file.name.now false c.args.file.uid c.args.file.len = search rules in
    record {
      files = attached_both _ _ _ _ _ _ _ _ _ _ c.requires.measured c.requires.apart head c.in_ok-append_piece.ensures.ok.files c.in-Ok.ensures.copied.files;
      unsealed = c.in-Ok.ensures.copied.unsealed ∙ c.in_ok-append_piece.ensures.ok.unsealed;
      faults = omega (arith, c.in_ok-append_piece.ensures.ok.faults, c.in-Ok.ensures.copied.faults);
      starved = omega (arith, c.in_ok-append_piece.ensures.ok.starved, c.in-Ok.ensures.copied.starved);
    }

pub returns-in-Ok-clause-sum : goal.returns-in-Ok-clause-sum
returns-in-Ok-clause-sum g c = sum_of_attached _ _ _ _ _ _ _ c.requires.measured c.requires.apart c.in_ok-append_piece.ensures.ok.files c.in-Ok.ensures.sum

pub returns-clause-stopped : goal.returns-clause-stopped
returns-clause-stopped g c =
    let head : c.as_slice.result.now ≡ attached_head c.args.file.name.now false c.args.file.uid c.args.file.len = search rules in
    record {
      files = stopped_in_content _ _ _ _ _ _ _ _ _ _ c.requires.measured c.requires.apart head c.in_ok-append_piece.ensures.ok.files c.in-Err.ensures.stopped.files;
      unsealed = c.in-Err.ensures.stopped.unsealed ∙ c.in_ok-append_piece.ensures.ok.unsealed;
      faults = omega (arith, c.in_ok-append_piece.ensures.ok.faults, c.in-Err.ensures.stopped.faults);
      starved = omega (arith, c.in_ok-append_piece.ensures.ok.starved, c.in-Err.ensures.stopped.starved);
    }
