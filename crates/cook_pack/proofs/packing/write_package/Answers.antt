use Rattle.std.proofs.Common.{◌+◌, ◌++◌, length, ap, ◌∙◌, sym, length-append}
use Rattle.std.proofs.lemmas.Result.{err_from_is_err_and}
use Rattle.cook_pack.specs.Attaching.{files_on}
use Rattle.cook_pack.specs.Package.{attachments_bytes}
use Rattle.cook_pack.proofs.AttachLaws.{StopsFor-later}
use Rattle.cook_pack.proofs.GrowLaws.{GrewInPart-nothing, GrewInPart-first, GrewInPart-second, Grew-both, Has-while_grown, Tells-while_grown, on_err}
use Rattle.cook_pack.proofs.PackLaws.{package-is}
use Rattle.cook_pack.proofs.PlannedLaws.{CanAttach-while_grown, files_on-while_grown}
use Rattle.cook_pack.proofs.packing.write_package.Goals as goal

pub returns-in_err-header-clause-stopped : goal.returns-in_err-header-clause-stopped
returns-in_err-header-clause-stopped g c = λ rate. on_err _ (GrewInPart-nothing _ _ _ _ c.requires.to_there)

pub returns-in_err-append_piece-clause-stopped : goal.returns-in_err-append_piece-clause-stopped
returns-in_err-append_piece-clause-stopped g c = λ rate.
    let files = files_on g.S.Shelf c.args.shelf.now c.args.plan.now in
    let part = c.in_err-append_piece.ensures.err in
    on_err _ (GrewInPart-first _ _ _ _ _ _ (attachments_bytes files) (λ known. package-is files rate _ (c.as_slice.ensures ∙ c.in_ok-header.ensures)) part)

pub write_attachments-requires-clause-ready : goal.write_attachments-requires-clause-ready
write_attachments-requires-clause-ready g c =
    let grew = c.in_ok-append_piece.ensures.ok in
    CanAttach-while_grown _ _ _ _ _ _ grew c.requires.ready

pub write_attachments-requires-clause-to_there : goal.write_attachments-requires-clause-to_there
write_attachments-requires-clause-to_there g c =
    let grew = c.in_ok-append_piece.ensures.ok in
    Has-while_grown _ _ _ _ _ _ grew c.requires.to_there

pub returns-in_err-attachments-clause-stopped : goal.returns-in_err-attachments-clause-stopped
returns-in_err-attachments-clause-stopped g c = λ rate.
    let grew = c.in_ok-append_piece.ensures.ok in
    let same = files_on-while_grown _ _ _ _ _ _ grew c.requires.ready in
    on_err _ (GrewInPart-second _ _ _ _ _ _ _ _ grew (λ known. ap (λ l. c.as_slice.result.now ++ attachments_bytes l) same
    ∙ package-is (files_on g.S.Shelf c.args.shelf.now c.args.plan.now) rate _ (c.as_slice.ensures ∙ c.in_ok-header.ensures)) c.in_err-attachments.ensures.stopped)

pub returns-in_err-attachments-clause-cause : goal.returns-in_err-attachments-clause-cause
returns-in_err-attachments-clause-cause g c =
    let grew = c.in_ok-append_piece.ensures.ok in
    let p = err_from_is_err_and c.from_residual-in_err-attachments.result c.from_residual-in_err-attachments.ensures.1 in
    rw (p.1, p.2) (StopsFor-later _ _ _ _ _ _ (Tells-while_grown _ _ _ _ _ grew) grew.faults c.in_err-attachments.ensures.cause)

pub returns-clause-written : goal.returns-clause-written
returns-clause-written g c = λ rate.
    let grew = c.in_ok-append_piece.ensures.ok in
    let same = files_on-while_grown _ _ _ _ _ _ grew c.requires.ready in
    Grew-both _ _ _ _ _ _ _ _ grew c.in_ok-attachments.ensures.written (λ known. ap (λ l. c.as_slice.result.now ++ attachments_bytes l) same
    ∙ package-is (files_on g.S.Shelf c.args.shelf.now c.args.plan.now) rate _ (c.as_slice.ensures ∙ c.in_ok-header.ensures))

pub returns-clause-bytes : goal.returns-clause-bytes
returns-clause-bytes g c = λ rate known.
    let files = files_on g.S.Shelf c.args.shelf.now c.args.plan.now in
    let grew = c.in_ok-append_piece.ensures.ok in
    let same = files_on-while_grown _ _ _ _ _ _ grew c.requires.ready in
    ap (λ n. length c.as_slice-2.result.now + n) (c.in_ok-attachments.ensures.bytes (Tells-while_grown _ _ _ _ _ grew known) ∙ ap (λ l. length (attachments_bytes l)) same)
    ∙ sym (length-append c.as_slice-2.result.now (attachments_bytes files)) ∙ ap length (package-is files rate _ (c.as_slice-2.ensures ∙ c.in_ok-header.ensures))
