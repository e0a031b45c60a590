use Rattle.std.proofs.Common.{◌≡◌, ◌+◌, ◌++◌, length, ap, ◌∙◌, sym, arith, length-append}
use Rattle.std.proofs.lemmas.Result.{err_from_is_err_and}
use Rattle.cook_pack.specs.Attaching.{files_on}
use Rattle.cook_pack.specs.Package.{attachments_of}
use Rattle.cook_pack.proofs.AttachLaws.{StopsFor-later}
use Rattle.cook_pack.proofs.FitLaws.{content-is}
use Rattle.cook_pack.proofs.GrowLaws.{GrewInPart-nothing, GrewInPart-first, GrewInPart-second, Grew-both, Has-while_grown, Tells-while_grown, on_err}
use Rattle.cook_pack.proofs.PackLaws.{attachments_bytes-is, short_attachments_head}
use Rattle.cook_pack.proofs.PlannedLaws.{CanAttach-while_grown, files_on-while_grown}
use Rattle.cook_pack.proofs.packing.write_attachments.Goals as goal

pub returns-in_err-head-clause-stopped : goal.returns-in_err-head-clause-stopped
returns-in_err-head-clause-stopped g c = on_err _ (GrewInPart-nothing _ _ _ _ c.requires.to_there)

pub returns-in_err-append_piece-clause-stopped : goal.returns-in_err-append_piece-clause-stopped
returns-in_err-append_piece-clause-stopped g c =
    let files = files_on g.S.Shelf c.args.shelf.now c.args.plan.now in
    let part = c.in_err-append_piece.ensures.err in
    on_err _ (GrewInPart-first _ _ _ _ _ _ (attachments_of files)
    (λ known. attachments_bytes-is files _ _ (c.as_slice.ensures ∙ c.in_ok-head.ensures) (c.attachments_len-content.ensures.len ∙ content-is _ _ _ c.requires.ready known)) part)

pub attach_all-requires-clause-ready : goal.attach_all-requires-clause-ready
attach_all-requires-clause-ready g c =
    let grew = c.in_ok-append_piece.ensures.ok in
    CanAttach-while_grown _ _ _ _ _ _ grew c.requires.ready

pub attach_all-requires-clause-to_there : goal.attach_all-requires-clause-to_there
attach_all-requires-clause-to_there g c =
    let grew = c.in_ok-append_piece.ensures.ok in
    Has-while_grown _ _ _ _ _ _ grew c.requires.to_there

pub returns-in_err-attach_all-clause-stopped : goal.returns-in_err-attach_all-clause-stopped
returns-in_err-attach_all-clause-stopped g c =
    let grew = c.in_ok-append_piece.ensures.ok in
    let same = files_on-while_grown _ _ _ _ _ _ grew c.requires.ready in
    on_err _ (GrewInPart-second _ _ _ _ _ _ _ _ grew (λ known. ap (λ l. c.as_slice.result.now ++ attachments_of l) same
    ∙ attachments_bytes-is (files_on g.S.Shelf c.args.shelf.now c.args.plan.now) _ _ (c.as_slice.ensures ∙ c.in_ok-head.ensures) (c.attachments_len-content.ensures.len ∙ content-is _ _ _ c.requires.ready known))
    c.in_err-attach_all.ensures.stopped)

pub returns-in_err-attach_all-clause-cause : goal.returns-in_err-attach_all-clause-cause
returns-in_err-attach_all-clause-cause g c =
    let grew = c.in_ok-append_piece.ensures.ok in
    let p = err_from_is_err_and c.from_residual-in_err-attach_all.result c.from_residual-in_err-attach_all.ensures.1 in
    rw (p.1, p.2) (StopsFor-later _ _ _ _ _ _ (Tells-while_grown _ _ _ _ _ grew) grew.faults c.in_err-attach_all.ensures.cause)

pub returns-clause-written : goal.returns-clause-written
returns-clause-written g c =
    let grew = c.in_ok-append_piece.ensures.ok in
    let same = files_on-while_grown _ _ _ _ _ _ grew c.requires.ready in
    Grew-both _ _ _ _ _ _ _ _ grew c.in_ok-attach_all.ensures.attached (λ known. ap (λ l. c.as_slice.result.now ++ attachments_of l) same
    ∙ attachments_bytes-is (files_on g.S.Shelf c.args.shelf.now c.args.plan.now) _ _ (c.as_slice.ensures ∙ c.in_ok-head.ensures) (c.attachments_len-content.ensures.len ∙ content-is _ _ _ c.requires.ready known))

pub returns-clause-bytes : goal.returns-clause-bytes
returns-clause-bytes g c = λ known.
    let files = files_on g.S.Shelf c.args.shelf.now c.args.plan.now in
    let long : c.attachments_len-content.result ≡ length (attachments_of files) = c.attachments_len-content.ensures.len ∙ content-is _ _ _ c.requires.ready known in
    ap (λ n. length c.as_slice-2.result.now + n) long ∙ sym (length-append c.as_slice-2.result.now (attachments_of files)) ∙ ap length (attachments_bytes-is files _ _ (c.as_slice-2.ensures ∙ c.in_ok-head.ensures) long)

pub returns-clause-small : goal.returns-clause-small
returns-clause-small g c = omega (arith, short_attachments_head _ _ (c.as_slice-2.ensures ∙ c.in_ok-head.ensures), c.attachments_len-content.ensures.high)
