use Rattle.std.proofs.Common.{◌≡◌, false, length, refl, rules, ap, subst, ◌∙◌, arith}
use Rattle.std.proofs.lemmas.Result.{err_from_is_err_and}
use Rattle.md5.specs.Md5.{md5}
use Rattle.cook_bits.specs.Names.{full_name}
use Rattle.shelf_core.specs.Told.{content}
use Rattle.shelf_core.specs.Writes.{Grew, GrewInPart}
use Rattle.matroska_write.specs.Attached.{attached_file}
use Rattle.cook_pack.proofs.GrowLaws.{GrewInPart-nothing, on_err}
use Rattle.cook_pack.proofs.PlannedLaws.{is_record}
use Rattle.cook_pack.proofs.attach.attach_planned.Goals as goal

pub returns-in_err-from-clause-stopped : goal.returns-in_err-from-clause-stopped
returns-in_err-from-clause-stopped g c = on_err _ (GrewInPart-nothing _ _ _ _ c.requires.to_there)

pub returns-in_err-held-clause-stopped : goal.returns-in_err-held-clause-stopped
returns-in_err-held-clause-stopped g c = on_err _ (GrewInPart-nothing _ _ _ _ c.requires.to_there)

pub attach_file-requires-clause-name : goal.attach_file-requires-clause-name
attach_file-requires-clause-name g c = omega (arith, ap length c.as_str-name.ensures, c.requires.ready.short)

pub attach_file-requires-clause-len : goal.attach_file-requires-clause-len
attach_file-requires-clause-len g c = omega (arith, c.requires.ready.small)

pub attach_file-requires-clause-there : goal.attach_file-requires-clause-there
attach_file-requires-clause-there g c =
    let full : c.as_str.result.now ≡ full_name c.args.root.now c.args.file.now.name = search rules in
    rw full c.requires.ready.there

pub attach_file-requires-clause-apart : goal.attach_file-requires-clause-apart
attach_file-requires-clause-apart g c =
    let full : c.as_str.result.now ≡ full_name c.args.root.now c.args.file.now.name = search rules in
    rw full c.requires.ready.apart

pub attach_file-requires-clause-measured : goal.attach_file-requires-clause-measured
attach_file-requires-clause-measured g c =
    let full : c.as_str.result.now ≡ full_name c.args.root.now c.args.file.now.name = search rules in
    rw full c.requires.ready.measured

pub returns-in_err-md5-clause-stopped : goal.returns-in_err-md5-clause-stopped
returns-in_err-md5-clause-stopped g c =
    let full : c.as_str.result.now ≡ full_name c.args.root.now c.args.file.now.name = search rules in
    on_err _ (subst (λ bytes. GrewInPart g.S.Shelf c.args.shelf.now c.attach_file.new.shelf c.args.to.now bytes)
    (λ i. attached_file (c.as_str-name.ensures i) false c.args.uid (content (g.S.Shelf.files c.args.shelf.now) (full i))) c.in_err-md5.ensures.stopped)

pub returns-in_err-md5-clause-cause : goal.returns-in_err-md5-clause-cause
returns-in_err-md5-clause-cause g c = λ plan planned.
    let p = err_from_is_err_and c.from_residual-in_err-md5.result c.from_residual-in_err-md5.ensures.1 in
    rw (p.1, p.2) (c.in_err-md5.ensures.cause plan (record { file = planned.file; listed = planned.listed; named = c.as_str-name.ensures ∙ planned.named; long = planned.long }))

pub returns-clause-attached : goal.returns-clause-attached
returns-clause-attached g c =
    let full : c.as_str.result.now ≡ full_name c.args.root.now c.args.file.now.name = search rules in
    subst (λ bytes. Grew g.S.Shelf c.args.shelf.now c.attach_file.new.shelf c.args.to.now bytes)
    (λ i. attached_file (c.as_str-name.ensures i) false c.args.uid (content (g.S.Shelf.files c.args.shelf.now) (full i))) c.in_ok-md5.ensures.attached

pub returns-clause-record : goal.returns-clause-record
returns-clause-record g c =
    let full : c.as_str.result.now ≡ full_name c.args.root.now c.args.file.now.name = search rules in
    let named : c.in_ok-held.held ≡ c.args.file.now.name = search rules in
    is_record _ _ c.args.to.now _ _ c.requires.ready named
    (record { other = refl; no_head = c.new.ensures; no_pads = c.new-2.ensures; no_tail = c.new-3.ensures; in_two = omega (arith, c.requires.ready.short, ap length named) })
    refl (λ known. c.in_ok-md5.ensures.sum known ∙ ap (λ n. md5 (content (g.S.Shelf.files c.args.shelf.now) n)) full)
