use Rattle.std.proofs.Common.{◌≡◌, ◌+◌, ◌++◌, length, ap, subst, ◌∙◌, sym, arith}
use Rattle.shelf_core.specs.Writes.{Grew, GrewInPart}
use Rattle.reversal.specs.SideData.{all_parts_len, names_of, side_data_len}
use Rattle.reversal.specs.Lengths.{names_long}
use Rattle.cook_pack.specs.Package.{side_attached}
use Rattle.cook_pack.proofs.GrowLaws.{GrewInPart-nothing, on_err}
use Rattle.cook_pack.proofs.PackLaws.{side_data_len-le, side_attached-is}
use Rattle.cook_pack.proofs.packing.attach_side.Goals as goal

pub returns-in_err-side-clause-stopped : goal.returns-in_err-side-clause-stopped
returns-in_err-side-clause-stopped g c = on_err _ (GrewInPart-nothing _ _ _ _ c.requires.to_there)

pub attached_head-requires-clause-content : goal.attached_head-requires-clause-content
attached_head-requires-clause-content g c =
    let short = side_data_len-le (names_of c.args.records.now) c.requires.are.named.relative (omega (arith, names_long c.args.records.now, c.requires.few)) in
    let long : length c.as_slice.result.now ≡ side_data_len (names_of c.args.records.now) + all_parts_len c.args.records.now = ap length c.as_slice.ensures ∙ c.in_ok-side.ensures.long in
    omega (arith, short, long, c.requires.small)

pub returns-in_err-head-clause-stopped : goal.returns-in_err-head-clause-stopped
returns-in_err-head-clause-stopped g c = on_err _ (GrewInPart-nothing _ _ _ _ c.requires.to_there)

pub returns-in_err-append_both-clause-stopped : goal.returns-in_err-append_both-clause-stopped
returns-in_err-append_both-clause-stopped g c =
    let is : c.as_slice-2.result.now ++ c.as_slice-3.result.now ≡ side_attached c.args.uid c.args.records.now = side_attached-is _ _ _ _ _ (c.as_slice-2.ensures ∙ c.in_ok-head.ensures) (ap length (c.as_slice.ensures ∙ sym c.as_slice-3.ensures)) (c.as_slice-3.ensures ∙ c.in_ok-side.ensures.spelled) in
    on_err _ (subst (λ bytes. GrewInPart g.S.Shelf c.args.shelf.now c.append_both.new.shelf c.args.to.now bytes) is c.in_err-append_both.ensures.err)

pub returns-clause-attached : goal.returns-clause-attached
returns-clause-attached g c =
    let is : c.as_slice-2.result.now ++ c.as_slice-3.result.now ≡ side_attached c.args.uid c.args.records.now = side_attached-is _ _ _ _ _ (c.as_slice-2.ensures ∙ c.in_ok-head.ensures) (ap length (c.as_slice.ensures ∙ sym c.as_slice-3.ensures)) (c.as_slice-3.ensures ∙ c.in_ok-side.ensures.spelled) in
    subst (λ bytes. Grew g.S.Shelf c.args.shelf.now c.append_both.new.shelf c.args.to.now bytes) is c.in_ok-append_both.ensures.ok
