use Rattle.std.proofs.Common.{◌≡◌, ◌<◌, ℤ, pos, length, get_or, refl, ap, ◌∙◌, to_z, of_z, w32, FitsSigned, rules, arith}
use Rattle.std.proofs.lemmas.Int.{to_z-of_z}
use Rattle.flac_frame.specs.Writing.{pairwise, mid_of}
use Rattle.flac_frame.proofs.WritingLaws.{pair_stored, pairs_filled}
use Rattle.flac_frame.proofs.encoding.channels.fill_mids.Goals as goal

pub loop-place-init : goal.loop-place-init
loop-place-init c = refl

pub loop-place-preserved : goal.loop-place-preserved
loop-place-preserved c =
    let at = c.loop-place in
    let l = get_or c.args.left.now at.place (pos 0) in
    let r = get_or c.args.right.now at.place (pos 0) in
    let fits_l : FitsSigned w32 l = search rules in
    let fits_r : FitsSigned w32 r = search rules in
    let v = c.mid_of.result in
    let fits : FitsSigned w32 v = search rules in
    let is : v ≡ mid_of l r =
    c.mid_of.ensures ∙ ap (λ (y : ℤ). mid_of (to_z w32 (of_z w32 l)) y) (to_z-of_z w32 r fits_r) ∙ ap (λ (y : ℤ). mid_of y r) (to_z-of_z w32 l fits_l) in
    let in_out : at.place < length at.out = omega arith in
    let in_left : at.place < length c.args.left.now = omega arith in
    let in_right : at.place < length c.args.right.now = omega arith in
    pair_stored mid_of at.place at.out c.args.left.now c.args.right.now (pairwise mid_of c.args.left.now c.args.right.now) v fits in_out in_left in_right is at.invariant

pub returns : goal.returns
returns c =
    let at = c.loop-place in
    pairs_filled mid_of at.place at.out c.args.left.now c.args.right.now (pairwise mid_of c.args.left.now c.args.right.now) (omega arith) (omega arith) at.invariant
