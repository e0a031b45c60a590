use Rattle.std.proofs.Common.{◌<◌, pos, length, take, get_or, ℤ, to_z, of_z, refl, sym, ap, ◌∙◌, FitsSigned, w32, rules, arith}
use Rattle.std.proofs.lemmas.Result.{err_from_is_err_and}
use Rattle.std.proofs.lemmas.Int.{to_z-of_z}
use Rattle.flac_frame.specs.Frame.{pair_of, stereo_of}
use Rattle.flac_frame.proofs.EachLaws.{stored_next}
use Rattle.flac_frame.proofs.WastedLaws.{wasted_rest}
use Rattle.flac_frame.proofs.FrameLaws.{no_pair, next_is, pair_on, pair_ends, pairs_whole}
use Rattle.flac_frame.proofs.stereo.stereo.Goals as goal

pub loop-place-init : goal.loop-place-init
loop-place-init c = record {
  read = no_pair (stereo_of c.args.code c.args.bits c.args.first.now c.args.second.now);
  first = refl;
  second = refl;
}

pub returns-in_err-pair : goal.returns-in_err-pair
returns-in_err-pair c =
    let p = err_from_is_err_and c.from_residual.result c.from_residual.ensures.1 in
    let at = c.loop-place in
    let first = get_or at.first at.place (pos 0) in
    let second = get_or at.second at.place (pos 0) in
    let fits_first : FitsSigned w32 first = search rules in
    let fits_second : FitsSigned w32 second = search rules in
    let same = ap (λ (z : ℤ). pair_of c.args.code c.args.bits z second) (sym (to_z-of_z w32 first fits_first))
    ∙ ap (λ (z : ℤ). pair_of c.args.code c.args.bits (to_z w32 (of_z w32 first)) z) (sym (to_z-of_z w32 second fits_second)) in
    let x = next_is at.place at.first c.args.first.now at.invariant.first (omega arith) in
    let y = next_is at.place at.second c.args.second.now at.invariant.second (omega arith) in
    rw (p.1, p.2) (pair_ends c.args.code c.args.bits at.place (take at.place at.first) (take at.place at.second) c.args.first.now c.args.second.now
    first second c.in_err-pair.field-0.0 (stereo_of c.args.code c.args.bits c.args.first.now c.args.second.now)
    x y (same ∙ c.in_err-pair.ensures) at.invariant.read)

pub loop-place-preserved : goal.loop-place-preserved
loop-place-preserved c =
    let at = c.loop-place in
    let pair = c.in_ok-pair.pair in
    let first = get_or at.first at.place (pos 0) in
    let second = get_or at.second at.place (pos 0) in
    let fits_first : FitsSigned w32 first = search rules in
    let fits_second : FitsSigned w32 second = search rules in
    let same = ap (λ (z : ℤ). pair_of c.args.code c.args.bits z second) (sym (to_z-of_z w32 first fits_first))
    ∙ ap (λ (z : ℤ). pair_of c.args.code c.args.bits (to_z w32 (of_z w32 first)) z) (sym (to_z-of_z w32 second fits_second)) in
    let x = next_is at.place at.first c.args.first.now at.invariant.first (omega arith) in
    let y = next_is at.place at.second c.args.second.now at.invariant.second (omega arith) in
    let in_first : at.place < length at.first = omega arith in
    let in_second : at.place < length at.second = omega arith in
    let l : FitsSigned w32 pair.left = search rules in
    let r : FitsSigned w32 pair.right = search rules in
    record {
      read = pair_on c.args.code c.args.bits at.place (take at.place at.first) (take at.place at.second) c.args.first.now c.args.second.now _ _
          first second pair (stereo_of c.args.code c.args.bits c.args.first.now c.args.second.now)
          x y (same ∙ c.in_ok-pair.ensures) (stored_next at.first at.place pair.left l in_first) (stored_next at.second at.place pair.right r in_second) at.invariant.read;
      first = wasted_rest at.place at.first c.args.first.now _ at.invariant.first;
      second = wasted_rest at.place at.second c.args.second.now _ at.invariant.second;
    }

pub returns : goal.returns
returns c =
    let at = c.loop-place in
    pairs_whole c.args.code c.args.bits at.place at.first at.second c.args.first.now c.args.second.now (stereo_of c.args.code c.args.bits c.args.first.now c.args.second.now)
    (omega arith) (omega arith) (omega arith) at.invariant.read
