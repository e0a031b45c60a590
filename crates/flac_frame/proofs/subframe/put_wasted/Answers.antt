use Rattle.std.proofs.Common.{◌≡◌, ◌<◌, ◌^◌, ◌∙◌, ap, sym, subst, ℤ, pos, ◌*ℤ◌, get_or, length, rules, arith}
use Rattle.std.proofs.lemmas.Int.{to_z-of_z}
use Rattle.flac_predict.specs.Samples.{IsInside}
use mir.Val.{SFits}
use mir.Syntax.{w32}
use Rattle.flac_frame.proofs.WastedLaws.{same_here, wasted_stored, wasted_rest, wasted_all}
use Rattle.flac_frame.proofs.subframe.put_wasted.Goals as goal

pub scaled-requires-clause-inside : goal.scaled-requires-clause-inside
scaled-requires-clause-inside c =
    let at = c.loop-place in
    let x = get_or at.samples at.place (pos 0) in
    let fits : SFits w32 x = search rules in
    let kept = to_z-of_z w32 x fits in
    subst (IsInside c.args.depth) (sym (kept ∙ same_here at.place at.samples c.args.samples.now at.invariant.rest)) (c.requires.inside.each at.place)

pub loop-place-preserved : goal.loop-place-preserved
loop-place-preserved c =
    let at = c.loop-place in
    let x = get_or at.samples at.place (pos 0) in
    let kept = to_z-of_z w32 x (search rules) in
    let v = c.scaled.result in
    let is : v ≡ x *ℤ pos (2 ^ c.args.wasted) = c.scaled.ensures ∙ ap (λ (y : ℤ). y *ℤ pos (2 ^ c.args.wasted)) kept in
    let fits : SFits w32 v = search rules in
    let within : at.place < length at.samples = omega arith in
    record {
      done = wasted_stored c.args.wasted at.place at.samples c.args.samples.now v fits within (omega arith) is at.invariant.rest at.invariant.done;
      rest = wasted_rest at.place at.samples c.args.samples.now _ at.invariant.rest;
    }

pub returns : goal.returns
returns c =
    let at = c.loop-place in
    wasted_all c.args.wasted at.place at.samples c.args.samples.now (omega arith) (omega arith) at.invariant.done
