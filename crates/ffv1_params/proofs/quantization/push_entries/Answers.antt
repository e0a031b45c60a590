use Rattle.std.proofs.Common.{◌≡◌, ◌++◌, [], ◌∷◌, rules, arith}
use mir.Syntax.{w16}
use mir.Val.{SFits}
use Rattle.std.proofs.lemmas.Int.{to_z-of_z}
use Rattle.ffv1_params.proofs.TableLaws.{entries_more, entries_done}
use Rattle.ffv1_params.proofs.quantization.push_entries.Goals as goal

pub loop-place-preserved : goal.loop-place-preserved
loop-place-preserved c =
    let fits : SFits w16 c.entry_at.result = search rules in
    let pushed : c.push.new.self.items ≡ c.loop-place.values.items ++ c.entry_at.result ∷ [] = simp to_z-of_z at c.in_ok-push.ensures.items in
    let more = entries_more c.args.scale c.args.steps.now c.loop-place.place c.args.values.now.items in
    cc

pub returns : goal.returns
returns c = entries_done c.args.scale c.args.steps.now c.loop-place.place c.loop-place.values.items c.args.values.now.items (omega arith) c.loop-place.invariant
