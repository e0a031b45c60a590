use Rattle.std.proofs.Common.{◌≡◌, ℕ, ap, ◌∙◌}
use Rattle.std.specs.Prelude.{replicate}
use Rattle.dpx_packing.proofs.PadFilling.{filled_none, filled_more, piece_len}
use Rattle.dpx_packing.proofs.pad_filling.fill_each.Goals as goal

pub loop-i-init : goal.loop-i-init
loop-i-init c = filled_none c.args.runs.now c.args.out.now

pub loop-i-preserved : goal.loop-i-preserved
loop-i-preserved c =
    let long = piece_len c.loop-i.out c.loop-i.at c.run_at-times.result.0 c.if-times-out.false in
    let piece : c.fill.new.self ≡ replicate c.run_at-times.result.0 c.run_at-times.result.1 = c.fill.ensures.after (λ y same. same) ∙ ap (λ (n : ℕ). replicate n c.run_at-times.result.1) long in
    filled_more c.args.runs.now c.loop-i.out c.loop-i.i c.loop-i.at c.run_at-times.result.0 c.run_at-times.result.1 _ c.fill.new.self c.loop-i.invariant c.run_at-times.ensures.times c.run_at-times.ensures.value c.if-times-eq0.false c.if-times-out.false piece
