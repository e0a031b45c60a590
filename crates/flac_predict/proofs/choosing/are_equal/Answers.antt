use Rattle.std.proofs.Common.{◌≡◌, sym, ap, ◌∙◌, arith, rules, to_z, of_z, w32, FitsSigned}
use Rattle.std.proofs.lemmas.Int.{to_z-of_z}
use Rattle.flac_predict.specs.Samples.{sample_at}
use Rattle.flac_predict.proofs.ChoiceCode.{equal_so_far, unequal_at, equal_to_the_end}
use Rattle.flac_predict.proofs.choosing.are_equal.Goals as goal

pub returns-then-sample-first : goal.returns-then-sample-first
returns-then-sample-first c =
    sym (unequal_at (sample_at c.args.samples.now 0) c.args.samples.now c.loop-sample.sample-index c.loop-sample-test.true (λ e. c.if-sample-first.true (ap (of_z w32) e)) c.loop-sample.invariant)

pub loop-sample-preserved : goal.loop-sample-preserved
loop-sample-preserved c =
    let a = sample_at c.args.samples.now c.loop-sample.sample-index in
    let b = sample_at c.args.samples.now 0 in
    let f : FitsSigned w32 a = search rules in
    let g : FitsSigned w32 b = search rules in
    let e : a ≡ b = sym (to_z-of_z w32 a f) ∙ ap (to_z w32) c.if-sample-first.false ∙ to_z-of_z w32 b g in
    equal_so_far b c.args.samples.now c.loop-sample.sample-index c.loop-sample-test.true e c.loop-sample.invariant

pub returns : goal.returns
returns c =
    sym (equal_to_the_end (sample_at c.args.samples.now 0) c.args.samples.now c.loop-sample.sample-index (omega arith) c.loop-sample.invariant)
