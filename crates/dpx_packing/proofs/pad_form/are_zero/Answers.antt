use Rattle.std.proofs.Common.{◌≡◌, false, sym, ◌∙◌, arith, eqb}
use Rattle.std.proofs.lemmas.Bool.Decides.{nat_tests}
use Rattle.dpx_packing.proofs.PadChoice.{are_zero-one_run, are_zero-more_runs}
use Rattle.dpx_packing.proofs.pad_form.are_zero.Goals as goal

pub returns-then-runs-eq1 : goal.returns-then-runs-eq1
returns-then-runs-eq1 c = sym (are_zero-one_run c.args.pads.now c.in-len1-up.len_at_least (sym c.requires ∙ c.if-runs-eq1.true))

pub returns-else-runs-eq1 : goal.returns-else-runs-eq1
returns-else-runs-eq1 c =
    let test : eqb c.args.runs 1 ≡ false = grind (arith, nat_tests, c.if-runs-eq1.false) in
    test ∙ sym (are_zero-more_runs c.args.pads.now c.in-len1-up.len_at_least (λ one. c.if-runs-eq1.false (c.requires ∙ one)))
