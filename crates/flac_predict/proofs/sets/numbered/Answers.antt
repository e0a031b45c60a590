use Rattle.std.proofs.Common.{◌≡◌, sym, ap, ◌∙◌, arith}
use Rattle.flac_predict.specs.Bank.{bank_set, bank_rows}
use Rattle.flac_predict.proofs.sets.numbered.Goals as goal

pub returns-in-1 : goal.returns-in-1
unfolding bank_set bank_rows
returns-in-1 c = c.set_of.ensures ∙ sym (ap bank_set c.in-1.is)

pub returns-in-2 : goal.returns-in-2
unfolding bank_set bank_rows
returns-in-2 c = c.set_of-in-2.ensures ∙ sym (ap bank_set c.in-2.is)

pub returns-in-3 : goal.returns-in-3
unfolding bank_set bank_rows
returns-in-3 c = c.set_of-in-3.ensures ∙ sym (ap bank_set c.in-3.is)

pub returns-in-4 : goal.returns-in-4
unfolding bank_set bank_rows
returns-in-4 c = c.set_of-in-4.ensures ∙ sym (ap bank_set c.in-4.is)

pub returns-in-5 : goal.returns-in-5
unfolding bank_set bank_rows
returns-in-5 c = c.set_of-in-5.ensures ∙ sym (ap bank_set c.in-5.is)

pub returns-in-6 : goal.returns-in-6
unfolding bank_set bank_rows
returns-in-6 c = c.set_of-in-6.ensures ∙ sym (ap bank_set c.in-6.is)

pub returns-in-7 : goal.returns-in-7
unfolding bank_set bank_rows
returns-in-7 c = c.set_of-in-7.ensures ∙ sym (ap bank_set c.in-7.is)

pub returns-in_default : goal.returns-in_default
unfolding bank_set bank_rows
returns-in_default c =
    let e : c.args.number ≡ 8 = omega arith in
    c.set_of-in_default.ensures ∙ sym (ap bank_set e)
