use Rattle.std.proofs.Common.{arith, rules, w32, SFits}
use Rattle.ffv1_slice.proofs.Takings.{no_numbers, number_taken, number_refused}
use Rattle.ffv1_slice.proofs.taking.get_numbers.Goals as goal

pub loop-at-init : goal.loop-at-init
loop-at-init c = no_numbers _ _ _ _ c.requires.live c.requires.nine

pub returns-then-not-may_stand-clause-err : goal.returns-then-not-may_stand-clause-err
returns-then-not-may_stand-clause-err c =
    let f : SFits w32 c.in-Ok.number = search rules in
    number_refused _ _ _ _ _ _ _ _ c.loop-at.at _ c.in-Ok.number c.table.ensures.table f c.in-Ok.ensures.codable (omega arith) c.loop-at.invariant c.in-Ok.ensures.ok c.may_stand.result c.if-not-may_stand.true c.may_stand.ensures.1

pub loop-at-preserved : goal.loop-at-preserved
loop-at-preserved c =
    let f : SFits w32 c.in-Ok.number = search rules in
    number_taken _ _ _ _ _ _ _ _ c.loop-at.at _ c.in-Ok.number c.table.ensures.table f c.in-Ok.ensures.codable (omega arith) c.loop-at.invariant c.in-Ok.ensures.ok c.get_symbol_at.ensures.live (c.may_stand.ensures.0 c.if-not-may_stand.false)
