use Rattle.std.proofs.Common.{sym, subst}
use Rattle.ffv1_params.specs.Parameters.{Parameters}
use Rattle.ffv1_params.specs.Reading.{parameters, give}
use Rattle.ffv1_params.specs.Walk.{Leads}
use Rattle.ffv1_params.proofs.WalkLaws.{leads_on, leads_here}
use Rattle.ffv1_params.proofs.reading.params_of.Goals as goal

pub returns : goal.returns
unfolding parameters
returns c =
    let P : Parameters → Type 0 = λ params. Leads c.args.fields.now c.flags.new.self parameters (give params) in
    subst P (sym c.of.ensures) (leads_on _ _ _ _ _ _ _ c.in_ok-version.ensures (leads_on _ _ _ _ _ _ _ c.in_ok-bits.ensures.answers (leads_on _ _ _ _ _ _ _ c.in_ok-columns.ensures.answers (leads_on _ _ _ _ _ _ _ c.in_ok-count.ensures.answers (leads_on _ _ _ _ _ _ _ c.in_ok-sets.ensures.answers (leads_on _ _ _ _ _ _ _ c.in_ok-no_states.ensures (leads_on _ _ _ _ _ _ _ c.in_ok-ec.ensures (leads_here _ _))))))))
