use Rattle.std.proofs.Common.{◌≡◌, true, ◌+◌, ◌-◌, arith}
use Rattle.std.proofs.lemmas.Result.{IfOk-weaker, on_err_weaker}
use Rattle.range_coder.proofs.Among.{gets_set, live_set_mid}
use Rattle.range_coder.proofs.SlotsOfSymbols.{symbol_slots, overlong_slots}
use Rattle.range_coder.proofs.decoder.Decoder.get_signed_at.Goals as goal

pub returns-clause-ok : goal.returns-clause-ok
returns-clause-ok c =
    let set : c.args.first + 32 - c.args.first ≡ 32 = omega arith in
    IfOk-weaker c.get_signed.result _ _ (λ value g. gets_set _ _ _ _ _ _ _ _ set c.requires.within (symbol_slots value true) g) c.get_signed.ensures.ok

pub returns-clause-bad : goal.returns-clause-bad
returns-clause-bad c =
    let set : c.args.first + 32 - c.args.first ≡ 32 = omega arith in
    on_err_weaker c.get_signed.result (λ g. gets_set _ _ _ _ _ _ _ _ set c.requires.within overlong_slots g) c.get_signed.ensures.bad

pub returns-clause-live : goal.returns-clause-live
returns-clause-live c =
    let set : c.args.first + 32 - c.args.first ≡ 32 = omega arith in
    live_set_mid _ _ _ _ _ set c.requires.within c.requires.live c.get_signed.ensures.live
