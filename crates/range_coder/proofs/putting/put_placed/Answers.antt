use mir.Val.{SFits}
use Rattle.std.proofs.Common.{◌≡◌, ◌+◌, ◌-◌, arith, rules, w32, to_z, of_z}
use Rattle.std.proofs.lemmas.Result.{on_ok_weaker, on_err_weaker}
use Rattle.range_coder.proofs.Among.{puts_set, front_set, live_set_mid}
use Rattle.std.proofs.lemmas.Int.{to_z-of_z}
use Rattle.range_coder.proofs.SlotsOfSymbols.{symbol_slots}
use Rattle.range_coder.proofs.putting.put_placed.Goals as goal

pub returns-clause-ok : goal.returns-clause-ok
returns-clause-ok c =
    let set : c.args.symbol.first + 32 - c.args.symbol.first ≡ 32 = omega arith in
    let fits : SFits w32 c.args.symbol.value = search rules in
    let same : to_z w32 (of_z w32 c.args.symbol.value) ≡ c.args.symbol.value = to_z-of_z w32 c.args.symbol.value fits in
    on_ok_weaker c.put_usual.result (λ p. puts_set _ _ _ _ _ _ _ _ set c.requires.placed.within (symbol_slots c.args.symbol.value c.args.signed) (rw same at p)) c.put_usual.ensures.ok

pub returns-clause-err : goal.returns-clause-err
returns-clause-err c =
    let set : c.args.symbol.first + 32 - c.args.symbol.first ≡ 32 = omega arith in
    let fits : SFits w32 c.args.symbol.value = search rules in
    let same : to_z w32 (of_z w32 c.args.symbol.value) ≡ c.args.symbol.value = to_z-of_z w32 c.args.symbol.value fits in
    on_err_weaker c.put_usual.result (λ p. front_set _ _ _ _ _ _ _ _ set c.requires.placed.within (symbol_slots c.args.symbol.value c.args.signed) (rw same at p)) c.put_usual.ensures.err

pub returns-clause-live : goal.returns-clause-live
returns-clause-live c =
    let set : c.args.symbol.first + 32 - c.args.symbol.first ≡ 32 = omega arith in
    live_set_mid _ _ _ _ _ set c.requires.placed.within c.requires.live c.put_usual.ensures.live
