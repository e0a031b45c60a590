use Rattle.std.proofs.Common.{◌≡◌, ◌<◌, ◌∙◌, List, OnOk, OnErr, unsigned_abs, ap, sym, arith, w32}
use Rattle.std.proofs.lemmas.Int.{to_z-of_z}
use Rattle.std.specs.Int.{is_negative}
use Rattle.range_coder.specs.Choices.{Choice}
use Rattle.range_coder.specs.Coding.{Puts, PutsFront}
use Rattle.range_coder.specs.Held.{held}
use Rattle.range_coder.proofs.Symbols.{symbol_by_zero, symbol_by_number}
use Rattle.range_coder.proofs.putting.put_usual.Goals as goal

pub returns-then-magnitude-eq0-clause-ok : goal.returns-then-magnitude-eq0-clause-ok
returns-then-magnitude-eq0-clause-ok c =
    let is : c.unsigned_abs-magnitude.result ≡ unsigned_abs c.args.value = c.unsigned_abs-magnitude.ensures.value ∙ ap unsigned_abs (to_z-of_z w32 c.args.value c.ranges.value) in
    let none : unsigned_abs c.args.value ≡ 0 = sym is ∙ c.if-magnitude-eq0.true in
    symbol_by_zero (λ (cs : List Choice). OnOk c.put_slot.result (Puts c.args.table.now (held c.args.window.now c.args.bytes.now) c.args.set.now (held c.put_slot.new.self c.put_slot.new.bytes) c.put_slot.new.states cs)) c.args.value c.args.signed none c.put_slot.ensures.ok

pub returns-then-magnitude-eq0-clause-err : goal.returns-then-magnitude-eq0-clause-err
returns-then-magnitude-eq0-clause-err c =
    let is : c.unsigned_abs-magnitude.result ≡ unsigned_abs c.args.value = c.unsigned_abs-magnitude.ensures.value ∙ ap unsigned_abs (to_z-of_z w32 c.args.value c.ranges.value) in
    let none : unsigned_abs c.args.value ≡ 0 = sym is ∙ c.if-magnitude-eq0.true in
    symbol_by_zero (λ (cs : List Choice). OnErr c.put_slot.result (PutsFront c.args.table.now (held c.args.window.now c.args.bytes.now) c.args.set.now (held c.put_slot.new.self c.put_slot.new.bytes) c.put_slot.new.states cs)) c.args.value c.args.signed none c.put_slot.ensures.err

pub returns-clause-ok : goal.returns-clause-ok
returns-clause-ok c =
    let is : c.unsigned_abs-magnitude.result ≡ unsigned_abs c.args.value = c.unsigned_abs-magnitude.ensures.value ∙ ap unsigned_abs (to_z-of_z w32 c.args.value c.ranges.value) in
    let sign = sym (ap is_negative (to_z-of_z w32 c.args.value c.ranges.value)) in
    let some : 0 < c.unsigned_abs-magnitude.result = omega arith in
    symbol_by_number (λ (cs : List Choice). OnOk c.put_nonzero.result (Puts c.args.table.now (held c.args.window.now c.args.bytes.now) c.args.set.now (held c.put_nonzero.new.window c.put_nonzero.new.bytes) c.put_nonzero.new.set cs)) c.args.value c.args.signed _ c.unsigned_abs-magnitude.result (sym is) sign some c.put_nonzero.ensures.ok

pub returns-clause-err : goal.returns-clause-err
returns-clause-err c =
    let is : c.unsigned_abs-magnitude.result ≡ unsigned_abs c.args.value = c.unsigned_abs-magnitude.ensures.value ∙ ap unsigned_abs (to_z-of_z w32 c.args.value c.ranges.value) in
    let sign = sym (ap is_negative (to_z-of_z w32 c.args.value c.ranges.value)) in
    let some : 0 < c.unsigned_abs-magnitude.result = omega arith in
    symbol_by_number (λ (cs : List Choice). OnErr c.put_nonzero.result (PutsFront c.args.table.now (held c.args.window.now c.args.bytes.now) c.args.set.now (held c.put_nonzero.new.window c.put_nonzero.new.bytes) c.put_nonzero.new.set cs)) c.args.value c.args.signed _ c.unsigned_abs-magnitude.result (sym is) sign some c.put_nonzero.ensures.err
