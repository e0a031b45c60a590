use Rattle.std.proofs.Common.{◌≡◌, length, ap, sym, ◌∙◌, arith}
use Rattle.range_coder.proofs.Carries.{carry_room, carried_whole, digit_whole}
use Rattle.range_coder.proofs.carry.push_digit.Goals as goal

pub carry-requires-clause-room : goal.carry-requires-clause-room
carry-requires-clause-room c =
    let end : c.len-end.result ≡ length c.args.bytes.now.items = omega (arith, c.args.bytes.now.ok.0) in
    carry_room _ _ _ _ end (c.as_mut_slice.ensures.value ∙ c.in_ok-push.ensures.items) c.if-digit-ge256.true c.requires.room

pub returns-then-digit-ge256-clause-number : goal.returns-then-digit-ge256-clause-number
returns-then-digit-ge256-clause-number c =
    let end : c.len-end.result ≡ length c.args.bytes.now.items = omega (arith, c.args.bytes.now.ok.0) in
    let kept : length c.carry.new.bytes ≡ length c.push.new.self.items = omega (arith, c.carry.auto.bytes, ap length c.as_mut_slice.ensures.value) in
    let n : c.push.new.self.len ≡ length c.push.new.self.items = omega (arith, c.push.new.self.ok.0) in
    carried_whole _ _ _ _ _ _ _ end (c.as_mut_slice.ensures.value ∙ c.in_ok-push.ensures.items) (sym c.as_mut_slice.ensures.value) kept n c.if-digit-ge256.true c.requires.digit c.carry.ensures.number c.carry.ensures.behind

pub returns-else-digit-ge256-clause-number : goal.returns-else-digit-ge256-clause-number
returns-else-digit-ge256-clause-number c = digit_whole _ _ _ c.in_ok-push.ensures.items c.if-digit-ge256.false
