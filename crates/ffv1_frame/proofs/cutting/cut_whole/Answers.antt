use Rattle.std.proofs.Common.{◌≡◌, ◌<◌, ◌≤◌, ℕ, true, false, length, eqb, sym, ◌∙◌, arith}
use Rattle.std.proofs.lemmas.Bool.Decides.{nat_tests}
use Rattle.ffv1_frame.proofs.CutLaws.{no-bytes}
use Rattle.ffv1_frame.proofs.SettleLaws.{whole-ok, whole-err, split-fails}
use Rattle.ffv1_frame.proofs.cutting.cut_whole.Goals as goal

none-of : (n : ℕ) → eqb n 0 ≡ true → n ≤ 0
none-of n is = grind (arith, nat_tests)

some-of : (n : ℕ) → eqb n 0 ≡ false → 0 < n
some-of n is = grind (arith, nat_tests)

pub returns-then-is_empty-clause-err : goal.returns-then-is_empty-clause-err
returns-then-is_empty-clause-err c =
    no-bytes c.args.params.now.ec c.args.bytes.now (none-of (length c.args.bytes.now) (sym c.is_empty.ensures ∙ c.if-is_empty.true))

pub returns-in-Err-clause-err : goal.returns-in-Err-clause-err
returns-in-Err-clause-err c =
    split-fails c.args.params.now c.args.grid.now c.args.bytes.now c.ec.result c.in-Err.why c.ec.ensures.ec
    (some-of (length c.args.bytes.now) (sym c.is_empty.ensures ∙ c.if-is_empty.false)) c.in-Err.ensures.err

pub returns-clause-ok : goal.returns-clause-ok
returns-clause-ok c =
    whole-ok c.args.params.now c.args.grid.now c.args.bytes.now c.ec.result c.split.new.parts.items c.as_mut_slice.result.now c.settle.new.parts c.settle.result
    c.ec.ensures.ec c.as_mut_slice.ensures.value
    (some-of (length c.args.bytes.now) (sym c.is_empty.ensures ∙ c.if-is_empty.false))
    c.in_default.ensures.ok c.settle.auto.parts c.settle.ensures.ok

pub returns-clause-err : goal.returns-clause-err
returns-clause-err c =
    whole-err c.args.params.now c.args.grid.now c.args.bytes.now c.ec.result c.split.new.parts.items c.as_mut_slice.result.now c.settle.result
    c.ec.ensures.ec c.as_mut_slice.ensures.value
    (some-of (length c.args.bytes.now) (sym c.is_empty.ensures ∙ c.if-is_empty.false))
    c.in_default.ensures.ok c.settle.ensures.err
