use Rattle.std.proofs.Common.{sym, ap, ◌∙◌, ◌+◌, ◌-◌, ◌≡◌, length, arith, List, ℕ}
use Rattle.std.specs.Ordering.{nat_cmp, is_lt}
use Rattle.std.specs.Cmp.Lexicographic.{slice_cmp}
use Rattle.reversal.proofs.NameFaults.{last_decides}
use Rattle.reversal.proofs.names.is_above_last.Goals as goal

pub returns-in-len1-up : goal.returns-in-len1-up
returns-in-len1-up c =
    let h = c.in-len1-up.len_at_least in
    let e : (length c.args.held.now - 1) + 1 ≡ length c.args.held.now = omega arith in
    c.is_lt.ensures ∙ ap is_lt (c.cmp.ensures ∙ ap (λ (name : List ℕ). slice_cmp nat_cmp name c.args.name.now) c.as_str.ensures) ∙ sym (last_decides c.args.held.now (length c.args.held.now - 1) c.last-item.result c.args.name.now e c.last-item.is)
