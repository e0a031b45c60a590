use Rattle.std.proofs.Common.{ℕ, ap, arith, ◌∙◌}
use Rattle.std.specs.Int.{bytes_high_first}
use Rattle.ebml_core.specs.Rate.{double_bytes}
use Rattle.ebml_core.proofs.Rates.{sum_is_bits, bits_fit}
use Rattle.ebml_core.proofs.rate.rate_bytes.Goals as goal

pub overflow_add-bits-2 : goal.overflow_add-bits-2
overflow_add-bits-2 c =
    let e = c.ilog2-exponent in
    let is = sum_is_bits e.result c.from-2.result c.args.rate c.from.result e.ensures.bound e.ensures.power_le e.ensures.next_power_gt c.from-2.ensures c.from.ensures in
    let fits = bits_fit e.result c.args.rate e.ensures.bound e.ensures.power_le e.ensures.next_power_gt in
    omega (arith, is, fits)

pub returns : goal.returns
unfolding double_bytes
returns c =
    let e = c.ilog2-exponent in
    c.to_be_bytes.ensures ∙ ap (λ (n : ℕ). bytes_high_first 8 n) (sum_is_bits e.result c.from-2.result c.args.rate c.from.result e.ensures.bound e.ensures.power_le e.ensures.next_power_gt c.from-2.ensures c.from.ensures)
