use Rattle.std.proofs.Common.{arith}
use Rattle.ebml_core.proofs.Readings.{number_of_four}
use Rattle.ebml_core.proofs.read.read_id.Goals as goal

pub overflow_cast-result : goal.overflow_cast-result
overflow_cast-result c =
    let fits = number_of_four c.in_ok-len.len c.args.bytes.now c.in_ok-len.ensures.high (λ i. omega (arith, c.type_inv.bytes i)) in
    omega (arith, fits)
