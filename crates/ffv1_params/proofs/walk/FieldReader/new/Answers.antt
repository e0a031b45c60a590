use Rattle.std.proofs.Common.{List, ℕ, subst, arith}
use Rattle.range_coder.specs.Table.{AreLive}
use Rattle.ffv1_params.proofs.ReadLaws.{begins_at}
use Rattle.ffv1_params.proofs.walk.FieldReader.new.Goals as goal

pub returns-clause-begins : goal.returns-clause-begins
returns-clause-begins c = λ bytes begins.
    let live = c.fresh.ensures.live c.default_table.result (c.default_table.ensures.live 128 (omega arith) (omega arith)) in
    begins_at c.args.decoder c.fresh.result bytes c.fresh.ensures.states (subst (λ (next : List ℕ). AreLive next c.fresh.result) c.default_table.ensures.table live) c.fresh.ensures.count begins
