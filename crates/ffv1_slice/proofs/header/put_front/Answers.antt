use Rattle.ffv1_slice.proofs.Headers.{front_put, on_ok}
use Rattle.ffv1_slice.proofs.header.put_front.Goals as goal

pub returns-clause-ok : goal.returns-clause-ok
returns-clause-ok c =
    on_ok _ _ _ (front_put _ _ _ _ _ _ _ _ c.args.head.now _ c.numbers_of-numbers.ensures c.in_ok-put_key.ensures.ok) c.put_symbols.ensures.ok
