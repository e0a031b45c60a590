use Rattle.std.proofs.Common.{refl}
use Rattle.cook_pack.proofs.GrowLaws.{GrewInPart-second, Grew-both, on_err}
use Rattle.cook_pack.proofs.append.append_both.Goals as goal

pub returns-in_err-append_piece-2-clause-err : goal.returns-in_err-append_piece-2-clause-err
returns-in_err-append_piece-2-clause-err g c = on_err _ (GrewInPart-second _ _ _ _ _ _ _ _ c.in_ok-append_piece.ensures.ok (λ known. refl) c.in_err-append_piece-2.ensures.err)

pub returns-clause-ok : goal.returns-clause-ok
returns-clause-ok g c = Grew-both _ _ _ _ _ _ _ _ c.in_ok-append_piece.ensures.ok c.in_ok-append_piece-2.ensures.ok (λ known. refl)
