use Rattle.std.proofs.Common.{◌∙◌, ap, length}
use Rattle.std.proofs.lemmas.List.{take_at}
use Rattle.ffv1_slice.proofs.Rooms.{went_down}
use Rattle.ffv1_slice.proofs.SamplesRead.{plane_got, plane_fails, at_ok, at_err}
use Rattle.ffv1_slice.proofs.reading.decode_plane.Goals as goal

pub returns-clause-ok : goal.returns-clause-ok
returns-clause-ok c =
    at_ok _ _ _ (λ g.
    plane_got _ _ _ _ _ _ _ _ _ c.args.lines.now _ _ _ c.decode_line.new.line c.requires.lines g
    (c.as_slice.ensures.value ∙ c.go_down.ensures.above2) (c.as_slice-2.ensures.value ∙ c.go_down.ensures.above)
    (c.decode_line.auto.line ∙ ap length (c.as_mut_slice.ensures.value ∙ c.go_down.ensures.line))
    c.go_down.ensures.above2 c.go_down.ensures.above
    (take_at c.decode_line.new.line _ _ (c.decode_line.auto.line ∙ c.as_mut_slice.ensures.len))) c.decode_line.ensures.ok

pub returns-clause-err : goal.returns-clause-err
returns-clause-err c =
    at_err _ _ _ (λ f.
    plane_fails _ _ _ _ _ _ _ _ _ c.args.lines.now _ _ _ f
    (c.as_slice.ensures.value ∙ c.go_down.ensures.above2) (c.as_slice-2.ensures.value ∙ c.go_down.ensures.above)) c.decode_line.ensures.err

pub returns-clause-room : goal.returns-clause-room
returns-clause-room c =
    went_down c.args.lines.now _ c.decode_line.new.line
    (c.decode_line.auto.line ∙ ap length (c.as_mut_slice.ensures.value ∙ c.go_down.ensures.line))
    c.go_down.ensures.above2 c.go_down.ensures.above
    (take_at c.decode_line.new.line _ _ (c.decode_line.auto.line ∙ c.as_mut_slice.ensures.len))
