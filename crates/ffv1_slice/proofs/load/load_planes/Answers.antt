use Rattle.std.proofs.Common.{◌∙◌, arith}
use Rattle.std.proofs.lemmas.List.{take_at}
use Rattle.ffv1_slice.proofs.Bringing.{brought_lent}
use Rattle.ffv1_slice.proofs.load.load_planes.Goals as goal

pub returns-clause-luma : goal.returns-clause-luma
returns-clause-luma c =
    brought_lent _ _ _ _ _ _ _ _ _ _ c.load_row.new.luma (omega arith) c.requires.some c.requires.luma c.load_row.ensures.luma
    (c.as_mut_slice.ensures.value ∙ c.go_down.ensures.line)
    (take_at c.load_row.new.luma _ _ (c.load_row.ensures.luma.count_same ∙ c.as_mut_slice.ensures.len))
    (c.close.ensures.above2 ∙ c.go_down.ensures.above2) (c.close.ensures.above ∙ c.go_down.ensures.above)
    c.go_down.ensures.above c.close.ensures.bordered

pub returns-clause-blue : goal.returns-clause-blue
returns-clause-blue c =
    brought_lent _ _ _ _ _ _ _ _ _ _ c.load_row.new.blue (omega arith) c.requires.some c.requires.blue c.load_row.ensures.blue
    (c.as_mut_slice-2.ensures.value ∙ c.go_down-2.ensures.line)
    (take_at c.load_row.new.blue _ _ (c.load_row.ensures.blue.count_same ∙ c.as_mut_slice-2.ensures.len))
    (c.close-2.ensures.above2 ∙ c.go_down-2.ensures.above2) (c.close-2.ensures.above ∙ c.go_down-2.ensures.above)
    c.go_down-2.ensures.above c.close-2.ensures.bordered

pub returns-clause-red : goal.returns-clause-red
returns-clause-red c =
    brought_lent _ _ _ _ _ _ _ _ _ _ c.load_row.new.red (omega arith) c.requires.some c.requires.red c.load_row.ensures.red
    (c.as_mut_slice-3.ensures.value ∙ c.go_down-3.ensures.line)
    (take_at c.load_row.new.red _ _ (c.load_row.ensures.red.count_same ∙ c.as_mut_slice-3.ensures.len))
    (c.close-3.ensures.above2 ∙ c.go_down-3.ensures.above2) (c.close-3.ensures.above ∙ c.go_down-3.ensures.above)
    c.go_down-3.ensures.above c.close-3.ensures.bordered
