use Rattle.cook_top.specs.Texts.{package_line}
use Rattle.cook_top.proofs.report.write_fault.Goals as goal

pub returns-in-Shape-clause-err : goal.returns-in-Shape-clause-err
unfolding package_line
returns-in-Shape-clause-err g c = rw c.in-Shape.is c.write_pieces.ensures.err
