use Rattle.ffv1_params.specs.Parameters.{film_rows}
use Rattle.ffv1_params.proofs.RowLaws.{rows_few}
use Rattle.ffv1_params.proofs.parameters.rows_of.Goals as goal

pub returns-clause-few : goal.returns-clause-few
unfolding film_rows
returns-clause-few c = rows_few c.args.width c.args.height c.requires
