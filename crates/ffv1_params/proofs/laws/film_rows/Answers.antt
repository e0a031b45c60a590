use Rattle.ffv1_params.proofs.RowLaws.{lines_some, bytes_few, rows_some, rows_few, rows_within, tile_few}
use Rattle.ffv1_params.proofs.laws.film_rows.Goals as goal

pub returns : goal.returns
returns c =
    record { lines = lines_some; bytes = bytes_few; some = rows_some; few = rows_few; within = rows_within; tile = tile_few }
