use Rattle.std.proofs.Common.{◌∙◌, ap, length, refl}
use Rattle.ffv1_frame.specs.declared.cells.Grid.{Grid}
use Rattle.ffv1_workers.proofs.RowLaws.{rows-bounds, rows-taken, rows-same, rows-coded}
use Rattle.ffv1_workers.proofs.encoded.encode_rows.Goals as goal

pub place_rows-requires-clause-column : goal.place_rows-requires-clause-column
place_rows-requires-clause-column g c = ap (λ (x : Grid). x.columns) (c.film_tiles.ensures.grid c.args.task.now.params.now c.args.task.now.grid.now c.requires.film.film c.requires.grid)

pub run_tiles-requires-clause-bounds : goal.run_tiles-requires-clause-bounds
run_tiles-requires-clause-bounds g c κs lives =
    rows-bounds c.tiles_fill.ensures c.args.task.now.params.now c.args.task.now.grid.now c.args.buffer.now c.place_rows.new.bounds (length c.args.buffer.now) (length c.args.answers.now)
    (record {
      tiles = c.film_tiles.ensures;
      hold = c.tiles_hold_their_pixels.ensures;
      stand = c.whole_lines_stand.ensures;
      sound = c.columns-columns.ensures.sound;
      film = c.requires.film;
      of = c.requires.grid;
      picture = c.requires.picture;
    })
    c.place_rows.ensures refl c.requires.answers

pub run_tiles-requires-clause-taken : goal.run_tiles-requires-clause-taken
run_tiles-requires-clause-taken g c κs lives =
    rows-taken c.args.task.now.params.now c.args.task.now.grid.now c.args.buffer.now c.place_rows.new.bounds (length c.args.answers.now)
    (record {
      tiles = c.film_tiles.ensures;
      hold = c.tiles_hold_their_pixels.ensures;
      stand = c.whole_lines_stand.ensures;
      sound = c.columns-columns.ensures.sound;
      film = c.requires.film;
      of = c.requires.grid;
      picture = c.requires.picture;
    })
    (ap (λ (x : Grid). x.columns) (c.film_tiles.ensures.grid c.args.task.now.params.now c.args.task.now.grid.now c.requires.film.film c.requires.grid))
    c.place_rows.ensures c.requires.answers

pub returns-clause-coded : goal.returns-clause-coded
returns-clause-coded g c =
    rows-coded c.args.task.now.params.now c.args.task.now.grid.now c.place_rows.new.bounds c.args.buffer.now c.run_tiles.new.buffer c.run_tiles.new.answers
    (record {
      tiles = c.film_tiles.ensures;
      hold = c.tiles_hold_their_pixels.ensures;
      stand = c.whole_lines_stand.ensures;
      sound = c.columns-columns.ensures.sound;
      film = c.requires.film;
      of = c.requires.grid;
      picture = c.requires.picture;
    })
    c.place_rows.ensures (c.run_tiles.auto.answers ∙ c.requires.answers) c.run_tiles.ensures.done

pub returns-clause-same : goal.returns-clause-same
returns-clause-same g c =
    rows-same c.args.task.now.params.now c.args.task.now.grid.now c.place_rows.new.bounds c.args.buffer.now c.run_tiles.new.buffer c.run_tiles.new.answers
    (rows-bounds c.tiles_fill.ensures c.args.task.now.params.now c.args.task.now.grid.now c.args.buffer.now c.place_rows.new.bounds (length c.args.buffer.now) (length c.run_tiles.new.answers)
    (record {
      tiles = c.film_tiles.ensures;
      hold = c.tiles_hold_their_pixels.ensures;
      stand = c.whole_lines_stand.ensures;
      sound = c.columns-columns.ensures.sound;
      film = c.requires.film;
      of = c.requires.grid;
      picture = c.requires.picture;
    })
    c.place_rows.ensures refl (c.run_tiles.auto.answers ∙ c.requires.answers))
    c.run_tiles.auto.buffer c.run_tiles.ensures.done
