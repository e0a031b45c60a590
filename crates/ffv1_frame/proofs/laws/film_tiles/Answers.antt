use Rattle.ffv1_frame.specs.Written.{film_tile}
use Rattle.ffv1_frame.proofs.FilmLaws.{SliceLaws, film-samples, film-slices, film-tile_inside}
use Rattle.ffv1_frame.proofs.WrittenTiles.{film-grid, film-lines, film-tiles_cover, film-parts}
use Rattle.ffv1_frame.proofs.laws.film_tiles.Goals as goal

pub returns : goal.returns
returns c =
    let laws : SliceLaws = record {
      code = c.n5.ensures.codes;
      head = c.slices_begin.ensures.head;
      some = c.slices_begin.ensures.some;
      few = c.slices_begin.ensures.few;
      rows = c.film_rows.ensures;
      sound = c.film_is_sound.ensures;
      pixels = c.tiles_hold_their_pixels.ensures;
      parity = c.parity_leaves_zero.ensures.parity;
    } in
    record {
      grid = film-grid;
      lines = film-lines c.film_rows.ensures;
      cover = film-tiles_cover c.film_rows.ensures;
      samples = λ params width height samples row are is low.
          film-samples c.tiles_hold_their_pixels.ensures params.bits width height samples (film_tile params width height row) is (film-tile_inside c.film_rows.ensures params width height row are is.size low);
      slices = film-slices laws;
      parts = film-parts c.heads_are_one.ensures c.coded_are_bytes.ensures laws;
    }
