use Rattle.ffv1_frame.proofs.FilmLaws.{film-means}
use Rattle.ffv1_frame.proofs.laws.n6.Goals as goal

pub returns : goal.returns
returns c params width height samples are is =
    film-means (record {
      code = c.n5.ensures.codes;
      head = c.slices_begin.ensures.head;
      some = c.slices_begin.ensures.some;
      few = c.slices_begin.ensures.few;
      rows = c.film_rows.ensures;
      sound = c.film_is_sound.ensures;
      pixels = c.tiles_hold_their_pixels.ensures;
      parity = c.parity_leaves_zero.ensures.parity;
    }) params width height samples are is
