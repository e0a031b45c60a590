use Rattle.ffv1_slice.proofs.Stores.{pixel_green, pixel_blue}
use Rattle.ffv1_slice.proofs.store.to_pixel.Goals as goal

pub returns-then-green_based : goal.returns-then-green_based
returns-then-green_based c =
    pixel_green _ _ _ _ _ c.if-green_based.true c.requires.half c.requires.y c.requires.cb c.requires.cr (c.are_colours.ensures.0 c.if-not-are_colours.false)

pub returns-else-green_based : goal.returns-else-green_based
returns-else-green_based c =
    pixel_blue _ _ _ _ _ c.if-green_based.false c.requires.half c.requires.y c.requires.cb c.requires.cr (c.are_colours.ensures.0 c.if-not-are_colours.false)
