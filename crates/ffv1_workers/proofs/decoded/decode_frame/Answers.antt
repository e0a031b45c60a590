use Rattle.std.proofs.Common.{List, subst}
use Rattle.std.specs.Prelude.{OnOk}
use Rattle.dpx_packing.specs.Tiles.{CoverOnce}
use Rattle.ffv1_frame.specs.declared.part.Part.{Part}
use Rattle.ffv1_frame.specs.Parts.{IsCut, tiles_of}
use Rattle.ffv1_workers.specs.Frames.{HasTiles}
use Rattle.ffv1_workers.proofs.FrameLaws.{ok-heads, ok-tells, on-ok}
use Rattle.ffv1_workers.proofs.decoded.decode_frame.Goals as goal

pub returns-clause-cut : goal.returns-clause-cut
returns-clause-cut g c = on-ok (IsCut c.args.params.now c.args.grid.now c.args.bytes.now c.cut.new.parts.items) c.decode_parts.result c.in_default.ensures.ok

pub returns-clause-tiles : goal.returns-clause-tiles
returns-clause-tiles g c = on-ok (CoverOnce c.args.grid.now.width c.args.grid.now.height (tiles_of c.args.grid.now c.cut.new.parts.items)) c.decode_parts.result c.in_default.ensures.tiles

pub returns-clause-heads : goal.returns-clause-heads
returns-clause-heads g c = ok-heads c.args.params.now c.args.grid.now c.args.bytes.now c.cut.new.parts.items c.decode_parts.result c.requires.grid c.in_default.ensures.ok

pub returns-clause-picture : goal.returns-clause-picture
returns-clause-picture g c =
    let P : List Part → Type 0 = λ parts. OnOk c.decode_parts.result (HasTiles c.args.params.now c.args.grid.now c.args.bytes.now parts c.decode_parts.new.buffer) in
    ok-tells c.tiles_hold_their_pixels.ensures c.args.params.now c.args.grid.now c.args.bytes.now c.cut.new.parts.items c.decode_parts.new.buffer c.decode_parts.result c.in_default.ensures.ok c.in_default.ensures.tiles
    (subst P c.as_slice-found.ensures.value c.decode_parts.ensures.ok)
