use Rattle.std.proofs.Common.{◌∙◌, sym, length, arith}
use Rattle.ffv1_frame.specs.Parts.{tiles_of}
use Rattle.ffv1_workers.proofs.BufferLaws.{are-bounds}
use Rattle.ffv1_workers.proofs.FrameLaws.{parts-in, are-taken, all-decoded, one-fails}
use Rattle.ffv1_workers.proofs.StartLaws.{long}
use Rattle.ffv1_workers.proofs.decoded.decode_parts.Goals as goal

pub place_tiles-requires-clause-heads : goal.place_tiles-requires-clause-heads
place_tiles-requires-clause-heads g c = parts-in c.args.params.now c.args.grid.now c.args.bytes.now c.args.parts.now c.requires.grid c.requires.cut

pub run_tiles-requires-clause-bounds : goal.run_tiles-requires-clause-bounds
run_tiles-requires-clause-bounds g c κs lives =
    are-bounds c.tiles_fill.ensures c.args.grid.now.width c.args.grid.now.height (tiles_of c.args.grid.now c.args.parts.now) c.place_tiles.new.bounds (length c.args.buffer.now) (length c.args.answers.now)
    c.requires.tiles c.place_tiles.ensures c.requires.buffer (c.requires.answers ∙ sym (long c.args.grid.now c.args.parts.now))

pub run_tiles-requires-clause-taken : goal.run_tiles-requires-clause-taken
run_tiles-requires-clause-taken g c κs lives =
    are-taken c.args.params.now c.args.grid.now c.args.bytes.now c.args.parts.now c.place_tiles.new.bounds c.args.buffer.now (length c.args.answers.now) c.requires.grid c.requires.cut c.place_tiles.ensures
    (are-bounds c.tiles_fill.ensures c.args.grid.now.width c.args.grid.now.height (tiles_of c.args.grid.now c.args.parts.now) c.place_tiles.new.bounds (length c.args.buffer.now) (length c.args.answers.now)
    c.requires.tiles c.place_tiles.ensures c.requires.buffer (c.requires.answers ∙ sym (long c.args.grid.now c.args.parts.now)))
    c.requires.answers

pub returns-clause-ok : goal.returns-clause-ok
returns-clause-ok g c =
    all-decoded c.slices_begin.ensures.tell c.heads_are_one.ensures c.args.params.now c.args.grid.now c.args.bytes.now c.args.parts.now c.place_tiles.new.bounds c.args.buffer.now c.run_tiles.new.buffer c.run_tiles.new.answers c.first_fault.result
    c.columns-columns.ensures.sound (λ i. omega (arith, c.type_inv.bytes i)) c.requires.grid c.requires.cut c.place_tiles.ensures (c.run_tiles.auto.answers ∙ c.requires.answers) c.run_tiles.ensures.done c.first_fault.ensures.ok

pub returns-clause-err : goal.returns-clause-err
returns-clause-err g c =
    one-fails c.slices_begin.ensures.tell c.heads_are_one.ensures c.args.params.now c.args.grid.now c.args.bytes.now c.args.parts.now c.place_tiles.new.bounds c.args.buffer.now c.run_tiles.new.buffer c.run_tiles.new.answers c.first_fault.result
    c.columns-columns.ensures.sound (λ i. omega (arith, c.type_inv.bytes i)) c.requires.grid c.requires.cut (c.run_tiles.auto.answers ∙ c.requires.answers) c.run_tiles.ensures.done c.first_fault.ensures.err
