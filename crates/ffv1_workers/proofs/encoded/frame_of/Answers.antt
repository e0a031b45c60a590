use Rattle.std.proofs.Common.{refl, arith}
use Rattle.ffv1_workers.proofs.RowLaws.{frame-all, frame-more, frame-none, rest-next, short-stands}
use Rattle.ffv1_workers.proofs.encoded.frame_of.Goals as goal

pub loop-number-init : goal.loop-number-init
loop-number-init c = record { so_far = frame-none c.args.answers.now c.in_ok-frame.frame.items c.in_ok-frame.ensures.items; rest = refl }

pub move_slice-requires-clause-short : goal.move_slice-requires-clause-short
move_slice-requires-clause-short c = short-stands c.loop-number.answers c.args.answers.now c.loop-number.number c.requires (omega arith) c.loop-number.invariant.rest

pub loop-number-preserved : goal.loop-number-preserved
loop-number-preserved c =
    record {
      so_far =
          frame-more c.loop-number.answers c.args.answers.now c.loop-number.number c.loop-number.frame.items c.move_slice.new.frame.items (omega arith) c.loop-number.invariant.rest c.in_ok-move_slice.ensures.added c.loop-number.invariant.so_far;
      rest = rest-next c.loop-number.answers c.move_slice.new.answers c.args.answers.now c.loop-number.number c.move_slice.ensures.rest c.loop-number.invariant.rest;
    }

pub returns : goal.returns
returns c = frame-all c.args.answers.now c.loop-number.number c.loop-number.frame.items c.from_vec.result (omega arith) c.from_vec.ensures c.loop-number.invariant.so_far
