use Rattle.std.proofs.Common.{ℕ, ◌+◌, ◌*◌, refl, ap, arith}
use Rattle.ffv1_slice.specs.Got.RowFails.{in_blue, in_red}
use Rattle.ffv1_slice.proofs.Encoding.{slots_given}
use Rattle.ffv1_slice.proofs.PlanesRead.{gets_plane, fails_plane}
use Rattle.ffv1_slice.proofs.SamplesRead.{on_err, at_err}
use Rattle.ffv1_slice.proofs.reading.decode_planes.Goals as goal

pub decode_plane-requires-clause-slots : goal.decode_plane-requires-clause-slots
decode_plane-requires-clause-slots c =
    slots_given c.args.params.now c.args.head.now 0 _ 33 _ c.table-table.ensures.sound c.requires.luma_index c.values-luma.ensures.values refl c.requires.slots

pub decode_plane-requires-2-clause-slots : goal.decode_plane-requires-2-clause-slots
decode_plane-requires-2-clause-slots c =
    slots_given c.args.params.now c.args.head.now 1 _ _ _ c.table-table.ensures.sound c.requires.difference_index c.values-differences.ensures.values (ap (λ (n : ℕ). 33 + 32 * n) c.most_contexts.ensures.most) (omega arith)

pub decode_plane-requires-3-clause-slots : goal.decode_plane-requires-3-clause-slots
decode_plane-requires-3-clause-slots c =
    slots_given c.args.params.now c.args.head.now 2 _ _ _ c.table-table.ensures.sound c.requires.difference_index c.values-differences.ensures.values (ap (λ (n : ℕ). 33 + 32 * n) c.most_contexts.ensures.most) (omega arith)

pub returns-in_err-decode_plane-2-clause-err : goal.returns-in_err-decode_plane-2-clause-err
returns-in_err-decode_plane-2-clause-err c =
    on_err _ _ (in_blue _ _ _
    (gets_plane c.args.params.now c.args.head.now _ _ 0 _ _ _ _ _ _ _ c.args.planes.now.luma _ c.table-table.ensures.table c.values-luma.ensures.values refl c.in_ok-decode_plane.ensures.ok)
    (fails_plane c.args.params.now c.args.head.now _ _ 1 _ _ _ _ _ _ _ c.args.planes.now.blue c.table-table.ensures.table c.values-differences.ensures.values (ap (λ (n : ℕ). 33 + 32 * n) c.most_contexts.ensures.most) c.in_err-decode_plane-2.ensures.err))

pub returns-clause-err : goal.returns-clause-err
returns-clause-err c =
    at_err _ _ _ (λ f. in_red _ _ _ _ _ _
    (gets_plane c.args.params.now c.args.head.now _ _ 0 _ _ _ _ _ _ _ c.args.planes.now.luma _ c.table-table.ensures.table c.values-luma.ensures.values refl c.in_ok-decode_plane.ensures.ok)
    (gets_plane c.args.params.now c.args.head.now _ _ 1 _ _ _ _ _ _ _ c.args.planes.now.blue _ c.table-table.ensures.table c.values-differences.ensures.values (ap (λ (n : ℕ). 33 + 32 * n) c.most_contexts.ensures.most) c.in_ok-decode_plane-2.ensures.ok)
    (fails_plane c.args.params.now c.args.head.now _ _ 2 _ _ _ _ _ _ _ c.args.planes.now.red c.table-table.ensures.table c.values-differences.ensures.values (ap (λ (n : ℕ). 33 + 32 * n) c.most_contexts.ensures.most) f)) c.decode_plane-3.ensures.err
