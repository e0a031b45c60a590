use Rattle.std.proofs.Common.{ℕ, ◌+◌, ◌*◌, length, refl, ap, arith}
use Rattle.ffv1_slice.proofs.Encoding.{plane_put, slots_given, lines_put, on_ok}
use Rattle.ffv1_slice.proofs.writing.encode_planes.Goals as goal

pub encode_plane-requires-clause-slots : goal.encode_plane-requires-clause-slots
encode_plane-requires-clause-slots c =
    slots_given c.args.params.now c.args.head.now 0 _ 33 _ c.table-table.ensures.sound c.requires.inside.luma_index c.values-luma.ensures.values refl c.requires.slots

pub encode_plane-requires-2-clause-slots : goal.encode_plane-requires-2-clause-slots
encode_plane-requires-2-clause-slots c =
    slots_given c.args.params.now c.args.head.now 1 _ _ _ c.table-table.ensures.sound c.requires.inside.difference_index c.values-differences.ensures.values (ap (λ (n : ℕ). 33 + 32 * n) c.most_contexts.ensures.most) (omega arith)

pub encode_plane-requires-3-clause-slots : goal.encode_plane-requires-3-clause-slots
encode_plane-requires-3-clause-slots c =
    slots_given c.args.params.now c.args.head.now 2 _ _ _ c.table-table.ensures.sound c.requires.inside.difference_index c.values-differences.ensures.values (ap (λ (n : ℕ). 33 + 32 * n) c.most_contexts.ensures.most) (omega arith)

pub returns-clause-ok : goal.returns-clause-ok
returns-clause-ok c =
    on_ok _ _ _ (λ p.
    lines_put c.args.params.now c.args.head.now (length c.args.symbols.now) c.args.planes.now _ _ _ _ _ _ _ _
    (plane_put c.args.params.now c.args.head.now 0 _ _ _ _ _ _ c.args.planes.now.luma _ _ _ _ c.table-table.ensures.table c.requires.half c.values-luma.ensures.values refl refl c.in_ok-encode_plane.ensures.ok)
    (plane_put c.args.params.now c.args.head.now 1 _ _ _ _ _ _ c.args.planes.now.blue _ _ _ _ c.table-table.ensures.table c.requires.half c.values-differences.ensures.values (ap (λ (n : ℕ). 33 + 32 * n) c.most_contexts.ensures.most) (omega arith) c.in_ok-encode_plane-2.ensures.ok)
    (plane_put c.args.params.now c.args.head.now 2 _ _ _ _ _ _ c.args.planes.now.red _ _ _ _ c.table-table.ensures.table c.requires.half c.values-differences.ensures.values (ap (λ (n : ℕ). 33 + 32 * n) c.most_contexts.ensures.most) (omega arith) p)) c.encode_plane-3.ensures.ok
