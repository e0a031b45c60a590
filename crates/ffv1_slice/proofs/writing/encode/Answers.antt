use Rattle.std.proofs.Common.{◌∙◌, refl}
use Rattle.ffv1_slice.proofs.Encoded.{encoded, few_encoded, fresh_given}
use Rattle.ffv1_slice.proofs.Encoding.{if_ok}
use Rattle.ffv1_slice.proofs.writing.encode.Goals as goal

pub returns-clause-coded : goal.returns-clause-coded
returns-clause-coded c =
    if_ok c.finish.result _ _ (λ bytes is.
    encoded c.codings_are_joined.ensures _ _ c.args.params.now c.args.head.now c.args.width c.args.height c.args.first c.args.tile.now _ _ _ _ _ _ bytes
    c.table.ensures.table (c.as_mut_slice.ensures.len ∙ c.in_ok-symbols.ensures.len) (c.in_ok-reserve.ensures.interval ∙ c.new-encoder.ensures)
    (fresh_given c.args.params.now c.most_contexts.result _ _ _ c.most_contexts.ensures.most refl (c.in_ok-states.ensures.items_if_clones_equal (λ y e. e)) c.as_mut_slice-set.ensures.value)
    c.in_ok-put_front.ensures.ok c.in_ok-put_rows.ensures is) c.finish.ensures

pub returns-clause-few : goal.returns-clause-few
returns-clause-few c =
    if_ok c.finish.result _ _ (λ bytes is.
    few_encoded c.code_lengths.ensures c.args.params.now c.args.head.now c.args.width c.args.height c.args.first c.args.tile.now bytes c.table.ensures.sound c.requires.head
    (encoded c.codings_are_joined.ensures _ _ c.args.params.now c.args.head.now c.args.width c.args.height c.args.first c.args.tile.now _ _ _ _ _ _ bytes
    c.table.ensures.table (c.as_mut_slice.ensures.len ∙ c.in_ok-symbols.ensures.len) (c.in_ok-reserve.ensures.interval ∙ c.new-encoder.ensures)
    (fresh_given c.args.params.now c.most_contexts.result _ _ _ c.most_contexts.ensures.most refl (c.in_ok-states.ensures.items_if_clones_equal (λ y e. e)) c.as_mut_slice-set.ensures.value)
    c.in_ok-put_front.ensures.ok c.in_ok-put_rows.ensures is)) c.finish.ensures
