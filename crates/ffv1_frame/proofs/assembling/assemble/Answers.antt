use Rattle.std.proofs.Common.{◌≡◌, ◌+◌, ◌<◌, ℕ, List, [], ◌∷◌, ◌++◌, length, take, get_or, sym, ap, ap₂, ◌∙◌}
use Rattle.std.proofs.lemmas.List.{take_more, append-nil, get_or_read}
use Rattle.std.proofs.lemmas.Grind.{flat_map-append}
use Rattle.ffv1_frame.specs.Footers.{footed, frame_of_slices}
use Rattle.ffv1_frame.proofs.assembling.assemble.Goals as goal

frame-more : (slices : List (List ℕ)) (i : ℕ) (slice read frame new : List ℕ) → i < length slices → slice ≡ get_or slices i slice → read ≡ slice
    → frame ≡ frame_of_slices (take i slices) → new ≡ frame ++ footed read → new ≡ frame_of_slices (take (i + 1) slices)
unfolding frame_of_slices
frame-more slices i slice read frame new listed is read_is so_far added =
    added
    ∙ ap₂ (λ (f s : List ℕ). f ++ footed s) so_far (read_is ∙ get_or_read slices i slice listed is [])
    ∙ ap (λ (f : List ℕ). frame_of_slices (take i slices) ++ f) (sym (append-nil (footed (get_or slices i []))))
    ∙ sym (flat_map-append footed (take i slices) (get_or slices i [] ∷ []))
    ∙ ap (λ (ss : List (List ℕ)). frame_of_slices ss) (sym (take_more slices i [] listed))

pub loop-slice-init : goal.loop-slice-init
unfolding frame_of_slices
loop-slice-init c = c.in_ok-frame.ensures.items

pub loop-slice-preserved : goal.loop-slice-preserved
loop-slice-preserved c =
    frame-more c.args.slices.now c.loop-slice.slice-index c.slice-item.result c.as_slice.result.now c.loop-slice.frame.items c.append_slice.new.frame.items
    c.loop-slice-test.true c.slice-item.is c.as_slice.ensures c.loop-slice.invariant c.in_ok-append_slice.ensures
