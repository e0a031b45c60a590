use Rattle.std.proofs.Common.{◌≡◌, ◌+◌, ◌++◌, ◌∷◌, [], ℤ, List, length, length-append, sym, ap, ◌∙◌}
use Rattle.flac_frame.specs.Samples.{stretches}
use Rattle.flac_frame.proofs.FrameLaws.{two_parts, decorrelated_by}
use Rattle.flac_frame.proofs.stereo.decorrelate.Goals as goal

pub returns : goal.returns
returns c =
    let rooms = c.split_at_mut-left_room in
    let left = c.split_at_mut-first in
    let right = c.split_at_mut-second in
    let x = left.result.0.now in
    let rx = left.result.1.now in
    let y = right.result.0.now in
    let ry = right.result.1.now in
    let nx = c.stereo.new.first in
    let ny = c.stereo.new.second in
    let two : c.args.count ≡ 2 = c.requires.two c.if-code-lt8.false in
    let whole : c.args.samples.now ≡ x ++ rx ++ (y ++ ry) =
    rooms.ensures.value ∙ ap (λ (front : List ℤ). front ++ rooms.result.1.now) left.ensures.value ∙ ap (λ (back : List ℤ). x ++ rx ++ back) right.ensures.value in
    let len : length (x ++ rx) ≡ c.args.room = ap length (sym left.ensures.value) ∙ rooms.ensures.front_len in
    let before : stretches c.args.room c.args.size c.args.samples.now c.args.count ≡ x ∷ y ∷ [] =
    ap (stretches c.args.room c.args.size c.args.samples.now) two ∙ ap (λ (xs : List ℤ). stretches c.args.room c.args.size xs 2) whole
    ∙ two_parts c.args.room c.args.size x y rx ry left.ensures.front_len right.ensures.front_len len c.requires.within in
    let ex : length nx ≡ c.args.size = c.stereo.auto.first ∙ left.ensures.front_len in
    let ey : length ny ≡ c.args.size = c.stereo.auto.second ∙ right.ensures.front_len in
    let same : length (nx ++ rx) ≡ length (x ++ rx) = length-append nx rx ∙ ap (λ n. n + length rx) c.stereo.auto.first ∙ sym (length-append x rx) in
    let after : stretches c.args.room c.args.size (nx ++ rx ++ (ny ++ ry)) c.args.count ≡ nx ∷ ny ∷ [] =
    ap (stretches c.args.room c.args.size (nx ++ rx ++ (ny ++ ry))) two ∙ two_parts c.args.room c.args.size nx ny rx ry ex ey (same ∙ len) c.requires.within in
    decorrelated_by c.args.code c.args.bits _ _ x y nx ny c.stereo.result c.if-code-lt8.false before after c.stereo.ensures
