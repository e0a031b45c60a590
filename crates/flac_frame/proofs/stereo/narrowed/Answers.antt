use Rattle.std.proofs.Common.{◌≡◌, true, to_z, of_z, w32, w64, refl, rules}
use Rattle.std.proofs.lemmas.Int.{to_z-of_z}
use Rattle.flac_predict.specs.Samples.{is_inside}
use Rattle.flac_frame.specs.Frame.{narrowed}
use Rattle.flac_frame.proofs.InsideLaws.{fits_32}
use Rattle.flac_frame.proofs.stereo.narrowed.Goals as goal

pub overflow_cast-result : goal.overflow_cast-result
overflow_cast-result c =
    let x = c.args.sample in
    let v : to_z w64 (of_z w64 x) ≡ x = to_z-of_z w64 x c.ranges.sample in
    let t : is_inside c.args.bits x ≡ true = search (rules, v) in
    rw v (fits_32 c.args.bits x c.requires.high t)

pub returns : goal.returns
unfolding narrowed
returns c =
    let x = c.args.sample in
    let v : to_z w64 (of_z w64 x) ≡ x = to_z-of_z w64 x c.ranges.sample in
    let t : is_inside c.args.bits x ≡ true = search (rules, v) in
    let n : to_z w32 (of_z w32 x) ≡ x = to_z-of_z w32 x (fits_32 c.args.bits x c.requires.high t) in
    rw (v, n, t) refl
