use Rattle.std.proofs.Common.{◌≡◌, ◌-◌, ◌^◌, pos, ◌-ℤ◌, neg_ℤ, to_z, of_z, w64, arith}
use Rattle.std.proofs.lemmas.Int.{ints}
use Rattle.flac_predict.proofs.RestoreLaws.{tested_low, tested_high}
use Rattle.flac_predict.proofs.inside.is_inside.Goals as goal

pub returns-then-sample-lt0 : goal.returns-then-sample-lt0
returns-then-sample-lt0 c =
    let y : to_z w64 (of_z w64 c.args.sample) ≡ c.args.sample = omega (arith, ints) in
    let l : to_z w64 (of_z w64 (pos 0 -ℤ to_z w64 (of_z w64 c.limit_of-limit.result))) ≡ neg_ℤ (pos (2 ^ (c.args.bits - 1))) = omega (arith, ints) in
    tested_low c.args.bits c.args.sample _ _ y l (omega (arith, ints))

pub returns-else-sample-lt0 : goal.returns-else-sample-lt0
returns-else-sample-lt0 c =
    let y : to_z w64 (of_z w64 c.args.sample) ≡ c.args.sample = omega (arith, ints) in
    let l : to_z w64 (of_z w64 c.limit_of-limit.result) ≡ pos (2 ^ (c.args.bits - 1)) = omega (arith, ints) in
    tested_high c.args.bits c.args.sample _ _ y l (omega (arith, ints))
