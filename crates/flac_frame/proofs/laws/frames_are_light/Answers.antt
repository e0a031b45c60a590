use Rattle.flac_frame.proofs.StoredLaws.{stored, depth_range, is_true}
use Rattle.flac_frame.proofs.LightLaws.{light}
use Rattle.std.proofs.Common.{◌==◌, refl}
use Rattle.flac_frame.proofs.laws.frames_are_light.Goals as goal

pub returns : goal.returns
returns c = λ info channels number w a.
    let depth = is_true _ w.depth in
    let d = depth_range info.bits (info.bits == 8) (info.bits == 16) refl refl depth in
    light (record { candidate = c.choice_is_light.ensures.candidate; light = c.choice_is_light.ensures.light }) info channels number
    (stored info channels depth w.some_channels w.channels a.count a.same a.inside) d.1 w.channels a.few a.count
