use Rattle.std.proofs.Common.{◌≡◌, ◌≤◌, ◌++◌, length, sym, ap, subst, ◌∙◌, arith}
use Rattle.std.specs.Int.{bytes_high_first}
use Rattle.cook_bits.specs.Crc.{crc16_of}
use Rattle.flac_frame.specs.Samples.{channels_of}
use Rattle.flac_frame.specs.Writing.{size_of, head_of}
use Rattle.flac_frame.proofs.EncodeLaws.{AreSubframes, size_is, are_channels, frame_is}
use Rattle.flac_frame.proofs.encoding.encode.Goals as goal

pub returns-clause-exact : goal.returns-clause-exact
returns-clause-exact c =
    let info = c.args.info.now in
    let channels = channels_of c.args.block.now in
    let size = c.len-size.result in
    let all = c.in_ok-subframes.subframes in
    let body = c.append.new.self in
    let one : 1 ≤ c.args.block.now.channels = omega (arith, c.requires.info.some_channels) in
    let count : size_of channels ≡ size = size_is c.args.block.now c.is_whole.ensures one ∙ sym c.len-size.ensures in
    let same = c.in_ok-subframes.ensures in
    let are : AreSubframes info.bits channels all =
    subst (λ b. AreSubframes b channels all) c.from-bits.ensures (record { code = same.code; bytes = same.bytes; fits = same.fits }) in
    let first : body ≡ head_of info.bits all.code size c.args.number ++ all.bytes =
    c.in_ok-append.ensures.ok ∙ ap (λ h. h ++ c.as_slice.result.now) c.in_ok-frame.ensures
    ∙ ap (λ b. head_of b all.code size c.args.number ++ c.as_slice.result.now) c.from-bits.ensures
    ∙ ap (λ bytes. head_of info.bits all.code size c.args.number ++ bytes) c.as_slice.ensures in
    let crc : c.to_be_bytes.result ≡ bytes_high_first 2 (crc16_of body) =
    c.to_be_bytes.ensures ∙ ap (bytes_high_first 2) (c.crc16-crc.ensures ∙ ap crc16_of c.as_slice-2.ensures) in
    frame_is info channels c.args.number size all body c.append-2.new.self count are first
    (c.in_ok-append-2.ensures.ok ∙ ap (λ bytes. body ++ bytes) crc)

pub returns-clause-bytes : goal.returns-clause-bytes
returns-clause-bytes c =
    let block = c.args.block.now in
    let one : 1 ≤ block.channels = omega (arith, c.requires.info.some_channels) in
    let are = are_channels c.args.info.now block c.args.number c.is_whole.ensures c.requires.channels one c.requires.some c.requires.few c.requires.within c.requires.inside c.requires.number in
    subst (λ frame. length frame ≤ 98400) (sym (returns-clause-exact c)) (c.frames_are_light.ensures c.args.info.now (channels_of block) c.args.number c.requires.info are)
