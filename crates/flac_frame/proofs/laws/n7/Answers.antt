use Rattle.flac_frame.specs.Writing.{flac_of, size_of, code_of, stored_by}
use Rattle.flac_frame.proofs.SubframeBack.{Known}
use Rattle.flac_frame.proofs.FrameBack.{KnownBytes, frame_back}
use Rattle.flac_frame.proofs.StoredLaws.{stored, is_true}
use Rattle.flac_frame.proofs.laws.n7.Goals as goal

pub returns-clause-frame : goal.returns-clause-frame
unfolding flac_of
returns-clause-frame c = λ info channels number room r a enough.
    let known : Known = record {
      field = c.written_field_is_read.ensures;
      fixed = c.samples_are_restored.ensures.fixed;
      linear = c.samples_are_restored.ensures.linear;
      fixed_counts = c.counts.ensures.fixed;
      linear_counts = c.counts.ensures.linear;
      fixed_small = c.residuals_are_small.ensures.fixed;
      linear_small = c.residuals_are_small.ensures.linear;
      bank = c.residuals_are_small.ensures.sets;
    } in
    let bytes : KnownBytes = record {
      whole = c.bits_and_bytes_tell_each_other.ensures.bits;
      follow = c.bits_of_bytes.ensures.follow;
      eight = c.bits_of_bytes.ensures.eight;
      numbers = c.bits_of_bytes.ensures.numbers;
      crc8 = c.checksums_fit.ensures.eight;
      crc16 = c.checksums_fit.ensures.sixteen;
    } in
    let depth = is_true _ r.writable.depth in
    let code = code_of info.bits channels in
    frame_back known bytes c.choice_is_light.ensures.candidate info code (size_of channels) number room channels (stored_by code channels)
    (stored info channels depth r.writable.some_channels r.writable.channels a.count a.same a.inside) depth a.some a.few a.within enough a.numbered
