use Rattle.std.proofs.Common.{sym, subst}
use Rattle.flac_frame.specs.StreamInfo.{FitsFields}
use Rattle.flac_frame.proofs.InfoLaws.{fields_fit, are_readable}
use Rattle.flac_frame.proofs.stream_info.StreamInfo.read.Goals as goal

pub returns-clause-readable : goal.returns-clause-readable
returns-clause-readable c =
    let fits : FitsFields c.fields_of-info.result = subst FitsFields (sym (c.fields_of-info.ensures)) (fields_fit c.args.bytes.now c.fits-bytes c.told-bytes) in
    are_readable c.fields_of-info.result fits (c.if-not-is_accepted.ensures)
