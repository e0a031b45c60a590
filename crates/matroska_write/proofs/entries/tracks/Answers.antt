use Rattle.std.proofs.Common.{length, ap, ◌∙◌, arith}
use Rattle.matroska_write.proofs.TrackLaws.{short_entries}
use Rattle.matroska_write.proofs.entries.tracks.Goals as goal

pub put_bytes-requires-clause-known : goal.put_bytes-requires-clause-known
put_bytes-requires-clause-known c = omega (arith, ap length (c.as_slice.ensures ∙ c.in_ok-content.ensures), short_entries c.args.entries.now c.requires.few c.requires.short)
