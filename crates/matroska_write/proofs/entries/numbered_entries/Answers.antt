use Rattle.std.proofs.Common.{◌+◌, length, sym, ap, ◌∙◌, arith}
use Rattle.matroska_write.proofs.TrackLaws.{all_entries, no_entries, private_at, short_entry, track_at, with_entry}
use Rattle.matroska_write.proofs.entries.numbered_entries.Goals as goal

pub loop-track-init : goal.loop-track-init
loop-track-init c = record { numbered = omega arith; written = c.new-out.ensures ∙ sym no_entries }

pub entry_content-requires-clause-track : goal.entry_content-requires-clause-track
entry_content-requires-clause-track c = track_at c.args.entries.now c.loop-track.track-index c.track-item.result c.loop-track-test.true c.track-item.is c.requires.tracks

pub entry_content-requires-clause-short : goal.entry_content-requires-clause-short
entry_content-requires-clause-short c = private_at c.args.entries.now c.loop-track.track-index c.track-item.result c.loop-track-test.true c.track-item.is c.requires.short

pub put_bytes-requires-clause-known : goal.put_bytes-requires-clause-known
put_bytes-requires-clause-known c =
    let short = private_at c.args.entries.now c.loop-track.track-index c.track-item.result c.loop-track-test.true c.track-item.is c.requires.short in
    omega (arith, ap length (c.as_slice.ensures ∙ c.in_ok-content.ensures), short_entry (c.loop-track.number + 1) c.track-item.result short)

pub loop-track-preserved : goal.loop-track-preserved
loop-track-preserved c = record {
  numbered = omega (arith, c.loop-track.invariant.numbered);
  written = with_entry c.args.entries.now c.loop-track.track-index (c.loop-track.number + 1) c.track-item.result c.loop-track.out _ _ c.loop-track-test.true c.track-item.is (omega (arith, c.loop-track.invariant.numbered))
      c.loop-track.invariant.written (c.as_slice.ensures ∙ c.in_ok-content.ensures) c.in_ok-put_bytes.ensures.ok;
}

pub returns : goal.returns
returns c = c.loop-track.invariant.written ∙ all_entries c.args.entries.now c.loop-track.track-index (omega (arith, c.loop-track-test.false))
