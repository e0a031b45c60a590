use Rattle.std.proofs.Common.{ℕ, ◌<◌, Ok, Err, subst, ◌∙◌, arith, rules}
use Rattle.shelf_reader.specs.Seen.{Seen}
use Rattle.shelf_reader.specs.WalkLaws.{Agree-more, visit-stops}
use Rattle.wav_chunks.specs.Formed.{IsSeen}
use Rattle.wav_chunks.specs.WaveParts.{riff, visit_chunk, wave_walked}
use Rattle.wav_chunks.specs.Window.{known}
use Rattle.wav_chunks.proofs.ChunkLaws.{riff_goes_on, chunk-told, visit-told}
use Rattle.wav_chunks.proofs.WindowLaws.{Keeps-twice}
use Rattle.wav_chunks.proofs.chunks.walk.Goals as goal

pub returns-in_err-seen-clause-exact : goal.returns-in_err-seen-clause-exact
returns-in_err-seen-clause-exact g c =
    let kept = c.loop-at.invariant.kept in
    let reads = c.in_ok-chunk.ensures.reads.kept in
    let len : ℕ = c.args.reader.now.len in
    let file : Seen = known g.S.Shelf c.args.reader.now in
    let before : c.loop-at.at < len = omega (arith, c.loop-at-test.true, c.loop-at.invariant.end) in
    let read = chunk-told _ file _ len c.loop-at.at (Ok c.in_ok-chunk.chunk) kept.known c.loop-at.invariant.end c.in_ok-chunk.ensures.exact in
    let visited = visit-told _ file _ len c.loop-at.seen c.in_ok-chunk.chunk (Err c.in_err-seen.field-0.0) (reads.known ∙ kept.known) (reads.len ∙ kept.len) c.in_err-seen.ensures.exact in
    let stops = visit-stops file (wave_walked len) riff riff_goes_on (visit_chunk len) len c.loop-at.seen c.loop-at.at c.in_ok-chunk.chunk c.in_err-seen.field-0.0 before c.loop-at.invariant.so_far read visited in
    search (rules, stops)

pub loop-at-preserved : goal.loop-at-preserved
loop-at-preserved g c =
    let kept = c.loop-at.invariant.kept in
    let reads = c.in_ok-chunk.ensures.reads.kept in
    let len : ℕ = c.args.reader.now.len in
    let file : Seen = known g.S.Shelf c.args.reader.now in
    let before : c.loop-at.at < len = omega (arith, c.loop-at-test.true, c.loop-at.invariant.end) in
    let read = chunk-told _ file _ len c.loop-at.at (Ok c.in_ok-chunk.chunk) kept.known c.loop-at.invariant.end c.in_ok-chunk.ensures.exact in
    let visited = visit-told _ file _ len c.loop-at.seen c.in_ok-chunk.chunk (Ok c.in_ok-seen.seen) (reads.known ∙ kept.known) (reads.len ∙ kept.len) c.in_ok-seen.ensures.exact in
    record {
      within = c.in_ok-chunk.ensures.chunk.within;
      end = c.loop-at.invariant.end;
      seen = subst (λ (n : ℕ). IsSeen n c.in_ok-seen.seen) (reads.len ∙ kept.len) c.in_ok-seen.ensures.seen;
      kept =
          Keeps-twice g.S.Shelf c.args.reader.now c.loop-at.reader c.with_chunk.new.reader kept
          (Keeps-twice g.S.Shelf c.loop-at.reader c.read_chunk.new.reader c.with_chunk.new.reader reads c.in_ok-seen.ensures.reads.kept);
      so_far = Agree-more file (wave_walked len) riff riff_goes_on (visit_chunk len) len c.loop-at.seen c.in_ok-seen.seen c.loop-at.at c.in_ok-chunk.chunk before c.loop-at.invariant.so_far read visited;
    }
