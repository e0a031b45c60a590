use Rattle.std.proofs.Common.{◌≡◌, ◌+◌, ◌-◌, ◌*◌, ◌≤◌, [], length, sym, ap, ◌∙◌, arith}
use Rattle.std.proofs.lemmas.Result.{err_from_is_err_and}
use Rattle.flac_frame.specs.Samples.{stretches}
use Rattle.flac_frame.specs.Subframe.{subframe_at}
use Rattle.flac_frame.specs.Frame.{subframes_at}
use Rattle.flac_frame.proofs.EachLaws.{piece_len}
use Rattle.flac_frame.proofs.FrameLaws.{with_rows, no_rows, rows_on, rows_end, rows_done, room_for, row_stored}
use Rattle.flac_frame.proofs.channels.subframes.Goals as goal

pub loop-k-init : goal.loop-k-init
unfolding stretches
loop-k-init c =
    let all : c.args.count - 0 ≡ c.args.count = omega arith in
    ap (λ n. with_rows [] (subframes_at c.args.code c.args.bits c.args.size 0 n c.args.reader.now)) all ∙ no_rows (subframes_at c.args.code c.args.bits c.args.size 0 c.args.count c.args.reader.now)

pub returns-in_err-subframe : goal.returns-in_err-subframe
returns-in_err-subframe c =
    let p = err_from_is_err_and c.from_residual.result c.from_residual.ensures.1 in
    let at = c.loop-k in
    let start = at.k * c.args.room in
    let within : start + c.args.size ≤ length at.samples = room_for c.args.room c.args.size c.args.count at.k (length at.samples) c.loop-k-test.true c.requires.within (at.auto.samples ∙ c.requires.room) in
    let len = piece_len start c.args.size at.samples within in
    let same = ap (λ d. subframe_at d c.args.size at.reader) (sym c.depth_of.ensures.depth) ∙ ap (λ n. subframe_at c.depth_of.result n at.reader) (sym len) in
    rw (p.1, p.2) (rows_end (stretches c.args.room c.args.size at.samples at.k) c.args.code c.args.bits c.args.size c.args.count at.k at.reader c.in_err-subframe.field-0.0
    (subframes_at c.args.code c.args.bits c.args.size 0 c.args.count c.args.reader.now) c.loop-k-test.true (same ∙ c.in_err-subframe.ensures) at.invariant)

pub loop-k-preserved : goal.loop-k-preserved
loop-k-preserved c =
    let at = c.loop-k in
    let start = at.k * c.args.room in
    let within : start + c.args.size ≤ length at.samples = room_for c.args.room c.args.size c.args.count at.k (length at.samples) c.loop-k-test.true c.requires.within (at.auto.samples ∙ c.requires.room) in
    let len = piece_len start c.args.size at.samples within in
    let same = ap (λ d. subframe_at d c.args.size at.reader) (sym c.depth_of.ensures.depth) ∙ ap (λ n. subframe_at c.depth_of.result n at.reader) (sym len) in
    rows_on (stretches c.args.room c.args.size at.samples at.k) _ c.subframe.new.out c.args.code c.args.bits c.args.size c.args.count at.k at.reader c.subframe.new.reader
    (subframes_at c.args.code c.args.bits c.args.size 0 c.args.count c.args.reader.now) c.loop-k-test.true (same ∙ c.in_ok-subframe.ensures)
    (row_stored c.args.room c.args.size at.k (start + c.args.size - start) at.samples c.subframe.new.out c.requires.within within (c.subframe.auto.out ∙ len)) at.invariant

pub returns : goal.returns
returns c =
    let at = c.loop-k in
    let end : at.k ≡ c.args.count = omega (arith, at.auto.k-end, c.loop-k-test.false) in
    rows_done (stretches c.args.room c.args.size at.samples at.k) (stretches c.args.room c.args.size at.samples c.args.count) c.args.code c.args.bits c.args.size c.args.count at.k at.reader
    (subframes_at c.args.code c.args.bits c.args.size 0 c.args.count c.args.reader.now) c.loop-k-test.false (ap (stretches c.args.room c.args.size at.samples) end) at.invariant
