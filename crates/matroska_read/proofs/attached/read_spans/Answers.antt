use Rattle.std.proofs.Common.{rules}
use Rattle.matroska_read.proofs.FileLaws.{file_at-known, file_at-stops}
use Rattle.matroska_read.proofs.attached.read_spans.Goals as goal

pub returns-in_err-side-clause-exact : goal.returns-in_err-side-clause-exact
returns-in_err-side-clause-exact g c =
    let stops = file_at-stops _ _ c.args.name c.args.media_type c.args.content c.in_ok-name.name _ c.in_err-side.field-0.0 c.as_bytes.ensures.value c.in_ok-name.ensures.reads.kept.known c.in_ok-name.ensures.exact c.in_err-side.ensures.exact in
    search (rules, stops)

pub returns-clause-exact : goal.returns-clause-exact
returns-clause-exact g c =
    file_at-known _ _ c.args.name c.args.media_type c.args.content c.in_ok-name.name _ c.in_ok-side.side c.as_bytes.ensures.value c.in_ok-name.ensures.reads.kept.known c.in_ok-name.ensures.exact c.in_ok-side.ensures.exact
