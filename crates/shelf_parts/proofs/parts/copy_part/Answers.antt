use Rattle.std.proofs.Common.{◌+◌, ◌≤◌, take, ap, ◌∙◌, subst, arith, rules}
use Rattle.md5.specs.Md5.{Holds}
use Rattle.shelf_core.specs.Told.{GrewPartly, content, grown}
use Rattle.shelf_core.specs.PieceLaws.{piece-while_grown, grown-more, GrewPartly-more, GrewPartly-taken}
use Rattle.shelf_core.specs.Writes.{GrewInPart}
use Rattle.shelf_parts.specs.Parts.{part_on}
use Rattle.shelf_parts.specs.PartLaws.{piece-of_part, part-more, length-part}
use Rattle.shelf_parts.proofs.parts.copy_part.Goals as goal

pub returns-in_err-count-clause-stopped : goal.returns-in_err-count-clause-stopped
returns-in_err-count-clause-stopped g c =
    let bytes = content (g.S.Shelf.files c.args.shelf.now) c.args.part.name.now in
    let part : GrewInPart g.S.Shelf c.args.shelf.now c.read_next.new.shelf c.args.to.now (part_on g.S.Shelf c.args.shelf.now c.args.part) = record {
      files = GrewPartly-taken _ _ _ _ c.loop-done.done (c.read_next.ensures.kept.files ∙ c.loop-done.invariant.grew.files) (λ known. omega (arith, c.loop-done.invariant.within, length-part c.args.part.at c.args.part.len bytes (c.requires.measured known)));
      unsealed = c.read_next.ensures.kept.unsealed ∙ c.loop-done.invariant.grew.unsealed;
      faults = omega (arith, c.read_next.ensures.kept.faults, c.loop-done.invariant.grew.faults);
      starved = omega (arith, c.read_next.ensures.kept.starved, c.loop-done.invariant.grew.starved);
    } in
    search (rules, part)

pub returns-in_err-append-clause-stopped : goal.returns-in_err-append-clause-stopped
returns-in_err-append-clause-stopped g c =
    let within : c.loop-done.done + c.in_ok-count.count ≤ c.args.part.len = omega (arith, c.in_ok-count.ensures.count) in
    let bytes = content (g.S.Shelf.files c.args.shelf.now) c.args.part.name.now in
    let read = piece-while_grown (g.S.Shelf.files c.args.shelf.now) _ _ _ _ _ (c.args.part.at + c.loop-done.done) c.in_ok-count.count c.loop-done.invariant.grew.files c.requires.apart c.in_ok-count.ensures.read in
    let part = subst (λ t. GrewPartly t c.args.to.now (take c.in_ok-count.count c.read_next.new.buffer) (g.S.Shelf.files c.append.new.self)) c.read_next.ensures.kept.files c.in_err-append.ensures.err in
    let files : GrewPartly (g.S.Shelf.files c.args.shelf.now) c.args.to.now (part_on g.S.Shelf c.args.shelf.now c.args.part) (g.S.Shelf.files c.append.new.self) = GrewPartly-more _ _ _ _ _ _ c.loop-done.done c.in_ok-count.count c.loop-done.invariant.grew.files part
    (λ known. read known ∙ piece-of_part c.args.part.at c.args.part.len c.loop-done.done c.in_ok-count.count bytes within)
    (λ known. omega (arith, length-part c.args.part.at c.args.part.len bytes (c.requires.measured known))) in
    search (rules, files)

pub loop-done-preserved : goal.loop-done-preserved
loop-done-preserved g c =
    let within : c.loop-done.done + c.in_ok-count.count ≤ c.args.part.len = omega (arith, c.in_ok-count.ensures.count) in
    let bytes = content (g.S.Shelf.files c.args.shelf.now) c.args.part.name.now in
    let read = piece-while_grown (g.S.Shelf.files c.args.shelf.now) _ _ _ _ _ (c.args.part.at + c.loop-done.done) c.in_ok-count.count c.loop-done.invariant.grew.files c.requires.apart c.in_ok-count.ensures.read in
    record {
      within = within;
      room = omega (arith, c.read_next.auto.buffer);
      grew = record {
        files = grown-more _ _ _ _ _ _ c.loop-done.done c.in_ok-count.count c.loop-done.invariant.grew.files (c.in_ok-append.ensures.ok ∙ ap (λ t. grown t c.args.to.now (take c.in_ok-count.count c.read_next.new.buffer)) c.read_next.ensures.kept.files)
            (λ known. read known ∙ piece-of_part c.args.part.at c.args.part.len c.loop-done.done c.in_ok-count.count bytes within);
        unsealed = c.append.ensures.unsealed ∙ c.read_next.ensures.kept.unsealed ∙ c.loop-done.invariant.grew.unsealed;
        faults = omega (arith, c.append.ensures.cause.faults_kept, c.read_next.ensures.kept.faults, c.loop-done.invariant.grew.faults);
        starved = omega (arith, c.append.ensures.cause.starved_kept, c.read_next.ensures.kept.starved, c.loop-done.invariant.grew.starved);
      };
      sum = λ known. subst (Holds c.update.new.self) (part-more c.args.part.at c.args.part.len c.loop-done.done c.in_ok-count.count _ _ within (read known)) (c.update.ensures _ (c.loop-done.invariant.sum known));
    }
