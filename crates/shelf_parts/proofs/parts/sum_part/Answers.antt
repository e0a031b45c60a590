use Rattle.std.proofs.Common.{◌≡◌, ◌+◌, ◌≤◌, length, take, drop, ◌∙◌, subst, arith, length-take}
use Rattle.md5.specs.Md5.{Holds}
use Rattle.shelf_core.specs.Told.{IsTold, content}
use Rattle.shelf_parts.specs.PartLaws.{part-more, inside-more, held-more}
use Rattle.shelf_parts.proofs.parts.sum_part.Goals as goal

pub loop-done-preserved : goal.loop-done-preserved
loop-done-preserved g c =
    let within : c.loop-done.done + c.in_ok-count.count ≤ c.args.part.len = omega (arith, c.in_ok-count.ensures.count) in
    let long : length (take c.in_ok-count.count c.read_next.new.buffer) ≡ c.in_ok-count.count = omega (arith, c.in_ok-count.ensures.count, c.read_next.auto.buffer, length-take c.in_ok-count.count c.read_next.new.buffer) in
    let read = subst (λ t. IsTold t → take c.in_ok-count.count c.read_next.new.buffer ≡ take c.in_ok-count.count (drop (c.args.part.at + c.loop-done.done) (content t c.args.part.name.now))) c.loop-done.invariant.kept.files c.in_ok-count.ensures.read in
    record {
      within = within;
      room = omega (arith, c.read_next.auto.buffer);
      kept = record {
        files = c.read_next.ensures.kept.files ∙ c.loop-done.invariant.kept.files;
        unsealed = c.read_next.ensures.kept.unsealed ∙ c.loop-done.invariant.kept.unsealed;
        faults = omega (arith, c.read_next.ensures.kept.faults, c.loop-done.invariant.kept.faults);
        starved = omega (arith, c.read_next.ensures.kept.starved, c.loop-done.invariant.kept.starved);
      };
      inside = λ known. inside-more c.args.part.at c.loop-done.done c.in_ok-count.count _ _ long (read known) (c.loop-done.invariant.inside known);
      first = λ fits some. omega (arith, c.in_ok-count.ensures.count, c.read_next.auto.buffer, fits);
      held = λ fits known. held-more c.args.part.at c.args.part.len c.loop-done.done c.in_ok-count.count _ c.read_next.new.buffer within c.loop-done-test.true (λ f. c.loop-done.invariant.first (omega (arith, f, c.read_next.auto.buffer))) (read known) fits;
      sum = λ known. subst (Holds c.update.new.self) (part-more c.args.part.at c.args.part.len c.loop-done.done c.in_ok-count.count _ _ within (read known)) (c.update.ensures _ (c.loop-done.invariant.sum known));
    }
