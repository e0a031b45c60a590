use Rattle.std.proofs.Common.{rules, arith, refl, ◌∙◌}
use Rattle.cook_top.specs.RestoreLaw.{RestoreLaw}
use Rattle.cook_top.specs.Statuses.{status_of_restore_error}
use Rattle.cook_top.proofs.GivingLaws.{under_way-opened, under_way-next, restored-through, sum-through}
use Rattle.cook_top.proofs.RestoreLaws.{law_unopened, law_ungiven, shown_ungiven}
use Rattle.cook_top.proofs.restore.restore_files.Goals as goal

pub returns-in_err-restorer-clause-stopped : goal.returns-in_err-restorer-clause-stopped
returns-in_err-restorer-clause-stopped g c =
    let law : RestoreLaw (g.S.Shelf.files c.args.shelf.now) (g.S.Shelf.files c.open_package.new.shelf) c.args.pkg.now c.args.dir.now (status_of_restore_error c.in_err-restorer.field-0.0) =
    law_unopened _ _ _ _ _ _ c.in_err-restorer.field-0.0 c.requires.empty c.in_err-restorer.ensures.stopped c.in_err-restorer.ensures.kept.files in
    search (rules, law)

pub loop-file-init : goal.loop-file-init
loop-file-init g c = record {
  way = under_way-opened _ _ _ _ _ _ c.in_ok-restorer.ensures.kept.files c.requires.empty c.in_ok-restorer.ensures.opened refl refl;
  small = omega arith;
  sealed = c.in_ok-restorer.ensures.kept.unsealed;
  counts = record { faults = c.in_ok-restorer.ensures.kept.faults; starved = c.in_ok-restorer.ensures.kept.starved };
}

pub loop-file-preserved : goal.loop-file-preserved
loop-file-preserved g c =
    let given = rw c.in-Ok-Some.field-0-is at c.in-Ok-Some.ensures.given in
    record {
      way = under_way-next _ _ _ _ _ _ _ _ _ _ _ _ c.loop-file.invariant.way given c.next_file.ensures.kept c.next_file.ensures.stays c.next_file.ensures.still_there c.with_one_more-sum.ensures.files c.with_one_more-sum.ensures.bytes;
      small = c.with_one_more-sum.ensures.small;
      sealed = given.unsealed ∙ c.loop-file.invariant.sealed;
      counts = record {
        faults = omega (arith, c.loop-file.invariant.counts.faults, c.next_file.ensures.counts.faults);
        starved = omega (arith, c.loop-file.invariant.counts.starved, c.next_file.ensures.counts.starved);
      };
    }

pub returns-in-Ok-None-clause-done : goal.returns-in-Ok-None-clause-done
returns-in-Ok-None-clause-done g c =
    let through = rw c.in-Ok-None.field-0-is at c.in-Ok-None.ensures.given in
    restored-through _ _ _ _ _ _ _ _ _ _ c.loop-file.invariant.way through

pub returns-in-Ok-None-clause-sum : goal.returns-in-Ok-None-clause-sum
returns-in-Ok-None-clause-sum g c =
    let through = rw c.in-Ok-None.field-0-is at c.in-Ok-None.ensures.given in
    sum-through _ _ _ _ _ _ _ _ _ _ c.loop-file.invariant.way through

pub returns-in-Err-clause-stopped : goal.returns-in-Err-clause-stopped
returns-in-Err-clause-stopped g c =
    law_ungiven g.S.Shelf c.args.shelf.now c.loop-file.shelf c.next_file.new.shelf _ _ _ _ _ _ _ c.loop-file.invariant.way c.in-Err.ensures.stopped c.next_file.ensures.kept c.not_given.ensures

pub returns-in-Err-clause-cause : goal.returns-in-Err-clause-cause
returns-in-Err-clause-cause g c = λ sink sink_now.
    shown_ungiven g.S.Shelf c.args.shelf.now c.loop-file.shelf c.next_file.new.shelf c.args.workers _ _ sink sink_now c.loop-file.restorer c.next_file.new.self c.loop-file.sum c.in-Err.error c.not_given.result c.loop-file.invariant.way c.loop-file.invariant.counts c.in-Err.ensures.stopped c.not_given.ensures
