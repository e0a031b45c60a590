use Rattle.std.proofs.Common.{refl, arith, rules}
use Rattle.std.proofs.lemmas.Result.{err_from_is_err_and}
use Rattle.cook_pack.specs.Planned.{directory_of}
use Rattle.cook_pack.proofs.OffenceLaws.{by_file-none}
use Rattle.cook_pack.proofs.PlanLaws.{passed-none, passed-more, followed-none, followed-next, names_entry, sound-is, stopped-is, fits-is}
use Rattle.cook_pack.proofs.planning.admitted_files.Goals as goal

pub loop-index-init : goal.loop-index-init
loop-index-init g c = record {
  passed = rw c.new-files.ensures.items (passed-none c.args.entries.now);
  followed = λ known. rw c.new-files.ensures.items (followed-none (directory_of g.S.Shelf c.args.shelf.now c.args.root.now));
  only = search rules;
}

pub returns-in_err-file-clause-stopped : goal.returns-in_err-file-clause-stopped
returns-in_err-file-clause-stopped g c =
    let p = err_from_is_err_and c.from_residual.result c.from_residual.ensures.1 in
    rw (p.1, p.2) (stopped-is g.S.Shelf c.args.shelf.now c.loop-index.shelf _ c.args.root.now c.args.entries.now c.loop-index.files.items c.loop-index.total c.loop-index.index _
    c.loop-index.invariant.only c.requires.listed (omega arith) c.loop-index.invariant.passed.adds c.loop-index.invariant.followed c.in_err-file.ensures.barred)

pub returns-in_err-file-clause-missing : goal.returns-in_err-file-clause-missing
returns-in_err-file-clause-missing g c =
    let p = err_from_is_err_and c.from_residual.result c.from_residual.ensures.1 in
    rw (p.1, p.2) (names_entry g.S.Shelf c.loop-index.shelf _ c.args.root.now c.args.entries.now c.loop-index.total c.loop-index.index _ (omega arith) c.in_err-file.ensures.barred)

pub overflow_add-total : goal.overflow_add-total
overflow_add-total g c = omega (arith, by_file-none _ _ _ c.in_ok-file.ensures.admitted.filed)

pub loop-index-preserved : goal.loop-index-preserved
loop-index-preserved g c =
    let admits = c.in_ok-file.ensures.admitted in
    record {
      passed = rw c.in_ok-push.ensures.items (passed-more c.args.entries.now c.loop-index.files.items c.loop-index.total c.loop-index.index c.in_ok-file.file (omega arith) c.loop-index.invariant.passed admits.named admits.text admits.listed admits.filed);
      followed = rw c.in_ok-push.ensures.items (followed-next g.S.Shelf c.args.shelf.now c.loop-index.shelf c.args.root.now c.args.entries.now c.loop-index.files.items c.loop-index.total c.loop-index.index c.in_ok-file.file
          c.loop-index.invariant.only c.requires.listed (omega arith) c.loop-index.invariant.passed.adds admits c.loop-index.invariant.followed);
      only = search rules;
    }

pub returns-clause-planned : goal.returns-clause-planned
returns-clause-planned g c = record {
  at_root = refl;
  sound = sound-is c.args.root.now c.args.entries.now c.loop-index.files.items c.loop-index.total c.loop-index.index c.requires.order (omega arith) c.loop-index.invariant.passed;
  fits = λ known. fits-is (g.S.Shelf.files c.args.shelf.now) c.args.root.now c.args.entries.now c.loop-index.files.items c.loop-index.index (c.requires.listed known) (omega arith) (c.loop-index.invariant.followed known);
}
