use Rattle.std.proofs.Common.{refl, ap, subst, ◌∙◌, sym, arith}
use Rattle.std.proofs.lemmas.Result.{err_from_is_err_and}
use Rattle.shelf_core.specs.Told.{HasFile, IsUnsealedIn, without_unsealed}
use Rattle.shelf_core.specs.FileLaws.{HasFile-itself, IsUnsealedIn-with_unsealed, without-with_unsealed}
use Rattle.cook_pack.proofs.FitLaws.{can_attach, part-fits, whole-fits, sum-fits, Tells-created}
use Rattle.cook_pack.proofs.LeftLaws.{grown-created, left_part, left_whole, left_stopped, left_shelf, cause_shelf, cause_stopped}
use Rattle.cook_pack.proofs.packing.pack.Goals as goal

pub write_package-requires-clause-ready : goal.write_package-requires-clause-ready
write_package-requires-clause-ready g c = can_attach _ _ _ _ _ c.in_ok-create_package.ensures.created c.files-files.ensures.sound c.requires.fits

pub write_package-requires-clause-open : goal.write_package-requires-clause-open
write_package-requires-clause-open g c = subst (λ p. IsUnsealedIn p c.args.pkg.now) (sym c.in_ok-create_package.ensures.created.unsealed) (IsUnsealedIn-with_unsealed _ _)

pub write_package-requires-clause-to_there : goal.write_package-requires-clause-to_there
write_package-requires-clause-to_there g c = subst (λ t. HasFile t c.args.pkg.now) (sym c.in_ok-create_package.ensures.created.files) (HasFile-itself _ _ _)

pub returns-in_err-create_package-clause-left : goal.returns-in_err-create_package-clause-left
returns-in_err-create_package-clause-left g c =
    let p = err_from_is_err_and c.from_residual.result c.from_residual.ensures.1 in
    rw (p.1, p.2) (c.in_err-create_package.ensures.left _ _)

pub returns-in_err-create_package-clause-cause : goal.returns-in_err-create_package-clause-cause
returns-in_err-create_package-clause-cause g c =
    let p = err_from_is_err_and c.from_residual.result c.from_residual.ensures.1 in
    rw (p.1, p.2) (c.in_err-create_package.ensures.cause _)

pub returns-in_err-bytes-clause-left : goal.returns-in_err-bytes-clause-left
returns-in_err-bytes-clause-left g c =
    let created = c.in_ok-create_package.ensures.created in
    let p = err_from_is_err_and c.from_residual-in_err-bytes.result c.from_residual-in_err-bytes.ensures.1 in
    rw (p.1, p.2) (left_stopped _ _ _ _ _ _ _ _ _ c.in_err-bytes.ensures.cause
    (left_part _ _ _ _ _ _ _ created (part-fits _ _ _ _ _ _ c.args.options.rate created c.requires.fits (c.in_err-bytes.ensures.stopped c.args.options.rate))))

pub returns-in_err-bytes-clause-cause : goal.returns-in_err-bytes-clause-cause
returns-in_err-bytes-clause-cause g c =
    let p = err_from_is_err_and c.from_residual-in_err-bytes.result c.from_residual-in_err-bytes.ensures.1 in
    rw (p.1, p.2) (cause_stopped _ _ _ _ _ _ (Tells-created _ _ _ _ c.in_ok-create_package.ensures.created) c.create_package.ensures.counts.faults c.in_err-bytes.ensures.cause)

pub returns-in_err-bytes-clause-counts : goal.returns-in_err-bytes-clause-counts
returns-in_err-bytes-clause-counts g c =
    let stopped = c.in_err-bytes.ensures.stopped 0 in
    record {
      faults = omega (arith, c.create_package.ensures.counts.faults, stopped.faults);
      starved = omega (arith, c.create_package.ensures.counts.starved, stopped.starved);
    }

pub seal-requires : goal.seal-requires
seal-requires g c =
    subst (λ p. IsUnsealedIn p c.args.pkg.now) (sym ((c.in_ok-bytes.ensures.written 0).unsealed ∙ c.in_ok-create_package.ensures.created.unsealed)) (IsUnsealedIn-with_unsealed _ _)

pub returns-in_err-seal-clause-left : goal.returns-in_err-seal-clause-left
returns-in_err-seal-clause-left g c =
    let created = c.in_ok-create_package.ensures.created in
    let p = err_from_is_err_and c.from_residual-in_err-seal.result c.from_residual-in_err-seal.ensures.1 in
    rw (p.1, p.2) (left_shelf _ _ _ _ _ _ _
    (left_whole _ _ _ _ _ _ _ _ created (whole-fits _ _ _ _ _ _ c.args.options.rate created c.requires.fits (c.in_ok-bytes.ensures.written c.args.options.rate)) c.seal.ensures.files c.in_err-seal.ensures.unsealed_kept))

pub returns-in_err-seal-clause-cause : goal.returns-in_err-seal-clause-cause
returns-in_err-seal-clause-cause g c =
    let written = c.in_ok-bytes.ensures.written 0 in
    let p = err_from_is_err_and c.from_residual-in_err-seal.result c.from_residual-in_err-seal.ensures.1 in
    rw (p.1, p.2) (cause_shelf _ _ _ _ _ _ (omega (arith, c.create_package.ensures.counts.faults, written.faults)) c.in_err-seal.ensures.cause)

pub returns-in_err-seal-clause-counts : goal.returns-in_err-seal-clause-counts
returns-in_err-seal-clause-counts g c =
    let written = c.in_ok-bytes.ensures.written 0 in
    record {
      faults = omega (arith, c.create_package.ensures.counts.faults, written.faults, c.seal.ensures.cause.faults_kept);
      starved = omega (arith, c.create_package.ensures.counts.starved, written.starved, c.seal.ensures.cause.starved_kept);
    }

pub returns-clause-packed : goal.returns-clause-packed
returns-clause-packed g c =
    let created = c.in_ok-create_package.ensures.created in
    let written = whole-fits _ _ _ _ _ _ c.args.options.rate created c.requires.fits (c.in_ok-bytes.ensures.written c.args.options.rate) in
    record {
      free = created.free;
      files = c.seal.ensures.files ∙ grown-created _ _ _ _ _ _ created written.files;
      unsealed = c.in_ok-seal.ensures.sealed ∙ ap (λ p. without_unsealed p c.args.pkg.now) (written.unsealed ∙ created.unsealed) ∙ without-with_unsealed _ _ created.not_unsealed;
      faults = omega (arith, c.create_package.ensures.counts.faults, written.faults, c.seal.ensures.cause.faults_kept);
      starved = omega (arith, c.create_package.ensures.counts.starved, written.starved, c.seal.ensures.cause.starved_kept);
    }

pub returns-clause-sum : goal.returns-clause-sum
returns-clause-sum g c = λ known. sum-fits _ _ _ _ _ _ _ c.in_ok-create_package.ensures.created c.requires.fits known c.files-files.ensures.count c.tracks.ensures refl (c.in_ok-bytes.ensures.bytes c.args.options.rate)

pub returns-clause-counts : goal.returns-clause-counts
returns-clause-counts g c =
    let written = c.in_ok-bytes.ensures.written 0 in
    record {
      faults = omega (arith, c.create_package.ensures.counts.faults, written.faults, c.seal.ensures.cause.faults_kept);
      starved = omega (arith, c.create_package.ensures.counts.starved, written.starved, c.seal.ensures.cause.starved_kept);
    }
