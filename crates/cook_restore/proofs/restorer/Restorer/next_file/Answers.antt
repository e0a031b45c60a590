use Rattle.std.proofs.Common.{inl, inr, arith, sym, ◌∙◌, subst}
use Rattle.cook_restore.specs.Giving.{asked_at}
use Rattle.cook_restore.specs.Restoring.{IsNotGiven}
use Rattle.cook_restore.proofs.NextLaws.{is-given, is-through, is-not_given, stays, stays-stopped}
use Rattle.cook_restore.proofs.restorer.Restorer.next_file.Goals as goal
use Rattle.cook_restore.proofs.restorer.Restorer.next_file.Goals.{then-self-via-then-self, then-self-via-else-self+then-number-len}

pub returns-then-self-clause-given : goal.returns-then-self-clause-given
returns-then-self-clause-given g c = is-through _ _ _ (elim c.then-self.branch [
  | then-self-via-then-self w ↦ inl w.if-self.true
  | then-self-via-else-self+then-number-len w ↦ inr (omega (arith, w.if-number-len.true, w.len.ensures))
])

pub returns-in-Ok-clause-given : goal.returns-in-Ok-clause-given
returns-in-Ok-clause-given g c = is-given g.S.Shelf c.args.shelf.now c.give_file.new.shelf c.args.self.now _ _ c.if-self.false (omega (arith, c.if-number-len.false, c.len.ensures)) c.give_file.ensures.same.0 (omega (arith, c.give_file.ensures.same.0)) (c.give_file.ensures.same.1 ∙ c.if-self.false)
    (record { pkg = c.give_file.ensures.kept.pkg; len = c.give_file.ensures.kept.len; outline = c.give_file.ensures.kept.outline; records = c.give_file.ensures.kept.records; target = c.give_file.ensures.kept.target }) c.in-Ok.ensures.given

pub returns-in-Ok-clause-stays : goal.returns-in-Ok-clause-stays
returns-in-Ok-clause-stays g c = λ known. (stays g.S.Shelf c.args.shelf.now c.give_file.new.shelf (asked_at c.args.self.now c.args.self.now.number) _ c.requires.there c.in-Ok.ensures.given).bytes

pub returns-in-Ok-clause-still_there : goal.returns-in-Ok-clause-still_there
returns-in-Ok-clause-still_there g c = (stays g.S.Shelf c.args.shelf.now c.give_file.new.shelf (asked_at c.args.self.now c.args.self.now.number) _ c.requires.there c.in-Ok.ensures.given).there

pub returns-in-Err-clause-stopped : goal.returns-in-Err-clause-stopped
returns-in-Err-clause-stopped g c =
    subst (IsNotGiven g.S.Shelf c.args.shelf.now c.give_file.new.shelf c.args.self.now) (sym c.of_file.ensures)
    (is-not_given g.S.Shelf c.args.shelf.now c.give_file.new.shelf c.args.self.now _ c.in-Err.stop c.if-self.false (omega (arith, c.if-number-len.false, c.len.ensures)) c.give_file.ensures.same.0 c.in-Err.ensures.stopped)

pub returns-in-Err-clause-stays : goal.returns-in-Err-clause-stays
returns-in-Err-clause-stays g c = λ known. (stays-stopped g.S.Shelf c.args.shelf.now c.give_file.new.shelf (asked_at c.args.self.now c.args.self.now.number) c.in-Err.stop c.requires.there c.in-Err.ensures.stopped).bytes

pub returns-in-Err-clause-still_there : goal.returns-in-Err-clause-still_there
returns-in-Err-clause-still_there g c = (stays-stopped g.S.Shelf c.args.shelf.now c.give_file.new.shelf (asked_at c.args.self.now c.args.self.now.number) c.in-Err.stop c.requires.there c.in-Err.ensures.stopped).there
