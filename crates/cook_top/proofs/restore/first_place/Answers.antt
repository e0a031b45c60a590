use Rattle.std.proofs.Common.{◌≡◌, ◌+◌, sym, subst, ◌∙◌}
use Rattle.std.specs.List.{IsFirstBest}
use Rattle.std.specs.Cmp.Lexicographic.{nat_list_cmp_total}
use Rattle.std.proofs.lemmas.List.MinMax.{ranks_by, IsFirstBest-none, IsFirstBest-takes, IsFirstBest-keeps}
use Rattle.shelf_core.specs.declared.shelf.Entry.{Entry}
use Rattle.cook_top.specs.Restoring.{is_below}
use Rattle.cook_top.proofs.restore.first_place.Goals as goal
use Rattle.cook_top.proofs.restore.first_place.Goals.{then-lt, else-lt}

pub loop-index-init : goal.loop-index-init
loop-index-init c = IsFirstBest-none (ranks_by nat_list_cmp_total (λ (entry : Entry). entry.name)) c.args.entries.now

pub loop-index-preserved : goal.loop-index-preserved
loop-index-preserved c =
    let below : is_below c.index-entries-index.result c.index-entries-first.result ≡ c.lt.result = (λ i. is_below (c.index-entries-index.is i) (c.index-entries-first.is i)) ∙ sym c.lt.ensures in
    elim c.if-lt.branch [
      | then-lt w ↦ subst (IsFirstBest is_below c.args.entries.now (c.loop-index.index + 1)) (sym w.first-is)
          (IsFirstBest-takes (ranks_by nat_list_cmp_total (λ (entry : Entry). entry.name)) c.args.entries.now c.loop-index.index c.loop-index.first _ _ c.loop-index.invariant c.loop-index-test.true c.index-entries-index.is c.index-entries-first.is (below ∙ w.if-lt.true))
      | else-lt w ↦ subst (IsFirstBest is_below c.args.entries.now (c.loop-index.index + 1)) (sym w.first-is)
          (IsFirstBest-keeps (ranks_by nat_list_cmp_total (λ (entry : Entry). entry.name)) c.args.entries.now c.loop-index.index c.loop-index.first _ _ c.loop-index.invariant c.loop-index-test.true c.index-entries-index.is c.index-entries-first.is (below ∙ w.if-lt.false))
    ]
