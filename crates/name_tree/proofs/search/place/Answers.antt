use Rattle.std.proofs.Common.{ℕ, subst, arith}
use Rattle.name_tree.specs.Tree.{AtMost}
use Rattle.name_tree.specs.Nodes.{key_at}
use Rattle.name_tree.proofs.Searches.{place_falls, place_on}
use Rattle.name_tree.proofs.search.place.Goals as goal

pub returns-then-not-is_below : goal.returns-then-not-is_below
returns-then-not-is_below c = record {
  low = c.loop-parent.invariant;
  high = λ h. subst (λ (i : ℕ). AtMost c.args.target.now (key_at c.args.names.now c.args.nodes.now i)) c.after-next.ensures (c.is_below.ensures.no c.if-not-is_below.true);
}

pub loop-parent-smaller : goal.loop-parent-smaller
loop-parent-smaller c = place_falls c.args.names.now c.args.nodes.now c.requires.tree c.args.parent c.loop-parent.before c.args.target.now c.after-next.result c.after-next.ensures c.requires.parent c.loop-parent.invariant (omega arith)

pub loop-parent-preserved : goal.loop-parent-preserved
loop-parent-preserved c = place_on c.args.names.now c.args.nodes.now c.requires.tree c.args.parent c.loop-parent.before c.args.target.now c.after-next.result c.after-next.ensures c.requires.parent c.loop-parent.invariant (omega arith) (c.is_below.ensures.yes c.if-not-is_below.false)
