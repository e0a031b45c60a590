use Rattle.std.proofs.Common.{◌∙◌, ap, sym, List, ℕ}
use Rattle.std.specs.Ordering.{nat_cmp, is_lt}
use Rattle.std.specs.Cmp.Lexicographic.{slice_cmp}
use Rattle.name_tree.proofs.Searches.{lt_below, not_lt}
use Rattle.name_tree.specs.Nodes.{key_at}
use Rattle.name_tree.proofs.search.is_below.Goals as goal

pub returns-clause-yes : goal.returns-clause-yes
returns-clause-yes c = λ e. lt_below (key_at c.args.names.now c.args.nodes.now c.args.at) c.args.target.now _ (ap (λ (k : List ℕ). is_lt (slice_cmp nat_cmp k c.args.target.now)) (sym c.key.ensures) ∙ ap is_lt (sym c.cmp.ensures) ∙ sym c.is_lt.ensures) e

pub returns-clause-no : goal.returns-clause-no
returns-clause-no c = λ e. not_lt (key_at c.args.names.now c.args.nodes.now c.args.at) c.args.target.now (ap (λ (k : List ℕ). is_lt (slice_cmp nat_cmp k c.args.target.now)) (sym c.key.ensures) ∙ ap is_lt (sym c.cmp.ensures) ∙ sym c.is_lt.ensures ∙ e)
