use Rattle.std.proofs.Common.{ap, sym, ◌∙◌, ℕ, ◌<◌, subst}
use Rattle.name_tree.specs.Nodes.{key_at}
use Rattle.name_tree.proofs.Searches.{place_finds}
use Rattle.name_tree.proofs.search.child.Goals as goal

pub returns-clause-absent : goal.returns-clause-absent
returns-clause-absent c = λ none j some found.
    let finds = place_finds c.args.names.now c.args.nodes.now c.requires.tree c.args.parent c.place-before.result c.args.target.now j c.requires.parent c.place-before.ensures some found in
    c.matching-found.ensures.none none (subst (λ (i : ℕ). 0 < i) (sym c.after-next.ensures) finds.0) (ap (key_at c.args.names.now c.args.nodes.now) c.after-next.ensures ∙ finds.1)
