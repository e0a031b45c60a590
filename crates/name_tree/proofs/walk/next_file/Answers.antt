use Rattle.std.proofs.Common.{◌≡◌, ◌<◌, ◌∙◌, ap, sym, subst, ℕ, length, arith}
use Rattle.name_tree.specs.declared.node.Node.{Node}
use Rattle.name_tree.specs.Nodes.{node_at, links_of}
use Rattle.name_tree.proofs.Walks.{IsClimbing, climbs}
use Rattle.name_tree.proofs.Walked.{next_first, next_none}
use Rattle.name_tree.proofs.walk.next_file.Goals as goal

pub returns-then-node-ne0 : goal.returns-then-node-ne0
returns-then-node-ne0 c = λ names are file.
    next_first names c.args.nodes.now are c.args.at c.up.place c.node_at-node.result.next_sibling c.first_file.result (c.up.invariant.climbing names are file) (omega arith)
    (ap (λ (n : Node). n.next_sibling) c.node_at-node.ensures) (omega arith) (c.first_file.ensures.first names are) c.first_file.ensures.end

pub up-preserved : goal.up-preserved
up-preserved c =
    let nodes = c.args.nodes.now in
    let place = c.up.place in
    let some : 0 < place = omega arith in
    let e : (node_at nodes place).parent ≡ c.node_at-node.result.parent = ap (λ (n : Node). n.parent) (sym c.node_at-node.ensures) in
    let none : (node_at nodes place).next_sibling ≡ 0 = ap (λ (n : Node). n.next_sibling) (sym c.node_at-node.ensures) ∙ omega arith in
    let up : (node_at nodes place).parent < place = c.requires.linked.up place some c.up.invariant.within in
    let within : (node_at nodes place).parent < length nodes = let w = c.up.invariant.within in omega arith in
    record {
      within = subst (λ (x : ℕ). x < length nodes) e within;
      climbing = λ names are file. subst (λ (x : ℕ). IsClimbing (length nodes) (links_of names nodes) c.args.at x) e (climbs are.tree c.args.at place some (c.up.invariant.climbing names are file) none);
    }

pub returns : goal.returns
returns c = λ names are file.
    let e : c.up.place ≡ 0 = omega arith in
    next_none names c.args.nodes.now are c.args.at (subst (λ (x : ℕ). IsClimbing (length c.args.nodes.now) (links_of names c.args.nodes.now) c.args.at x) e (c.up.invariant.climbing names are file))
