use Rattle.std.proofs.Common.{◌≡◌, ◌<◌, ◌∙◌, ◌∷◌, rules, ap, sym, ℕ, length, arith}
use Rattle.name_tree.specs.declared.node.Node.{Node}
use Rattle.name_tree.specs.Nodes.{node_at}
use Rattle.name_tree.specs.Walking.{left_of}
use Rattle.name_tree.proofs.Walked.{steps, shorter_by}
use Rattle.name_tree.proofs.walk.WalkIterator.next.Goals as goal

pub returns-clause-steps : goal.returns-clause-steps
returns-clause-steps c =
    let names = c.self.inside.names.now in
    let nodes = c.self.inside.nodes.now in
    let at = c.self.inside.at in
    let some : 0 < at = omega arith in
    let file = c.self.invariant.file some in
    let is = steps names nodes c.self.invariant.are at c.next_file-self-inside.result some file (c.next_file-self-inside.ensures names c.self.invariant.are file.no_folder) in
    let number : (node_at nodes at).name ≡ c.node_at-number.result.name = ap (λ (n : Node). n.name) (sym c.node_at-number.ensures) in
    sym c.self.view_is ∙ is ∙ ap (λ (n : ℕ). n ∷ left_of names nodes c.next_file-self-inside.result) number

pub returns-clause-goes : goal.returns-clause-goes
returns-clause-goes c =
    let names = c.self.inside.names.now in
    let nodes = c.self.inside.nodes.now in
    let at = c.self.inside.at in
    let some : 0 < at = omega arith in
    let file = c.self.invariant.file some in
    let is = steps names nodes c.self.invariant.are at c.next_file-self-inside.result some file (c.next_file-self-inside.ensures names c.self.invariant.are file.no_folder) in
    let less : length (left_of names nodes c.next_file-self-inside.result) < length c.args.self.now = shorter_by (node_at nodes at).name (left_of names nodes c.next_file-self-inside.result) c.args.self.now (sym c.self.view_is ∙ is) in
    search rules
