use Rattle.std.proofs.Common.{ap, sym, ◌∙◌, [], ◌<◌, ◌≡◌, take, arith}
use Rattle.std.proofs.lemmas.List.{append-nil}
use Rattle.name_tree.specs.Nodes.{key_at, node_at}
use Rattle.name_tree.specs.declared.node.Node.{Node}
use Rattle.name_tree.proofs.Searches.{stands, way_root, up_from, below_root, way_shared}
use Rattle.name_tree.proofs.search.climbed.Goals as goal

pub returns-then-last-eq0-clause-way : goal.returns-then-last-eq0-clause-way
returns-then-last-eq0-clause-way c = way_root c.args.names.now c.args.nodes.now (stands c.requires.nodes) c.args.name.now (omega arith)

pub loop-near-init : goal.loop-near-init
loop-near-init c =
    let names = c.args.names.now in
    let nodes = c.args.nodes.now in
    let some : 0 < c.args.last = omega arith in
    let e : (node_at nodes c.args.last).parent ≡ c.node_at-parent.result.parent = ap (λ (n : Node). n.parent) (sym c.node_at-parent.ensures) in
    let up = up_from names nodes (stands c.requires.nodes) c.args.last c.args.last c.node_at-parent.result.parent [] some c.requires.within e (sym (append-nil (key_at names nodes c.args.last))) in
    record { some = some; near = c.requires.within; under = e; within = up.within; folder = up.folder; part = (up.rest, up.part) }

pub loop-near-preserved : goal.loop-near-preserved
loop-near-preserved c =
    let names = c.args.names.now in
    let nodes = c.args.nodes.now in
    let p = c.loop-near.parent in
    let inv = c.loop-near.invariant in
    let some : 0 < p = below_root names nodes (stands c.requires.nodes) p c.shared-shared.result c.node_at.result c.node_at.ensures c.loop-near-test.true in
    let e : (node_at nodes p).parent ≡ c.node_at-parent-in-loop-near.result.parent = ap (λ (n : Node). n.parent) (sym c.node_at-parent-in-loop-near.ensures) in
    let up = up_from names nodes (stands c.requires.nodes) c.args.last p c.node_at-parent-in-loop-near.result.parent inv.part.0 some inv.within e inv.part.1 in
    record { some = some; near = inv.within; under = e; within = up.within; folder = up.folder; part = (up.rest, up.part) }

pub returns-clause-way : goal.returns-clause-way
returns-clause-way c =
    let inv = c.loop-near.invariant in
    way_shared c.args.names.now c.args.nodes.now (stands c.requires.nodes) c.loop-near.parent c.args.name.now (key_at c.args.names.now c.args.nodes.now c.args.last) inv.part.0 c.shared-shared.result c.node_at.result inv.within inv.folder inv.part.1
    (ap (take c.shared-shared.result) (sym c.key.ensures) ∙ c.shared-shared.ensures.same) c.node_at.ensures c.loop-near-test.false
