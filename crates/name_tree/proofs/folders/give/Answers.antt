use Rattle.std.proofs.Common.{◌∙◌, ap, subst, List, length, arith}
use Rattle.name_tree.specs.declared.node.Node.{Node}
use Rattle.name_tree.specs.Nodes.{with_given}
use Rattle.name_tree.specs.Giving.{IsAhead}
use Rattle.name_tree.proofs.Given.{within_any, held_some, ahead_some, gives_nodes, gives_folder, written_back}
use Rattle.name_tree.proofs.folders.give.Goals as goal

pub find_ahead-ahead-requires-clause-within : goal.find_ahead-ahead-requires-clause-within
find_ahead-ahead-requires-clause-within c =
    let some = held_some c.args.names.now c.args.nodes.now.items c.args.name.now c.requires.nodes c.requires.held in
    let within = within_any c.args.last (length c.args.nodes.now.items) some c.requires.within in
    omega (arith, c.deref.ensures.len, within)

pub returns-in-Some-clause-nodes : goal.returns-in-Some-clause-nodes
returns-in-Some-clause-nodes c =
    let items = c.args.nodes.now.items in
    let left = ahead_some c.args.names.now items c.args.name.now c.find_ahead-ahead.result.place c.in-Some.field-0 c.find_ahead-ahead.result.len (subst (λ (l : List Node). IsAhead c.args.names.now l c.args.name.now c.find_ahead-ahead.result.place c.find_ahead-ahead.result.len) c.deref.ensures.value c.find_ahead-ahead.ensures.ahead) c.in-Some.is in
    gives_nodes c.args.names.now items _ c.args.name.now c.find_ahead-ahead.result.place c.in-Some.field-0 c.requires.nodes left
    (written_back items c.mark.new.nodes c.args.nodes.now.len c.find_ahead-ahead.result.place (c.mark.ensures ∙ ap (λ (l : List Node). with_given l c.find_ahead-ahead.result.place) c.deref_mut.ensures.value) (omega arith))

pub returns-in-Some-clause-given : goal.returns-in-Some-clause-given
returns-in-Some-clause-given c =
    let items = c.args.nodes.now.items in
    let left = ahead_some c.args.names.now items c.args.name.now c.find_ahead-ahead.result.place c.in-Some.field-0 c.find_ahead-ahead.result.len (subst (λ (l : List Node). IsAhead c.args.names.now l c.args.name.now c.find_ahead-ahead.result.place c.find_ahead-ahead.result.len) c.deref.ensures.value c.find_ahead-ahead.ensures.ahead) c.in-Some.is in
    gives_folder c.args.names.now items _ c.args.name.now c.find_ahead-ahead.result.place c.in-Some.field-0 c.requires.nodes left
    (written_back items c.mark.new.nodes c.args.nodes.now.len c.find_ahead-ahead.result.place (c.mark.ensures ∙ ap (λ (l : List Node). with_given l c.find_ahead-ahead.result.place) c.deref_mut.ensures.value) (omega arith))
