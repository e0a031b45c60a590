use Rattle.std.proofs.Common.{◌≡◌, ◌+◌, ◌∙◌, ap, List, length, vec_len, arith}
use Rattle.name_tree.specs.declared.node.Node.{Node}
use Rattle.name_tree.specs.Nodes.{node_at}
use Rattle.name_tree.proofs.Growing.{grows_as, given_as, start_within, some_left, folder_step, file_step, hung_as, hung_given}
use Rattle.name_tree.proofs.insertion.add.Goals as goal

pub loop-end-init : goal.loop-end-init
loop-end-init c =
    let is = c.node_at-start.ensures ∙ ap (λ (l : List Node). node_at l c.args.parent) c.deref.ensures.value in
    let growing = grows_as c.args.names.now c.push.new.self c.args.nodes.now.items c.reserve.new.self.items c.args.name.now c.requires.nodes c.len-number.result c.args.parent c.args.before c.node_at-start.result
    c.in_ok-push.ensures.ok c.in_ok-reserve.ensures.items c.len-number.ensures c.requires.way is c.requires.near c.requires.free in
    let within = start_within c.push.new.self c.reserve.new.self.items c.args.name.now c.len-number.result c.args.parent c.args.before c.node_at-start.result.len c.requires.relative growing in
    record {
      names = c.in_ok-push.ensures.ok;
      growing = growing;
      given = given_as c.args.names.now c.push.new.self c.args.nodes.now.items c.reserve.new.self.items c.args.name.now c.requires.nodes c.in_ok-push.ensures.ok c.in_ok-reserve.ensures.items;
      within = within;
      room = omega (arith, c.in_ok-reserve.ensures.ok);
      few = omega (arith, c.in_ok-reserve.ensures.len);
    }

pub loop-end-preserved : goal.loop-end-preserved
loop-end-preserved c =
    let inv = c.loop-end.invariant in
    let nodes = c.loop-end.nodes.items in
    let at : c.hang-parent.result ≡ length nodes = c.hang-parent.ensures.at ∙ omega arith in
    let hung = hung_as nodes c.hang-parent.new.nodes.items c.loop-end.parent c.loop-end.before c.len-number.result c.in-Some.end inv.growing.way.within inv.growing.near c.hang-parent.ensures.nodes in
    let count : vec_len c.hang-parent.new.nodes ≡ vec_len c.loop-end.nodes + 1 = omega (arith, hung.count) in
    let is = c.in-Some.ensures in
    record {
      names = inv.names;
      growing = folder_step c.push.new.self nodes c.hang-parent.new.nodes.items c.args.name.now c.len-number.result c.loop-end.parent c.loop-end.before c.loop-end.start c.in-Some.end c.hang-parent.result c.requires.relative inv.growing is c.hang-parent.ensures.nodes at;
      given = hung_given c.push.new.self nodes c.hang-parent.new.nodes.items c.loop-end.parent c.loop-end.before c.len-number.result c.in-Some.end hung ∙ inv.given;
      within = is.1;
      room = let a = is.0 in let b = is.1 in omega (arith, c.hang-parent.ensures.room);
      few = let a = is.0 in let b = is.1 in omega arith;
    }

pub hang-requires-clause-room : goal.hang-requires-clause-room
hang-requires-clause-room c =
    let inv = c.loop-end.invariant in
    let left = some_left c.push.new.self c.loop-end.nodes.items c.args.name.now c.len-number.result c.loop-end.parent c.loop-end.before c.loop-end.start c.requires.relative inv.growing c.in_default.ensures in
    omega arith

pub returns-clause-nodes : goal.returns-clause-nodes
returns-clause-nodes c =
    let inv = c.loop-end.invariant in
    file_step c.args.names.now c.push.new.self c.loop-end.nodes.items c.hang.new.nodes.items c.args.nodes.now.items c.args.name.now c.len-number.result c.loop-end.parent c.loop-end.before c.loop-end.start c.requires.nodes
    inv.names c.len-number.ensures c.requires.relative inv.growing c.in_default.ensures c.hang.ensures.nodes

pub returns-clause-within : goal.returns-clause-within
returns-clause-within c =
    let inv = c.loop-end.invariant in
    let hung = hung_as c.loop-end.nodes.items c.hang.new.nodes.items c.loop-end.parent c.loop-end.before c.len-number.result (length c.args.name.now) inv.growing.way.within inv.growing.near c.hang.ensures.nodes in
    omega (arith, hung.count, c.hang.ensures.at)

pub returns-clause-given : goal.returns-clause-given
returns-clause-given c =
    let inv = c.loop-end.invariant in
    let hung = hung_as c.loop-end.nodes.items c.hang.new.nodes.items c.loop-end.parent c.loop-end.before c.len-number.result (length c.args.name.now) inv.growing.way.within inv.growing.near c.hang.ensures.nodes in
    hung_given c.push.new.self c.loop-end.nodes.items c.hang.new.nodes.items c.loop-end.parent c.loop-end.before c.len-number.result (length c.args.name.now) hung ∙ inv.given
