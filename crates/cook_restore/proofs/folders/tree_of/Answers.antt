use Rattle.std.proofs.Common.{◌≡◌, None}
use Rattle.name_tree.specs.Held.{refusal_of}
use Rattle.cook_restore.proofs.NameLaws.{is_taken, never_refused}
use Rattle.cook_restore.proofs.folders.tree_of.Goals as goal

pub unreachable-requires : goal.unreachable-requires
unreachable-requires c =
    let r = c.said-item.result in
    let taken = is_taken c.names_are_taken.ensures.in_order c.args.records.now c.loop-said.said-index r c.requires c.loop-said-test.true c.said-item.is in
    let text = c.as_str.ensures in
    let item = c.said-item.is in
    let name : c.as_str.result.now ≡ r.name = cc in
    let none : refusal_of c.loop-said.names.names c.as_str.result.now ≡ None = rw (name, c.loop-said.invariant) taken in
    never_refused c.loop-said.names.names c.as_str.result.now c.in-Err.why c.in-Err.ensures.answer c.in_default.not-NoMemory none
