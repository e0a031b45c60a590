use Rattle.std.proofs.Common.{refl, ◌<◌, arith}
use Rattle.name_tree.specs.Nodes.{node_at}
use Rattle.name_tree.proofs.Free.{under_file, folder_free, folder_answer}
use Rattle.name_tree.proofs.insertion.free_for_folder.Goals as goal

pub returns-then-file-ne0-clause-answer : goal.returns-then-file-ne0-clause-answer
returns-then-file-ne0-clause-answer c =
    let some : 0 < c.child-file.result.found = omega arith in
    under_file c.args.names.now c.args.nodes.now c.requires.nodes c.args.name.now c.requires.relative c.args.spot.parent c.requires.way c.requires.deepest (node_at c.args.nodes.now c.args.spot.parent) refl c.args.end c.requires.end c.child-file.result.found some (c.child-file.ensures.found some)

pub returns-clause-free : goal.returns-clause-free
returns-clause-free c =
    folder_free c.args.names.now c.args.nodes.now c.requires.nodes c.args.name.now c.requires.relative c.args.spot.parent c.requires.way c.requires.deepest (node_at c.args.nodes.now c.args.spot.parent) refl c.args.end c.requires.end c.child-folder.result.before (c.child-file.ensures.absent (omega arith)) c.child-folder.ensures.place

pub returns-clause-answer : goal.returns-clause-answer
returns-clause-answer c =
    folder_answer c.args.names.now c.args.nodes.now c.requires.nodes c.args.name.now c.requires.relative c.args.spot.parent c.requires.way c.requires.deepest (node_at c.args.nodes.now c.args.spot.parent) refl c.args.end c.requires.end (c.child-file.ensures.absent (omega arith))
