use Rattle.std.proofs.Common.{◌≡◌, length, rules}
use Rattle.std.specs.Option.{option_map}
use Rattle.name_tree.specs.Held.{folder_left, WithFolder}
use Rattle.name_tree.specs.Nodes.{given_of}
use Rattle.name_tree.proofs.Fewer.{fewer_left}
use Rattle.name_tree.proofs.tree.NameTree.next_folder.Goals as goal

pub returns-clause-fewer : goal.returns-clause-fewer
returns-clause-fewer c =
    let after = given_of c.self.inside.names c.give-ahead.new.nodes.items in
    let len : c.give-ahead.result.len ≡ option_map length (folder_left c.args.self.now.given c.args.name.now) = search rules in
    let with : WithFolder c.args.self.now.given after (folder_left c.args.self.now.given c.args.name.now) = search rules in
    fewer_left c.args.self.now.given after c.args.name.now c.give-ahead.result.len len with
