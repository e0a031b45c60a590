use Rattle.name_tree.proofs.Refusals.{last_among}
use Rattle.name_tree.proofs.insertion.insert.Goals as goal

pub returns-clause-held : goal.returns-clause-held
returns-clause-held c = last_among c.args.names.now c.add.new.names c.args.name.now c.in_ok-at.ensures.names
