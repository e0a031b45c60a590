use Rattle.std.proofs.Common.{◌∙◌, sym, arith}
use Rattle.name_tree.proofs.Refusals.{refused_bad, relative_short}
use Rattle.name_tree.proofs.tree.NameTree.insert.Goals as goal

pub returns-then-not-is_relative_name-clause-answer : goal.returns-then-not-is_relative_name-clause-answer
returns-then-not-is_relative_name-clause-answer c = refused_bad c.args.self.now.names c.args.name.now (sym c.is_relative_name.ensures ∙ c.if-not-is_relative_name.true)

pub insert-requires-clause-short : goal.insert-requires-clause-short
insert-requires-clause-short c =
    let short = relative_short c.args.name.now (sym c.is_relative_name.ensures ∙ c.if-not-is_relative_name.false) in
    omega (arith, c.as_bytes.ensures.len)
