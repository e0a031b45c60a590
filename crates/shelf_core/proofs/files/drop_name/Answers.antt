use Rattle.std.proofs.Common.{rules, not}
use Rattle.std.proofs.lemmas.Fn.{filter_same}
use Rattle.cook_bits.specs.Names.{is_same_name}
use Rattle.shelf_core.proofs.files.drop_name.Goals as goal

-- the closure tests whether a name differs from the one that is dropped
pub returns : goal.returns
returns c = filter_same _ (λ other. not (is_same_name c.args.name.now other)) _ (λ x b f called. search rules) _ _ c.retain.ensures.filtered
