use Rattle.cook_top.proofs.SlashLaws.{trimmed}
use Rattle.cook_top.proofs.words.without_end_slashes.Goals as goal

pub returns : goal.returns
returns c = trimmed c.args.text.now c.trim_end_matches.result.now c.trim_end_matches.ensures.matches
