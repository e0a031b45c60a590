use Rattle.flac_predict.proofs.BankLaws.{set_is}
use Rattle.flac_predict.proofs.sets.set_of.Goals as goal

pub returns : goal.returns
returns c = set_is c.args.shift c.args.first.now c.copy_from_slice.new.self c.copy_from_slice.ensures.after
