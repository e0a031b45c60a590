use Rattle.flac_predict.proofs.BankLaws.{bank_is_linear}
use Rattle.flac_predict.proofs.sets.bank.Goals as goal

pub returns-clause-linear : goal.returns-clause-linear
returns-clause-linear c = bank_is_linear c.numbered.result (record { number = c.args.number; low = c.requires.low; high = c.requires.high; is = c.numbered.ensures })
