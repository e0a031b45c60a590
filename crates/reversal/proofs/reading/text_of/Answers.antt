use Rattle.reversal.proofs.Texts.{read_text, bad_text}
use Rattle.reversal.proofs.reading.text_of.Goals as goal

pub returns-in-Ok : goal.returns-in-Ok
returns-in-Ok c = read_text c.args.left c.args.bytes.now c.in-Ok.text.now c.in-Ok.ensures.cases.1 c.in-Ok.ensures.cases.0

pub returns-in-Err : goal.returns-in-Err
returns-in-Err c = bad_text c.args.left c.args.bytes.now c.in-Err.ensures.cases.0
