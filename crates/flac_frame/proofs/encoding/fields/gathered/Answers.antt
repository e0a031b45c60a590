use Rattle.std.proofs.Common.{◌+◌, ◌-◌, arith}
use Rattle.flac_frame.proofs.TailLaws.{joined_bits, joined_tail, word_fits, word_put, left_fits}
use Rattle.flac_frame.proofs.encoding.fields.gathered.Goals as goal

pub returns-then-total-lt32-clause-bits : goal.returns-then-total-lt32-clause-bits
returns-then-total-lt32-clause-bits c =
    joined_bits c.args.writer.now c.args.tail.count c.args.count c.args.tail.number c.args.value c.from.result c.requires.short c.requires.few c.requires.tail c.requires.fits c.from.ensures

pub returns-then-total-lt32-clause-tail : goal.returns-then-total-lt32-clause-tail
returns-then-total-lt32-clause-tail c =
    joined_tail c.args.tail.count c.args.count c.args.tail.number c.args.value c.from.result c.requires.short c.requires.few c.requires.tail c.requires.fits c.from.ensures

pub overflow_cast-joined-2 : goal.overflow_cast-joined-2
overflow_cast-joined-2 c =
    let h = word_fits c.args.tail.count c.args.count c.args.tail.number c.args.value c.from.result c.requires.short c.requires.few c.requires.tail c.requires.fits c.from.ensures (omega arith) in
    record { fits = h }

pub put-requires-clause-fits : goal.put-requires-clause-fits
put-requires-clause-fits c =
    word_fits c.args.tail.count c.args.count c.args.tail.number c.args.value c.from.result c.requires.short c.requires.few c.requires.tail c.requires.fits c.from.ensures (omega arith)

pub returns-clause-bits : goal.returns-clause-bits
returns-clause-bits c =
    word_put c.args.writer.now c.put.new.self c.args.tail.count c.args.count c.args.tail.number c.args.value c.from.result c.requires.short c.requires.few c.requires.tail c.requires.fits c.from.ensures (omega arith) c.in_ok-put.ensures.ok

pub returns-clause-tail : goal.returns-clause-tail
returns-clause-tail c = left_fits (c.args.tail.count + c.args.count - 32) _ (omega arith)
