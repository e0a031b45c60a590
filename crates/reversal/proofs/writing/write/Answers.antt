use Rattle.std.proofs.Common.{◌++◌, length, arith, subst}
use Rattle.std.specs.Int.{bytes_high_first}
use Rattle.std.proofs.lemmas.List.Elements.{All-more}
use Rattle.reversal.specs.SideData.{HasSum, mark}
use Rattle.reversal.proofs.Written.{more_written, written_long}
use Rattle.reversal.proofs.writing.write.Goals as goal

pub loop-entry-preserved : goal.loop-entry-preserved
loop-entry-preserved c = record {
  spelled = more_written c.args.records.now c.loop-entry.entry-index c.entry-item.result (mark ++ bytes_high_first 4 (length c.args.records.now)) c.loop-entry.out c.put_record.new.out c.loop-entry-test.true c.entry-item.is c.loop-entry.invariant.spelled c.in_ok-put_record.ensures.spelled;
  summed = All-more HasSum c.args.records.now c.loop-entry.entry-index c.entry-item.result c.loop-entry-test.true c.loop-entry.invariant.summed (subst HasSum c.entry-item.is c.put_record.ensures.summed);
}

pub returns-clause-long : goal.returns-clause-long
returns-clause-long c =
    written_long c.args.records.now c.loop-entry.entry-index c.loop-entry.out (omega (arith, c.loop-entry-test.false)) c.loop-entry.invariant.spelled c.loop-entry.invariant.summed
