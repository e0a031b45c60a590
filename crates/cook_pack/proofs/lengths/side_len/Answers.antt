use Rattle.std.proofs.Common.{length, ap, ◌∙◌, arith}
use Rattle.cook_pack.proofs.LengthLaws.{is_item, names_more, side_data_len-all, short_at}
use Rattle.cook_pack.proofs.lengths.side_len.Goals as goal

pub loop-file-preserved : goal.loop-file-preserved
loop-file-preserved c =
    let item = is_item c.args.plan.now.files c.as_slice-files.result.now c.loop-file.file-index c.file-item.result c.as_slice-files.ensures.files c.loop-file-test.true c.file-item.is in
    record {
      total = omega (arith, c.loop-file.invariant.total, names_more c.args.plan.now.files c.loop-file.file-index c.file-item.result item.inside item.is, ap length c.as_str.ensures);
      high = omega (arith, c.loop-file.invariant.high, ap length c.as_str.ensures, short_at c.args.plan.now c.loop-file.file-index c.file-item.result c.as_slice-files.ensures.sound item.inside item.is);
    }

pub returns-clause-len : goal.returns-clause-len
returns-clause-len c = c.loop-file.invariant.total ∙ side_data_len-all c.args.plan.now.files c.loop-file.file-index (omega (arith, ap length c.as_slice-files.ensures.files, c.loop-file-test.false))
