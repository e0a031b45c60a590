use Rattle.std.proofs.Common.{length, refl, sym, ap, ◌∙◌, arith}
use Rattle.cook_pack.proofs.LengthLaws.{is_item, others_len-all, others_len-more, others_len-none, others_planned-all, short_at, small_at, sum_more, sum_small}
use Rattle.cook_pack.proofs.lengths.others.Goals as goal

pub loop-file-init : goal.loop-file-init
loop-file-init c = record { count = refl; total = sym others_len-none; high = omega arith }

pub attached_len-requires-clause-name : goal.attached_len-requires-clause-name
attached_len-requires-clause-name c =
    let item = is_item c.args.plan.now.files c.as_slice-files.result.now c.loop-file.file-index c.file-item.result c.as_slice-files.ensures.files c.loop-file-test.true c.file-item.is in
    omega (arith, ap length c.as_str.ensures, short_at c.args.plan.now c.loop-file.file-index c.file-item.result c.as_slice-files.ensures.sound item.inside item.is)

pub attached_len-requires-clause-content : goal.attached_len-requires-clause-content
attached_len-requires-clause-content c =
    let item = is_item c.args.plan.now.files c.as_slice-files.result.now c.loop-file.file-index c.file-item.result c.as_slice-files.ensures.files c.loop-file-test.true c.file-item.is in
    omega (arith, small_at c.args.plan.now c.loop-file.file-index c.file-item.result c.as_slice-files.ensures.sound item.inside item.is)

pub overflow_add-others-in-loop-file : goal.overflow_add-others-in-loop-file
overflow_add-others-in-loop-file c =
    let item = is_item c.args.plan.now.files c.as_slice-files.result.now c.loop-file.file-index c.file-item.result c.as_slice-files.ensures.files c.loop-file-test.true c.file-item.is in
    omega (
      arith,
      c.attached_len.ensures.high,
      c.loop-file.invariant.high,
      ap length c.as_str.ensures,
      item.inside,
      short_at c.args.plan.now c.loop-file.file-index c.file-item.result c.as_slice-files.ensures.sound item.inside item.is,
      small_at c.args.plan.now c.loop-file.file-index c.file-item.result c.as_slice-files.ensures.sound item.inside item.is,
      sum_small c.args.plan.now c.loop-file.file-index c.as_slice-files.ensures.sound,
      c.as_slice-files.ensures.sound.few,
    )

pub loop-file-preserved : goal.loop-file-preserved
loop-file-preserved c =
    let item = is_item c.args.plan.now.files c.as_slice-files.result.now c.loop-file.file-index c.file-item.result c.as_slice-files.ensures.files c.loop-file-test.true c.file-item.is in
    record {
      count = omega (arith, c.loop-file.invariant.count);
      total = rw (c.attached_len.ensures.len, c.as_str.ensures, c.loop-file.invariant.total, c.loop-file.invariant.count) (sym (others_len-more c.args.plan.now.files c.loop-file.file-index c.file-item.result item.inside item.is));
      high = omega (
        arith,
        c.attached_len.ensures.high,
        c.loop-file.invariant.high,
        ap length c.as_str.ensures,
        short_at c.args.plan.now c.loop-file.file-index c.file-item.result c.as_slice-files.ensures.sound item.inside item.is,
        sum_more c.args.plan.now.files c.loop-file.file-index c.file-item.result item.inside item.is,
      );
    }

pub returns-clause-count : goal.returns-clause-count
returns-clause-count c = omega (arith, c.loop-file.invariant.count, ap length c.as_slice-files.ensures.files, c.loop-file-test.false, ap length (others_planned-all c.args.plan.now.files))

pub returns-clause-len : goal.returns-clause-len
returns-clause-len c = c.loop-file.invariant.total ∙ others_len-all c.args.plan.now.files c.loop-file.file-index (omega (arith, ap length c.as_slice-files.ensures.files, c.loop-file-test.false))

pub returns-clause-high : goal.returns-clause-high
returns-clause-high c = omega (arith, c.loop-file.invariant.high, sum_small c.args.plan.now c.loop-file.file-index c.as_slice-files.ensures.sound, c.as_slice-files.ensures.sound.few, ap length c.as_slice-files.ensures.files)
