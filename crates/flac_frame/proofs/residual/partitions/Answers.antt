use Rattle.std.proofs.Common.{take, length, ◌+◌, ◌-◌, ◌≤◌, sym, ap, ◌∙◌, arith}
use Rattle.std.proofs.lemmas.Result.{err_from_is_err_and}
use Rattle.flac_frame.specs.Residual.{partition_at, partitions_at}
use Rattle.flac_frame.proofs.EachLaws.{partition_on, partition_ends, partitions_whole, partition_within, partition_step, piece_len, piece_stored, all_partitions}
use Rattle.flac_frame.proofs.residual.partitions.Goals as goal

pub returns-in_err-partition : goal.returns-in_err-partition
returns-in_err-partition c =
    let p = err_from_is_err_and c.from_residual.result c.from_residual.ensures.1 in
    let at = c.loop in
    let n = c.args.size - at.skipped in
    let within : at.at + n ≤ length at.out = partition_within at.at c.args.warm_up at.skipped c.args.size c.args.count at.counter (length at.out) at.invariant.place at.invariant.within c.loop-test.true (ap (λ m. m + c.args.warm_up) at.auto.out ∙ c.requires.room) in
    rw (p.1, p.2) (partition_ends (take at.at at.out) c.args.width c.args.size at.skipped c.args.count at.counter at.reader c.in_err-partition.field-0.0 (partitions_at c.args.width c.args.size c.args.warm_up c.args.count c.args.reader.now)
    c.loop-test.true (sym (ap (λ m. partition_at c.args.width m at.reader) (piece_len at.at n at.out within)) ∙ c.in_err-partition.ensures) at.invariant.read)

pub loop-preserved : goal.loop-preserved
loop-preserved c =
    let at = c.loop in
    let n = c.args.size - at.skipped in
    let within : at.at + n ≤ length at.out = partition_within at.at c.args.warm_up at.skipped c.args.size c.args.count at.counter (length at.out) at.invariant.place at.invariant.within c.loop-test.true (ap (λ m. m + c.args.warm_up) at.auto.out ∙ c.requires.room) in
    let len = piece_len at.at n at.out within in
    record {
      read = partition_on (take at.at at.out) c.partition.new.out _ c.args.width c.args.size at.skipped c.args.count at.counter at.reader c.partition.new.reader (partitions_at c.args.width c.args.size c.args.warm_up c.args.count c.args.reader.now)
          c.loop-test.true (sym (ap (λ m. partition_at c.args.width m at.reader) len) ∙ c.in_ok-partition.ensures) (piece_stored at.at n at.out c.partition.new.out within (c.partition.auto.out ∙ len)) at.invariant.read;
      place = partition_step at.at c.args.warm_up at.skipped c.args.size at.counter at.invariant.place at.invariant.within;
      within = omega arith;
    }

pub returns : goal.returns
returns c =
    let at = c.loop in
    partitions_whole at.out c.args.width c.args.size at.skipped c.args.count at.counter at.at at.reader (partitions_at c.args.width c.args.size c.args.warm_up c.args.count c.args.reader.now)
    c.loop-test.false (all_partitions at.at c.args.warm_up at.skipped c.args.size c.args.count at.counter (length at.out) at.invariant.place at.auto.counter-end c.loop-test.false (ap (λ m. m + c.args.warm_up) at.auto.out ∙ c.requires.room)) at.invariant.read
