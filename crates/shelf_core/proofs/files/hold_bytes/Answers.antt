use Rattle.std.proofs.Common.{rules, arith}
use Rattle.shelf_core.proofs.StoreLaws.{bytes-next}
use Rattle.shelf_core.proofs.files.hold_bytes.Goals as goal

pub loop-file-preserved : goal.loop-file-preserved
loop-file-preserved c = bytes-next c.args.files.now c.loop-file.file-index c.file-item.result c.as_slice.result.now (search rules) c.file-item.is c.as_slice.ensures c.are_bytes.ensures c.loop-file.invariant
