use Rattle.std.proofs.Common.{arith}
use Rattle.std.proofs.lemmas.Map.Text.{btree_map_updates_str}
use Rattle.cook_restore.proofs.ContentLaws.{names-none, names-more}
use Rattle.cook_restore.proofs.contents.add_names.Goals as goal

pub loop-left-init : goal.loop-left-init
loop-left-init c = record {
  within = omega arith;
  names = λ name. names-none _ name c.args.files.now;
}

pub loop-left-preserved : goal.loop-left-preserved
loop-left-preserved c = record {
  within = omega (arith, c.loop-left.invariant.within);
  names = λ name. names-more c.args.files.now c.loop-left.left c.index-files-left.result name c.as_slice.result.now _ _ _ c.loop-left-test.true c.loop-left.invariant.within c.index-files-left.is c.as_slice.ensures (c.loop-left.invariant.names name)
      (btree_map_updates_str c.as_slice.result.now c.loop-left.by_name c.insert.new.self _ c.in_ok-insert.ensures.updates name);
}
