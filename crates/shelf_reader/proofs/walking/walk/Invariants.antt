use Rattle.std.proofs.Common.{◌≤◌, ◌-◌}
use Rattle.shelf_reader.specs.Keeping.{known, Keeps}
use Rattle.shelf_reader.specs.Seen.{Agree}
use Rattle.shelf_reader.specs.Walk.{walked}
use Rattle.shelf_reader.specs.Walk.{GoesOn}
use Rattle.shelf_reader.proofs.walking.walk.Given as goal

abbrev pub invariant-loop-at : goal.invariant-loop-at
invariant-loop-at g l = record {
  within : l.at ≤ l.end;
  goes : GoesOn (g.G.Items.grammar);
  fits : g.C.Children.Fits l.fn.reader.len l.children;
  kept : Keeps g.S.Shelf l.fn.reader l.reader;
  so_far : Agree (known g.S.Shelf l.fn.reader) (walked g.G.Items.grammar g.C.Children.visit l.end l.fn.children l.start) (walked g.G.Items.grammar g.C.Children.visit l.end l.children l.at);
}

abbrev pub decreases-loop-at : goal.decreases-loop-at
decreases-loop-at g l = l.end - l.at
