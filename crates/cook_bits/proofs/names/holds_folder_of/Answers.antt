use Rattle.std.proofs.Common.{sym, ap, ◌∙◌, arith, map}
use Rattle.std.specs.List.{list_any}
use Rattle.cook_bits.specs.Names.{is_same_name, holds_folder_of}
use Rattle.cook_bits.proofs.Folders.{held_start, held_here, held_later, held_other, held_end}
use Rattle.cook_bits.proofs.names.holds_folder_of.Goals as goal
use Rattle.cook_bits.proofs.names.holds_folder_of.Goals.{else-byte-eq47-via-then-byte-eq47+else-holds, else-byte-eq47-via-else-byte-eq47}

pub loop-i-init : goal.loop-i-init
unfolding holds_folder_of
loop-i-init g c = held_start (λ folder. list_any (is_same_name folder) (map g.N.Named.name_of c.args.sorted.now)) c.as_bytes-bytes.result.now ∙ ap (holds_folder_of (map g.N.Named.name_of c.args.sorted.now)) c.as_bytes-bytes.ensures.value

pub returns-then-holds : goal.returns-then-holds
returns-then-holds g c = held_here (λ folder. list_any (is_same_name folder) (map g.N.Named.name_of c.args.sorted.now)) c.loop-i.i c.as_bytes-bytes.result.now c.loop-i-test.true c.if-byte-eq47.true (sym c.holds.ensures ∙ c.if-holds.true) ∙ c.loop-i.invariant

pub loop-i-preserved : goal.loop-i-preserved
loop-i-preserved g c =
    elim c.else-byte-eq47.branch [
      | else-byte-eq47-via-then-byte-eq47+else-holds w ↦ sym (held_later (λ folder. list_any (is_same_name folder) (map g.N.Named.name_of c.args.sorted.now)) c.loop-i.i c.as_bytes-bytes.result.now c.loop-i-test.true w.if-byte-eq47.true (sym w.holds.ensures ∙ w.if-holds.false)) ∙ c.loop-i.invariant
      | else-byte-eq47-via-else-byte-eq47 w ↦ sym (held_other (λ folder. list_any (is_same_name folder) (map g.N.Named.name_of c.args.sorted.now)) c.loop-i.i c.as_bytes-bytes.result.now c.loop-i-test.true w.if-byte-eq47.false) ∙ c.loop-i.invariant
    ]

pub returns : goal.returns
returns g c = sym (held_end (λ folder. list_any (is_same_name folder) (map g.N.Named.name_of c.args.sorted.now)) c.loop-i.i c.as_bytes-bytes.result.now (omega arith)) ∙ c.loop-i.invariant
