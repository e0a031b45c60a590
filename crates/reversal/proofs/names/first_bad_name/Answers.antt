use Rattle.std.proofs.Common.{◌≡◌, sym, ap, ◌∙◌, ◌++◌, ◌∷◌, [], take, false, true, rules}
use Rattle.reversal.specs.SideData.{names_of}
use Rattle.reversal.proofs.NameFaults.{bad_start, bad_here, bad_later, bad_end, sorted_none, sorted_more, judged, some_at, one_more}
use Rattle.reversal.proofs.names.first_bad_name.Goals as goal

pub loop-at-init : goal.loop-at-init
loop-at-init c = record { held = search rules; sorted = sorted_none c.args.records.now; later = bad_start c.args.records.now }

pub returns-then-not-branch-clause-some : goal.returns-then-not-branch-clause-some
returns-then-not-branch-clause-some c =
    let r = c.index-records-at.result in
    let bad = judged c.args.records.now c.loop-at.at r c.as_str.result.now false c.index-records-at.is c.as_str.ensures (sym c.in_ok-is_good_name.ensures.good ∙ c.if-not-branch.true) in
    some_at c.args.records.now c.loop-at.at r c.loop-at-test.true c.index-records-at.is (sym c.loop-at.invariant.later ∙ bad_here c.args.records.now c.loop-at.at r c.loop-at-test.true c.index-records-at.is bad)

pub loop-at-preserved : goal.loop-at-preserved
loop-at-preserved c =
    let r = c.index-records-at.result in
    let good = judged c.args.records.now c.loop-at.at r c.as_str.result.now true c.index-records-at.is c.as_str.ensures (sym c.in_ok-is_good_name.ensures.good ∙ c.if-not-branch.false) in
    let name : c.as_str.result.now ≡ r.name = c.as_str.ensures ∙ sym (ap (λ x. x.name) c.index-records-at.is) in
    record {
      held = c.in_ok-is_good_name.ensures.taken c.if-not-branch.false ∙ ap (λ n. names_of (take c.loop-at.at c.args.records.now) ++ n ∷ []) name ∙ one_more c.args.records.now c.loop-at.at r c.loop-at-test.true c.index-records-at.is;
      sorted = sorted_more c.args.records.now c.loop-at.at r c.loop-at-test.true c.index-records-at.is good c.loop-at.invariant.sorted;
      later = sym (bad_later c.args.records.now c.loop-at.at r c.loop-at-test.true c.index-records-at.is good) ∙ c.loop-at.invariant.later;
    }

pub returns-clause-none : goal.returns-clause-none
returns-clause-none c = sym c.loop-at.invariant.later ∙ bad_end c.args.records.now c.loop-at.at c.loop-at-test.false
