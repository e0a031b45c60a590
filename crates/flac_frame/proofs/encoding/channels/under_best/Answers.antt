use Rattle.std.proofs.Common.{◌≡◌, ◌+◌, refl, sym, ◌∙◌, arith}
use Rattle.flac_frame.specs.Writing.{sides, mids, best_code}
use Rattle.flac_frame.proofs.PairLaws.{code_is, all_wider, side_inside, mid_inside, weighed, last_code, stored_code}
use Rattle.flac_frame.proofs.encoding.channels.under_best.Goals as goal

pub weigh-s-requires-clause-samples : goal.weigh-s-requires-clause-samples
weigh-s-requires-clause-samples c = side_inside c.args.bits (c.args.bits + 1) c.args.left.now c.args.right.now c.args.sides.now c.requires.sides (omega arith) (omega arith) c.requires.left c.requires.right

pub weigh-m-requires-clause-samples : goal.weigh-m-requires-clause-samples
weigh-m-requires-clause-samples c = mid_inside c.args.bits c.args.bits c.args.left.now c.args.right.now c.args.mids.now c.requires.mids (omega arith) c.requires.left c.requires.right

pub stored-requires-clause-second : goal.stored-requires-clause-second
stored-requires-clause-second c = side_inside c.args.bits (c.args.bits + 1) c.args.left.now c.args.right.now c.args.sides.now c.requires.sides (omega arith) (omega arith) c.requires.left c.requires.right

pub stored-requires-clause-first_wide : goal.stored-requires-clause-first_wide
stored-requires-clause-first_wide c = all_wider c.args.bits 25 c.args.left.now (omega arith) c.requires.left

pub stored-requires-clause-second_wide : goal.stored-requires-clause-second_wide
stored-requires-clause-second_wide c = side_inside c.args.bits 25 c.args.left.now c.args.right.now c.args.sides.now c.requires.sides (omega arith) (omega arith) c.requires.left c.requires.right

pub returns-in-8-clause-code : goal.returns-in-8-clause-code
returns-in-8-clause-code c =
    let l = weighed c.args.bits c.args.left.now c.args.left.now c.weigh-l.result.choice c.weigh-l.result.bits refl c.weigh-l.ensures.choice c.weigh-l.ensures.bits in
    let r = weighed c.args.bits c.args.right.now c.args.right.now c.weigh-r.result.choice c.weigh-r.result.bits refl c.weigh-r.ensures.choice c.weigh-r.ensures.bits in
    let s = weighed (c.args.bits + 1) c.args.sides.now (sides c.args.left.now c.args.right.now) c.weigh-s.result.choice c.weigh-s.result.bits c.requires.sides c.weigh-s.ensures.choice c.weigh-s.ensures.bits in
    let m = weighed c.args.bits c.args.mids.now (mids c.args.left.now c.args.right.now) c.weigh-m.result.choice c.weigh-m.result.bits c.requires.mids c.weigh-m.ensures.choice c.weigh-m.ensures.bits in
    let is : c.code_by.result ≡ best_code c.args.bits c.args.left.now c.args.right.now =
    c.code_by.ensures ∙ code_is c.args.bits c.args.left.now c.args.right.now c.weigh-l.result.bits c.weigh-r.result.bits c.weigh-s.result.bits c.weigh-m.result.bits l r s m in
    stored_code c.stored.result 8 (best_code c.args.bits c.args.left.now c.args.right.now) (sym c.in-8.is ∙ is) c.stored.ensures.code

pub stored-requires-in-9-clause-first : goal.stored-requires-in-9-clause-first
stored-requires-in-9-clause-first c = side_inside c.args.bits (c.args.bits + 1) c.args.left.now c.args.right.now c.args.sides.now c.requires.sides (omega arith) (omega arith) c.requires.left c.requires.right

pub stored-requires-in-9-clause-first_wide : goal.stored-requires-in-9-clause-first_wide
stored-requires-in-9-clause-first_wide c = side_inside c.args.bits 25 c.args.left.now c.args.right.now c.args.sides.now c.requires.sides (omega arith) (omega arith) c.requires.left c.requires.right

pub stored-requires-in-9-clause-second_wide : goal.stored-requires-in-9-clause-second_wide
stored-requires-in-9-clause-second_wide c = all_wider c.args.bits 25 c.args.right.now (omega arith) c.requires.right

pub returns-in-9-clause-code : goal.returns-in-9-clause-code
returns-in-9-clause-code c =
    let l = weighed c.args.bits c.args.left.now c.args.left.now c.weigh-l.result.choice c.weigh-l.result.bits refl c.weigh-l.ensures.choice c.weigh-l.ensures.bits in
    let r = weighed c.args.bits c.args.right.now c.args.right.now c.weigh-r.result.choice c.weigh-r.result.bits refl c.weigh-r.ensures.choice c.weigh-r.ensures.bits in
    let s = weighed (c.args.bits + 1) c.args.sides.now (sides c.args.left.now c.args.right.now) c.weigh-s.result.choice c.weigh-s.result.bits c.requires.sides c.weigh-s.ensures.choice c.weigh-s.ensures.bits in
    let m = weighed c.args.bits c.args.mids.now (mids c.args.left.now c.args.right.now) c.weigh-m.result.choice c.weigh-m.result.bits c.requires.mids c.weigh-m.ensures.choice c.weigh-m.ensures.bits in
    let is : c.code_by.result ≡ best_code c.args.bits c.args.left.now c.args.right.now =
    c.code_by.ensures ∙ code_is c.args.bits c.args.left.now c.args.right.now c.weigh-l.result.bits c.weigh-r.result.bits c.weigh-s.result.bits c.weigh-m.result.bits l r s m in
    stored_code c.stored-in-9.result 9 (best_code c.args.bits c.args.left.now c.args.right.now) (sym c.in-9.is ∙ is) c.stored-in-9.ensures.code

pub stored-requires-in-10-clause-first : goal.stored-requires-in-10-clause-first
stored-requires-in-10-clause-first c = mid_inside c.args.bits c.args.bits c.args.left.now c.args.right.now c.args.mids.now c.requires.mids (omega arith) c.requires.left c.requires.right

pub stored-requires-in-10-clause-second : goal.stored-requires-in-10-clause-second
stored-requires-in-10-clause-second c = side_inside c.args.bits (c.args.bits + 1) c.args.left.now c.args.right.now c.args.sides.now c.requires.sides (omega arith) (omega arith) c.requires.left c.requires.right

pub stored-requires-in-10-clause-first_wide : goal.stored-requires-in-10-clause-first_wide
stored-requires-in-10-clause-first_wide c = mid_inside c.args.bits 25 c.args.left.now c.args.right.now c.args.mids.now c.requires.mids (omega arith) c.requires.left c.requires.right

pub stored-requires-in-10-clause-second_wide : goal.stored-requires-in-10-clause-second_wide
stored-requires-in-10-clause-second_wide c = side_inside c.args.bits 25 c.args.left.now c.args.right.now c.args.sides.now c.requires.sides (omega arith) (omega arith) c.requires.left c.requires.right

pub returns-in-10-clause-code : goal.returns-in-10-clause-code
returns-in-10-clause-code c =
    let l = weighed c.args.bits c.args.left.now c.args.left.now c.weigh-l.result.choice c.weigh-l.result.bits refl c.weigh-l.ensures.choice c.weigh-l.ensures.bits in
    let r = weighed c.args.bits c.args.right.now c.args.right.now c.weigh-r.result.choice c.weigh-r.result.bits refl c.weigh-r.ensures.choice c.weigh-r.ensures.bits in
    let s = weighed (c.args.bits + 1) c.args.sides.now (sides c.args.left.now c.args.right.now) c.weigh-s.result.choice c.weigh-s.result.bits c.requires.sides c.weigh-s.ensures.choice c.weigh-s.ensures.bits in
    let m = weighed c.args.bits c.args.mids.now (mids c.args.left.now c.args.right.now) c.weigh-m.result.choice c.weigh-m.result.bits c.requires.mids c.weigh-m.ensures.choice c.weigh-m.ensures.bits in
    let is : c.code_by.result ≡ best_code c.args.bits c.args.left.now c.args.right.now =
    c.code_by.ensures ∙ code_is c.args.bits c.args.left.now c.args.right.now c.weigh-l.result.bits c.weigh-r.result.bits c.weigh-s.result.bits c.weigh-m.result.bits l r s m in
    stored_code c.stored-in-10.result 10 (best_code c.args.bits c.args.left.now c.args.right.now) (sym c.in-10.is ∙ is) c.stored-in-10.ensures.code

pub stored-requires-in_default-clause-first_wide : goal.stored-requires-in_default-clause-first_wide
stored-requires-in_default-clause-first_wide c = all_wider c.args.bits 25 c.args.left.now (omega arith) c.requires.left

pub stored-requires-in_default-clause-second_wide : goal.stored-requires-in_default-clause-second_wide
stored-requires-in_default-clause-second_wide c = all_wider c.args.bits 25 c.args.right.now (omega arith) c.requires.right

pub returns-in_default-clause-code : goal.returns-in_default-clause-code
returns-in_default-clause-code c =
    let l = weighed c.args.bits c.args.left.now c.args.left.now c.weigh-l.result.choice c.weigh-l.result.bits refl c.weigh-l.ensures.choice c.weigh-l.ensures.bits in
    let r = weighed c.args.bits c.args.right.now c.args.right.now c.weigh-r.result.choice c.weigh-r.result.bits refl c.weigh-r.ensures.choice c.weigh-r.ensures.bits in
    let s = weighed (c.args.bits + 1) c.args.sides.now (sides c.args.left.now c.args.right.now) c.weigh-s.result.choice c.weigh-s.result.bits c.requires.sides c.weigh-s.ensures.choice c.weigh-s.ensures.bits in
    let m = weighed c.args.bits c.args.mids.now (mids c.args.left.now c.args.right.now) c.weigh-m.result.choice c.weigh-m.result.bits c.requires.mids c.weigh-m.ensures.choice c.weigh-m.ensures.bits in
    let is : c.code_by.result ≡ best_code c.args.bits c.args.left.now c.args.right.now =
    c.code_by.ensures ∙ code_is c.args.bits c.args.left.now c.args.right.now c.weigh-l.result.bits c.weigh-r.result.bits c.weigh-s.result.bits c.weigh-m.result.bits l r s m in
    let one : c.code_by.result ≡ 1 = last_code c.args.bits c.code_by.result c.args.left.now c.args.right.now is (omega arith) (omega arith) (omega arith) in
    stored_code c.stored-in_default.result 1 (best_code c.args.bits c.args.left.now c.args.right.now) (sym one ∙ is) c.stored-in_default.ensures.code
