use Rattle.std.proofs.Common.{false, arith, ap, sym, ◌∙◌, ◌≡◌, ◌≤◌, subst, List, ℕ, ◌-◌, length, take, drop}
use Rattle.std.proofs.lemmas.List.{take_rest}
use Rattle.std.specs.List.{AllPass}
use Rattle.sequence_scan.specs.Numbers.{is_digit, digits_of, number_from, number_of, is_numbered}
use Rattle.sequence_scan.proofs.Parting.{StandsBetween, stands, tail_fits, digits_fit, not_numbered, is_numbered_there}
use Rattle.sequence_scan.proofs.number.numbered.Goals as goal

pub overflow_sub-end : goal.overflow_sub-end
overflow_sub-end c = tail_fits c.as_bytes-bytes.result.now c.tail_len.result c.tail_len.ensures (omega (arith, c.requires, ap length c.as_bytes-bytes.ensures.value))

pub returns-then-digits-eq0-clause-none : goal.returns-then-digits-eq0-clause-none
returns-then-digits-eq0-clause-none c =
    let bytes = c.as_bytes-bytes.result.now in
    let t = c.tail_len.result in
    let n = c.digits_len-digits.result in
    let long : 4 ≤ length bytes = omega (arith, c.requires, ap length c.as_bytes-bytes.ensures.value) in
    let there : StandsBetween bytes (length bytes - 4 - t - n) (length bytes - 4 - t) = stands bytes t n long c.tail_len.ensures c.digits_len-digits.ensures in
    let fits : n ≤ length bytes - 4 - t = digits_fit bytes (length bytes - 4 - t) n c.digits_len-digits.ensures (omega arith) in
    let none : is_numbered bytes ≡ false = not_numbered bytes (length bytes - 4 - t - n) (length bytes - 4 - t) there (λ one few. omega (arith, c.then-digits-eq0.either)) in
    subst (λ (x : List ℕ). is_numbered x ≡ false) c.as_bytes-bytes.ensures.value none

pub overflow_sub-start : goal.overflow_sub-start
overflow_sub-start c = digits_fit c.as_bytes-bytes.result.now (length c.as_bytes-bytes.result.now - 4 - c.tail_len.result) c.digits_len-digits.result c.digits_len-digits.ensures (omega arith)

pub read_number-number-requires-clause-all : goal.read_number-number-requires-clause-all
read_number-number-requires-clause-all c =
    let bytes = c.as_bytes-bytes.result.now in
    let t = c.tail_len.result in
    let n = c.digits_len-digits.result in
    let long : 4 ≤ length bytes = omega (arith, c.requires, ap length c.as_bytes-bytes.ensures.value) in
    let there : StandsBetween bytes (length bytes - 4 - t - n) (length bytes - 4 - t) = stands bytes t n long c.tail_len.ensures c.digits_len-digits.ensures in
    subst (AllPass is_digit) there.digits there.all

pub returns-clause-some : goal.returns-clause-some
unfolding number_of
returns-clause-some c =
    let bytes = c.as_bytes-bytes.result.now in
    let t = c.tail_len.result in
    let n = c.digits_len-digits.result in
    let same = c.as_bytes-bytes.ensures.value in
    let long : 4 ≤ length bytes = omega (arith, c.requires, ap length same) in
    let here : StandsBetween bytes (length bytes - 4 - t - n) (length bytes - 4 - t) = stands bytes t n long c.tail_len.ensures c.digits_len-digits.ensures in
    let fits : n ≤ length bytes - 4 - t = digits_fit bytes (length bytes - 4 - t) n c.digits_len-digits.ensures (omega arith) in
    let there : StandsBetween c.args.name.now (length bytes - 4 - t - n) (length bytes - 4 - t) = subst (λ (x : List ℕ). StandsBetween x (length bytes - 4 - t - n) (length bytes - 4 - t)) same here in
    record {
      numbered = is_numbered_there c.args.name.now (length bytes - 4 - t - n) (length bytes - 4 - t) there (omega arith) (omega arith);
      before = ap (take (length bytes - 4 - t - n)) same ∙ sym there.before;
      digits = omega (arith, there.count);
      after = take_rest bytes (length bytes - 4 - t) ∙ ap (drop (length bytes - 4 - t)) same ∙ sym there.after;
      number = c.read_number-number.ensures ∙ ap number_from (sym here.digits ∙ ap digits_of same);
    }
