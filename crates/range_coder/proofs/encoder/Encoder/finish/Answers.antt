use Rattle.std.proofs.Common.{ℕ, Vec, false, ap}
use Rattle.range_coder.specs.Interval.{ending}
use Rattle.range_coder.specs.Encoding.{Encoding}
use Rattle.range_coder.proofs.Windows.{narrow_by_byte, narrow_within, low_part, is_sentinel, ends_with}
use Rattle.range_coder.proofs.encoder.Encoder.finish.Goals as goal
use Rattle.range_coder.proofs.encoder.Encoder.finish.Goals.{then-range-lt256+in_ok-push_digit, else-range-lt256}

pub returns : goal.returns
unfolding ending
returns c = elim c.if-range-lt256.branch [
  | then-range-lt256+in_ok-push_digit w ↦
      ends_with _ _ _ _ _ _ _ _ c.from_vec.ensures (ap (λ (v : Vec ℕ _). v.items) w.bytes-is) w.low-is
      (narrow_by_byte _ _ _ _ _ _ _ _ _ (ap (λ (e : Encoding). e.interval) c.self.view_is) (low_part _ _ 129 _ _ false is_sentinel c.self.invariant.least c.self.invariant.inside c.part-top.ensures.top c.part-top.ensures.range) c.part-top.ensures.range w.if-range-lt256.true w.in_ok-push_digit.ensures.len w.in_ok-push_digit.ensures.number)
      c.in_ok-push_digit-2.ensures.len c.in_ok-push_digit-2.ensures.number c.in_ok-push_digit-2.ensures.fits
  | else-range-lt256 w ↦
      ends_with _ _ _ _ _ _ _ _ c.from_vec.ensures (ap (λ (v : Vec ℕ _). v.items) w.bytes-is) w.low-is
      (narrow_within _ _ _ _ _ _ _ _ (ap (λ (e : Encoding). e.interval) c.self.view_is) (low_part _ _ 129 _ _ false is_sentinel c.self.invariant.least c.self.invariant.inside c.part-top.ensures.top c.part-top.ensures.range) c.part-top.ensures.range w.if-range-lt256.false)
      c.in_ok-push_digit-2.ensures.len c.in_ok-push_digit-2.ensures.number c.in_ok-push_digit-2.ensures.fits
]
