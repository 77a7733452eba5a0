use Rattle.std.proofs.Common.{lit<}
use Rattle.algebra.proofs.WordLoops.{total_none}
use Rattle.arithmetic.specs.Digits.{coefficients}
use Rattle.arithmetic.proofs.DigitLoops.{sum_digits_more}
use Rattle.scheme.proofs.lifting.sum_digits.Goals as goal

pub loop-digit-init : goal.loop-digit-init
loop-digit-init c = (lit< tt, total_none 3 (coefficients c.args.digits.now))

pub loop-digit-preserved : goal.loop-digit-preserved
loop-digit-preserved c =
    let s = c.loop-digit in
    let r = c.sum-total.result in
    (r.small, sum_digits_more c.args.digits.now s.digit-index s.total.0 s.invariant.0 c.digit-item.result r c.loop-digit-test.true c.digit-item.is c.sum-total.ensures.adds s.invariant.1)
