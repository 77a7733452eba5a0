use Rattle.std.proofs.Common.{◌<◌, pos}
use Rattle.algebra.specs.Ring.{Differ, integers, sum}
use Rattle.algebra.specs.Stands.{signed}
use Rattle.arithmetic.specs.Digits.{coefficients}
use Rattle.scheme.proofs.lifting.sum_digits.Given as goal

abbrev pub invariant-loop-digit : goal.invariant-loop-digit
invariant-loop-digit l = (l.total.0 < 3) × Differ integers (pos 3) (signed l.total.0) (sum integers l.digit-index (coefficients l.digits))
