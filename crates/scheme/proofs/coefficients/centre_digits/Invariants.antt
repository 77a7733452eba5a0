use Rattle.std.proofs.Common.{ℕ, ◌^◌, ◌<◌, get_or, pos}
use Rattle.algebra.specs.Polynomials.{centre}
use Rattle.algebra.specs.Ring.{Differ, integers}
use Rattle.arithmetic.specs.Digits.{coefficients}
use Rattle.scheme.proofs.coefficients.centre_digits.Given as goal

abbrev pub invariant-loop-i : goal.invariant-loop-i
invariant-loop-i l = (k : ℕ) → k < l.i → Differ integers (pos 3) (coefficients l.out k) (centre (2 ^ l.set.width) (pos (get_or l.words k 0)))
