use Rattle.std.proofs.Common.{ℕ, ◌<◌, get_or, pos}
use Rattle.algebra.specs.Ring.{Differ, integers}
use Rattle.arithmetic.specs.Digits.{coefficients}
use Rattle.scheme.proofs.coefficients.signed_words.Given as goal

abbrev pub invariant-loop-i : goal.invariant-loop-i
invariant-loop-i l = (k : ℕ) → k < l.i → Differ integers (pos 65536) (pos (get_or l.out k 0)) (coefficients l.digits k)
