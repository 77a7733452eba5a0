use Rattle.std.proofs.Common.{◌≡◌, ℕ, ◌^◌, ◌<◌, get_or, pos}
use Rattle.algebra.specs.Polynomials.{centre}
use Rattle.arithmetic.specs.Digits.{coefficients}
use Rattle.scheme.proofs.coefficients.read_signs.Given as goal

abbrev pub invariant-loop-i : goal.invariant-loop-i
invariant-loop-i l = (k : ℕ) → k < l.i → coefficients l.out k ≡ centre (2 ^ l.set.width) (pos (get_or l.words k 0))
