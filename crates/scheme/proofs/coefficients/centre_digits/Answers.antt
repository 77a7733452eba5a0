use Rattle.std.proofs.Common.{◌^◌, get_or, pos, arith}
use Rattle.algebra.specs.Polynomials.{centre}
use Rattle.algebra.specs.Ring.{Differ, integers}
use Rattle.algebra.proofs.WordLoops.{filled_more}
use Rattle.arithmetic.specs.Digits.{digit, number}
use Rattle.scheme.proofs.coefficients.centre_digits.Goals as goal

pub loop-i-preserved : goal.loop-i-preserved
loop-i-preserved c =
    let s = c.loop-i in
    filled_more (λ k y. Differ integers (pos 3) (number y) (centre (2 ^ c.args.set.width) (pos (get_or c.args.words.now k 0)))) (digit 0) s.out s.i c.centre_digit.result (omega arith) c.centre_digit.ensures s.invariant
