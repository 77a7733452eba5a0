use Rattle.std.proofs.Common.{arith, lit<}
use Rattle.algebra.specs.Stands.{digit_number}
use Rattle.algebra.proofs.Stands.{digits_stand}
use Rattle.arithmetic.proofs.Standing.{reduced_digits}
use Rattle.arithmetic.specs.Digits.{digit}
use Rattle.scheme.proofs.coefficients.reduce_modulo_3.Goals as goal

pub returns : goal.returns
returns c =
    reduced_digits c.args.words.now c.convert.new.into c.subtract_last.new.v c.requires.some (omega arith) (omega arith) (λ k l. c.convert.ensures.converted k 0 (digit 0) l (omega arith))
    (c.subtract_last.ensures.over_the_integers 3 digit_number (digits_stand (lit< tt)))
