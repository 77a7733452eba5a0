use Rattle.std.proofs.Common.{◌≡◌, arith}
use Rattle.std.specs.Int.{cast_unsigned, w16}
use Rattle.std.proofs.lemmas.Int.{to_z-of_z}
use Rattle.arithmetic.specs.Digits.{number}
use Rattle.arithmetic.proofs.DigitLoops.{signed_more}
use Rattle.scheme.proofs.coefficients.signed_words.Goals as goal

pub loop-i-preserved : goal.loop-i-preserved
loop-i-preserved c =
    let s = c.loop-i in
    let d = c.index-digits-i.result in
    let word : c.cast_unsigned.result ≡ cast_unsigned w16 (number d) = grind (arith, to_z-of_z) in
    signed_more c.args.digits.now s.out s.i d c.cast_unsigned.result c.loop-i-test.true (omega arith) c.index-digits-i.is word s.invariant
