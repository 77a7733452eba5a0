use Rattle.std.proofs.Common.{◌≡◌, ℕ, ap, ◌∙◌, arith, lit<}
use Rattle.algebra.specs.Residues.{residue, residues}
use Rattle.arithmetic.proofs.Codes.{twice_is_minus}
use Rattle.arithmetic.proofs.digit.DigitRing.product.Goals as goal

pub returns-in_default : goal.returns-in_default
returns-in_default c = record {
  multiplies =
      let b = c.args.other.code in
      let two : ◌≡◌ {A = ℕ} 2 c.args.self.code = omega arith in
      c.negation.ensures.negates ∙ twice_is_minus b c.args.other.small ∙ ap (λ a. (residues 3 (lit< tt)).times (residue 3 (lit< tt) a) (residue 3 (lit< tt) b)) two;
}
