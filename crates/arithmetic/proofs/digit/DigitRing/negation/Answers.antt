use Rattle.std.proofs.Common.{◌≡◌, ◌+◌, ◌%◌, ◌<◌, arith, lit<}
use Rattle.algebra.proofs.Residues.{residue_minus}
use Rattle.arithmetic.proofs.digit.DigitRing.negation.Goals as goal
use Rattle.arithmetic.proofs.digit.DigitRing.negation.Goals.{then-self-eq0, else-self-eq0}

pub returns : goal.returns
returns c = record {
  negates =
      let a = c.args.self.code in
      let r = c.if-self-eq0.result in
      let small : r < 3 = elim c.if-self-eq0.branch [ then-self-eq0 w ↦ omega (arith, w.result-is) | else-self-eq0 w ↦ omega (arith, w.result-is) ] in
      let none : (r + a) % 3 ≡ 0 = elim c.if-self-eq0.branch [ then-self-eq0 w ↦ omega (arith, w.result-is) | else-self-eq0 w ↦ omega (arith, w.result-is) ] in
      residue_minus 3 (lit< tt) r a small c.args.self.small none;
}
