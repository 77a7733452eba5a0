use Rattle.std.proofs.Common.{◌≡◌, ◌+◌, ◌%◌, ap, ◌∙◌, arith, lit<}
use Rattle.algebra.specs.Residues.{residue}
use Rattle.algebra.proofs.Residues.{residue_plus}
use Rattle.arithmetic.proofs.digit.DigitRing.sum.Goals as goal
use Rattle.arithmetic.proofs.digit.DigitRing.sum.Goals.{then-s-ge3, else-s-ge3}

pub returns : goal.returns
returns c = record {
  adds =
      let a = c.args.self.code in
      let b = c.args.other.code in
      let e : c.if-s-ge3.result ≡ (a + b) % 3 = elim c.if-s-ge3.branch [ then-s-ge3 w ↦ omega (arith, w.result-is) | else-s-ge3 w ↦ omega (arith, w.result-is) ] in
      ap (residue 3 (lit< tt)) e ∙ residue_plus 3 (lit< tt) a b;
}
