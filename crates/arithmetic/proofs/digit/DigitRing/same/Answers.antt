use Rattle.std.proofs.Common.{ap, arith, lit<}
use Rattle.algebra.specs.Residues.{residue}
use Rattle.algebra.proofs.Residues.{residue_back}
use Rattle.arithmetic.proofs.digit.DigitRing.same.Goals as goal

pub returns : goal.returns
returns c = record {
  equal = λ e. ap (residue 3 (lit< tt)) (grind arith);
  differs = λ e s. let z = residue_back 3 (lit< tt) c.args.self.code c.args.other.code c.args.self.small c.args.other.small s in grind arith;
}
