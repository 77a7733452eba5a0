use Rattle.std.proofs.Common.{arith, lit<}
use Rattle.algebra.proofs.Residues.{residue_minus}
use Rattle.arithmetic.proofs.bit.BitRing.negation.Goals as goal

pub returns : goal.returns
returns c = record { negates = residue_minus 2 (lit< tt) c.args.self.code c.args.self.code c.args.self.small c.args.self.small (omega arith) }
