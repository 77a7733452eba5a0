use Rattle.std.proofs.Common.{arith, lit<}
use Rattle.algebra.proofs.Residues.{residue_minus}
use Rattle.arithmetic.proofs.word.U16Ring.negation.Goals as goal

pub returns : goal.returns
returns c = record { negates = residue_minus 65536 (lit< tt) c.wrapping_neg.result c.args.self (omega arith) (omega arith) c.wrapping_neg.ensures }
