use Rattle.std.proofs.Common.{lit<}
use Rattle.algebra.proofs.Residues.{residue_times}
use Rattle.arithmetic.proofs.word.U16Ring.product.Goals as goal

pub returns : goal.returns
returns c = record { multiplies = residue_times 65536 (lit< tt) c.args.self c.args.other }
