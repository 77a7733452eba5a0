use Rattle.std.proofs.Common.{lit<}
use Rattle.algebra.proofs.Residues.{residue_plus}
use Rattle.arithmetic.proofs.word.U16Ring.sum.Goals as goal

pub returns : goal.returns
returns c = record { adds = residue_plus 65536 (lit< tt) c.args.self c.args.other }
