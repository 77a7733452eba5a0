use Rattle.std.proofs.Common.{ap, arith, lit<}
use Rattle.algebra.specs.Residues.{residue}
use Rattle.algebra.proofs.Residues.{residue_back}
use Rattle.arithmetic.proofs.word.U16Ring.same.Goals as goal

pub returns : goal.returns
returns c = record {
  equal = λ e. ap (residue 65536 (lit< tt)) (grind arith);
  differs = λ e s. let z = residue_back 65536 (lit< tt) c.args.self c.args.other (omega arith) (omega arith) s in grind arith;
}
