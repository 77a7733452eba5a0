use Rattle.std.proofs.Common.{ap, ◌∙◌, lit<}
use Rattle.algebra.specs.Residues.{residue}
use Rattle.algebra.proofs.Residues.{residue_plus}
use Rattle.arithmetic.proofs.Codes.{xor_sum}
use Rattle.arithmetic.proofs.bit.BitRing.sum.Goals as goal

pub returns : goal.returns
returns c = record {
  adds =
      let x = c.args.self in
      let y = c.args.other in
      ap (residue 2 (lit< tt)) (xor_sum x.code y.code x.small y.small) ∙ residue_plus 2 (lit< tt) x.code y.code;
}
