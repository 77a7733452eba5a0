use Rattle.arithmetic.proofs.Codes.{bit_undone}
use Rattle.arithmetic.proofs.bit.BitField.inverse.Goals as goal

pub returns : goal.returns
returns c = record {
  nothing = λ h. h;
  undoes = bit_undone c.args.self.code c.args.self.small;
}
