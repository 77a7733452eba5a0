use Rattle.arithmetic.proofs.Codes.{digit_undone}
use Rattle.arithmetic.proofs.digit.DigitField.inverse.Goals as goal

pub returns : goal.returns
returns c = record {
  nothing = λ h. h;
  undoes = digit_undone c.args.self.code c.args.self.small;
}
