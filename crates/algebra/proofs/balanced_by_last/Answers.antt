use Rattle.algebra.proofs.Polynomials.{balanced_last, last_balanced}
use Rattle.algebra.proofs.balanced_by_last.Goals as goal

pub returns : goal.returns
returns c k n u some = record { last = balanced_last k n some u; balances = last_balanced k n some u }
