use Rattle.algebra.proofs.Keys.{made_is}
use Rattle.algebra.proofs.made_equations_hold.Goals as goal

pub returns : goal.returns
returns c = made_is
