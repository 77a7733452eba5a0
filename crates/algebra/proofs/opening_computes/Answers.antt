use Rattle.algebra.proofs.Opening.{computes}
use Rattle.algebra.proofs.opening_computes.Goals as goal

pub returns : goal.returns
returns c = computes
