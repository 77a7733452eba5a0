use Rattle.algebra.proofs.Keys.{making_is}
use Rattle.algebra.proofs.making_makes_keys.Goals as goal

pub returns : goal.returns
returns c = making_is
