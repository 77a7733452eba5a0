use Rattle.algebra.proofs.Lift.{lifting_is}
use Rattle.algebra.proofs.lifts_are_unique.Goals as goal

pub returns : goal.returns
returns c = lifting_is
