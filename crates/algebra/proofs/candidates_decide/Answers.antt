use Rattle.algebra.proofs.Keys.{candidate_is}
use Rattle.algebra.proofs.candidates_decide.Goals as goal

pub returns : goal.returns
returns c = candidate_is
