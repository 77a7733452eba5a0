use Rattle.algebra.proofs.Newton.{refine_inverse}
use Rattle.algebra.proofs.inverses_lift.Goals as goal

pub returns : goal.returns
returns c = refine_inverse
