use Rattle.algebra.proofs.Opening.{refused_no_pair}
use Rattle.algebra.proofs.refused_have_no_pair.Goals as goal

pub returns : goal.returns
returns c = refused_no_pair
