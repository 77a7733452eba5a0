use Rattle.algebra.proofs.Sets.{sets_suffice}
use Rattle.algebra.proofs.sets_suffice.Goals as goal

pub returns : goal.returns
returns c = sets_suffice
