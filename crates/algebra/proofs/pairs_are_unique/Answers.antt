use Rattle.algebra.proofs.Opening.{unique}
use Rattle.algebra.proofs.pairs_are_unique.Goals as goal

pub returns : goal.returns
returns c = unique
