use Rattle.algebra.proofs.Flips.{flipped_is}
use Rattle.algebra.proofs.flips_negate.Goals as goal

pub returns : goal.returns
returns c = flipped_is
