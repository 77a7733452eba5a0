use Rattle.std.proofs.Common.{◌^◌}
use Rattle.algebra.proofs.Bound.{combination_small}
use Rattle.algebra.proofs.combinations_are_small.Goals as goal

pub returns : goal.returns
returns c n w r g s f set = combination_small n (2 ^ w) set.long set.wide r g s f
