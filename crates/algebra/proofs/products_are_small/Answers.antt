use Rattle.algebra.proofs.Bound.{small_product}
use Rattle.algebra.proofs.products_are_small.Goals as goal

pub returns : goal.returns
returns c n u v big t s k l = small_product n big u v t s k l
