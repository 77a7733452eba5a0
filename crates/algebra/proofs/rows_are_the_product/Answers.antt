use Rattle.algebra.proofs.Naturals.{naturals_laws}
use Rattle.algebra.proofs.Rows.{rows_are_product}
use Rattle.algebra.proofs.rows_are_the_product.Goals as goal

pub returns : goal.returns
returns c m n us vs p l k b = rows_are_product (naturals_laws m p) n us vs 0 l k b
