use Rattle.arithmetic.proofs.Products.{masked, whole}
use Rattle.arithmetic.proofs.product.products_hold.Goals as goal

pub returns : goal.returns
returns c = record { lowest_bits = masked; no_sum_wraps = whole }
