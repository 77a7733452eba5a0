use Rattle.algebra.proofs.Homs.{word_product}
use Rattle.algebra.proofs.word_products.Goals as goal

pub returns : goal.returns
returns c = word_product
