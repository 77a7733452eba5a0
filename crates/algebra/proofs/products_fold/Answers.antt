use Rattle.algebra.proofs.Series.{below_mul, top_mul, fold_mul}
use Rattle.algebra.proofs.Exact.{exact_laws}
use Rattle.algebra.proofs.products_fold.Goals as goal

pub returns : goal.returns
returns g c o L = let E = exact_laws L in record { below = below_mul E; top = top_mul E; folds = fold_mul E }
