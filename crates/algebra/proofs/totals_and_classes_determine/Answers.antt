use Rattle.algebra.proofs.Phi.{by_sum}
use Rattle.algebra.proofs.Exact.{exact_laws}
use Rattle.algebra.proofs.totals_and_classes_determine.Goals as goal

pub returns : goal.returns
returns g c o L n i inv u v d s = by_sum (exact_laws L) n i inv d s
