use Rattle.algebra.proofs.Phi.{phi1_ones}
use Rattle.algebra.proofs.Exact.{exact_laws}
use Rattle.algebra.proofs.phi1_times_ones_is_zero.Goals as goal

pub returns : goal.returns
returns g c o L n p = phi1_ones (exact_laws L) n p
