use Rattle.algebra.proofs.Phi.{reduced_laws}
use Rattle.algebra.proofs.Exact.{exact_laws}
use Rattle.algebra.proofs.reduced_polynomials_are_a_ring.Goals as goal

pub returns : goal.returns
returns g c o L n = reduced_laws (exact_laws L) n
