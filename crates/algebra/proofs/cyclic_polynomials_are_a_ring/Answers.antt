use Rattle.algebra.proofs.Cyclic.{cyclic_laws}
use Rattle.algebra.proofs.Exact.{exact_laws}
use Rattle.algebra.proofs.cyclic_polynomials_are_a_ring.Goals as goal

pub returns : goal.returns
returns g c o L n = cyclic_laws (exact_laws L) n
