use Rattle.algebra.proofs.Phi.{total_hom}
use Rattle.algebra.proofs.Exact.{exact_laws}
use Rattle.algebra.proofs.totals_carry_over.Goals as goal

pub returns : goal.returns
returns g c o L n p = total_hom (exact_laws L) n p
