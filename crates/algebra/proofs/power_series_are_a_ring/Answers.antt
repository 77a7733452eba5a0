use Rattle.algebra.proofs.Series.{series_laws}
use Rattle.algebra.proofs.Exact.{exact_laws}
use Rattle.algebra.proofs.power_series_are_a_ring.Goals as goal

pub returns : goal.returns
returns g c o L = series_laws (exact_laws L)
