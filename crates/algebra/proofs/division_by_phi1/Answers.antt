use Rattle.algebra.proofs.Divide.{divided_is, divided_last, divide_unique}
use Rattle.algebra.proofs.Exact.{exact_laws}
use Rattle.algebra.proofs.division_by_phi1.Goals as goal

pub returns : goal.returns
returns g c o L = let E = exact_laws L in record { is = divided_is E; last = divided_last E; unique = divide_unique E }
