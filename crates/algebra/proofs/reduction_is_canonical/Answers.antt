use Rattle.algebra.proofs.Phi.{reduce_differs, reduce_last, reduce_same, same_reduce}
use Rattle.algebra.proofs.Exact.{exact_laws}
use Rattle.algebra.proofs.reduction_is_canonical.Goals as goal

pub returns : goal.returns
returns g c o L = let E = exact_laws L in record { congruent = reduce_differs E; last = reduce_last E; same = λ n u v. reduce_same E n; back = λ n u v. same_reduce E n }
