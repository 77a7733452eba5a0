use Rattle.algebra.proofs.Integers.{mod_laws}
use Rattle.algebra.proofs.Phi.{reduce_differs, reduce_last, reduce_same, same_reduce}
use Rattle.algebra.proofs.reduction_modulo_k.Goals as goal

pub returns : goal.returns
returns c k = let M = mod_laws k in record { congruent = reduce_differs M; last = reduce_last M; same = λ n u v. reduce_same M n; back = λ n u v. same_reduce M n }
