use Rattle.std.proofs.Common.{get_or}
use Rattle.algebra.proofs.InPlace.{Changed}
use Rattle.scheme.proofs.sums.combine.Given as goal

abbrev pub invariant-loop-i : goal.invariant-loop-i
invariant-loop-i g l = goal.F-IsAlwaysCallable g l.f × Changed (λ k w. goal.F-post g l.f (get_or l.initial.u k 0) (get_or l.v k 0) w) l.initial.u l.u l.i
