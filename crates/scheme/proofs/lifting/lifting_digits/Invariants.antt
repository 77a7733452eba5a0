use Rattle.arithmetic.proofs.DigitLoops.{LiftedBelow}
use Rattle.scheme.proofs.lifting.lifting_digits.Given as goal

abbrev pub invariant-loop-i : goal.invariant-loop-i
invariant-loop-i l = LiftedBelow l.m l.s l.last.0 l.i
