use Rattle.std.proofs.Common.{get_or, pos, neg_ℤ}
use Rattle.algebra.specs.Ring.{Differ, integers}
use Rattle.algebra.proofs.InPlace.{Changed}
use Rattle.arithmetic.proofs.newton.negate.Given as goal

abbrev pub invariant-loop-word : goal.invariant-loop-word
invariant-loop-word l = Changed (λ k w. Differ integers (pos 65536) (pos w) (neg_ℤ (pos (get_or l.initial.p k 0)))) l.initial.p l.p l.word-index
