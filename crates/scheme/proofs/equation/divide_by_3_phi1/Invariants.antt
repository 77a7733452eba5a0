use Rattle.algebra.proofs.WordLoops.{Divided}
use Rattle.scheme.proofs.equation.divide_by_3_phi1.Given as goal

abbrev pub invariant-loop-word : goal.invariant-loop-word
invariant-loop-word l = Divided 65536 43691 l.initial.d l.d l.rest l.word-index
