use Rattle.std.proofs.Common.{◌≡◌, ℕ, ◌<◌}
use Rattle.euclid.specs.Series.{poly}
use Rattle.arithmetic.proofs.loops.fill.Given as goal

abbrev pub invariant-loop-c : goal.invariant-loop-c
invariant-loop-c g l = let m = g.R.Ring in (k : ℕ) → k < l.c-index → poly m.ring m.value l.p k ≡ m.value l.value
