use Rattle.std.proofs.Common.{◌≡◌, ℕ, ◌<◌}
use Rattle.euclid.specs.Series.{poly}
use Rattle.arithmetic.proofs.loops.scale_into.Given as goal

abbrev pub invariant-loop-i : goal.invariant-loop-i
invariant-loop-i g l = let m = g.R.Ring in (k : ℕ) → k < l.i → poly m.ring m.value l.out k ≡ m.ring.times (m.value l.factor) (poly m.ring m.value l.t k)
