use Rattle.std.proofs.Common.{◌≡◌, ℕ, ◌+◌, ◌<◌, length}
use Rattle.euclid.specs.Series.{phi1, poly}
use Rattle.arithmetic.proofs.cyclic.times_phi1.Given as goal

abbrev pub invariant-loop-i : goal.invariant-loop-i
invariant-loop-i g l =
    let m = g.R.Ring in
    (k : ℕ) → k < l.i + 1 → poly m.ring m.value l.out k ≡ phi1 m.ring (length l.v) (poly m.ring m.value l.v) k
