use Rattle.std.proofs.Common.{◌≡◌, ℕ, ◌<◌, ◌≤◌, length}
use Rattle.euclid.specs.Series.{less_last, poly}
use Rattle.arithmetic.proofs.cyclic.subtract_last.Given as goal

abbrev pub invariant-loop-c : goal.invariant-loop-c
invariant-loop-c g l =
    let m = g.R.Ring in
    ((k : ℕ) → k < l.c-index → poly m.ring m.value l.v k ≡ less_last m.ring (length l.initial.v) (poly m.ring m.value l.initial.v) k)
    × ((k : ℕ) → l.c-index ≤ k → poly m.ring m.value l.v k ≡ poly m.ring m.value l.initial.v k)
