use Rattle.std.proofs.Common.{◌≡◌, ℕ, ◌<◌, ◌≤◌, length}
use Rattle.euclid.specs.Series.{Below, poly}
use Rattle.arithmetic.proofs.loops.significant.Given as goal

abbrev pub invariant-loop-rest : goal.invariant-loop-rest
invariant-loop-rest g l =
    let o = g.R.Ring.ring in
    let p = poly o g.R.Ring.value in
    record {
      within : length l.rest ≤ length l.p;
      front : (k : ℕ) → k < length l.rest → p l.rest k ≡ p l.p k;
      above : Below o (length l.rest) (p l.p);
    }

abbrev pub decreases-loop-rest : goal.decreases-loop-rest
decreases-loop-rest g l = length l.rest
