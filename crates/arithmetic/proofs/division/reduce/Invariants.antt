use Rattle.std.proofs.Common.{◌≡◌, ℕ, ◌+◌, ◌≤◌, length}
use Rattle.euclid.specs.Series.{Below, poly, polynomials}
use Rattle.arithmetic.proofs.division.reduce.Given as goal

abbrev pub invariant-loop-left : goal.invariant-loop-left
invariant-loop-left g l =
    let m = g.F.Ring in
    let p = poly m.ring m.value in
    record {
      within : l.left ≤ length l.initial.r;
      whole : p l.initial.r ≡ (polynomials m.ring).plus ((polynomials m.ring).times (p l.q) (p l.d)) (p l.r);
      shorter : Below m.ring l.left (p l.r);
      blank : (k : ℕ) → k + length l.d ≤ l.left → p l.q k ≡ m.ring.nought;
    }

abbrev pub decreases-loop-left : goal.decreases-loop-left
decreases-loop-left g l = l.left
