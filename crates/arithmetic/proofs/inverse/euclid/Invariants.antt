use Rattle.std.proofs.Common.{◌≡◌, length}
use Rattle.euclid.specs.Series.{poly}
use Rattle.euclid.specs.Method.{Reached}
use Rattle.arithmetic.proofs.inverse.euclid.Given as goal

abbrev pub invariant-loop-low : goal.invariant-loop-low
invariant-loop-low g l =
    let o = g.F.Ring.ring in
    let p = poly o g.F.Ring.value in
    let n = length l.initial.high.rest.now in
    record {
      inverse_kept : l.inverse ≡ l.initial.inverse;
      lengths : (length l.high.rest.now ≡ n) × ((length l.high.factor.now ≡ n) × ((length l.low.rest.now ≡ n) × (length l.low.factor.now ≡ n)));
      reached : Reached o n (p l.initial.low.rest.now) (p l.high.rest.now) (p l.low.rest.now) (p l.high.factor.now) (p l.low.factor.now) l.high.size l.low.size;
    }

abbrev pub decreases-loop-low : goal.decreases-loop-low
decreases-loop-low g l = l.low.size
