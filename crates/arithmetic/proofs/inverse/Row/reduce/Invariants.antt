use Rattle.std.proofs.Common.{◌≡◌, ◌+◌, ◌-◌, ◌≤◌, length}
use Rattle.euclid.specs.Series.{Size, poly}
use Rattle.euclid.specs.Method.{Taken}
use Rattle.arithmetic.proofs.inverse.Row.reduce.Given as goal

abbrev pub invariant-loop-size : goal.invariant-loop-size
invariant-loop-size g l =
    let o = g.F.Ring.ring in
    let p = poly o g.F.Ring.value in
    (l.size ≤ l.initial.size)
    × (length l.self.rest.now ≡ length l.initial.self.rest.now)
    × (length l.self.factor.now ≡ length l.initial.self.factor.now)
    × Size o l.size (p l.self.rest.now)
    × Taken o (l.initial.size + 1 - l.by.size) (p l.initial.self.rest.now) (p l.by.rest.now) (p l.initial.self.factor.now) (p l.by.factor.now) (p l.self.rest.now) (p l.self.factor.now)

abbrev pub decreases-loop-size : goal.decreases-loop-size
decreases-loop-size g l = l.size
