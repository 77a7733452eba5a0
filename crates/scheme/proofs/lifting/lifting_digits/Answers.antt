use Rattle.std.proofs.Common.{◌≡◌, length, subst, arith}
use Rattle.arithmetic.proofs.DigitLoops.{LiftedBelow, lifted_none, lifted_more, lifted_all}
use Rattle.scheme.proofs.lifting.lifting_digits.Goals as goal

pub loop-i-init : goal.loop-i-init
loop-i-init c = lifted_none c.args.m.now c.args.s.now

pub loop-i-preserved : goal.loop-i-preserved
loop-i-preserved c =
    let s = c.loop-i in
    lifted_more c.args.m.now s.s s.last.0 s.i c.balancing_shift-shift.result c.index-m-i.result c.sum.result c.negation.result _
    c.loop-i-test.true (omega arith) c.balancing_shift-shift.ensures c.index-m-i.is c.sum.ensures.adds c.negation.ensures.negates c.sum-last.ensures.adds s.invariant

pub returns : goal.returns
returns c =
    let s = c.loop-i in
    let m = c.args.m.now in
    let all : s.i ≡ length m = omega arith in
    lifted_all m s.s s.last.0 (subst (LiftedBelow m s.s s.last.0) all s.invariant)
