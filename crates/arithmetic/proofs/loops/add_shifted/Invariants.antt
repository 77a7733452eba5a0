use Rattle.std.proofs.Common.{◌≡◌, take}
use Rattle.euclid.specs.Series.{monomial, poly, polynomials}
use Rattle.arithmetic.proofs.loops.add_shifted.Given as goal

abbrev pub invariant-loop-i : goal.invariant-loop-i
invariant-loop-i g l =
    let m = g.R.Ring in
    poly m.ring m.value l.r ≡ (polynomials m.ring).plus (poly m.ring m.value l.initial.r) ((polynomials m.ring).times (monomial m.ring (m.value l.c) l.shift) (poly m.ring m.value (take l.i l.d)))
