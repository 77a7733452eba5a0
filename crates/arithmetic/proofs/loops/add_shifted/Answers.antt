use Rattle.std.proofs.Common.{◌+◌, ◌<◌, length, ap, ◌∙◌, ap₂, arith}
use Rattle.std.proofs.lemmas.List.{take_all}
use Rattle.euclid.specs.Series.{monomial, poly, polynomials}
use Rattle.euclid.proofs.Lists.{poly_read}
use Rattle.euclid.proofs.Steps.{shifted_more, shifted_none}
use Rattle.arithmetic.proofs.loops.add_shifted.Goals as goal

pub loop-i-init : goal.loop-i-init
loop-i-init g c = let m = g.R.Ring in shifted_none m.laws m.value c.args.r.now c.args.d.now (m.value c.args.c) c.args.shift

pub loop-i-preserved : goal.loop-i-preserved
loop-i-preserved g c =
    let m = g.R.Ring in
    let in_r : c.args.shift + c.loop-i.i < length c.loop-i.r = omega arith in
    let in_d : c.loop-i.i < length c.args.d.now = omega arith in
    let old = poly_read m.laws m.value c.loop-i.r (c.args.shift + c.loop-i.i) c.index-r-shift.result in_r c.index-r-shift.is in
    let factor = poly_read m.laws m.value c.args.d.now c.loop-i.i c.index-d-i.result in_d c.index-d-i.is in
    shifted_more m.laws m.value c.args.r.now c.loop-i.r c.args.d.now (m.value c.args.c) c.sum.result c.args.shift c.loop-i.i in_r
    (c.sum.ensures.adds ∙ ap₂ m.ring.plus old (c.product.ensures.multiplies ∙ ap (m.ring.times (m.value c.args.c)) factor))
    c.loop-i.invariant

pub returns : goal.returns
returns g c = record {
  added =
      let m = g.R.Ring in
      let d = c.args.d.now in
      c.loop-i.invariant ∙ ap (λ xs. (polynomials m.ring).plus (poly m.ring m.value c.args.r.now) ((polynomials m.ring).times (monomial m.ring (m.value c.args.c) c.args.shift) (poly m.ring m.value xs))) (take_all c.loop-i.i d (omega arith));
}
